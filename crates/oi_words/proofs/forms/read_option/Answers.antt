use Rattle.std.proofs.Common.{◌≡◌, ◌∙◌, ◌==◌, ℕ, List, length, map, sym, ap, true, true≢false}
use Rattle.std.specs.String.{string_bytes}
use Rattle.oi_words.specs.Words.{is_option}
use Rattle.oi_words.proofs.Fronts.{option_read}
use Rattle.oi_words.proofs.forms.read_option.Goals as goal

pub returns-in-Ok : goal.returns-in-Ok
returns-in-Ok c =
    let is : is_option c.args.letter ≡ true = sym c.if-not-is_option.ensures in
    let read = option_read c.args.letter c.args.rest.now (map (λ s. string_bytes s) c.args.forms.now.items) is
    (λ e. true≢false (sym (c.if-is_empty.ensures ∙ ap (λ (xs : List ℕ). length xs == 0) e))) in
    (read.0, read.1, read.2, c.in-Ok.ensures ∙ read.3)
