-- The answers to keys that are not known, one pair more.
use Rattle.std.proofs.Common.{◌≡◌, ◌∙◌, ◌+◌, ◌<◌, ℕ, List, ◌∷◌, ◌++◌, length, drop, get_or, ap, sym, append_assoc}
use Rattle.std.proofs.lemmas.List.{drop_more}
use Rattle.oi_text.specs.declared.pairs.Pair.{Pair}
use Rattle.oi_text.specs.Pairs.{text_of}
use Rattle.oi_login.proofs.Texts.{text_of-append}
use Rattle.oi_login.specs.Answers.{refusals, refusals_to}

pub on_pair : (all out more : List ℕ) (ps : List Pair) (i : ℕ) (p : Pair) → i < length ps → p ≡ get_or ps i p → more ≡ out ++ text_of (refusals_to p.key)
    → out ++ text_of (refusals (drop i ps)) ≡ all → more ++ text_of (refusals (drop (i + 1) ps)) ≡ all
on_pair all out more ps i p within is added was =
    let rest = drop (i + 1) ps in
    let front : drop i ps ≡ p ∷ drop (i + 1) ps = drop_more ps i p within ∙ ap (λ (q : Pair). q ∷ drop (i + 1) ps) (sym is) in
    ap (λ (t : List ℕ). t ++ text_of (refusals rest)) added ∙ append_assoc out (text_of (refusals_to p.key)) (text_of (refusals rest))
    ∙ ap (λ (t : List ℕ). out ++ t) (sym (text_of-append (refusals_to p.key) (refusals rest)) ∙ sym (ap (λ (qs : List Pair). text_of (refusals qs)) front)) ∙ was
