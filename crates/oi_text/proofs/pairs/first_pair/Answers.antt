use Rattle.std.proofs.Common.{◌≡◌, ℕ, ◌+◌, List, length, drop, ap, ◌∙◌, arith}
use Rattle.std.specs.List.{prefix_len}
use Rattle.oi_text.specs.Pairs.{is_value_byte}
use Rattle.oi_text.proofs.Pieces.{reads, found_piece}
use Rattle.oi_text.proofs.pairs.first_pair.Goals as goal

pub returns-then-key-eq0-clause-none : goal.returns-then-key-eq0-clause-none
returns-then-key-eq0-clause-none c = λ key value more pair whole.
    let r = reads c.args.bytes.now key value more pair whole in omega arith

pub returns-then-is_long_key-clause-none : goal.returns-then-is_long_key-clause-none
returns-then-is_long_key-clause-none c = λ key value more pair whole.
    let r = reads c.args.bytes.now key value more pair whole in omega arith

pub returns-then-bytes-key-clause-none : goal.returns-then-bytes-key-clause-none
returns-then-bytes-key-clause-none c = λ key value more pair whole.
    let r = reads c.args.bytes.now key value more pair whole in omega arith

pub returns-then-bytes-key-ne61-clause-none : goal.returns-then-bytes-key-ne61-clause-none
returns-then-bytes-key-ne61-clause-none c = λ key value more pair whole.
    let r = reads c.args.bytes.now key value more pair whole in
    let k : c.key_length-key.result ≡ length key = c.key_length-key.ensures ∙ r.key_length in
    grind (arith, r)

pub returns-then-is_long_value-clause-none : goal.returns-then-is_long_value-clause-none
returns-then-is_long_value-clause-none c = λ key value more pair whole.
    let r = reads c.args.bytes.now key value more pair whole in
    let rest : c.after-rest.result.now ≡ drop (length key + 1) c.args.bytes.now =
    c.after-rest.ensures ∙ ap (λ (n : ℕ). drop (n + 1) c.args.bytes.now) (c.key_length-key.ensures ∙ r.key_length) in
    let long = c.value_length-value.ensures ∙ ap (λ (t : List ℕ). prefix_len is_value_byte t) rest ∙ r.value_length in
    omega arith

pub returns-then-rest-value-clause-none : goal.returns-then-rest-value-clause-none
returns-then-rest-value-clause-none c = λ key value more pair whole.
    let r = reads c.args.bytes.now key value more pair whole in
    let rest : c.after-rest.result.now ≡ drop (length key + 1) c.args.bytes.now =
    c.after-rest.ensures ∙ ap (λ (n : ℕ). drop (n + 1) c.args.bytes.now) (c.key_length-key.ensures ∙ r.key_length) in
    let long = c.value_length-value.ensures ∙ ap (λ (t : List ℕ). prefix_len is_value_byte t) rest ∙ r.value_length in
    omega (arith, ap length rest)

pub returns-clause-found : goal.returns-clause-found
returns-clause-found c =
    let found =
    found_piece c.args.bytes.now c.after-rest.result.now c.key_length-key.result c.value_length-value.result c.key_length-key.ensures (omega arith) (omega arith)
    (omega arith) c.if-bytes-key-ne61.false c.after-rest.ensures c.value_length-value.ensures (omega arith) (omega arith) in
    rw (c.before-2.ensures, c.before-3.ensures, c.after.ensures) found
