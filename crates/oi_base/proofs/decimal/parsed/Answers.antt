-- What std's `parse` reads of a text that is a decimal number.
use Rattle.std.proofs.Common.{◌≡◌, ◌<◌, ◌^◌, ◌∙◌, ℕ, List, subst, sym, Result, Ok, Err}
use Rattle.std.specs.Fmt.{decimal}
use Rattle.std.specs.Str.{IsUtf8}
use Rattle.std.specs.Str.Parse.{ParsesUnsigned}
use Rattle.std.proofs.lemmas.Fmt.{parse-decimal, IsAscii-decimal}
use Rattle.std.proofs.lemmas.Str.{IsUtf8-from_ascii}
use Rattle.oi_base.proofs.decimal.parsed.Goals as goal

value_of_number : {E : Type 0} (r : Result ℕ E) (m n : ℕ) (bs : List ℕ) → n < 2 ^ 64 → bs ≡ decimal n → ParsesUnsigned 64 10 bs r → r ≡ Ok m → m ≡ n
value_of_number r m n bs small is reads ok = let h : r ≡ Ok n = parse-decimal 64 n bs r small small is reads in cc

never_fails : {E : Type 0} (e : E) (n : ℕ) (bs : List ℕ) → n < 2 ^ 64 → bs ≡ decimal n → ParsesUnsigned 64 10 bs (Err e) → ⊥
never_fails {E} e n bs small is reads = let h : ◌≡◌ {A = Result ℕ E} (Err e) (Ok n) = parse-decimal 64 n bs (Err e) small small is reads in cc

pub returns-in-Ok-parse : goal.returns-in-Ok-parse
returns-in-Ok-parse c = λ n small is.
    value_of_number c.parse.result c.in-Ok-parse.n n _ small (c.in-Ok.ensures.cases.0 ∙ is) c.parse.ensures.value.0 c.in-Ok-parse.is

pub returns-in-Err-parse : goal.returns-in-Err-parse
returns-in-Err-parse c = λ n small is.
    never_fails c.in-Err-parse.field-0 n _ small (c.in-Ok.ensures.cases.0 ∙ is) c.in-Err-parse.ensures.value.0

pub returns-in-Err : goal.returns-in-Err
returns-in-Err c = λ n small is.
    c.in-Err.ensures.cases.0 (subst (λ (bs : List ℕ). IsUtf8 bs) (sym is) (IsUtf8-from_ascii _ (IsAscii-decimal n small)))
