-- Bytes that are only added to.
use Rattle.std.proofs.Common.{ℕ, ◌≡◌, List, ◌++◌, arith}
use Rattle.std.proofs.lemmas.Grind.{common_steps}
use Rattle.oi_target_login.specs.Grown.{IsGrown}

-- nothing was added
pub grown_none : (old new : List ℕ) → new ≡ old → IsGrown old new
grown_none old new same = grind (arith, common_steps)

-- something was added
pub grown_by : (old more new : List ℕ) → new ≡ old ++ more → IsGrown old new
grown_by old more new is = grind (arith, common_steps)

-- added to twice
pub grown_both : (old mid new : List ℕ) → IsGrown old mid → IsGrown mid new → IsGrown old new
grown_both old mid new first second = grind (arith, common_steps)

-- added to, and then something more
pub grown_more : (old mid more new : List ℕ) → IsGrown old mid → new ≡ mid ++ more → IsGrown old new
grown_more old mid more new first is = grown_both old mid new first (grown_by mid more new is)

-- something was added, and then a part that was left unfinished
pub grown_after : (old more mid new : List ℕ) → mid ≡ old ++ more → IsGrown mid new → IsGrown old new
grown_after old more mid new is rest = grown_both old mid new (grown_by old more mid is) rest
