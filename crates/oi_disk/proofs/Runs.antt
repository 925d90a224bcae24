-- Commands in two parts: the second part is asked of the disk that the first part left.
use Rattle.std.proofs.Common.{◌≡◌, ℕ, List, [], ◌∷◌, ◌++◌, refl, ap}
use Rattle.oi_disk.specs.Disks.{disk_after, disk_answer, disk_answers}

pub disk_answers-append : (disk : List ℕ) (first second : List (List ℕ × List ℕ)) → disk_answers disk (first ++ second) ≡ disk_answers disk first ++ disk_answers (disk_after disk first) second
disk_answers-append disk [] second = refl
disk_answers-append disk (c ∷ cs) second =
    ap (λ answers. disk_answer disk c.0 c.1 ∷ answers) (disk_answers-append (disk_answer disk c.0 c.1).disk cs second)
