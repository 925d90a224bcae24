-- A connection among all.
use Rattle.std.proofs.Common.{ℕ, zero, suc, Bool, true, false, not, cond, ◌≡◌, ◌∙◌, ◌<◌, ◌≤◌, ◌+◌, Some, None, List, [], ◌∷◌, length, refl, ap, arith, if◌then◌else◌, ◌==◌}
use Rattle.std.specs.List.{prefix_len, remove, slice_set}
use Rattle.std.specs.Prelude.{slice_index_or}
use Rattle.oi_target.specs.Targets.{is_other, link_of, placed, without}
use Rattle.oi_target.specs.declared.link.Link.{Link}

-- what is at the place of a connection
pub record IsPlace (n : ℕ) (ls : List Link) (at : ℕ) (d : Link) : Type 0 where
  pub link : link_of n ls ≡ Some (slice_index_or ls at d)
  pub others : without n ls ≡ remove ls at

at_link : (b : Bool) (n : ℕ) (l : Link) (ls : List Link) (at : ℕ) (d : Link) → (l.number == n) ≡ b → at ≡ cond (not b) (1 + prefix_len (is_other n) ls) 0
    → at < length (l ∷ ls) → ((k : ℕ) → k ≡ prefix_len (is_other n) ls → k < length ls → IsPlace n ls k d) → IsPlace n (l ∷ ls) at d
at_link true n l ls zero d is place within more = record {
  link = ap (λ (b : Bool). if b then Some l else link_of n ls) is;
  others = ap (λ (b : Bool). if b then ls else l ∷ without n ls) is;
}
at_link true n l ls (suc k) d is place within more = absurd (omega arith)
at_link false n l ls zero d is place within more = absurd (omega arith)
at_link false n l ls (suc k) d is place within more =
    let rest = more k (omega arith) (omega arith) in
    record {
      link = ap (λ (b : Bool). if b then Some l else link_of n ls) is ∙ rest.link;
      others = ap (λ (b : Bool). if b then ls else l ∷ without n ls) is ∙ ap (λ (z : List Link). l ∷ z) rest.others;
    }

pub one_of : (n : ℕ) (ls : List Link) (at : ℕ) (d : Link) → at ≡ prefix_len (is_other n) ls → at < length ls → IsPlace n ls at d
one_of n [] at d is within = absurd (omega arith)
one_of n (l ∷ ls) at d is within =
    at_link (l.number == n) n l ls at d refl is within (λ k place inside. one_of n ls k d place inside)

past_link : (b : Bool) (n : ℕ) (l : Link) (ls : List Link) → (l.number == n) ≡ b → length (l ∷ ls) ≤ cond (not b) (1 + prefix_len (is_other n) ls) 0
    → (length ls ≤ prefix_len (is_other n) ls → (link_of n ls ≡ None) × (without n ls ≡ ls)) → (link_of n (l ∷ ls) ≡ None) × (without n (l ∷ ls) ≡ l ∷ ls)
past_link true n l ls is past more = absurd (omega arith)
past_link false n l ls is past more =
    let rest = more (omega arith) in (
      ap (λ (b : Bool). if b then Some l else link_of n ls) is ∙ rest.0,
      ap (λ (b : Bool). if b then ls else l ∷ without n ls) is ∙ ap (λ (z : List Link). l ∷ z) rest.1,
    )

pub none_of : (n : ℕ) (ls : List Link) → length ls ≤ prefix_len (is_other n) ls → (link_of n ls ≡ None) × (without n ls ≡ ls)
none_of n [] past = (refl, refl)
none_of n (l ∷ ls) past = past_link (l.number == n) n l ls refl past (λ inside. none_of n ls inside)

-- another one in its place
pub record IsReplaced (k : Link) (ls : List Link) (at : ℕ) (d : Link) : Type 0 where
  pub link : link_of k.number ls ≡ Some (slice_index_or ls at d)
  pub links : placed k ls ≡ slice_set ls at k

at_placed : (b : Bool) (k l : Link) (ls : List Link) (at : ℕ) (d : Link) → (l.number == k.number) ≡ b → at ≡ cond (not b) (1 + prefix_len (is_other k.number) ls) 0
    → at < length (l ∷ ls) → ((i : ℕ) → i ≡ prefix_len (is_other k.number) ls → i < length ls → IsReplaced k ls i d) → IsReplaced k (l ∷ ls) at d
at_placed true k l ls zero d is place within more = record {
  link = ap (λ (b : Bool). if b then Some l else link_of k.number ls) is;
  links = ap (λ (b : Bool). if b then k ∷ ls else l ∷ placed k ls) is;
}
at_placed true k l ls (suc i) d is place within more = absurd (omega arith)
at_placed false k l ls zero d is place within more = absurd (omega arith)
at_placed false k l ls (suc i) d is place within more =
    let rest = more i (omega arith) (omega arith) in
    record {
      link = ap (λ (b : Bool). if b then Some l else link_of k.number ls) is ∙ rest.link;
      links = ap (λ (b : Bool). if b then k ∷ ls else l ∷ placed k ls) is ∙ ap (λ (z : List Link). l ∷ z) rest.links;
    }

pub replaced_at : (k : Link) (ls : List Link) (at : ℕ) (d : Link) → at ≡ prefix_len (is_other k.number) ls → at < length ls → IsReplaced k ls at d
replaced_at k [] at d is within = absurd (omega arith)
replaced_at k (l ∷ ls) at d is within =
    at_placed (l.number == k.number) k l ls at d refl is within (λ i place inside. replaced_at k ls i d place inside)
