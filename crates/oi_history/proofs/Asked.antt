-- Which request is owed, found without a release of tags.
use Rattle.std.proofs.Common.{◌≡◌, ◌∙◌, ◌==◌, ◌&&◌, ◌||◌, ◌↔◌, ◌⊎◌, inl, inr, ℕ, Bool, true, false, not, List, [], ◌∷◌, Option, Some, None, sym, ap, subst, refl, is_none, is_some, filter, if◌then◌else◌}
use Rattle.std.proofs.lemmas.Bool.{true≢false}
use Rattle.oi_base.specs.TagLayout.{reserved_tag}
use Rattle.oi_base.specs.declared.tag.Tag.{Tag}
use Rattle.oi_history.proofs.Stepping.{tracker_of}
use Rattle.oi_history.specs.Judging.{are_over, is_over, may_ask}
use Rattle.oi_history.specs.Meanings.{Meanings, step}
use Rattle.oi_history.specs.Owing.{drawn_next, drawn_with, echo_next, issue_next, issue_with, logout_next, managed_next, next_after_data, next_in, next_management, or_else, owed_in, ping_next, push_of, queued_next, reaped}
use Rattle.oi_history.specs.Phases.{has_connection}
use Rattle.oi_history.specs.declared.config.SessionConfig.{SessionConfig}
use Rattle.oi_history.specs.declared.event.Event.{Event}
use Rattle.oi_history.specs.declared.event.Event.TheVariants.{Issue, Reap, Manage, Nop, Logout}
use Rattle.oi_history.specs.declared.event.Subject.{Subject}
use Rattle.oi_history.specs.declared.event.Subject.TheVariants.{Task as OneTask, Lun, Whole}
use Rattle.oi_history.specs.declared.owed.Echo.{Echo}
use Rattle.oi_history.specs.declared.owed.Queued.{Queued}
use Rattle.oi_history.specs.declared.phase.Handler.{Handler}
use Rattle.oi_history.specs.declared.phase.Handler.TheVariants.{Idle, Aborting, ResettingLun, ResettingTarget, Spent}
use Rattle.oi_history.specs.declared.rule.Rule.{Rule}

-- a request beside commands and data
abbrev pub is_request : Event → Bool
is_request (Manage generation tag function subject) = true
is_request (Nop generation tag ttt lun) = true
is_request (Logout generation tag) = true
is_request e = false

abbrev pub is_nop : Event → Bool
is_nop (Nop generation tag ttt lun) = true
is_nop e = false

abbrev pub is_manage : Event → Bool
is_manage (Manage generation tag function subject) = true
is_manage e = false

abbrev pub NoRequest : List Event → Type 0
NoRequest es = (e : Event) → es ≡ e ∷ [] → is_request e ≡ false

abbrev pub head_or : Event → List Event → Event
head_or d [] = d
head_or d (e ∷ es) = e

head_is : (a b : Event) → (es fs : List Event) → a ∷ es ≡ b ∷ fs → a ≡ b
head_is a b es fs is = ap (λ (xs : List Event). head_or a xs) is

single : (a : Event) → is_request a ≡ false → NoRequest (a ∷ [])
single a no-request e is = subst (λ (x : Event). is_request x ≡ false) (head_is a e [] [] is) no-request

nothing : NoRequest []
nothing e is = absurd cc

else_none : (xs ys : List Event) → NoRequest xs → NoRequest ys → NoRequest (or_else xs ys)
else_none [] ys none-first none-then = none-then
else_none (x ∷ xs) ys none-first none-then = none-first

drawn_none : (g n : ℕ) (qs : List Queued) → NoRequest (drawn_with g n qs)
drawn_none g n [] = nothing
drawn_none g n (q ∷ qs) = λ e is. absurd cc

issued_none : (g cmdsn : ℕ) (id : Option ℕ) (tag : Option Tag) → NoRequest (issue_with g cmdsn id tag)
issued_none g cmdsn None tag = nothing
issued_none g cmdsn (Some id) None = nothing
issued_none g cmdsn (Some id) (Some tag) = single (Issue id g tag cmdsn) refl

if_none : (b : Bool) (es : List Event) → NoRequest es → NoRequest (if b then es else [])
if_none true es none-here = none-here
if_none false es none-here = nothing

-- behind the requests there is none
pub rest_none : (C : SessionConfig) (g : ℕ) (m : Meanings) → NoRequest (or_else (drawn_next g m) (issue_next C g m))
rest_none C g m = else_none (drawn_next g m) (issue_next C g m) (drawn_none g _ _) (if_none _ _ (issued_none g _ _ _))

-- the first of three lists that has something, where it is a request
pub which : (ms nops rest : List Event) (e : Event) → is_request e ≡ true → NoRequest rest → or_else ms (or_else nops rest) ≡ e ∷ [] → (ms ≡ e ∷ []) ⊎ ((ms ≡ []) × (nops ≡ e ∷ []))
which [] [] rest e request none is = absurd (true≢false (sym request ∙ none e is))
which [] (n ∷ nops) rest e request none is = inr (refl, is)
which (m ∷ ms) nops rest e request none is = inl is

else_left : (xs ys : List Event) (e : Event) → xs ≡ e ∷ [] → or_else xs ys ≡ e ∷ []
else_left xs ys e is = rw is refl

else_right : (xs ys : List Event) (e : Event) → xs ≡ [] → ys ≡ e ∷ [] → or_else xs ys ≡ e ∷ []
else_right xs ys e none is = rw (none, is) refl

else_behind : (xs ys zs : List Event) → or_else xs (or_else ys zs) ≡ or_else (or_else xs ys) zs
else_behind [] ys zs = refl
else_behind (x ∷ xs) ys zs = refl

-- what follows the data that wait
abbrev pub behind : List Event → List Event → List Event → List Event → List Event
behind lo ms nops rest = or_else lo (or_else ms (or_else nops rest))

abbrev pub IsBehind : List Event → List Event → List Event → Event → Type 0
IsBehind lo ms nops e = (lo ≡ e ∷ []) ⊎ ((lo ≡ []) × ((ms ≡ e ∷ []) ⊎ ((ms ≡ []) × (nops ≡ e ∷ []))))

behind_is : (lo ms nops rest : List Event) (e : Event) → is_request e ≡ true → NoRequest rest → behind lo ms nops rest ≡ e ∷ [] → IsBehind lo ms nops e
behind_is [] ms nops rest e request none is = inr (refl, which ms nops rest e request none is)
behind_is (l ∷ lo) ms nops rest e request none is = inl is

behind_has : (lo ms nops rest : List Event) (e : Event) → IsBehind lo ms nops e → behind lo ms nops rest ≡ e ∷ []
behind_has lo ms nops rest e (inl is) = else_left lo _ e is
behind_has lo ms nops rest e (inr (none, inl is)) = else_right lo _ e none (else_left ms _ e is)
behind_has lo ms nops rest e (inr (none, inr (no-managed, is))) = else_right lo _ e none (else_right ms _ e no-managed (else_left nops rest e is))

-- data of released tags

abbrev pub cleared : List Tag → List Queued → List Queued
cleared [] queue = queue
cleared (tag ∷ tags) queue = cleared tags (filter (λ q. not (q.tag.0 == tag.0)) queue)

over_one : (t : Tag) (ts : List Tag) (x : Queued) (queue : List Queued) (b : Bool) → (x.tag.0 == t.0) ≡ b
    → are_over ts (filter (λ (q : Queued). not (q.tag.0 == t.0)) queue) ≡ are_over (t ∷ ts) queue
    → are_over ts (filter (λ (q : Queued). not (q.tag.0 == t.0)) (x ∷ queue)) ≡ are_over (t ∷ ts) (x ∷ queue)
over_one t ts x queue true is rest = rw is rest
over_one t ts x queue false is rest = rw is (ap (λ (b : Bool). is_over ts x.tag.0 && b) rest)

over_less : (t : Tag) (ts : List Tag) (queue : List Queued) → are_over ts (filter (λ (q : Queued). not (q.tag.0 == t.0)) queue) ≡ are_over (t ∷ ts) queue
over_less t ts [] = refl
over_less t ts (x ∷ queue) = over_one t ts x queue (x.tag.0 == t.0) refl (over_less t ts queue)

none_over : (queue : List Queued) → (queue ≡ []) ↔ (are_over [] queue ≡ true)
none_over [] = (λ is. refl, λ is. refl)
none_over (q ∷ queue) = (λ is. absurd cc, λ is. absurd cc)

cleared_iff : (tags : List Tag) (queue : List Queued) → (cleared tags queue ≡ []) ↔ (are_over tags queue ≡ true)
cleared_iff [] queue = none_over queue
cleared_iff (tag ∷ tags) queue =
    let whole = cleared_iff tags (filter (λ (q : Queued). not (q.tag.0 == tag.0)) queue) in
    (λ is. sym (over_less tag tags queue) ∙ whole.0 is, λ is. whole.1 (over_less tag tags queue ∙ is))

-- the release of tags leaves the rest

pub record Stays (m r : Meanings) (left : List Queued) : Type 0 where
  pub tracker : tracker_of r ≡ tracker_of m
  pub generation : r.generation ≡ m.generation
  pub echoes : r.echoes ≡ m.echoes
  pub broken : r.broken ≡ m.broken
  pub queue : r.queue ≡ left

pub reaped_stays : (C : SessionConfig) (tags : List Tag) (m : Meanings) → Stays m (reaped C tags m) (cleared tags m.queue)
reaped_stays C [] m = record { tracker = refl; generation = refl; echoes = refl; broken = refl; queue = refl }
reaped_stays C (tag ∷ tags) m =
    let more = reaped_stays C tags (step C (Reap tag) 0 m) in
    record { tracker = more.tracker; generation = more.generation; echoes = more.echoes; broken = more.broken; queue = more.queue }

-- where nothing forbids a request, and no data wait
abbrev inner : ℕ → Bool → List Queued → Option Rule → List Event → List Event
inner g off queue broken es = if off then [] else or_else (queued_next g queue) (if is_some broken then [] else es)

inner_iff : (g : ℕ) (off : Bool) (queue : List Queued) (broken : Option Rule) (es : List Event) (e : Event) → is_request e ≡ true
    → (inner g off queue broken es ≡ e ∷ []) ↔ ((off ≡ false) × (broken ≡ None) × (queue ≡ []) × (es ≡ e ∷ []))
inner_iff g true queue broken es e request = (λ is. absurd cc, λ h. absurd (true≢false h.0))
inner_iff g false (q ∷ queue) broken es e request =
    (λ is. absurd (true≢false (sym request ∙ single (push_of g q) refl e is)), λ h. absurd (let bad = h.2 in cc))
inner_iff g false [] (Some rule) es e request = (λ is. absurd cc, λ h. absurd (let bad = h.1 in cc))
inner_iff g false [] None es e request = (λ is. (refl, refl, refl, is), λ h. h.3)

may : (off : Bool) (broken : Option Rule) (over : Bool) → ((not off && (is_none broken && over)) ≡ true) ↔ ((off ≡ false) × (broken ≡ None) × (over ≡ true))
may true broken over = (λ is. absurd cc, λ h. absurd (true≢false h.0))
may false (Some rule) over = (λ is. absurd cc, λ h. absurd (let bad = h.1 in cc))
may false None over = (λ is. (refl, refl, is), λ h. h.2)

abbrev pub nops_of : SessionConfig → Meanings → List Event
nops_of C m = or_else (echo_next m.generation m.echoes) (ping_next C m.generation m)

abbrev pub managed_of : Meanings → List Event
managed_of m = managed_next m.generation (next_management m) m.handler

-- in the meanings after a release
after_is : (C : SessionConfig) (m r : Meanings) (queue : List Queued) → Stays m r queue
    → next_after_data C m.generation r ≡ behind (logout_next m.generation m) (managed_of m) (nops_of C m) (or_else (drawn_next m.generation r) (issue_next C m.generation r))
after_is C m r queue s =
    let leaving : r.leaving ≡ m.leaving = ap (λ t. t.leaving) s.tracker in
    let managed : r.managed ≡ m.managed = ap (λ t. t.managed) s.tracker in
    let handler : r.handler ≡ m.handler = ap (λ t. t.handler) s.tracker in
    let heard : r.heard ≡ m.heard = ap (λ t. t.heard) s.tracker in
    let ping : r.ping ≡ m.ping = ap (λ t. t.ping) s.tracker in
    let clock : r.clock ≡ m.clock = ap (λ t. t.clock) s.tracker in
    let lo : logout_next m.generation r ≡ logout_next m.generation m = rw (leaving, managed, s.generation) refl in
    let ms : managed_next m.generation (next_management r) r.handler ≡ managed_of m = rw (managed, s.generation, handler) refl in
    let echo : echo_next m.generation r.echoes ≡ echo_next m.generation m.echoes = rw s.echoes refl in
    let pings : ping_next C m.generation r ≡ ping_next C m.generation m = rw (heard, ping, clock, managed, s.generation) refl in
    let rest = or_else (drawn_next m.generation r) (issue_next C m.generation r) in
    rw (lo, ms, echo, pings) (ap (λ (z : List Event). or_else (logout_next m.generation m) (or_else (managed_of m) z)) (else_behind (echo_next m.generation m.echoes) (ping_next C m.generation m) rest))

next_is : (C : SessionConfig) (m r : Meanings) (left : List Queued) → Stays m r left
    → next_in C m.generation r ≡ inner m.generation (m.logout_sent || not (has_connection m.phase)) left m.broken (behind (logout_next m.generation m) (managed_of m) (nops_of C m) (or_else (drawn_next m.generation r) (issue_next C m.generation r)))
next_is C m r left s =
    let sent : r.logout_sent ≡ m.logout_sent = ap (λ t. t.logout_sent) s.tracker in
    let phase : r.phase ≡ m.phase = ap (λ t. t.phase) s.tracker in
    let rest = or_else (drawn_next m.generation r) (issue_next C m.generation r) in
    let same : inner m.generation (r.logout_sent || not (has_connection r.phase)) r.queue r.broken (next_after_data C m.generation r) ≡ inner m.generation (m.logout_sent || not (has_connection m.phase)) left m.broken (behind (logout_next m.generation m) (managed_of m) (nops_of C m) rest)
    = rw (sent, phase, s.queue, s.broken) (ap (λ (z : List Event). inner m.generation (m.logout_sent || not (has_connection m.phase)) left m.broken z) (after_is C m r left s)) in
    same

pub owed_iff : (C : SessionConfig) (m : Meanings) (e : Event) → is_request e ≡ true
    → (owed_in C m ≡ e ∷ []) ↔ ((may_ask m ≡ true) × IsBehind (logout_next m.generation m) (managed_of m) (nops_of C m) e)
owed_iff C m e request =
    let r = reaped C m.ended m in
    let s = reaped_stays C m.ended m in
    let rest = or_else (drawn_next m.generation r) (issue_next C m.generation r) in
    let none = rest_none C m.generation r in
    let whole = next_is C m r (cleared m.ended m.queue) s in
    let inside = inner_iff m.generation (m.logout_sent || not (has_connection m.phase)) (cleared m.ended m.queue) m.broken (behind (logout_next m.generation m) (managed_of m) (nops_of C m) rest) e request in
    let mays = may (m.logout_sent || not (has_connection m.phase)) m.broken (are_over m.ended m.queue) in
    let over = cleared_iff m.ended m.queue in (
      λ is. let h = inside.0 (sym whole ∙ is) in (mays.1 (h.0, h.1, over.0 h.2), behind_is (logout_next m.generation m) (managed_of m) (nops_of C m) rest e request none h.3),
      λ h. let free = mays.0 h.0 in whole ∙ inside.1 (free.0, free.1, over.1 free.2, behind_has (logout_next m.generation m) (managed_of m) (nops_of C m) rest e h.1),
    )

-- each kind of request

abbrev pub IsNop : List Event → Type 0
IsNop es = (es ≡ []) ⊎ ((g : ℕ) × (tag : ℕ) × (ttt : ℕ) × (lun : List ℕ) × (es ≡ Nop g tag ttt lun ∷ []))

abbrev pub IsManaged : ℕ → Tag → List Event → Type 0
IsManaged g tag es = (es ≡ []) ⊎ ((f : ℕ) × (s : Subject) × (es ≡ Manage g tag f s ∷ []))

managed_shape : (g : ℕ) (tag : Tag) (h : Handler) → IsManaged g tag (managed_next g tag h)
managed_shape g tag Idle = inl refl
managed_shape g tag (Aborting id None since) = inr (1, OneTask id, refl)
managed_shape g tag (Aborting id (Some t) since) = inl refl
managed_shape g tag (ResettingLun lun None since) = inr (5, Lun lun, refl)
managed_shape g tag (ResettingLun lun (Some t) since) = inl refl
managed_shape g tag (ResettingTarget None since) = inr (6, Whole, refl)
managed_shape g tag (ResettingTarget (Some t) since) = inl refl
managed_shape g tag Spent = inl refl

ping_shape : (b : Bool) (g tag : ℕ) (lun : List ℕ) → IsNop (if b then Nop g tag reserved_tag lun ∷ [] else [])
ping_shape true g tag lun = inr (g, tag, reserved_tag, lun, refl)
ping_shape false g tag lun = inl refl

nops_shape : (g : ℕ) (echoes : List Echo) (pings : List Event) → IsNop pings → IsNop (or_else (echo_next g echoes) pings)
nops_shape g [] pings shape = shape
nops_shape g (e ∷ echoes) pings shape = inr (g, reserved_tag, e.ttt, e.lun, refl)

nop_only : (es : List Event) (e : Event) → IsNop es → es ≡ e ∷ [] → is_nop e ≡ true
nop_only es e (inl none) is = absurd (let bad = sym none ∙ is in cc)
nop_only es e (inr (g, tag, ttt, lun, one)) is = subst (λ (x : Event). is_nop x ≡ true) (head_is (Nop g tag ttt lun) e [] [] (sym one ∙ is)) refl

managed_only : (g : ℕ) (tag : Tag) (es : List Event) (e : Event) → IsManaged g tag es → es ≡ e ∷ [] → is_manage e ≡ true
managed_only g tag es e (inl none) is = absurd (let bad = sym none ∙ is in cc)
managed_only g tag es e (inr (f, s, one)) is = subst (λ (x : Event). is_manage x ≡ true) (head_is (Manage g tag f s) e [] [] (sym one ∙ is)) refl

managed_one : (g : ℕ) (tag : Tag) (ms : List Event) → IsManaged g tag ms → (g' : ℕ) (t : Tag) (f : ℕ) (s : Subject) → ms ≡ Manage g' t f s ∷ []
    → (false ≡ false) × (g' ≡ g) × (t ≡ tag) × (ms ≡ Manage g tag f s ∷ [])
managed_one g tag ms (inl none) g' t f s is = absurd (let bad = sym none ∙ is in cc)
managed_one g tag ms (inr (f', s', one)) g' t f s is =
    let same : Manage g tag f' s' ≡ Manage g' t f s = head_is (Manage g tag f' s') (Manage g' t f s) [] [] (sym one ∙ is) in
    let gs : g' ≡ g = cc in
    let tags : t ≡ tag = cc in
    (refl, gs, tags, rw (← gs, ← tags) is)

abbrev logout_with : ℕ → Tag → Bool → List Event
logout_with g tag leaving = if leaving then Logout g tag ∷ [] else []

logout_kind : (g : ℕ) (tag : Tag) (leaving : Bool) (ms nops : List Event) → IsManaged g tag ms → IsNop nops → (g' : ℕ) (t : Tag)
    → IsBehind (logout_with g tag leaving) ms nops (Logout g' t) ↔ ((leaving ≡ true) × (g' ≡ g) × (t ≡ tag))
logout_kind g tag true ms nops shape nop g' t =
    (λ h. elim h [ inl is ↦ (refl, cc, cc) | inr more ↦ absurd (let bad = more.0 in cc) ], λ h. inl (rw (h.1, h.2) refl))
logout_kind g tag false ms nops shape nop g' t = (
  λ h. elim h [
    | inl is ↦ absurd cc
    | inr more ↦ elim more.1 [
      | inl is ↦ absurd (true≢false (sym (managed_only g tag ms (Logout g' t) shape is)))
      | inr rest ↦ absurd (true≢false (sym (nop_only nops (Logout g' t) nop rest.1)))
    ]
  ],
  λ h. absurd (true≢false (sym h.0)),
)

manage_kind : (g : ℕ) (tag : Tag) (leaving : Bool) (ms nops : List Event) → IsManaged g tag ms → IsNop nops → (g' : ℕ) (t : Tag) (f : ℕ) (s : Subject)
    → IsBehind (logout_with g tag leaving) ms nops (Manage g' t f s) ↔ ((leaving ≡ false) × (g' ≡ g) × (t ≡ tag) × (ms ≡ Manage g tag f s ∷ []))
manage_kind g tag true ms nops shape nop g' t f s =
    (λ h. elim h [ inl is ↦ absurd cc | inr more ↦ absurd (let bad = more.0 in cc) ], λ h. absurd (true≢false h.0))
manage_kind g tag false ms nops shape nop g' t f s = (
  λ h. elim h [
    | inl is ↦ absurd cc
    | inr more ↦ elim more.1 [
      | inl is ↦ managed_one g tag ms shape g' t f s is
      | inr rest ↦ absurd (true≢false (sym (nop_only nops (Manage g' t f s) nop rest.1)))
    ]
  ],
  λ h. inr (refl, inl (rw (h.1, h.2) h.3)),
)

nop_kind : (g : ℕ) (tag : Tag) (leaving : Bool) (ms nops : List Event) → IsManaged g tag ms → IsNop nops → (g' tag' ttt : ℕ) (lun : List ℕ)
    → IsBehind (logout_with g tag leaving) ms nops (Nop g' tag' ttt lun) ↔ ((leaving ≡ false) × (ms ≡ []) × (nops ≡ Nop g' tag' ttt lun ∷ []))
nop_kind g tag true ms nops shape nop g' tag' ttt lun =
    (λ h. elim h [ inl is ↦ absurd cc | inr more ↦ absurd (let bad = more.0 in cc) ], λ h. absurd (true≢false h.0))
nop_kind g tag false ms nops shape nop g' tag' ttt lun = (
  λ h. elim h [
    | inl is ↦ absurd cc
    | inr more ↦ elim more.1 [
      | inl is ↦ absurd (true≢false (sym (managed_only g tag ms (Nop g' tag' ttt lun) shape is)))
      | inr rest ↦ (refl, rest.0, rest.1)
    ]
  ],
  λ h. inr (refl, inr (h.1, h.2)),
)

tag_eta : (t u : Tag) → t.0 ≡ u.0 → t ≡ u
tag_eta t u is = ap (λ (n : ℕ). let made : Tag = record { 0 = n } in made) is

pub logout_owed : (C : SessionConfig) (m : Meanings) (g : ℕ) (t : Tag)
    → (owed_in C m ≡ Logout g t ∷ []) ↔ ((may_ask m ≡ true) × (m.leaving ≡ true) × (g ≡ m.generation) × (t.0 ≡ (next_management m).0))
logout_owed C m g t =
    let whole = owed_iff C m (Logout g t) refl in
    let kind = logout_kind m.generation (next_management m) m.leaving (managed_of m) (nops_of C m) (managed_shape m.generation (next_management m) m.handler) (nops_shape m.generation m.echoes (ping_next C m.generation m) (ping_shape _ m.generation _ _)) g t in (
      λ is. let h = whole.0 is in let k = kind.0 h.1 in (h.0, k.0, k.1, ap (λ (u : Tag). u.0) k.2),
      λ h. whole.1 (h.0, kind.1 (h.1, h.2, tag_eta t (next_management m) h.3)),
    )

pub manage_owed : (C : SessionConfig) (m : Meanings) (g : ℕ) (t : Tag) (f : ℕ) (s : Subject)
    → (owed_in C m ≡ Manage g t f s ∷ []) ↔ ((may_ask m ≡ true) × (m.leaving ≡ false) × (g ≡ m.generation) × (t.0 ≡ (next_management m).0) × (managed_of m ≡ Manage m.generation (next_management m) f s ∷ []))
manage_owed C m g t f s =
    let whole = owed_iff C m (Manage g t f s) refl in
    let kind = manage_kind m.generation (next_management m) m.leaving (managed_of m) (nops_of C m) (managed_shape m.generation (next_management m) m.handler) (nops_shape m.generation m.echoes (ping_next C m.generation m) (ping_shape _ m.generation _ _)) g t f s in (
      λ is. let h = whole.0 is in let k = kind.0 h.1 in (h.0, k.0, k.1, ap (λ (u : Tag). u.0) k.2, k.3),
      λ h. whole.1 (h.0, kind.1 (h.1, h.2, tag_eta t (next_management m) h.3, h.4)),
    )

pub nop_owed : (C : SessionConfig) (m : Meanings) (g tag ttt : ℕ) (lun : List ℕ)
    → (owed_in C m ≡ Nop g tag ttt lun ∷ []) ↔ ((may_ask m ≡ true) × (m.leaving ≡ false) × (managed_of m ≡ []) × (nops_of C m ≡ Nop g tag ttt lun ∷ []))
nop_owed C m g tag ttt lun =
    let whole = owed_iff C m (Nop g tag ttt lun) refl in
    let kind = nop_kind m.generation (next_management m) m.leaving (managed_of m) (nops_of C m) (managed_shape m.generation (next_management m) m.handler) (nops_shape m.generation m.echoes (ping_next C m.generation m) (ping_shape _ m.generation _ _)) g tag ttt lun in
    (λ is. let h = whole.0 is in let k = kind.0 h.1 in (h.0, k.0, k.1, k.2), λ h. whole.1 (h.0, kind.1 (h.1, h.2, h.3)))
