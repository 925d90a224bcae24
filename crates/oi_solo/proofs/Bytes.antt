-- The bytes that a transmission sends: those of its last entry.
use Rattle.std.proofs.Common.{◌≡◌, ◌∙◌, ◌++◌, ℕ, List, [], ◌∷◌, append-nil, map, ap, refl, sym, Option, Some, None}
use Rattle.std.specs.List.{flat_map}
use Rattle.oi_base.specs.declared.tag.Tag.{Tag}
use Rattle.oi_history.specs.Meanings.{Meanings, last_issue}
use Rattle.oi_history.specs.Owing.{owed_in, pdu_in, reaped, sent_by}
use Rattle.oi_history.specs.Releasing.{Names, behind, draw_of, entries_of, list_of, ready}
use Rattle.oi_history.specs.declared.allocated.Allocated.{Allocated}
use Rattle.oi_history.specs.declared.config.SessionConfig.{SessionConfig}
use Rattle.oi_history.specs.declared.event.Event.{Event}
use Rattle.oi_history.specs.declared.event.Event.TheVariants.{Draw, Manage, Reap}
use Rattle.oi_history.specs.declared.event.Subject.TheVariants.{Task as OneTask}
use Rattle.oi_history.specs.declared.owing.Owed.{Owed}
use Rattle.oi_pdu.specs.Wire.{encoding}
use Rattle.oi_pdu.specs.declared.codec.Pdu.{Pdu}
use Rattle.oi_solo.specs.Calls.{turn_of}
use Rattle.oi_solo.specs.Cores.{IsKept, session_of}
use Rattle.oi_solo.specs.Sessions.{Session, entered, entered_all, now_of, owed_of, releases, sent_bytes}
use Rattle.oi_solo.specs.declared.kept.Kept.{Kept}

-- the last commands behind releases and the taking up of R2Ts
abbrev pub last_behind : Session → List Tag → Option ℕ → ℕ → Option Allocated
last_behind s tags d id = last_issue id (entered_all (entered_all s (map (λ tag. Reap tag) tags)) (draw_of d)).history

last-drawn : (s : Session) (d : Option ℕ) (id : ℕ) → last_behind s [] d id ≡ last_issue id s.history
last-drawn s None id = refl
last-drawn s (Some count) id = refl

pub last-same : (s : Session) (tags : List Tag) (d : Option ℕ) (id : ℕ) → last_behind s tags d id ≡ last_issue id s.history
last-same s [] d id = last-drawn s d id
last-same s (tag ∷ tags) d id = last-same (entered s (Reap tag)) tags d id

bytes-drawn : (s : Session) (d : Option ℕ) (e : Event) → sent_bytes s (draw_of d ++ e ∷ []) ≡ flat_map encoding (pdu_in (behind s.config (draw_of d) (now_of s)) (last_behind s [] d) e)
bytes-drawn s None e = append-nil (flat_map encoding (sent_by s.config s.history e))
bytes-drawn s (Some count) e = append-nil (flat_map encoding (sent_by s.config (entered s (Draw count)).history e))

pub bytes-sent : (s : Session) (tags : List Tag) (d : Option ℕ) (e : Event)
    → sent_bytes s (map (λ tag. Reap tag) tags ++ (draw_of d ++ e ∷ [])) ≡ flat_map encoding (pdu_in (behind s.config (draw_of d) (reaped s.config tags (now_of s))) (last_behind s tags d) e)
bytes-sent s [] d e = bytes-drawn s d e
bytes-sent s (tag ∷ tags) d e = bytes-sent (entered s (Reap tag)) tags d e

names_at : (e : Event) (issue : Option Allocated) (f g : ℕ → Option Allocated) → ((id : ℕ) → f id ≡ g id) → Names e issue f → Names e issue g
names_at (Manage generation tag function (OneTask id)) issue f g same is = is ∙ same id
names_at e issue f g same is = tt

pub wrote : (k : Kept) (o : Owed) (issue : Option Allocated) (p : Option Pdu) → IsKept k → entries_of (Some o) ≡ owed_in k.ledger.config k.ledger.now
    → Names o.send issue (λ id. last_issue id (session_of k).history)
    → ((last : ℕ → Option Allocated) → Names o.send issue last → pdu_in (ready k.ledger.config o k.ledger.now) last o.send ≡ list_of p)
    → sent_bytes (session_of k) (turn_of (session_of k)) ≡ flat_map encoding (list_of p)
wrote k o issue p kept owed names sent =
    let s : Session = session_of k in
    let C : SessionConfig = k.ledger.config in
    let m : Meanings = now_of s in
    let f : ℕ → Option Allocated = last_behind s m.ended o.draw in
    let named : Names o.send issue f = names_at o.send issue (λ (id : ℕ). last_issue id s.history) f (λ id. sym (last-same s m.ended o.draw id)) names in
    let turn : owed_of s ≡ draw_of o.draw ++ o.send ∷ [] = ap (λ (x : Meanings). owed_in C x) (sym kept.now) ∙ sym owed in
    ap (λ (es : List Event). sent_bytes s (releases m ++ es)) turn
    ∙ (bytes-sent s m.ended o.draw o.send
    ∙ (ap (λ (x : Meanings). flat_map encoding (pdu_in (ready C o x) f o.send)) (sym kept.now)
    ∙ ap (λ (ps : List Pdu). flat_map encoding ps) (sent f named)))
