-- What befalls a submission: it takes no place of a tag more, keeps its tries below those allowed, and stays done.
use Rattle.std.proofs.Common.{◌≡◌, ◌≤◌, ◌<◌, ◌+◌, ◌-◌, ◌==◌, ◌&&◌, ℕ, suc, zero, Bool, true, false, not, cond, List, [], ◌∷◌, length, map, ap, subst, sym, refl, arith, nat_lt, length-append, if◌then◌else◌, rules}
use Rattle.std.proofs.lemmas.Bool.Decides.{nat_tests}
use Rattle.std.proofs.lemmas.List.Sums.{sum_by-cons}
use Rattle.oi_base.specs.declared.tag.Tag.{Tag}
use Rattle.oi_history.specs.Blows.{blow_by}
use Rattle.oi_history.specs.Handling.{aim_of, is_live}
use Rattle.oi_history.specs.Meanings.{tag_over, tags_over}
use Rattle.oi_history.specs.Recovering.{answered_by, failed, got_data, got_response, hit_by, hit_in, map_from, moved_by, reset_by, waits_again}
use Rattle.oi_history.specs.Standing.{HasTries, HaveTries, live_in, live_tag, pending_in, tag_gone}
use Rattle.oi_history.specs.Tasks.{changed, data_reply, is_done, is_live_on, scsi_reply, settled, told_task, tries_of, with_piece}
use Rattle.oi_history.specs.declared.fate.Fate.{Fate}
use Rattle.oi_history.specs.declared.fate.Fate.TheVariants.{Waiting, Live, Done}
use Rattle.oi_history.specs.declared.recovering.Blow.{Blow}
use Rattle.oi_history.specs.declared.recovering.Blow.TheVariants.{Struck, Reset, Loss}
use Rattle.oi_history.specs.declared.reply.ReplyData.{ReplyData}
use Rattle.oi_history.specs.declared.task.Task.{Task}
use Rattle.oi_pdu.specs.declared.header.DataIn.{DataIn as DataInHeader}
use Rattle.oi_pdu.specs.declared.header.ScsiResponse.{ScsiResponse as ResponseHeader}
use Rattle.oi_recovery.specs.Recovery.{is_busy, is_free, lost, missing, recovery_table, replied, waits_on}
use Rattle.oi_recovery.specs.declared.hit.Aim.{Aim}
use Rattle.oi_recovery.specs.declared.hit.Aim.TheVariants.{Free, Abort as ByAbort, Reset as ByReset}
use Rattle.oi_recovery.specs.declared.hit.Hit.{Hit}
use Rattle.oi_recovery.specs.declared.hit.Hit.TheVariants.{Reply, AbortDone, ResetDone, Lost as ByLoss, ReplacementPast, Aborted, Ended}
use Rattle.oi_recovery.specs.declared.hit.Residual.{Residual}
use Rattle.oi_recovery.specs.declared.host_code.HostCode.{HostCode}
use Rattle.oi_recovery.specs.declared.host_code.HostCode.TheVariants.{BadTarget, Disrupted, Error, FailFast as FailsFast}
use Rattle.oi_recovery.specs.declared.stand.Next.{Next}
use Rattle.oi_recovery.specs.declared.stand.Next.TheVariants.{Stay, Wait, Answer, Host}
use Rattle.oi_recovery.specs.declared.stand.Stand.TheVariants.{Waiting as StandsWaiting, Live as StandsLive}

pub record Falls (a : ℕ) (f g : Fate) : Type 0 where
  pub places : cond (is_live g) 1 0 + length (tag_over f g) ≤ cond (is_live f) 1 0
  pub tries : 1 ≤ a → HasTries a f → HasTries a g
  pub done : is_done f ≡ true → is_done g ≡ true

-- tags

same_tag : (n : ℕ) → (n == n) ≡ true
same_tag n = search rules

pub gone_over : (f g : Fate) → tag_gone (live_tag f) g ≡ tag_over f g
gone_over (Waiting tries) g = refl
gone_over (Live generation tag tries) g = refl
gone_over (Done outcome at) g = refl

pub over_self : (f : Fate) → tag_over f f ≡ []
over_self (Waiting tries) = refl
over_self (Live generation tag tries) = rw (same_tag tag.0) refl
over_self (Done outcome at) = refl

one_at_most : (b : Bool) (tag : Tag) → length (if b then [] else tag ∷ []) ≤ 1
one_at_most true tag = omega arith
one_at_most false tag = omega arith

pub over_one : (f g : Fate) → length (tag_over f g) ≤ cond (is_live f) 1 0
over_one (Waiting tries) g = omega arith
over_one (Live generation tag tries) g = one_at_most (is_live_on tag.0 g) tag
over_one (Done outcome at) g = omega arith

places_off : (f g : Fate) → is_live g ≡ false → cond (is_live g) 1 0 + length (tag_over f g) ≤ cond (is_live f) 1 0
places_off f g off = rw off (omega (arith, over_one f g))

-- one submission

stays : (a : ℕ) (f : Fate) → Falls a f f
stays a f = record { places = rw (over_self f) (omega arith); tries = λ one has. has; done = λ is. is }

not_done : (f g : Fate) → is_done f ≡ false → is_done f ≡ true → is_done g ≡ true
not_done f g off is = absurd cc

fails : (a at : ℕ) (code : HostCode) (t : Task) → is_done t.fate ≡ false → Falls a t.fate (failed at code t).fate
fails a at code t off = record { places = places_off t.fate (failed at code t).fate refl; tries = λ one has. tt; done = not_done t.fate (failed at code t).fate off }

waits : (a tries : ℕ) (t : Task) → is_done t.fate ≡ false → (1 ≤ a → HasTries a t.fate → tries < a) → Falls a t.fate (waits_again tries t).fate
waits a tries t off fewer = record { places = places_off t.fate (waits_again tries t).fate refl; tries = λ one has. fewer one has; done = not_done t.fate (waits_again tries t).fate off }

-- rows of the recovery table: where a submission waits again, it has tries left

abbrev MayWait : ℕ → Fate → Next → Type 0
MayWait a f (Wait tries) = 1 ≤ a → HasTries a f → tries < a
MayWait a f n = Unit {0}

may_if : (a : ℕ) (f : Fate) (b : Bool) (m n : Next) → (b ≡ true → MayWait a f m) → MayWait a f n → MayWait a f (if b then m else n)
may_if a f true m n p q = p refl
may_if a f false m n p q = q

and_middle : (b c d : Bool) → (b && c && d) ≡ true → c ≡ true
and_middle true true d is = refl
and_middle true false d is = absurd cc
and_middle false c d is = absurd cc

lt_from_test : (a b : ℕ) → nat_lt a b ≡ true → a < b
lt_from_test a b is = grind (arith, nat_tests)

waiting_row : (a k : ℕ) (hit : Hit) → MayWait a (Waiting k) (recovery_table (StandsWaiting k) hit a)
waiting_row a k (Reply response status residual size placed reads aim) = tt
waiting_row a k AbortDone = tt
waiting_row a k ResetDone = tt
waiting_row a k (ByLoss aim at_once counted) = may_if a (Waiting k) at_once (Host FailsFast) Stay (λ is. tt) tt
waiting_row a k ReplacementPast = tt
waiting_row a k Aborted = tt
waiting_row a k Ended = tt

on_loss : (a : ℕ) (f : Fate) (at_once : Bool) (n : Next) → MayWait a f n → MayWait a f (waits_on at_once n)
on_loss a f at_once n p = may_if a f at_once (Host FailsFast) n (λ is. tt) p

lost_row : (a generation : ℕ) (tag : _) (k : ℕ) (aim : Aim) (at_once counted : Bool) → MayWait a (Live generation tag k) (lost aim at_once counted k a)
lost_row a generation tag k ByAbort at_once counted = tt
lost_row a generation tag k ByReset at_once counted = tt
lost_row a generation tag k Free at_once false = on_loss a (Live generation tag k) at_once (Wait (k - 1)) (λ one has. omega (arith, one, has))
lost_row a generation tag k Free at_once true =
    may_if a (Live generation tag k) (nat_lt k a) (waits_on at_once (Wait k)) (Host Disrupted)
    (λ is. on_loss a (Live generation tag k) at_once (Wait k) (λ one has. lt_from_test k a is)) tt

reply_row : (a generation : ℕ) (tag : _) (k response status : ℕ) (r : Residual) (size placed : ℕ) (reads : Bool) (aim : Aim)
    → MayWait a (Live generation tag k) (replied response status r size placed reads aim k a)
reply_row a generation tag k response status r size placed reads aim =
    may_if a (Live generation tag k) (not (response == 0)) (Host Error) _ (λ is. tt)
    (may_if a (Live generation tag k) (is_busy status && nat_lt k a && is_free aim) (Wait k) _
    (λ is one has. lt_from_test k a (and_middle (is_busy status) (nat_lt k a) (is_free aim) is))
    (may_if a (Live generation tag k) (nat_lt size (missing r)) (Host BadTarget) _ (λ is. tt)
    (may_if a (Live generation tag k) _ (Host Error) Answer (λ is. tt) tt)))

live_row : (a generation : ℕ) (tag : _) (k : ℕ) (hit : Hit) → MayWait a (Live generation tag k) (recovery_table (StandsLive k) hit a)
live_row a generation tag k (Reply response status residual size placed reads aim) = reply_row a generation tag k response status residual size placed reads aim
live_row a generation tag k AbortDone = tt
live_row a generation tag k ResetDone = tt
live_row a generation tag k (ByLoss aim at_once counted) = lost_row a generation tag k aim at_once counted
live_row a generation tag k ReplacementPast = tt
live_row a generation tag k Aborted = tt
live_row a generation tag k Ended = tt

falls_by : (a at : ℕ) (t : Task) (n : Next) → is_done t.fate ≡ false → MayWait a t.fate n → Falls a t.fate (moved_by at t n).fate
falls_by a at t (Wait tries) off may = waits a tries t off may
falls_by a at t (Host code) off may = fails a at code t off
falls_by a at t Stay off may = stays a t.fate
falls_by a at t Answer off may = stays a t.fate

hit_falls : (a at : ℕ) (hit : Hit) (t : Task) (f : Fate) → t.fate ≡ f → Falls a t.fate (hit_in a at hit t f).fate
hit_falls a at hit t (Waiting tries) is =
    falls_by a at t _ (ap is_done is) (subst (λ (f : Fate). MayWait a f (recovery_table (StandsWaiting tries) hit a)) (sym is) (waiting_row a tries hit))
hit_falls a at hit t (Live generation tag tries) is =
    falls_by a at t _ (ap is_done is) (subst (λ (f : Fate). MayWait a f (recovery_table (StandsLive tries) hit a)) (sym is) (live_row a generation tag tries hit))
hit_falls a at hit t (Done outcome n) is = stays a t.fate

pub falls_hit : (a at : ℕ) (hit : Hit) (t : Task) → Falls a t.fate (hit_by a at hit t).fate
falls_hit a at hit t = hit_falls a at hit t t.fate refl

answers : (a at : ℕ) (r : ReplyData) (t : Task) (n : Next) → is_done t.fate ≡ false → MayWait a t.fate n → Falls a t.fate (settled at r t n).fate
answers a at r t Stay off may = stays a t.fate
answers a at r t (Wait tries) off may = waits a tries t off may
answers a at r t Answer off may = record { places = places_off t.fate (settled at r t Answer).fate refl; tries = λ one has. tt; done = not_done t.fate (settled at r t Answer).fate off }
answers a at r t (Host code) off may = fails a at code t off

live_not_done : (tag : ℕ) (f : Fate) → is_live_on tag f ≡ true → is_done f ≡ false
live_not_done tag (Waiting tries) is = refl
live_not_done tag (Live generation t tries) is = refl
live_not_done tag (Done outcome at) is = absurd cc

live_may : (a tag : ℕ) (f : Fate) (hit : Hit) → is_live_on tag f ≡ true → MayWait a f (recovery_table (StandsLive (tries_of f)) hit a)
live_may a tag (Waiting tries) hit is = absurd cc
live_may a tag (Live generation t tries) hit is = live_row a generation t tries hit
live_may a tag (Done outcome at) hit is = absurd cc

falls_answered : (a at tag : ℕ) (aim : Aim) (r : ReplyData) (t : Task) → is_live_on tag t.fate ≡ true → Falls a t.fate (answered_by a at aim r t).fate
falls_answered a at tag aim r t live = answers a at r t _ (live_not_done tag t.fate live)
    (live_may a tag t.fate (Reply r.response r.status r.residual t.command.length (length t.got) t.command.reads aim) live)

falls_if : (a : ℕ) (b : Bool) (f : Fate) (u v : Task) → (b ≡ true → Falls a f u.fate) → Falls a f v.fate → Falls a f (if b then u else v).fate
falls_if a true f u v p q = p refl
falls_if a false f u v p q = q

pub falls_data : (a at : ℕ) (aim : Aim) (h : DataInHeader) (payload : List ℕ) (t : Task) → Falls a t.fate (got_data a at aim h payload t).fate
falls_data a at aim h payload t =
    falls_if a (is_live_on h.tag.0 t.fate) t.fate _ t
    (λ live. falls_if a h.ends t.fate _ (with_piece payload t) (λ ends. falls_answered a at h.tag.0 aim (data_reply h) (with_piece payload t) live) (stays a t.fate))
    (stays a t.fate)

pub falls_response : (a at : ℕ) (aim : Aim) (h : ResponseHeader) (payload : List ℕ) (t : Task) → Falls a t.fate (got_response a at aim h payload t).fate
falls_response a at aim h payload t =
    falls_if a (is_live_on h.tag.0 t.fate) t.fate _ t (λ live. falls_answered a at h.tag.0 aim (scsi_reply h payload) t live) (stays a t.fate)

pub falls_reset : (a at lun : ℕ) (t : Task) → Falls a t.fate (reset_by a at lun t).fate
falls_reset a at lun t = falls_if a (t.command.lun == lun) t.fate _ t (λ is. falls_hit a at ResetDone t) (stays a t.fate)

pub falls_blow : (a at : ℕ) (blow : Blow) (k : ℕ) (t : Task) → Falls a t.fate (blow_by a at blow k t).fate
falls_blow a at (Struck hit) k t = falls_hit a at hit t
falls_blow a at (Reset lun) k t = falls_reset a at lun t
falls_blow a at (Loss handler at_once counted) k t = falls_hit a at (ByLoss (aim_of handler k t) at_once counted) t

pub falls_told : (a : ℕ) (t : Task) → Falls a t.fate (told_task t).fate
falls_told a t = stays a t.fate

-- lists

abbrev pub AreFallen : ℕ → List Task → List Task → Type 0
AreFallen a [] us = us ≡ []
AreFallen a (t ∷ ts) [] = ⊥
AreFallen a (t ∷ ts) (u ∷ us) = Falls a t.fate u.fate × AreFallen a ts us

pub fallen-same : (a : ℕ) (ts : List Task) → AreFallen a ts ts
fallen-same a [] = refl
fallen-same a (t ∷ ts) = (stays a t.fate, fallen-same a ts)

pub fallen-map : (a : ℕ) (f : Task → Task) → ((t : Task) → Falls a t.fate (f t).fate) → (ts : List Task) → AreFallen a ts (map f ts)
fallen-map a f falls [] = refl
fallen-map a f falls (t ∷ ts) = (falls t, fallen-map a f falls ts)

pub fallen-from : (a : ℕ) (f : ℕ → Task → Task) → ((k : ℕ) (t : Task) → Falls a t.fate (f k t).fate) → (k : ℕ) (ts : List Task) → AreFallen a ts (map_from k f ts)
fallen-from a f falls k [] = refl
fallen-from a f falls k (t ∷ ts) = (falls k t, fallen-from a f falls (k + 1) ts)

pub fallen-at : (a : ℕ) (f : Task → Task) → ((t : Task) → Falls a t.fate (f t).fate) → (id : ℕ) (ts : List Task) → AreFallen a ts (changed id f ts)
fallen-at a f falls id [] = refl
fallen-at a f falls zero (t ∷ ts) = (falls t, fallen-same a ts)
fallen-at a f falls (suc id) (t ∷ ts) = (stays a t.fate, fallen-at a f falls id ts)

pub live-cons : (t : Task) (ts : List Task) → live_in (t ∷ ts) ≡ cond (is_live t.fate) 1 0 + live_in ts
live-cons t ts = sum_by-cons (λ (x : Task). cond (is_live x.fate) 1 0) t ts

pub pending-cons : (t : Task) (ts : List Task) → pending_in (t ∷ ts) ≡ cond (not (is_done t.fate)) 1 0 + pending_in ts
pending-cons t ts = sum_by-cons (λ (x : Task). cond (not (is_done x.fate)) 1 0) t ts

pub fallen-places : (a : ℕ) (ts us : List Task) → AreFallen a ts us → live_in us + length (tags_over ts us) ≤ live_in ts
fallen-places a [] us is = rw is (omega arith)
fallen-places a (t ∷ ts) [] is = absurd is
fallen-places a (t ∷ ts) (u ∷ us) is =
    omega (arith, live-cons t ts, live-cons u us, length-append (tag_over t.fate u.fate) (tags_over ts us), is.0.places, fallen-places a ts us is.1)

pub fallen-tries : (a : ℕ) (ts us : List Task) → AreFallen a ts us → 1 ≤ a → HaveTries a ts → HaveTries a us
fallen-tries a [] us is one have = rw is tt
fallen-tries a (t ∷ ts) [] is one have = absurd is
fallen-tries a (t ∷ ts) (u ∷ us) is one have = (is.0.tries one have.0, fallen-tries a ts us is.1 one have.1)
