-- Lines done whole or in part.
use Rattle.std.proofs.Common.{◌≡◌, inl, inr, ◌∙◌, ◌||◌, ℕ, Bool, List, [], Option, Some, None, sym, ap, subst, refl, Result, Ok, Err, OnErr}
use Rattle.oi_base.specs.declared.memory.NoMemory.{NoMemory}
use Rattle.oi_drive.proofs.Going.{does_joined, part_all, part_first}
use Rattle.oi_drive.specs.Acts.{Does}
use Rattle.oi_drive.specs.Deeds.{hands_out, says}
use Rattle.oi_drive.specs.Parts.{IsBetween}
use Rattle.oi_drive.specs.Steps.{Acts}
use Rattle.oi_drive.specs.Worlds.{World, acted, base, base_by, begins, deed_of, entries_by, is_end, is_refusal, line_base, line_by, line_deed, line_entries, line_step, one_more, settles, stop_by}
use Rattle.oi_drive.specs.declared.answer.Answer.{Answer}
use Rattle.oi_drive.specs.declared.answer.Answer.TheVariants.{Refused}
use Rattle.oi_drive.specs.declared.runner.Stop.{Stop}
use Rattle.oi_script.specs.Notices.{refused_text}
use Rattle.oi_script.specs.declared.notices.Refusal.{Refusal}
use Rattle.oi_script.specs.Lines.{drive_line}
use Rattle.oi_script.specs.declared.line.DriveLine.{DriveLine}
use Rattle.oi_solo.specs.Sessions.{Session, entered_all}

line_is : (w : World) (o : Option DriveLine) → (line_by w o).session ≡ entered_all (base_by w o) (entries_by w o)
line_is w None = refl
line_is w (Some l) = refl

-- all of a line
pub whole_step : (w v : World) → v ≡ line_step w → IsBetween w.session (line_base w) (line_entries w) v.session
whole_step w v is = inr (part_all (line_entries w) (line_base w) v.session (ap (λ (z : World). z.session) is ∙ line_is w (drive_line w.part)))

-- nothing of it
pub nothing_done : (w : World) (s : Session) → s ≡ w.session → IsBetween w.session (line_base w) (line_entries w) s
nothing_done w s is = inl is

-- a line's own part was done in part
pub own_broke : (w v : World) (l : DriveLine) (before after : List ℕ) (e : NoMemory) → Acts w l before (Err e) v after → IsBetween w.session (base w l) (line_deed w l).entries v.session
own_broke w v l before after e (inl is) = inl is
own_broke w v l before after e (inr part) = inr (part_first (deed_of w l).entries _ (base w l) v.session part)

rest_is : (w v : World) (l : DriveLine) (own : Answer) (mid after : List ℕ) (new : Session) (r : Result Answer NoMemory) → v ≡ acted w l → own ≡ (deed_of w l).answer
    → Does (settles own (one_more w.line) v.session) v.session mid r new after
    → Does (settles (deed_of w l).answer (one_more w.line) (entered_all (base w l) (deed_of w l).entries)) v.session mid r new after
rest_is w v l own mid after new r goes is h =
    subst (λ (s : Session). Does (settles (deed_of w l).answer (one_more w.line) s) v.session mid r new after) (ap (λ (z : World). z.session) goes)
    (subst (λ (a : Answer). Does (settles a (one_more w.line) v.session) v.session mid r new after) is h)

-- and what follows it
pub line_does : (w v : World) (l : DriveLine) (own : Answer) (before mid after : List ℕ) (new : Session) (r : Result Answer NoMemory) → Acts w l before (Ok own) v mid
    → Does (settles own (one_more w.line) v.session) v.session mid r new after → Does (line_deed w l) (base w l) before r new after
line_does w v l own before mid after new r acts h =
    does_joined (deed_of w l) _ (base w l) v.session new before mid after r (ap (λ (z : World). z.session) acts.0) acts.1 (rest_is w v l own mid after new r acts.0 acts.2 h)

pub rest_broke : (w v : World) (l : DriveLine) (own : Answer) (before mid after : List ℕ) (new : Session) (e : NoMemory) → Acts w l before (Ok own) v mid
    → Does (settles own (one_more w.line) v.session) v.session mid (Err e) new after → IsBetween w.session (base w l) (line_deed w l).entries new
rest_broke w v l own before mid after new e acts h = inr (line_does w v l own before mid after new (Err e) acts h)

-- the run behind it
pub line_world : (w v : World) (l : DriveLine) (own answer : Answer) (before mid after : List ℕ) (new : Session) → Acts w l before (Ok own) v mid
    → Does (settles own (one_more w.line) v.session) v.session mid (Ok answer) new after
    → (let found : World = record {
      session = new;
      links = v.links;
      begun = v.begun || begins l;
      refused = v.refused || is_refusal own;
      part = [];
      line = one_more w.line;
      stop = stop_by answer (one_more w.line) (is_end l);
    } in found) ≡ line_by w (Some l)
line_world w v l own answer before mid after new acts h =
    let whole = line_does w v l own before mid after new (Ok answer) acts h in
    rw (acts.0, acts.2, whole.0, whole.2) refl

pub line_done : (w v : World) (l : DriveLine) (own answer : Answer) (before mid after : List ℕ) (new : Session) (begun refused : Bool) (part : List ℕ) (line : ℕ) (stop : Option Stop) → Acts w l before (Ok own) v mid
    → line ≡ one_more w.line → Does (settles own line v.session) v.session mid (Ok answer) new after → begun ≡ (v.begun || begins l) → refused ≡ (v.refused || is_refusal own) → part ≡ []
    → stop ≡ stop_by answer line (is_end l)
    → (let found : World = record { session = new; links = v.links; begun = begun; refused = refused; part = part; line = line; stop = stop } in found) ≡ line_by w (Some l)
line_done w v l own answer before mid after new begun refused part line stop acts counts h begins_too refused_too none stops =
    rw (begins_too, refused_too, none, stops, counts)
    (line_world w v l own answer before mid after new acts (subst (λ n. Does (settles own n v.session) v.session mid (Ok answer) new after) counts h))

-- a refusal that was told, and what is due handed out behind it
pub refused_then : (word : Refusal) (line : ℕ) (s new : Session) (before mid after : List ℕ) (own a : Answer) (r : Result Answer NoMemory) → own ≡ Refused word
    → Does (says (refused_text line word)) s before (Ok a) s mid → Does (hands_out s) s mid r new after → Does (settles own line s) s before r new after
refused_then word line s new before mid after own a r is told h =
    subst (λ (x : Answer). Does (settles x line s) s before r new after) (sym is)
    (does_joined (says (refused_text line word)) (hands_out s) s s new before mid after r refl told.1 h)

pub rest_failed : (w v : World) (l : DriveLine) (own : Answer) (line : ℕ) (before mid after : List ℕ) (new : Session) (e : NoMemory) → Acts w l before (Ok own) v mid → line ≡ one_more w.line
    → Does (settles own line v.session) v.session mid (Err e) new after → IsBetween w.session (base w l) (line_deed w l).entries new
rest_failed w v l own line before mid after new e acts counts h =
    rest_broke w v l own before mid after new e acts (subst (λ n. Does (settles own n v.session) v.session mid (Err e) new after) counts h)

-- the line that was read
pub line_partly : (w : World) (part : List ℕ) (l : DriveLine) (r : Result (Unit {0}) NoMemory) (new : Session) → part ≡ w.part → drive_line part ≡ Some l
    → OnErr r (IsBetween w.session (base w l) (line_deed w l).entries new) → OnErr r (IsBetween w.session (line_base w) (line_entries w) new)
line_partly w part l r new same is h =
    subst (λ (o : Option DriveLine). OnErr r (IsBetween w.session (base_by w o) (entries_by w o) new)) (sym (ap drive_line (sym same) ∙ is)) h
