-- A recorded history, entry by entry.
use Rattle.std.proofs.Common.{◌≡◌, ◌∙◌, ◌+◌, ◌<◌, ℕ, List, [], ◌∷◌, ◌++◌, length, take, drop, reverse, get_or, Option, Some, None, sym, ap, subst, refl, append_assoc}
use Rattle.std.proofs.lemmas.List.{reverse-append, take-append-drop, take_more}
use Rattle.oi_history.specs.Judging.{IsJudged, last_number}
use Rattle.oi_history.specs.Ledgers.{LedgerView}
use Rattle.oi_history.specs.Meanings.{Meanings, meanings, step}
use Rattle.oi_history.specs.Permitted.{IsFirstIllegal}
use Rattle.oi_history.specs.Traces.{Follows, IsTraceFault}
use Rattle.oi_history.specs.declared.config.SessionConfig.{SessionConfig}
use Rattle.oi_history.specs.declared.event.Numbered.{Numbered}
use Rattle.oi_history.specs.declared.trace.TraceFault.{TraceFault}
use Rattle.oi_history.specs.declared.trace.TraceFault.TheVariants.{Illegal, Memory}

abbrev pub Judges : LedgerView → Option ℕ → Numbered → Option ℕ → Type 0
Judges l last n v = (H : List Numbered) → l.now ≡ meanings l.config H → last ≡ last_number H → IsJudged v l.config H n

judged_in : (l : LedgerView) (last : Option ℕ) (n : Numbered) (v : Option ℕ) (C : SessionConfig) (H : List Numbered) → Judges l last n v → Follows l last C H → IsJudged v C H n
judged_in l last n v C H judges f =
    subst (λ (K : SessionConfig). IsJudged v K H n) f.config (judges H (f.now ∙ ap (λ (K : SessionConfig). meanings K H) (sym f.config)) f.number)

pub is_fault : (l : LedgerView) (last : Option ℕ) (n : Numbered) (rule : ℕ) (C : SessionConfig) (H : List Numbered) → Judges l last n (Some rule) → Follows l last C H → IsFirstIllegal C (n ∷ H) n.number rule
is_fault l last n rule C H judges f = record {
  after = [];
  entry = n;
  before = H;
  whole = refl;
  legal = f.legal;
  breaks = judged_in l last n (Some rule) C H judges f;
  number_is = refl;
}

pub goes_on : (l new : LedgerView) (last : Option ℕ) (n : Numbered) (C : SessionConfig) (H : List Numbered) → Judges l last n None → new.config ≡ l.config → new.now ≡ step l.config n.event n.number l.now
    → Follows l last C H → Follows new (Some n.number) C (n ∷ H)
goes_on l new last n C H judges config now f = record {
  config = config ∙ f.config;
  now = now ∙ (ap (λ (K : SessionConfig). step K n.event n.number l.now) f.config ∙ ap (λ (m : Meanings). step C n.event n.number m) f.now);
  number = refl;
  legal = (judged_in l last n None C H judges f, f.legal);
}

-- the newest entry first

pub one_more : (ns : List Numbered) (i : ℕ) (d : Numbered) → i < length ns → get_or ns i d ∷ reverse (take i ns) ≡ reverse (take (i + 1) ns)
one_more ns i d h = sym (ap (λ (z : List Numbered). reverse z) (take_more ns i d h) ∙ reverse-append (take i ns) (get_or ns i d ∷ []))

whole_is : (ns : List Numbered) (i : ℕ) → reverse (drop i ns) ++ reverse (take i ns) ≡ reverse ns
whole_is ns i = sym (reverse-append (take i ns) (drop i ns)) ∙ ap (λ (z : List Numbered). reverse z) (take-append-drop i ns)

longer : (C : SessionConfig) (later H : List Numbered) (e : TraceFault) → IsTraceFault C H e → IsTraceFault C (later ++ H) e
longer C later H (Illegal place rule) f = record {
  after = later ++ f.after;
  entry = f.entry;
  before = f.before;
  whole = ap (λ (z : List Numbered). later ++ z) f.whole ∙ sym (append_assoc later f.after (f.entry ∷ f.before));
  legal = f.legal;
  breaks = f.breaks;
  number_is = f.number_is;
}
longer C later H Memory f = f

pub fault_of_all : (C : SessionConfig) (ns : List Numbered) (i : ℕ) (d : Numbered) (e : TraceFault) → i < length ns → IsTraceFault C (get_or ns i d ∷ reverse (take i ns)) e → IsTraceFault C (reverse ns) e
fault_of_all C ns i d e h f =
    subst (λ (z : List Numbered). IsTraceFault C z e) (ap (λ (z : List Numbered). reverse (drop (i + 1) ns) ++ z) (one_more ns i d h) ∙ whole_is ns (i + 1))
    (longer C (reverse (drop (i + 1) ns)) (get_or ns i d ∷ reverse (take i ns)) e f)
