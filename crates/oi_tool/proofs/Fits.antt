-- Whether the tool carries a command out by itself is told by the options that ask for it.
use Rattle.std.proofs.Common.{◌≡◌, ◌∙◌, ◌||◌, ℕ, Bool, true, false, true≢false, not, List, Option, Some, None, Result, Ok, Err, refl, sym, ap, subst}
use Rattle.std.specs.Prelude.{is_some, ◌↔◌, IfOk, IsTrue}
use Rattle.oi_base.specs.declared.memory.NoMemory.{NoMemory}
use Rattle.oi_words.specs.declared.options.Options.{Options}
use Rattle.oi_words.specs.declared.fault.WordsFault.{WordsFault}
use Rattle.oi_words.specs.declared.fault.WordsFault.TheVariants.{Invalid, Memory}
use Rattle.oi_nodedb.specs.Answers.{IsSetting}
use Rattle.oi_nodedb.specs.declared.filter.Filter.{Filter}
use Rattle.oi_admin.specs.Applies.{needs_daemon}
use Rattle.oi_admin.specs.Commands.{AreWordsOf, IsCommand, delete, discover, list, login, logout, new, sessions, show, update}
use Rattle.oi_admin.specs.Readings.{IsReadBy}
use Rattle.oi_admin.specs.declared.command.AdminCommand.{AdminCommand}
use Rattle.oi_admin.specs.declared.command.AdminCommand.TheVariants.{Discover, List as ListRecords, Show, Update, Delete, New, Login, Logout, Sessions}
use Rattle.oi_tool.specs.Asking.{Ask, IsFit, IsKnown, setting_of}

abbrev wants : Options → Bool
wants o = o.login || (o.logout || is_some o.discovery)

abbrev pairs : Option (List ℕ) → Option (List ℕ) → Option (List ℕ × List ℕ)
pairs None v = None
pairs (Some n) None = None
pairs (Some n) (Some v) = Some (n, v)

abbrev gives : Options → Option (List ℕ × List ℕ)
gives o = pairs o.name o.value

daemon_of : (o : Options) (c : AdminCommand) → IsCommand o c → needs_daemon c ≡ wants o
daemon_of o _ (discover kind text portal tag e kinds place) = sym (ap wants e)
daemon_of o _ (list f e by) = sym (ap wants e)
daemon_of o _ (show f e by) = sym (ap wants e)
daemon_of o _ (update f n v e by) = sym (ap wants e)
daemon_of o _ (delete f e by) = sym (ap wants e)
daemon_of o _ (new target text iface portal tag e name place face) = sym (ap wants e)
daemon_of o _ (login f e by) = sym (ap wants e)
daemon_of o _ (logout f e by) = sym (ap wants e)
daemon_of o _ (sessions e) = sym (ap wants e)

setting_is : (o : Options) (c : AdminCommand) → IsCommand o c → setting_of c ≡ gives o
setting_is o _ (discover kind text portal tag e kinds place) = sym (ap gives e)
setting_is o _ (list f e by) = sym (ap gives e)
setting_is o _ (show f e by) = sym (ap gives e)
setting_is o _ (update f n v e by) = sym (ap gives e)
setting_is o _ (delete f e by) = sym (ap gives e)
setting_is o _ (new target text iface portal tag e name place face) = sym (ap gives e)
setting_is o _ (login f e by) = sym (ap gives e)
setting_is o _ (logout f e by) = sym (ap gives e)
setting_is o _ (sessions e) = sym (ap gives e)

fit_same : (o : Options) (c d : AdminCommand) → IsCommand o c → IsCommand o d → IsFit d → IsFit c
fit_same o c d isc isd fit = record {
  alone = daemon_of o c isc ∙ sym (daemon_of o d isd) ∙ fit.alone;
  known = subst IsKnown (setting_is o d isd ∙ sym (setting_is o c isc)) fit.known;
}

same_options : (o p : Options) → Some o ≡ Some p → o ≡ p
same_options o p e = cc

-- words of a command that does not fit ask for none that fits
pub fits_all : (words : List (List ℕ)) (c d : AdminCommand) → AreWordsOf words c → Ask words d → IsFit c
fits_all words c d of ask =
    let same : of.0 ≡ ask.0.0 = same_options of.0 ask.0.0 (sym of.1 ∙ ask.0.1) in
    fit_same ask.0.0 c d (subst (λ (o : Options). IsCommand o c) same of.2) ask.0.2 ask.1

-- words that ask for no command, or for one that does not fit, are refused
pub ask_refused : (words : List (List ℕ)) (f : WordsFault) → IsReadBy (AreWordsOf words) (Err f) → IsReadBy (Ask words) (Err f)
ask_refused words Invalid outside = λ command ask. outside command ask.0
ask_refused words Memory outside = tt

pub ask_fits : (words : List (List ℕ)) (c : AdminCommand) (b : Bool) → b ≡ true → AreWordsOf words c → (IsTrue b ↔ IsFit c) → Ask words c
ask_fits words c b is of fits = (of, fits.0 is)

pub ask_unfit : (words : List (List ℕ)) (c : AdminCommand) (b : Bool) → b ≡ false → AreWordsOf words c → (IsTrue b ↔ IsFit c) → (d : AdminCommand) → Ask words d → ⊥
ask_unfit words c b is of fits d ask = true≢false (sym (fits.1 (fits_all words c d of ask)) ∙ is)

-- an update
pub update_fits : (c : AdminCommand) (f : Filter) (name value : List ℕ) → c ≡ Update f name value → IsSetting name value → IsFit c
update_fits c f name value is setting = subst IsFit (sym is) (record { alone = refl; known = setting })

pub update_known : (c : AdminCommand) (f : Filter) (name value : List ℕ) → c ≡ Update f name value → IsFit c → IsSetting name value
update_known c f name value is fit = (subst IsFit is fit).known

pub update_told : (c : AdminCommand) (f : Filter) (name value : List ℕ) (r : Result Bool NoMemory) → c ≡ Update f name value → IfOk r (λ b. IsTrue b ↔ IsSetting name value)
    → IfOk r (λ b. IsTrue b ↔ IsFit c)
update_told c f name value (Ok b) is told = (λ yes_it. update_fits c f name value is (told.0 yes_it), λ fit. told.1 (update_known c f name value is fit))
update_told c f name value (Err e) is told = tt

-- another command
pub other_fits : (c : AdminCommand) → ((f : Filter) (name value : List ℕ) → c ≡ Update f name value → ⊥) → needs_daemon c ≡ false → IsFit c
other_fits (Update f name value) other alone = absurd (other f name value refl)
other_fits (Discover portal) other alone = record { alone = alone; known = tt }
other_fits (ListRecords f) other alone = record { alone = alone; known = tt }
other_fits (Show f) other alone = record { alone = alone; known = tt }
other_fits (Delete f) other alone = record { alone = alone; known = tt }
other_fits (New key) other alone = record { alone = alone; known = tt }
other_fits (Login f) other alone = record { alone = alone; known = tt }
other_fits (Logout f) other alone = record { alone = alone; known = tt }
other_fits Sessions other alone = record { alone = alone; known = tt }

pub other_told : (c : AdminCommand) (b : Bool) → ((f : Filter) (name value : List ℕ) → c ≡ Update f name value → ⊥) → b ≡ needs_daemon c → IsTrue (not b) ↔ IsFit c
other_told c b other is = (λ free. other_fits c other (sym is ∙ off b free), λ fit. ap not (is ∙ fit.alone))
  where
    off : (b : Bool) → not b ≡ true → b ≡ false
    off false e = refl
    off true e = absurd (true≢false (sym e))
