-- What becomes of PERSISTENT RESERVE OUT, row by row: the answer and the table afterwards (SPC-4, section 5.13).
use Rattle.std.specs.Prelude.{ℕ, not, ◌&&◌, ◌||◌, Option, Some, None, is_some, Result, Ok, Err, List, [], ◌∷◌, ◌++◌, bytes_eq, length, map, filter, ◌==◌, nat_lt, if◌then◌else◌}
use Rattle.oi_reserve.specs.Orders.{bad_parameter, no_room, order_of}
use Rattle.oi_reserve.specs.Tables.{Table, grown, has_key, is_key, key_of, key_or_zero, most_registered}
use Rattle.oi_reserve.specs.declared.answer.ReserveAnswer.{ReserveAnswer}
use Rattle.oi_reserve.specs.declared.answer.ReserveAnswer.TheVariants.{Good, Conflict, Check}
use Rattle.oi_reserve.specs.declared.entry.Holder.{Holder}
use Rattle.oi_reserve.specs.declared.entry.Registration.{Registration}
use Rattle.oi_reserve.specs.declared.order.Action.{Action}
use Rattle.oi_reserve.specs.declared.order.Action.TheVariants.{Register, Reserve, Release, Clear, Preempt, RegisterAnyway}
use Rattle.oi_reserve.specs.declared.order.Order.{Order}

pub record Outcome : Type 0 where
  pub answer : ReserveAnswer
  pub table : Table

-- the answer alone: nothing changes
abbrev pub kept : Table → ReserveAnswer → Outcome
kept t answer = record { answer = answer; table = t }

-- GOOD, with this table
abbrev pub becomes : List Registration → Option Holder → ℕ → Outcome
becomes registered holder generation = record { answer = Good; table = record { registered = registered; holder = holder; generation = generation } }

-- the registration of another nexus stays as it is, that of this one gets the key
abbrev pub rekeyed : List ℕ → ℕ → Registration → Registration
rekeyed nexus key r = record { nexus = r.nexus; key = if bytes_eq r.nexus nexus then key else r.key }

-- a holder goes where it is this nexus
abbrev pub without : List ℕ → Option Holder → Option Holder
without nexus None = None
without nexus (Some h) = if bytes_eq h.nexus nexus then None else Some h

-- register: key 0 takes the registration away, and the reservation with it; another key replaces that of the nexus, or
-- is one more registration
abbrev pub registered_as : Table → List ℕ → ℕ → Outcome
registered_as t nexus key =
    if key == 0
    then becomes (filter (λ r. not (bytes_eq r.nexus nexus)) t.registered) (without nexus t.holder) (grown t.generation)
    else (if is_some (key_of t.registered nexus)
    then becomes (map (rekeyed nexus key) t.registered) t.holder (grown t.generation)
    else (if nat_lt (length t.registered) most_registered
    then becomes (t.registered ++ record { nexus = nexus; key = key } ∷ []) t.holder (grown t.generation)
    else kept t (Check no_room)))

-- an order to release: None where the reservation ends, else the answer that changes nothing
abbrev pub release_answer : List ℕ → ℕ → Option Holder → Option ReserveAnswer
release_answer nexus form None = Some Good
release_answer nexus form (Some h) = if bytes_eq h.nexus nexus then (if h.form == form then None else Some (Check bad_parameter)) else Some Good

-- reserve: a free unit is taken; the holder may say again what it has
abbrev pub reserved_by : Table → List ℕ → ℕ → Option Holder → Outcome
reserved_by t nexus form None = becomes t.registered (Some (record { nexus = nexus; form = form })) t.generation
reserved_by t nexus form (Some h) = kept t (if bytes_eq h.nexus nexus && h.form == form then Good else Conflict)

-- release: only the holder frees the unit, and only with the type that it holds
abbrev pub released_by : Table → List ℕ → ℕ → Option Holder → Outcome
released_by t nexus form None = kept t Good
released_by t nexus form (Some h) =
    if bytes_eq h.nexus nexus
    then (if h.form == form then becomes t.registered None t.generation else kept t (Check bad_parameter))
    else kept t Good

-- clear: nobody is registered, nobody holds
abbrev pub cleared : Table → Outcome
cleared t = becomes [] None (grown t.generation)

-- a preempted holder makes room for the nexus
abbrev pub taken_over : List Registration → List ℕ → ℕ → ℕ → Option Holder → Option Holder
taken_over registered nexus form key None = None
taken_over registered nexus form key (Some h) = if key_or_zero registered h.nexus == key then Some (record { nexus = nexus; form = form }) else Some h

-- preempt: every other nexus with the key loses its registration
abbrev pub preempted : Table → List ℕ → ℕ → ℕ → Outcome
preempted t nexus form key =
    if key == 0 then kept t (Check bad_parameter)
    else (if has_key t.registered key
    then becomes (filter (λ r. bytes_eq r.nexus nexus || not (r.key == key)) t.registered) (taken_over t.registered nexus form key t.holder) (grown t.generation)
    else kept t Conflict)

-- all but the two kinds of register
abbrev pub owner_done : Action → Table → List ℕ → Order → Outcome
owner_done Register t nexus o = kept t Conflict
owner_done RegisterAnyway t nexus o = kept t Conflict
owner_done Reserve t nexus o = reserved_by t nexus o.form t.holder
owner_done Release t nexus o = released_by t nexus o.form t.holder
owner_done Clear t nexus o = cleared t
owner_done Preempt t nexus o = preempted t nexus o.form o.new_key

-- they need the caller's own key
abbrev pub if_owner : Action → Table → List ℕ → Order → Outcome
if_owner action t nexus o = if is_key (key_of t.registered nexus) o.key then owner_done action t nexus o else kept t Conflict

abbrev pub done_by : Action → Table → List ℕ → Order → Outcome
done_by Register t nexus o = if key_or_zero t.registered nexus == o.key then registered_as t nexus o.new_key else kept t Conflict
done_by RegisterAnyway t nexus o = registered_as t nexus o.new_key
done_by Reserve t nexus o = if_owner Reserve t nexus o
done_by Release t nexus o = if_owner Release t nexus o
done_by Clear t nexus o = if_owner Clear t nexus o
done_by Preempt t nexus o = if_owner Preempt t nexus o

abbrev pub judged : Table → List ℕ → Result Order ℕ → Outcome
judged t nexus (Ok o) = done_by o.action t nexus o
judged t nexus (Err code) = kept t (Check code)

-- PERSISTENT RESERVE OUT by its CDB and its parameters
abbrev pub reserve_out : Table → List ℕ → List ℕ → List ℕ → Outcome
reserve_out t nexus cdb payload = judged t nexus (order_of cdb payload)
