-- What a pool answers to a list of calls.
use Rattle.std.specs.Prelude.{◌≡◌, ℕ, Some, List, [], ◌∷◌, take, slice_get, nat_lt, if◌then◌else◌}
use Rattle.std.specs.List.{fold}
use Rattle.oi_base.specs.declared.tag.Tag.{Tag}
use Rattle.oi_tags.specs.declared.state.TagState.TheVariants.{Free}
use Rattle.oi_tags.specs.declared.calls.TagCall.{TagCall}
use Rattle.oi_tags.specs.declared.calls.TagCall.TheVariants.{Reset, Take, End, Reap, State}
use Rattle.oi_tags.specs.declared.calls.TagAnswer.{TagAnswer}
use Rattle.oi_tags.specs.declared.calls.TagAnswer.TheVariants.{Done, Given, Is, Refused}
use Rattle.oi_tags.specs.Pools.{Pool, state_of, is_live, is_ended, first_of, after_reset, after_take, after_end, after_reap}

abbrev pub answer_of : Pool → TagCall → TagAnswer
answer_of p (Reset age) = if nat_lt age 16 then Done else Refused
answer_of p Take = Given (first_of p.free)
answer_of p (End tag) = if is_live (state_of p tag.0) then Done else Refused
answer_of p (Reap tag) = if is_ended (state_of p tag.0) then Done else Refused
answer_of p (State tag) = Is (state_of p tag.0)

-- a refused call changes nothing
abbrev pub after_call : Pool → TagCall → Pool
after_call p (Reset age) = if nat_lt age 16 then after_reset p age else p
after_call p Take = after_take p
after_call p (End tag) = if is_live (state_of p tag.0) then after_end p tag.0 else p
after_call p (Reap tag) = if is_ended (state_of p tag.0) then after_reap p tag.0 else p
after_call p (State tag) = p

abbrev pub after_calls : Pool → List TagCall → Pool
after_calls p calls = fold after_call p calls

-- the answers, one a call
abbrev pub answers_of : Pool → List TagCall → List TagAnswer
answers_of p [] = []
answers_of p (call ∷ calls) = answer_of p call ∷ answers_of (after_call p call) calls

-- whenever a tag is handed out, it is free after the calls before: neither live nor ended
abbrev pub GivesFreeTags : Pool → List TagCall → List TagAnswer → Type 0
GivesFreeTags p calls answers =
    (k : ℕ) (tag : Tag) → slice_get answers k ≡ Some (Given (Some tag)) → state_of (after_calls p (take k calls)) tag.0 ≡ Free
