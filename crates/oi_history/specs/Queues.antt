-- Data-Out that waits to be sent, and R2Ts that were not taken up yet (RFC 7143, sections 4.2.5.2, 11.7 and 11.8).
use Rattle.std.specs.Prelude.{ℕ, Bool, false, not, ◌==◌, ◌++◌, List, [], ◌∷◌, Option, Some, None, drop, filter, map, slice_get, if◌then◌else◌}
use Rattle.std.specs.List.{flat_map}
use Rattle.std.specs.Option.{option_map_or}
use Rattle.oi_base.specs.TagLayout.{reserved_tag}
use Rattle.oi_base.specs.declared.login.Params.{Params}
use Rattle.oi_base.specs.declared.tag.Tag.{Tag}
use Rattle.oi_buffer.specs.Cuts.{immediate_of, pieces, unsolicited_of}
use Rattle.oi_buffer.specs.declared.cut.Piece.{Piece}
use Rattle.oi_history.specs.Tags.{holder}
use Rattle.oi_history.specs.Tasks.{held, is_live_on}
use Rattle.oi_history.specs.declared.allocated.Allocated.{Allocated}
use Rattle.oi_history.specs.declared.event.Event.{Event}
use Rattle.oi_history.specs.declared.event.Event.TheVariants.{PduIn, Login, Issue, Push, Draw, Reap, Lost}
use Rattle.oi_history.specs.declared.owed.Queued.{Queued}
use Rattle.oi_history.specs.declared.owed.Solicited.{Solicited}
use Rattle.oi_history.specs.declared.task.Task.{Task}
use Rattle.oi_pdu.specs.declared.header.Header.{Header}
use Rattle.oi_pdu.specs.declared.header.Header.TheVariants.{R2t}

abbrev pub queued_as : ℕ → Tag → ℕ → List Piece → List Queued
queued_as id tag ttt ps = map (λ p. record { id = id; tag = tag; ttt = ttt; piece = p }) ps

-- what follows a write's command unasked: the data behind its immediate ones, up to the first burst
abbrev pub unasked_of : Params → Task → List Piece
unasked_of p t = if t.command.writes then pieces (immediate_of t.command.length p) (unsolicited_of t.command.length p) p.max_send else []

abbrev pub unasked : Option Params → ℕ → Tag → Option Task → List Queued
unasked (Some p) id tag (Some t) = queued_as id tag reserved_tag (unasked_of p t)
unasked None id tag t = []
unasked p id tag None = []

-- an R2T counts while the submission of its tag is live on it
abbrev pub is_wanted : List Allocated → List Task → Solicited → Bool
is_wanted busy tasks r = option_map_or (λ t. is_live_on r.tag.0 t.fate) (held r.tag.0 busy tasks) false

abbrev pub drawable : List Allocated → List Task → List Solicited → List Solicited
drawable busy tasks rs = filter (λ r. is_wanted busy tasks r) rs

-- the pieces that it asks for
abbrev pub drawn_by : Option Params → List Allocated → Solicited → List Queued
drawn_by None busy r = []
drawn_by (Some p) busy r = option_map_or (λ id. queued_as id r.tag r.ttt (pieces r.offset r.length p.max_send)) (holder r.tag.0 busy) []

abbrev pub drawn : Option Params → List Allocated → List Task → List Solicited → List Queued
drawn params busy tasks rs = flat_map (λ r. drawn_by params busy r) (drawable busy tasks rs)

-- the queue, in the order in which its pieces were asked for
abbrev pub queue_step : Option Params → List Allocated → List Task → List Solicited → Event → List Queued → List Queued
queue_step params busy tasks rs (Login generation given cmdsn max exp_stat) queue = []
queue_step params busy tasks rs (Lost generation cause) queue = []
queue_step params busy tasks rs (Issue id generation tag cmdsn) queue = queue ++ unasked params id tag (slice_get tasks id)
queue_step params busy tasks rs (Draw count) queue = queue ++ drawn params busy tasks rs
queue_step params busy tasks rs (Push id generation ttt number offset size last) queue = drop 1 queue
queue_step params busy tasks rs (Reap tag) queue = filter (λ q. not (q.tag.0 == tag.0)) queue
queue_step params busy tasks rs e queue = queue

-- R2Ts that were received and not taken up, in order of arrival
abbrev pub solicited_told : Header → List Solicited → List Solicited
solicited_told (R2t h) rs = rs ++ record { tag = h.tag; ttt = h.ttt; offset = h.offset; length = h.length } ∷ []
solicited_told head rs = rs

abbrev pub solicited_step : Bool → Event → List Solicited → List Solicited
solicited_step accepted (Login generation params cmdsn max exp_stat) rs = []
solicited_step accepted (Lost generation cause) rs = []
solicited_step accepted (Draw count) rs = []
solicited_step accepted (Reap tag) rs = filter (λ r. not (r.tag.0 == tag.0)) rs
solicited_step accepted (PduIn generation pdu) rs = if accepted then solicited_told pdu.head rs else rs
solicited_step accepted e rs = rs
