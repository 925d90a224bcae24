-- What becomes of the PDUs of one connection. The target's links are those of the other connections.
use Rattle.std.specs.Prelude.{Bool, true, false, List, [], ◌∷◌, ◌++◌, map}
use Rattle.oi_pdu.specs.declared.codec.Pdu.{Pdu}
use Rattle.oi_target.specs.Targets.{Target, ended_by, next_handle, nexus_of, session_of}
use Rattle.oi_target.specs.Turns.{Received, received}
use Rattle.oi_target.specs.declared.link.Serving.{Serving}
use Rattle.oi_target.specs.declared.link.Standing.{Standing}
use Rattle.oi_target.specs.declared.link.Standing.TheVariants as standing
use Rattle.oi_target_login.specs.Logins.{Turn, turned}
use Rattle.oi_target_login.specs.Runs.{pdus_of}
use Rattle.oi_target_login.specs.declared.answer.Answer.{Answer}
use Rattle.oi_target_login.specs.declared.answer.NewSession.{NewSession}
use Rattle.oi_target_login.specs.declared.answer.Verdict.{Verdict}
use Rattle.oi_target_login.specs.declared.answer.Verdict.TheVariants as verdict
use Rattle.oi_target_session.specs.Owing.{owed_pdus, paid}
use Rattle.oi_target_session.specs.declared.fed.Fed.{Fed}
use Rattle.oi_target_session.specs.declared.fed.Fed.TheVariants.{Going, Closed}
use Rattle.rand_chacha.specs.ChaCha.{ChaCha}

-- the target, where the connection stands, what is sent on it, and whether it stays
pub record Step : Type 0 where
  pub target : Target
  pub standing : Standing
  pub sent : List Pdu
  pub fed : Fed

abbrev pub step_of : Target → Standing → List Pdu → Fed → Step
step_of t s sent fed = record { target = t; standing = s; sent = sent; fed = fed }

abbrev pub closing : Target → List Pdu → Step
closing t sent = step_of t standing.Closed sent Closed

abbrev pub with_words : Target → ChaCha → Target
with_words t words = record t { words = words }

-- a session is opened, and ends that of the same initiator port
abbrev pub opening : Target → NewSession → Target
opening t s = record t { handle = next_handle t.handle; links = map (ended_by (nexus_of s.who)) t.links }

abbrev pub logged_in_by : Target → Answer → Verdict → Step
logged_in_by t a verdict.Going = step_of t (standing.LoggingIn a.progress) (pdus_of a.pdu) Going
logged_in_by t a verdict.Closed = closing t (pdus_of a.pdu)
logged_in_by t a (verdict.Done s) =
    step_of (opening t s) (standing.Serving (record { session = session_of s; held = []; owed = [] })) (pdus_of a.pdu) Going

-- a PDU of a login
abbrev pub logged_in : Target → Turn → Step
logged_in t turn = logged_in_by (with_words t turn.words) turn.answer turn.answer.verdict

-- where a connection stands behind a PDU of its session
abbrev pub serving_by : Fed → Received → Standing
serving_by Closed r = standing.Closed
serving_by Going r = standing.Serving (record { session = r.session; held = r.held; owed = [] })

abbrev pub served_as : Received → Step
served_as r = step_of r.target (serving_by r.fed r) r.sent r.fed

abbrev pub behind : List Pdu → Step → Step
behind sent s = step_of s.target s.standing (sent ++ s.sent) s.fed

-- what is owed goes out before it
abbrev pub received_by : Serving → Target → Pdu → Received
received_by v t pdu = received t (paid v.session v.owed) v.held pdu

-- one PDU
abbrev pub stepped : Target → Standing → Pdu → Step
stepped t (standing.LoggingIn p) pdu = logged_in t (turned t.rules t.handle p pdu t.words)
stepped t (standing.Serving v) pdu = behind (owed_pdus v.session v.owed) (served_as (received_by v t pdu))
stepped t standing.Ended pdu = closing t []
stepped t standing.Closed pdu = closing t []

-- where the connection stays
abbrev pub one_then : Fed → Step → Step → Step
one_then Closed s rest = s
one_then Going s rest = behind s.sent rest

-- PDUs in the order in which they became whole, up to the one that closes the connection
abbrev pub steps : Target → Standing → List Pdu → Step
steps t s [] = step_of t s [] Going
steps t s (p ∷ ps) = one_then (stepped t s p).fed (stepped t s p) (steps (stepped t s p).target (stepped t s p).standing ps)

-- a malformed PDU closes the connection behind those before it
abbrev pub faulted_fed : Bool → Fed → Fed
faulted_fed true fed = Closed
faulted_fed false fed = fed

abbrev pub faulted_standing : Bool → Standing → Standing
faulted_standing true s = standing.Closed
faulted_standing false s = s

abbrev pub faulted : Bool → Step → Step
faulted fault s = step_of s.target (faulted_standing fault s.standing) s.sent (faulted_fed fault s.fed)
