-- The target's side of a login (RFC 7143, sections 6.3 and 11.12): what becomes of each PDU that comes before it is done. For one
-- request the order is: the opcode, the stages, the length of the text, the count of requests, the C bit, the text, a target that has
-- moved, the names, the authentication, and the values of keys.
use Rattle.std.specs.Prelude.{ℕ, Bool, true, false, not, ◌&&◌, ◌||◌, ◌==◌, ◌+◌, ◌%◌, ◌^◌, Option, Some, None, is_some, List, [], ◌++◌, length, nat_lt, nat_le, if◌then◌else◌}
use Rattle.oi_base.specs.Serials.{successor}
use Rattle.oi_base.specs.declared.login.Params.{Params}
use Rattle.oi_base.specs.declared.serial.Serial.{Serial}
use Rattle.oi_negotiate.specs.Negotiated.{negotiated, refused_key}
use Rattle.oi_pdu.specs.declared.codec.Pdu.{Pdu}
use Rattle.oi_pdu.specs.declared.header.Header.{Header}
use Rattle.oi_pdu.specs.declared.header.Header.TheVariants as head
use Rattle.oi_pdu.specs.declared.header.LoginRequest.{LoginRequest}
use Rattle.oi_text.specs.Pairs.{text_of}
use Rattle.oi_text.specs.declared.pairs.Pair.{Pair}
use Rattle.rand_chacha.specs.ChaCha.{ChaCha}
use Rattle.oi_target_login.specs.Answers.{address_keys, answers, declared_keys, group_keys, target_offer}
use Rattle.oi_target_login.specs.Chap.{asked_of, drawn, is_passed, secured, unsecured}
use Rattle.oi_target_login.specs.Names.{initiator_error, is_sent_away, naming, out_of_resources, status}
use Rattle.oi_target_login.specs.Texts.{text_pairs}
use Rattle.oi_target_login.specs.declared.answer.Answer.{Answer}
use Rattle.oi_target_login.specs.declared.answer.Verdict.TheVariants.{Going, Closed, Done}
use Rattle.oi_target_login.specs.declared.call.Call.{Call}
use Rattle.oi_target_login.specs.declared.chap.Step.{Step}
use Rattle.oi_target_login.specs.declared.chap.Step.TheVariants.{Stands, Fails}
use Rattle.oi_target_login.specs.declared.config.LoginRules.{LoginRules}
use Rattle.oi_target_login.specs.declared.config.Moved.{Moved}
use Rattle.oi_target_login.specs.declared.names.Naming.{Naming}
use Rattle.oi_target_login.specs.declared.names.Naming.TheVariants.{Known, Unknown}
use Rattle.oi_target_login.specs.declared.progress.Auth.{Auth}
use Rattle.oi_target_login.specs.declared.progress.Auth.TheVariants.{Unasked}
use Rattle.oi_target_login.specs.declared.progress.Progress.{Progress}
use Rattle.oi_target_login.specs.declared.progress.Stage.{Stage}
use Rattle.oi_target_login.specs.declared.progress.Stage.TheVariants.{Security, Operational}
use Rattle.oi_target_login.specs.declared.progress.Who.{Who}
use Rattle.oi_target_login.specs.declared.status.Status.{Status}

-- nothing was said yet; the next response has this StatSN
abbrev pub fresh : Serial → Progress
fresh stat = record { stage = Security; who = None; auth = Unasked; text = []; pairs = []; turns = 0; stat = stat }

-- the text so far, joined with that of a further request
abbrev pub heard : Progress → List ℕ → Progress
heard p payload = record {
  stage = p.stage;
  who = p.who;
  auth = p.auth;
  text = p.text ++ payload;
  pairs = p.pairs;
  turns = p.turns;
  stat = p.stat;
}

-- a request, and what its response needs besides: its StatSN, its number and the handle of a session
abbrev pub call_of : ℕ → Progress → LoginRequest → Call
call_of handle p h = record { head = h; stat = p.stat; turns = p.turns; handle = handle }

abbrev pub next_stat : Call → Serial
next_stat c = record { 0 = successor c.stat.0 }

abbrev pub success : Status
success = status 0 0

-- the response to a request
abbrev pub response : Call → Status → Bool → ℕ → List ℕ → Pdu
response c s transit tsih text = record {
  head = head.LoginResponse (record {
    transit = transit;
    more = false;
    csg = c.head.csg;
    nsg = if transit then c.head.nsg else 0;
    isid = c.head.isid;
    tsih = tsih;
    tag = c.head.tag;
    stat = c.stat;
    exp = c.head.cmdsn;
    max = record { 0 = (c.head.cmdsn.0 + 31) % 2 ^ 32 };
    class = s.class;
    detail = s.detail;
  });
  payload = text;
}

-- a text of more than 65,536 bytes
abbrev pub is_long : List ℕ → Bool
is_long text = nat_lt 65536 (length text)

-- 32 requests came before this one
abbrev pub is_last : Progress → Bool
is_last p = nat_le 32 p.turns

abbrev pub stage_number : Stage → ℕ
stage_number Security = 0
stage_number Operational = 1

-- the login may begin in either stage
abbrev pub is_beginning : Option Who → Bool
is_beginning None = true
is_beginning (Some who) = false

-- a stage that a request may ask for: the full feature phase is 3
abbrev pub leads_on : LoginRequest → Bool
leads_on h = h.nsg == 3 || h.csg == 0 && h.nsg == 1

-- the request is of the stage in which the login is, and asks for a stage behind it
abbrev pub is_due : Progress → LoginRequest → Bool
is_due p h = (h.csg == stage_number p.stage || is_beginning p.who && h.csg == 1) && (not h.transit || leads_on h)

-- the login is refused or sent away, and a new one may begin
abbrev pub refused : Call → Status → List ℕ → Answer
refused c s text = record { progress = fresh (next_stat c); pdu = Some (response c s false 0 text); verdict = Going }

-- a PDU that is none of a login closes the connection, and so does a text that is no list of pairs
abbrev pub closing : Serial → Answer
closing stat = record { progress = fresh stat; pdu = None; verdict = Closed }

-- the text goes on in the next request
abbrev pub asked_on : Call → Progress → Answer
asked_on c p = record {
  progress = record { stage = p.stage; who = p.who; auth = p.auth; text = p.text; pairs = p.pairs; turns = p.turns + 1; stat = next_stat c };
  pdu = Some (response c success false 0 []);
  verdict = Going;
}

-- the next stage is granted where the request asks for it, and the initiator has shown who it is
abbrev pub is_granted : LoginRequest → Auth → Bool
is_granted h auth = h.transit && is_passed auth

abbrev pub stage_after : LoginRequest → Bool → Stage
stage_after h transit = if transit || h.csg == 1 then Operational else Security

-- the login goes on with all pairs so far
abbrev pub goes_on : Call → Who → Auth → List Pair → List ℕ → Answer
goes_on c who auth all text = record {
  progress = record {
    stage = stage_after c.head (is_granted c.head auth);
    who = Some who;
    auth = auth;
    text = [];
    pairs = all;
    turns = c.turns + 1;
    stat = next_stat c;
  };
  pdu = Some (response c success (is_granted c.head auth) 0 text);
  verdict = Going;
}

-- the full feature phase: the session is opened
abbrev pub opened : Call → Who → Params → List ℕ → Answer
opened c who params text = record {
  progress = fresh (next_stat c);
  pdu = Some (response c success true c.handle text);
  verdict = Done (record { who = who; params = params; exp = c.head.cmdsn; stat = next_stat c });
}

abbrev pub ends_login : LoginRequest → Auth → Bool
ends_login h auth = is_granted h auth && h.nsg == 3

-- an answer that can be sent
abbrev pub answered_with : Call → Who → Params → List Pair → Auth → List ℕ → Answer
answered_with c who params all auth text =
    if is_long text then refused c out_of_resources []
    else (if ends_login c.head auth then opened c who params text else goes_on c who auth all text)

-- the text of a response: what comes first, the keys of the authentication, the answers, the target's own length
abbrev pub response_text : LoginRequest → Params → List ℕ → Auth → List ℕ → List Pair → List ℕ
response_text h params front auth text pairs =
    ((front ++ text) ++ text_of (answers params pairs)) ++ text_of (declared_keys (ends_login h auth))

-- where the authentication stands, all pairs settle the keys; a key with a bad value is looked at behind it
abbrev pub answered : Call → Who → List ℕ → List Pair → List Pair → Option (List ℕ) → Step → Answer
answered c who front pairs all key (Fails s) = refused c s []
answered c who front pairs all (Some key) (Stands auth text) = refused c initiator_error []
answered c who front pairs all None (Stands auth text) =
    answered_with c who (negotiated target_offer all) all auth (response_text c.head (negotiated target_offer all) front auth text pairs)

-- where the authentication stands after these pairs
abbrev pub authed : LoginRules → LoginRequest → Auth → Bool → ChaCha → List Pair → Step
authed r h auth discovers words pairs =
    if h.csg == 0 then secured (asked_of r discovers) auth h.transit words pairs else unsecured (is_some (asked_of r discovers)) auth

-- a challenge is drawn in the security stage alone
abbrev pub words_after : LoginRequest → Auth → ChaCha → List Pair → ChaCha
words_after h auth words pairs = if h.csg == 0 then drawn auth words pairs else words

-- what becomes of a request, and the words that are left
pub record Turn : Type 0 where
  pub answer : Answer
  pub words : ChaCha

abbrev pub undrawn : ChaCha → Answer → Turn
undrawn words answer = record { answer = answer; words = words }

-- the initiator is known, how far its authentication is, and its pairs before this request and in it
abbrev pub known_as : LoginRules → Call → Who → Auth → ChaCha → List ℕ → List Pair → List Pair → Turn
known_as r c who auth words front earlier pairs = record {
  answer = answered c who front pairs (earlier ++ pairs) (refused_key (earlier ++ pairs)) (authed r c.head auth who.discovers words pairs);
  words = words_after c.head auth words pairs;
}

abbrev pub begun : LoginRules → Call → Auth → ChaCha → List Pair → List Pair → Naming → Turn
begun r c auth words earlier pairs (Unknown s) = undrawn words (refused c s [])
begun r c auth words earlier pairs (Known who) = known_as r c who auth words (text_of (group_keys r.tag who.discovers)) earlier pairs

-- class 1, with the portal at which the target is found
abbrev pub sent_away : Call → Option Moved → Answer
sent_away c None = refused c initiator_error []
sent_away c (Some moved) =
    if is_long (text_of (address_keys moved.portal)) then refused c out_of_resources []
    else refused c (status 1 moved.detail) (text_of (address_keys moved.portal))

abbrev pub began : LoginRules → Call → Auth → ChaCha → List Pair → List Pair → Turn
began r c auth words earlier pairs =
    if is_sent_away r pairs then undrawn words (sent_away c r.moved) else begun r c auth words earlier pairs (naming r c.head pairs)

abbrev pub told_by : LoginRules → Call → Auth → ChaCha → List Pair → List Pair → Option Who → Turn
told_by r c auth words earlier pairs None = began r c auth words earlier pairs
told_by r c auth words earlier pairs (Some who) = known_as r c who auth words [] earlier pairs

abbrev pub told : LoginRules → Call → Progress → ChaCha → Option (List Pair) → Turn
told r c p words None = undrawn words (closing c.stat)
told r c p words (Some pairs) = told_by r c p.auth words p.pairs pairs p.who

-- a Login Request, whose text stands behind what came before it
abbrev pub requested : LoginRules → Call → Progress → ChaCha → Turn
requested r c p words =
    if not (is_due p c.head) || is_long p.text || is_last p then undrawn words (refused c initiator_error [])
    else (if c.head.more then undrawn words (asked_on c p)
    else told r c p words (text_pairs p.text))

abbrev pub turned_by : LoginRules → ℕ → Progress → Header → List ℕ → ChaCha → Turn
turned_by r handle p (head.LoginRequest h) payload words = requested r (call_of handle p h) (heard p payload) words
turned_by r handle p h payload words = undrawn words (closing p.stat)

-- what becomes of one PDU in a login; a session that it opens has this handle
abbrev pub turned : LoginRules → ℕ → Progress → Pdu → ChaCha → Turn
turned r handle p request words = turned_by r handle p request.head request.payload words
