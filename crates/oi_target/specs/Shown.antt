-- At a target that asks for CHAP a normal session stands only for an initiator that has shown who it is (RFC 7143, section 12.1.3).
use Rattle.std.specs.Prelude.{◌≡◌, ℕ, true, false, Some, List, [], ◌∷◌, ◌++◌, ◌⊎◌}
use Rattle.oi_pdu.specs.declared.codec.Pdu.{Pdu}
use Rattle.oi_text.specs.declared.pairs.Pair.{Pair}
use Rattle.oi_target.specs.Steps.{stepped}
use Rattle.oi_target.specs.Targets.{Target, session_of}
use Rattle.oi_target.specs.declared.link.Serving.{Serving}
use Rattle.oi_target.specs.declared.link.Standing.TheVariants as standing
use Rattle.oi_target_login.specs.Chap.{is_proved}
use Rattle.oi_target_login.specs.Logins.{fresh, turned}
use Rattle.oi_target_login.specs.Texts.{text_pairs}
use Rattle.oi_target_login.specs.declared.answer.Answer.{Answer}
use Rattle.oi_target_login.specs.declared.answer.NewSession.{NewSession}
use Rattle.oi_target_login.specs.declared.answer.Verdict.TheVariants.{Done}
use Rattle.oi_target_login.specs.declared.config.ChapConfig.{ChapConfig}
use Rattle.oi_target_login.specs.declared.config.LoginRules.{LoginRules}
use Rattle.oi_target_login.specs.declared.progress.Auth.TheVariants.{Challenged, Passed}
use Rattle.oi_target_login.specs.declared.progress.Progress.{Progress}
use Rattle.oi_target_login.specs.declared.progress.Who.{Who}
use Rattle.rand_chacha.specs.ChaCha.{ChaCha}

-- a PDU of a connection that logs in, and what the target had as it came: the handle of the next session, and the words for challenges
pub record Heard : Type 0 where
  pub handle : ℕ
  pub words : ChaCha
  pub pdu : Pdu

abbrev pub answer_to : LoginRules → Progress → Heard → Answer
answer_to r p h = (turned r h.handle p h.pdu h.words).answer

-- a login after PDUs, of which the newest stands first
abbrev pub login_after : LoginRules → List Heard → Progress
login_after r [] = fresh (record { 0 = 1 })
login_after r (h ∷ hs) = (answer_to r (login_after r hs) h).progress

-- this initiator was challenged in this login, and the PDU ends a text with the right answer
pub record Proves (chap : ChapConfig) (who : Who) (p : Progress) (pdu : Pdu) : Type 0 where
  pub id : ℕ
  pub challenge : List ℕ
  pub pairs : List Pair
  pub known : p.who ≡ Some who
  pub asked : p.auth ≡ Challenged id challenge
  pub told : text_pairs (p.text ++ pdu.payload) ≡ Some pairs
  pub right : is_proved chap id challenge pairs ≡ true

-- in the login that goes on this initiator proved who it is, by the newest PDU or by one before it
abbrev pub HasProved : LoginRules → ChapConfig → Who → List Heard → Type 0
HasProved r chap who [] = ⊥
HasProved r chap who (h ∷ hs) =
    Proves chap who (login_after r hs) h.pdu
    ⊎ (((login_after r hs).who ≡ Some who) × ((login_after r hs).auth ≡ Passed) × HasProved r chap who hs)

-- a login leads to a normal session only so, whatever the target had at each PDU
abbrev pub OnlyProvedLogIn : Type 0
OnlyProvedLogIn =
    (r : LoginRules) (chap : ChapConfig) (h : Heard) (hs : List Heard) (s : NewSession) → r.chap ≡ Some chap
    → (answer_to r (login_after r hs) h).verdict ≡ Done s → s.who.discovers ≡ false → HasProved r chap s.who (h ∷ hs)

-- and a connection that logs in is served only as the session that its login led to
abbrev pub OnlyLoggedInAreServed : Type 0
OnlyLoggedInAreServed =
    (t : Target) (p : Progress) (pdu : Pdu) (v : Serving) → (stepped t (standing.LoggingIn p) pdu).standing ≡ standing.Serving v
    → (s : NewSession) × ((turned t.rules t.handle p pdu t.words).answer.verdict ≡ Done s) × (v.session ≡ session_of s)
