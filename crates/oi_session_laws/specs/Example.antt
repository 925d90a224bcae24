-- One permitted history of a session, so that the laws speak of something: a command is sent, a logout is asked for, and its
-- request is sent; the connection is lost, and on the next one the command is sent again and answered; another request
-- comes in, and the session ends.
use Rattle.std.specs.Prelude.{◌≡◌, pos, true, false, List, [], ◌∷◌}
use Rattle.oi_base.specs.declared.login.Params.{Params}
use Rattle.oi_base.specs.declared.tag.Tag.{Tag}
use Rattle.oi_history.specs.Configs.{IsValidConfig}
use Rattle.oi_history.specs.Meanings.{handed_so_far}
use Rattle.oi_history.specs.Permitted.{ArePermitted}
use Rattle.oi_history.specs.declared.config.SessionConfig.{SessionConfig}
use Rattle.oi_history.specs.declared.event.Event.TheVariants.{Submit, PduIn, Deliver, Login, Issue, Reap, Logout, Leave, Lost, Terminate}
use Rattle.oi_history.specs.declared.event.Numbered.{Numbered}
use Rattle.oi_history.specs.declared.fate.Delivered.{Delivered}
use Rattle.oi_history.specs.declared.fate.Outcome.TheVariants.{Answered, Host}
use Rattle.oi_history.specs.declared.phase.End.TheVariants.{Asked}
use Rattle.oi_history.specs.declared.phase.LostCause.TheVariants.{Cut}
use Rattle.oi_pdu.specs.declared.codec.Pdu.{Pdu}
use Rattle.oi_pdu.specs.declared.header.Header.TheVariants.{ScsiResponse}
use Rattle.oi_recovery.specs.declared.hit.Residual.TheVariants.{Exact}
use Rattle.oi_recovery.specs.declared.host_code.HostCode.TheVariants.{NoConnect}
use Rattle.oi_scsi.specs.declared.request.Kind.TheVariants.{Unit as TestUnit}
use Rattle.oi_scsi.specs.declared.request.Request.{Request}

abbrev pub example_config : SessionConfig
example_config = record {
  sid = 1;
  tries = 3;
  replacement = pos 120;
  noop_interval = 5;
  noop_timeout = 5;
  abort = 15;
  lun_reset = 30;
  target_reset = 30;
  logout = 15;
  cmds_max = 2;
  steps = 1000;
  kept = 4096;
  queue_depth = 1;
  count_disrupted = true;
}

abbrev pub example_params : Params
example_params = record {
  initial_r2t = true;
  immediate = true;
  max_send = 8192;
  max_recv = 8192;
  max_burst = 262144;
  first_burst = 65536;
  outstanding = 1;
  time2wait = 2;
  time2retain = 20;
}

abbrev pub example_request : Request
example_request = record { lun = 0; kind = TestUnit }

-- the status GOOD to the command with this tag
abbrev pub example_response : Tag → Pdu
example_response tag = record {
  head = ScsiResponse (record {
    over = false;
    under = false;
    response = 0;
    status = 0;
    tag = tag;
    stat = record { 0 = 1 };
    exp = record { 0 = 6 };
    max = record { 0 = 20 };
    exp_number = 0;
    residual = 0;
  });
  payload = [];
}

-- the newest entry first
abbrev pub example_history : List Numbered
example_history =
    record { number = 14; event = Deliver 1 }
    ∷ record { number = 13; event = Terminate Asked }
    ∷ record { number = 12; event = Reap (record { 0 = 268435456 }) }
    ∷ record { number = 11; event = Submit 1 example_request }
    ∷ record { number = 10; event = Deliver 1 }
    ∷ record { number = 9; event = PduIn 2 (example_response (record { 0 = 268435456 })) }
    ∷ record { number = 8; event = Issue 0 2 (record { 0 = 268435456 }) 5 }
    ∷ record { number = 7; event = Login 2 example_params 5 20 1 }
    ∷ record { number = 6; event = Lost 1 Cut }
    ∷ record { number = 5; event = Logout 1 (record { 0 = 134217728 }) }
    ∷ record { number = 4; event = Leave }
    ∷ record { number = 3; event = Issue 0 1 (record { 0 = 0 }) 1 }
    ∷ record { number = 2; event = Login 1 example_params 1 20 1 }
    ∷ record { number = 1; event = Submit 0 example_request }
    ∷ []

-- the first request is handed out with its answer, the second one with the end of the session
abbrev pub example_outcomes : List Delivered
example_outcomes = record { id = 0; outcome = Answered 0 Exact [] [] } ∷ record { id = 1; outcome = Host NoConnect } ∷ []

abbrev pub ExampleIsPermitted : Type 0
ExampleIsPermitted = IsValidConfig example_config × ArePermitted example_config example_history × (handed_so_far example_config example_history ≡ example_outcomes)
