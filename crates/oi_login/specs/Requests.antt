-- Login requests (RFC 7143, section 11.12).
use Rattle.std.specs.Prelude.{ℕ, Bool, false, List, if◌then◌else◌}
use Rattle.oi_pdu.specs.declared.codec.Pdu.{Pdu}
use Rattle.oi_pdu.specs.declared.header.Header.TheVariants.{LoginRequest}
use Rattle.oi_login.specs.Stages.{stage_number, next_number}
use Rattle.oi_login.specs.declared.progress.Stage.{Stage}

-- a request of a stage with this T bit, ExpStatSN and text: a new session, task tag 0, connection 0, CmdSN 1
abbrev pub request_of : List ℕ → Stage → Bool → ℕ → List ℕ → Pdu
request_of isid stage transit exp_stat text = record {
  head = LoginRequest (record {
    transit = transit;
    more = false;
    csg = stage_number stage;
    nsg = if transit then next_number stage else 0;
    isid = isid;
    tsih = 0;
    tag = record { 0 = 0 };
    cid = 0;
    cmdsn = record { 0 = 1 };
    exp_stat = record { 0 = exp_stat };
  });
  payload = text;
}
