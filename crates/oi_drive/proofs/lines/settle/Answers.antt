use Rattle.oi_drive.proofs.Parts.{refused_then}
use Rattle.oi_script.specs.Notices.{refused_text}
use Rattle.oi_drive.proofs.lines.settle.Goals as goal

pub returns-in-Ok : goal.returns-in-Ok
returns-in-Ok c =
    refused_then c.in-Refused.word c.args.line c.args.solo.now c.hand_out-in-Refused.new.solo c.args.out.now.items c.say.new.out.items c.hand_out-in-Refused.new.out.items c.args.answer c.in-Ok.field-0
    c.hand_out-in-Refused.result c.in-Refused.is (c.in-Ok.ensures c.args.solo.now (refused_text c.args.line c.in-Refused.word) c.refused_line.ensures) c.hand_out-in-Refused.ensures
