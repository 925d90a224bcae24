use Rattle.std.proofs.Common.{sym}
use Rattle.oi_admin.proofs.Shapes.{outside, session_is}
use Rattle.oi_admin.proofs.words.command_of.Goals as goal

pub returns-then-is_session : goal.returns-then-is_session
returns-then-is_session c = session_is c.args.options.now (sym c.if-is_session.ensures)

pub returns-then-not-is_node : goal.returns-then-not-is_node
returns-then-not-is_node c = λ command is.
    outside c.args.options.now command (sym c.if-is_discovery.ensures) (sym c.if-is_session.ensures) (sym c.if-not-is_node.ensures) is
