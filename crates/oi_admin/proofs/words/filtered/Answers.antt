use Rattle.std.proofs.Common.{sym}
use Rattle.oi_admin.proofs.Shapes.{delete_is, list_is, login_is, logout_is, show_is}
use Rattle.oi_admin.proofs.words.filtered.Goals as goal

pub returns-then-is_list : goal.returns-then-is_list
returns-then-is_list c = list_is c.args.options.now c.args.filter c.requires.mode (sym c.if-is_list.ensures) c.requires.filter

pub returns-then-is_operation : goal.returns-then-is_operation
returns-then-is_operation c = show_is c.args.options.now c.args.filter c.requires.mode (sym c.if-is_operation.ensures) c.requires.filter

pub returns-then-is_operation-2 : goal.returns-then-is_operation-2
returns-then-is_operation-2 c = delete_is c.args.options.now c.args.filter c.requires.mode (sym c.if-is_operation-2.ensures) c.requires.filter

pub returns-then-is_login : goal.returns-then-is_login
returns-then-is_login c = login_is c.args.options.now c.args.filter c.requires.mode (sym c.if-is_login.ensures) c.requires.filter

pub returns-then-is_logout : goal.returns-then-is_logout
returns-then-is_logout c = logout_is c.args.options.now c.args.filter c.requires.mode (sym c.if-is_logout.ensures) c.requires.filter
