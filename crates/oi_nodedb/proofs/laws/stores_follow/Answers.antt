use Rattle.oi_nodedb.proofs.Agreements.{after_add, after_delete, after_update, gone_elsewhere, gone_there, put_elsewhere, put_there}
use Rattle.oi_nodedb.proofs.laws.stores_follow.Goals as goal

pub returns-clause-put : goal.returns-clause-put
returns-clause-put c = put_there

pub returns-clause-put_elsewhere : goal.returns-clause-put_elsewhere
returns-clause-put_elsewhere c = put_elsewhere

pub returns-clause-removed : goal.returns-clause-removed
returns-clause-removed c = gone_there

pub returns-clause-removed_elsewhere : goal.returns-clause-removed_elsewhere
returns-clause-removed_elsewhere c = gone_elsewhere

pub returns-clause-add : goal.returns-clause-add
returns-clause-add c = after_add

pub returns-clause-update : goal.returns-clause-update
returns-clause-update c = after_update

pub returns-clause-delete : goal.returns-clause-delete
returns-clause-delete c = after_delete
