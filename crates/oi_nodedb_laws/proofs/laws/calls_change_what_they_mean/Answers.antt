use Rattle.oi_nodedb_laws.proofs.Stopped.{delete_stops, delete_touches, update_stops, update_touches}
use Rattle.oi_nodedb_laws.proofs.laws.calls_change_what_they_mean.Goals as goal

pub returns-clause-update : goal.returns-clause-update
returns-clause-update c = update_touches

pub returns-clause-delete : goal.returns-clause-delete
returns-clause-delete c = delete_touches

pub returns-clause-stopped_update : goal.returns-clause-stopped_update
returns-clause-stopped_update c = update_stops

pub returns-clause-stopped_delete : goal.returns-clause-stopped_delete
returns-clause-stopped_delete c = delete_stops
