use Rattle.oi_settings.proofs.FreshPairs.{fresh_node}
use Rattle.oi_settings.proofs.Stops.{bad_not_stored, migrated, node_stored, one_bad_line, one_record, stored_node}
use Rattle.oi_settings.proofs.laws.texts_read_back.Goals as goal

pub returns-clause-one : goal.returns-clause-one
returns-clause-one c = one_record

pub returns-clause-bad : goal.returns-clause-bad
returns-clause-bad c = bad_not_stored

pub returns-clause-one_line : goal.returns-clause-one_line
returns-clause-one_line c = one_bad_line

pub returns-clause-well_formed : goal.returns-clause-well_formed
returns-clause-well_formed c = stored_node

pub returns-clause-written : goal.returns-clause-written
returns-clause-written c = node_stored

pub returns-clause-migration : goal.returns-clause-migration
returns-clause-migration c = migrated

pub returns-clause-fresh : goal.returns-clause-fresh
returns-clause-fresh c = fresh_node
