use Rattle.oi_sendtargets.proofs.Once.{one_found, no_fault, one_place}
use Rattle.oi_sendtargets.proofs.ReadBack.{read_back}
use Rattle.oi_sendtargets.proofs.laws.targets_read_back.Goals as goal

pub returns-clause-one : goal.returns-clause-one
returns-clause-one c = one_found

pub returns-clause-well_formed : goal.returns-clause-well_formed
returns-clause-well_formed c = no_fault

pub returns-clause-one_place : goal.returns-clause-one_place
returns-clause-one_place c = one_place

pub returns-clause-written : goal.returns-clause-written
returns-clause-written c = read_back
