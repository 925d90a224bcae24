use Rattle.std.proofs.Common.{◌<◌, ◌≤◌, ◌∙◌, length, arith, Some, None, Err}
use Rattle.oi_nodedb.proofs.Loading.{ReadsAt-found, ReadsAt-from, all_passed, is_new, listed_ascend, listed_paths, listed_text, loaded, step_one, step_over, stopped}
use Rattle.oi_nodedb.proofs.db.NodeDb.load.Goals as goal

pub read_record-requires : goal.read_record-requires
read_record-requires g c =
    let small : c.loop-path.path-index < length c.as_slice-found.result.now = omega arith in
    listed_text c.as_slice-found.result.now c.in-Ok.paths c.loop-path.path-index c.path-item.result c.as_slice-found.ensures c.in-Ok.ensures.lists.2 small c.path-item.is

-- nothing is at the path
pub loop-path-preserved-in-Ok-None : goal.loop-path-preserved-in-Ok-None
loop-path-preserved-in-Ok-None g c =
    let small : c.loop-path.path-index < length c.as_slice-found.result.now = omega arith in
    let reads =
    ReadsAt-found c.path-item.result c.in-Ok-None.field-0 None (g.R.RecordStore.records c.loop-path.store) (g.R.RecordStore.records c.args.store.now) (g.R.RecordStore.records c.read_record.new.store)
    c.loop-path.invariant.store c.in-Ok-None.field-0-is c.in-Ok-None.ensures.reads in
    record {
      passed =
          step_over c.as_slice-found.result.now c.loop-path.path-index c.path-item.result small c.path-item.is (g.R.RecordStore.records c.args.store.now) c.loop-path.db c.loop-path.invariant.passed reads.1;
      store = reads.0;
      faults = c.in-Ok-None.ensures.count ∙ c.loop-path.invariant.faults;
    }

pub take_in-requires : goal.take_in-requires
take_in-requires g c =
    let small : c.loop-path.path-index < length c.as_slice-found.result.now = omega arith in
    let reads =
    ReadsAt-found c.path-item.result c.in-Ok-Some.field-0 (Some c.in-Ok-Some.record) (g.R.RecordStore.records c.loop-path.store) (g.R.RecordStore.records c.args.store.now)
    (g.R.RecordStore.records c.read_record.new.store) c.loop-path.invariant.store c.in-Ok-Some.field-0-is c.in-Ok-Some.ensures.reads in
    is_new c.as_slice-found.result.now c.loop-path.path-index c.path-item.result small c.path-item.is (g.R.RecordStore.records c.args.store.now) c.loop-path.db reads.2.0 c.in-Ok-Some.record
    (listed_ascend c.as_slice-found.result.now c.in-Ok.paths c.as_slice-found.ensures c.in-Ok.ensures.lists.1) c.loop-path.invariant.passed reads.2.1

-- the record at the path comes in
pub loop-path-preserved : goal.loop-path-preserved
loop-path-preserved g c =
    let small : c.loop-path.path-index < length c.as_slice-found.result.now = omega arith in
    let reads =
    ReadsAt-found c.path-item.result c.in-Ok-Some.field-0 (Some c.in-Ok-Some.record) (g.R.RecordStore.records c.loop-path.store) (g.R.RecordStore.records c.args.store.now)
    (g.R.RecordStore.records c.read_record.new.store) c.loop-path.invariant.store c.in-Ok-Some.field-0-is c.in-Ok-Some.ensures.reads in
    record {
      passed =
          step_one c.as_slice-found.result.now c.loop-path.path-index c.path-item.result small c.path-item.is (g.R.RecordStore.records c.args.store.now) c.loop-path.db reads.2.0 c.in-Ok-Some.record
          c.take_in.new.self (listed_ascend c.as_slice-found.result.now c.in-Ok.paths c.as_slice-found.ensures c.in-Ok.ensures.lists.1) c.loop-path.invariant.passed reads.2.1 reads.2.2 c.in-Ok-take_in.ensures;
      store = reads.0;
      faults = c.in-Ok-Some.ensures.count ∙ c.loop-path.invariant.faults;
    }

-- the text at the path is bad, or the store failed
pub returns-in-Err-read_record-clause-loads : goal.returns-in-Err-read_record-clause-loads
returns-in-Err-read_record-clause-loads g c =
    let small : c.loop-path.path-index < length c.as_slice-found.result.now = omega arith in
    stopped c.as_slice-found.result.now c.loop-path.path-index c.path-item.result small c.path-item.is (g.R.RecordStore.records c.args.store.now) c.loop-path.db
    (g.R.RecordStore.records c.read_record.new.store) c.in-Err-read_record.fault
    (listed_ascend c.as_slice-found.result.now c.in-Ok.paths c.as_slice-found.ensures c.in-Ok.ensures.lists.1)
    (listed_paths c.as_slice-found.result.now c.in-Ok.paths (g.R.RecordStore.records c.args.store.now) c.as_slice-found.ensures c.in-Ok.ensures.lists.3) c.loop-path.invariant.passed
    (ReadsAt-from c.path-item.result (Err c.in-Err-read_record.fault) (g.R.RecordStore.records c.loop-path.store) (g.R.RecordStore.records c.args.store.now)
    (g.R.RecordStore.records c.read_record.new.store) c.loop-path.invariant.store c.in-Err-read_record.ensures.reads)

pub returns-clause-loads : goal.returns-clause-loads
returns-clause-loads g c =
    let all : length c.as_slice-found.result.now ≤ c.loop-path.path-index = omega arith in
    let passed =
    all_passed c.as_slice-found.result.now c.loop-path.path-index (g.R.RecordStore.records c.args.store.now) c.loop-path.db all c.loop-path.invariant.passed in (
      c.loop-path.invariant.store,
      passed.ascends,
      λ records told.
          loaded c.as_slice-found.result.now (g.R.RecordStore.records c.args.store.now) c.loop-path.db records passed told
          (listed_paths c.as_slice-found.result.now c.in-Ok.paths (g.R.RecordStore.records c.args.store.now) c.as_slice-found.ensures c.in-Ok.ensures.lists.3 records told),
    )
