use Rattle.std.proofs.Common.{◌≡◌, vec_len, vec_capacity, take, length}
use Rattle.oi_tags.specs.Runs.{GivesFreeTags, after_calls, answers_of}
use Rattle.oi_tags.proofs.run.run_tags.Given as goal

abbrev pub invariant-loop-call : goal.invariant-loop-call
invariant-loop-call g l = record {
  pool : g.P.TagPool.pool l.pool ≡ after_calls (g.P.TagPool.pool l.initial.pool) (take l.call-index l.calls);
  answers : l.answers.items ≡ answers_of (g.P.TagPool.pool l.initial.pool) (take l.call-index l.calls);
  counted : vec_len l.answers ≡ l.call-index;
  room : vec_capacity l.answers ≡ length l.calls;
  free : GivesFreeTags (g.P.TagPool.pool l.initial.pool) (take l.call-index l.calls) l.answers.items;
}
