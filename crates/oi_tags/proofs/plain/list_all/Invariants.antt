use Rattle.std.proofs.Common.{◌≡◌, vec_len, vec_capacity}
use Rattle.std.specs.List.{range_with_len}
use Rattle.oi_tags.proofs.plain.list_all.Given as goal

abbrev pub invariant-loop-index : goal.invariant-loop-index
invariant-loop-index l = record {
  so_far : l.free.items ≡ range_with_len 0 l.index;
  counted : vec_len l.free ≡ l.index;
  room : vec_capacity l.free ≡ vec_capacity l.initial.free;
}
