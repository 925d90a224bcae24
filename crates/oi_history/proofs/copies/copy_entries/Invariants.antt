use Rattle.std.proofs.Common.{◌≡◌, vec_len, vec_capacity, take, length}
use Rattle.oi_history.proofs.copies.copy_entries.Given as goal

abbrev pub invariant-loop-entry : goal.invariant-loop-entry
invariant-loop-entry l = record {
  copied : l.copies.items ≡ take l.entry-index l.entries;
  counted : vec_len l.copies ≡ l.entry-index;
  room : vec_capacity l.copies ≡ length l.entries;
}
