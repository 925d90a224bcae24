use Rattle.std.proofs.Common.{◌≡◌, ◌++◌, ◌+◌, length}
use Rattle.oi_target_login.specs.Grown.{IsGrown}
use Rattle.oi_target_session.specs.Answers.{bytes_of}
use Rattle.oi_target_session.specs.Sequences.{data_pdus}
use Rattle.oi_target_session.proofs.Walks.{Remains}
use Rattle.oi_target_session.proofs.data.write_data.Given as goal

abbrev pub invariant-loop-rest : goal.invariant-loop-rest
invariant-loop-rest l =
    (l.at + length l.rest ≡ length l.bytes)
    × Remains l.source.limits l.source.numbers l.source.tag l.source.residual l.number l.at l.rest l.out.items
    (l.fn.out.items ++ bytes_of (data_pdus l.source.limits l.source.numbers l.source.tag l.source.residual (length l.bytes) 0 0 l.bytes))
    × IsGrown l.fn.out.items l.out.items

abbrev pub decreases-loop-rest : goal.decreases-loop-rest
decreases-loop-rest l = length l.rest
