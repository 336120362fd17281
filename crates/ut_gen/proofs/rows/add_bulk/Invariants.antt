use Rattle.std.proofs.Common.{◌≡◌, ◌≤◌, ◌+◌, ◌-◌, ◌*◌, ◌++◌, vec_len, vec_capacity}
use Rattle.ut_gen.specs.Draws.{advanced}
use Rattle.ut_gen.specs.Rows.{rows_text}
use Rattle.ut_gen.proofs.rows.add_bulk.Given as goal

abbrev pub invariant-loop-k : goal.invariant-loop-k
invariant-loop-k l = record {
  text : l.out.items ≡ l.initial.out.items ++ rows_text l.initial.draws.state l.first l.k;
  state : l.draws.state ≡ advanced l.initial.draws.state (6 * l.k);
  room : vec_len l.out + 80 * (200 - l.k) ≤ vec_capacity l.out;
}
