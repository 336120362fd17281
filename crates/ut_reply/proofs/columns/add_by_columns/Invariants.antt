use Rattle.std.proofs.Common.{◌≡◌, ◌≤◌, ◌+◌, ◌++◌, ◌∷◌, drop, vec_len, vec_capacity}
use Rattle.std.specs.Prelude.{flat_map, sum_by}
use Rattle.ut_reply.specs.Texts.{tuple_text, tuple_room}
use Rattle.ut_reply.proofs.columns.add_by_columns.Given as goal

abbrev pub invariant-loop-row : goal.invariant-loop-row
invariant-loop-row l = record {
  text : l.out.items ++ flat_map (λ t. 10 ∷ tuple_text t) (drop l.row l.rows) ≡ l.fn.out.items ++ flat_map (λ t. 10 ∷ tuple_text t) l.rows;
  room : vec_len l.out + sum_by (λ t. tuple_room t + 1) (drop l.row l.rows) ≤ vec_len l.fn.out + sum_by (λ t. tuple_room t + 1) l.rows;
  capacity : vec_capacity l.fn.out ≤ vec_capacity l.out;
}
