use Rattle.std.proofs.Common.{◌≡◌, ◌≤◌, ◌+◌, ◌++◌, ◌∷◌, drop, vec_len, vec_capacity}
use Rattle.std.specs.Prelude.{flat_map, sum_by}
use Rattle.ut_reply.specs.Texts.{group_text, value_room}
use Rattle.ut_reply.proofs.values.add_each_group.Given as goal

abbrev pub invariant-loop-group : goal.invariant-loop-group
invariant-loop-group l = record {
  text : l.out.items ++ flat_map (λ g. 10 ∷ group_text g) (drop l.group-index l.groups) ≡ l.fn.out.items ++ flat_map (λ g. 10 ∷ group_text g) l.groups;
  room : vec_len l.out + sum_by (λ g. value_room g.key + 42) (drop l.group-index l.groups) ≤ vec_len l.fn.out + sum_by (λ g. value_room g.key + 42) l.groups;
  capacity : vec_capacity l.fn.out ≤ vec_capacity l.out;
}
