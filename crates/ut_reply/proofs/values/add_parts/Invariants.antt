use Rattle.std.proofs.Common.{◌≡◌, ◌≤◌, ◌+◌, ◌*◌, ◌++◌, ◌∷◌, drop, length, vec_len, vec_capacity}
use Rattle.std.specs.Prelude.{flat_map, decimal}
use Rattle.ut_reply.proofs.values.add_parts.Given as goal

abbrev pub invariant-loop-rows : goal.invariant-loop-rows
invariant-loop-rows l = record {
  text : l.out.items ++ flat_map (λ n. 32 ∷ decimal n) (drop l.rows-index l.parts) ≡ l.fn.out.items ++ flat_map (λ n. 32 ∷ decimal n) l.parts;
  room : vec_len l.out + 11 * length (drop l.rows-index l.parts) ≤ vec_len l.fn.out + 11 * length l.parts;
  capacity : vec_capacity l.fn.out ≤ vec_capacity l.out;
}
