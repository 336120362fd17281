use Rattle.std.proofs.Common.{◌≡◌, ◌+◌, ◌≤◌, ◌++◌, drop, vec_len, vec_capacity}
use Rattle.std.specs.List.{flat_map, sum_by}
use Rattle.ut_image.specs.Bytes.{part_bytes}
use Rattle.ut_image.specs.Steps.{part_len}
use Rattle.ut_image.proofs.put.put_parts.Given as goal

abbrev pub invariant-loop-part : goal.invariant-loop-part
invariant-loop-part l = record {
  written : l.out.items ++ flat_map part_bytes (drop l.part-index l.parts) ≡ l.fn.out.items ++ flat_map part_bytes l.parts;
  length : vec_len l.out + sum_by part_len (drop l.part-index l.parts) ≡ vec_len l.fn.out + sum_by part_len l.parts;
  room : vec_capacity l.fn.out ≤ vec_capacity l.out;
}
