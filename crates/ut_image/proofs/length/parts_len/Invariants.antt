use Rattle.std.proofs.Common.{◌≡◌, ◌+◌, ◌<◌, ◌^◌, drop}
use Rattle.std.specs.List.{sum_by}
use Rattle.ut_image.specs.Steps.{part_len}
use Rattle.ut_image.proofs.length.parts_len.Given as goal

abbrev pub invariant-loop-part : goal.invariant-loop-part
invariant-loop-part l = record {
  sum : l.len + sum_by part_len (drop l.part-index l.parts) ≡ sum_by part_len l.parts;
  fits : l.len < 2 ^ 64;
}
