use Rattle.std.proofs.Common.{◌≡◌, take}
use Rattle.ut_sparse.specs.Sparse.{marks_of, others_of}
use Rattle.ut_sparse.proofs.sparse.Sparse.leaving_out.Given as goal

abbrev pub invariant-loop-code : goal.invariant-loop-code
invariant-loop-code l = record {
  one : l.marks.width ≡ 1;
  width : l.others.width ≡ l.width;
  marks : l.marks.codes ≡ marks_of l.left_out.code (take l.code-index l.codes);
  others : l.others.codes ≡ others_of l.left_out.code (take l.code-index l.codes);
}
