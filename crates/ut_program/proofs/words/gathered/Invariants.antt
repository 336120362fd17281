use Rattle.std.proofs.Common.{◌≡◌, ◌++◌, length}
use Rattle.std.specs.Vec.Iter.{into_iter_items, into_iter_len}
use Rattle.ut_program.proofs.words.gathered.Given as goal

abbrev pub invariant-loop-word : goal.invariant-loop-word
invariant-loop-word l = record {
  so_far : l.words.items ++ into_iter_items l.word-iterator ≡ into_iter_items l.initial.word-iterator;
  rest : into_iter_len l.word-iterator ≡ length (into_iter_items l.word-iterator);
}
