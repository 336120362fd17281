use Rattle.std.proofs.Common.{◌≡◌, [], ◌≤◌, map, get_or, All}
use Rattle.std.specs.List.{range_with_len}
use Rattle.ut_unsorted.proofs.order.coded_texts.Given as goal

abbrev pub invariant-loop-code : goal.invariant-loop-code
invariant-loop-code l = (l.code ≤ l.code-end) × (map (λ p. p.code) l.all.items ≡ range_with_len 0 l.code) × All (λ p. p.bytes.now ≡ get_or l.texts p.code []) l.all.items
