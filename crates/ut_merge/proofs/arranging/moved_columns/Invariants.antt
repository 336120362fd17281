use Rattle.std.proofs.Common.{◌≡◌, ℕ, List, map, take, get_or}
use Rattle.ut_merge.specs.Columns.{codes_in}
use Rattle.ut_merge.proofs.arranging.moved_columns.Given as goal

abbrev pub invariant-loop-column : goal.invariant-loop-column
invariant-loop-column l = codes_in l.new.items ≡ map (λ (codes : List ℕ). map (λ place. get_or codes place 0) l.places) (take l.column-index (codes_in l.columns))
