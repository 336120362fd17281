use Rattle.std.proofs.Common.{rules}
use Rattle.std.proofs.lemmas.List.Sorted.{IsNonDecreasingBy-from_sort_by_key}
use Rattle.ut_scan.specs.declared.place.Found.{Found}
use Rattle.ut_scan.proofs.table.order_by_id.Goals as goal

pub returns-clause-ascending : goal.returns-clause-ascending
returns-clause-ascending c = IsNonDecreasingBy-from_sort_by_key (λ (f : Found). f.id) c.sort_unstable_by_key.new.self c.sort_unstable_by_key.ensures.sorted (λ a r f h. search (rules, h))
