use Rattle.std.proofs.Common.{◌≡◌, length}
use Rattle.ut_entry.proofs.ReadLemmas.{IsReadTo}
use Rattle.ut_entry.proofs.read.read_list.Given as goal

abbrev pub invariant-loop : goal.invariant-loop
invariant-loop g l = record {
  count : length l.items.items ≡ l.counter;
  read : IsReadTo g.T.Spelled.spelling (g.T.Spelled.keeps l.context) l.count l.bytes l.items.items l.rest;
}
