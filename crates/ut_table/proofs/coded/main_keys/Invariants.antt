use Rattle.std.proofs.Common.{◌≡◌}
use Rattle.ut_scan.proofs.CodeLemmas.{keys_first}
use Rattle.ut_table.proofs.coded.main_keys.Given as goal

abbrev pub invariant-loop-p : goal.invariant-loop-p
invariant-loop-p l = l.keys ≡ keys_first l.main l.column l.p
