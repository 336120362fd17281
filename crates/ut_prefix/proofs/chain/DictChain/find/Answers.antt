use Rattle.std.proofs.Common.{◌≡◌, Some, IfSome, IsNone, ap, ◌∙◌, subst, ◌↔◌}
use Rattle.std.specs.List.{slice_get, Contains}
use Rattle.ut_prefix.specs.Chain.{shared_dicts, end_to_end}
use Rattle.ut_prefix.proofs.chain.DictChain.find.Goals as goal

-- what was searched are the dictionaries
same : (g : _) (c : goal.After-find_in g) → shared_dicts c.as_slice.result.now ≡ c.args.self.now
same g c = ap (λ l. shared_dicts l) c.as_slice.ensures.value ∙ c.self.view_is

pub returns-clause-found : goal.returns-clause-found
returns-clause-found g c = subst (λ l. IfSome c.find_in.result (λ code. slice_get (end_to_end l) code ≡ Some c.args.key.now)) (same g c) c.find_in.ensures.found

pub returns-clause-absent : goal.returns-clause-absent
returns-clause-absent g c = subst (λ l. IsNone c.find_in.result ↔ ¬ Contains (end_to_end l) c.args.key.now) (same g c) c.find_in.ensures.absent
