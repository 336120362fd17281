use Rattle.std.proofs.Common.{ℕ, ◌≡◌, ◌<◌, ◌≤◌, sym, ap, subst, MatchOption}
use Rattle.ut_change.specs.Entering.{insert_of}
use Rattle.ut_tables.specs.Works.{ops_in}
use Rattle.ut_tables.proofs.WorkLemmas.{len_of_one, rule_of_one}
use Rattle.ut_tables.proofs.work.Changes.ops_len.Goals as goal

pub ops_len-requires-clause-rule : goal.ops_len-requires-clause-rule
ops_len-requires-clause-rule c = rule_of_one (ops_in c.args.self.now) (insert_of c.in-Enters.row) (ap ops_in c.in-Enters.is) c.requires.rule

pub returns-in-Enters : goal.returns-in-Enters
returns-in-Enters c =
    subst (λ (n : ℕ). MatchOption c.ops_len.result (c.args.most < n) (λ (m : ℕ). (m ≡ n) × (m ≤ c.args.most)))
    (sym (len_of_one (ops_in c.args.self.now) (insert_of c.in-Enters.row) (ap ops_in c.in-Enters.is))) c.ops_len.ensures
