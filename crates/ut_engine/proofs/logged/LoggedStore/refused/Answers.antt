use Rattle.ut_engine.proofs.PhaseLemmas.{why_refused, why_passed}
use Rattle.ut_engine.proofs.logged.LoggedStore.refused.Goals as goal

pub returns-clause-refused : goal.returns-clause-refused
returns-clause-refused c = why_refused c.args.self.now.saving c.args.st.now c.progress.result c.save_why.result c.progress.ensures c.save_why.ensures

pub returns-clause-passes : goal.returns-clause-passes
returns-clause-passes c = why_passed c.args.self.now.saving c.args.st.now c.progress.result c.save_why.result c.progress.ensures c.save_why.ensures
