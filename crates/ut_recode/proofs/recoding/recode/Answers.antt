use Rattle.ut_recode.specs.Recode.{with_staying}
use Rattle.ut_recode.proofs.ShareLemmas.{below_then}
use Rattle.ut_recode.proofs.recoding.recode.Goals as goal

pub returns-then-pieces-eq1-clause-below : goal.returns-then-pieces-eq1-clause-below
returns-then-pieces-eq1-clause-below g c = below_then (λ v. v.items) c.recode_all.result (with_staying c.args.first c.args.map.now) c.args.reach c.args.codes.now c.requires.entries c.recode_all.ensures

pub returns-clause-below : goal.returns-clause-below
returns-clause-below g c = below_then (λ v. v.items) c.join_shares.result (with_staying c.args.first c.args.map.now) c.args.reach c.args.codes.now c.requires.entries c.join_shares.ensures
