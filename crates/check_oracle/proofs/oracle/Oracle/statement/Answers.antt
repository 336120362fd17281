use Rattle.std.proofs.Common.{◌≡◌, sym, subst}
use Rattle.ut_plain.specs.Capture.{Directory}
use Rattle.ut_plain.specs.Reached.{IsPlain}
use Rattle.ut_plain.specs.Step.{step}
use Rattle.check_oracle.specs.Store.{Kept, kept_of, plain_of, plain_with, selected_of, selected_behind, Gives, Tells}
use Rattle.check_oracle.proofs.MeasureLemmas.{plain_measured}
use Rattle.check_oracle.proofs.OracleLemmas.{steps_are, plain_after, selected_after}
use Rattle.check_oracle.proofs.oracle.Oracle.statement.Goals as goal

pub stepped-requires-clause-plain : goal.stepped-requires-clause-plain
stepped-requires-clause-plain c = plain_measured (λ (d : Directory). c.args.pages) (plain_of c.in_ok-told.told) (subst IsPlain (sym c.in_ok-told.ensures) c.self.invariant.plain)

pub invariant_of-self : goal.invariant_of-self
invariant_of-self c =
    let p = plain_of c.self.inside.held in
    let copy = plain_of c.in_ok-told.told in
    let out = c.in_ok-out.out in
    record {
      plain = plain_after p copy c.args.pages c.args.session c.args.st.now out.reply (plain_of out.held) c.plain_laws.ensures.step c.requires.spelled c.self.invariant.plain c.in_ok-told.ensures c.in_ok-out.ensures;
      selects = selected_after p copy c.args.pages c.args.session c.args.st.now (selected_of c.self.inside.selected) (selected_of c.in_ok-selected.selected) out.reply (plain_of out.held) c.self.invariant.plain c.self.invariant.selects c.in_ok-told.ensures c.in_ok-out.ensures c.in_ok-selected.ensures;
    }

pub returns-clause-steps : goal.returns-clause-steps
returns-clause-steps c = λ f.
    let p = plain_of c.self.inside.held in
    let out = c.in_ok-out.out in
    let new = plain_with f (kept_of out.held c.in_ok-selected.selected) in
    subst (λ (k : Kept). Tells c.args.pages c.args.st.now (plain_with f k) → Gives (step (plain_with f k) c.args.session c.args.st.now) out.reply new) c.self.view_is
    (λ tells. steps_are p (plain_of c.in_ok-told.told) c.args.pages c.args.session c.args.st.now out.reply (plain_of out.held) c.in_ok-told.ensures c.in_ok-out.ensures f tells)

pub returns-clause-image : goal.returns-clause-image
returns-clause-image c = subst (λ (k : Kept). selected_of c.in_ok-selected.selected ≡ selected_behind k.selected k.phase c.in_ok-out.out.reply) c.self.view_is c.in_ok-selected.ensures
