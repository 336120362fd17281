use Rattle.std.proofs.Common.{rules, suc, ◌∙◌, sym, subst}
use Rattle.ut_gate.specs.Passes.{Carried}
use Rattle.ut_crew.specs.Leaving.{SessionLeft}
use Rattle.ut_crew.proofs.member.advance.Goals.{in-None, in-Some+then-not-went_on}
use Rattle.ut_crew.proofs.member.advance.Goals as goal

pub returns-clause-left : goal.returns-clause-left
returns-clause-left g c = elim c.match-next.branch [
  | in-None w ↦ let no : ⊥ = search (rules, w.in-None.is) in absurd no
  | in-Some+then-not-went_on w ↦
      subst (λ (q : Carried g.row.E-Entry.Denot g.row.E-Job.Denot). SessionLeft g.E.Held.book g.E.Held.job (g.E.Held.stands_on g.E.Held.ground) g.A.Act.relates c.args.session q) (sym w.pass-is)
      (record {
        turns = c.loop.invariant.1.0;
        before = c.loop.session;
        after = w.act-went.new.act;
        pass = c.loop.pass;
        answer = w.act-went.result;
        goes = c.loop.invariant.1.1;
        ends = w.act-went.ensures;
        lets_go = w.went_on.ensures.ends w.if-not-went_on.true;
      })
]

pub loop-preserved : goal.loop-preserved
loop-preserved g c = (c.act-went.ensures.gate ∙ c.loop.invariant.0, (suc c.loop.invariant.1.0, (c.loop.session, c.loop.pass, c.act-went.result, c.loop.invariant.1.1, c.act-went.ensures, c.went_on.ensures.goes c.if-not-went_on.false)))
