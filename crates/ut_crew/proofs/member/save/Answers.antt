use Rattle.std.proofs.Common.{rules, suc, ◌∙◌, sym, subst}
use Rattle.ut_gate.specs.Passes.{Carried}
use Rattle.ut_crew.specs.Leaving.{SaverLeft}
use Rattle.ut_crew.proofs.member.save.Goals.{in-None, in-Some+then-not-goes_on}
use Rattle.ut_crew.proofs.member.save.Goals as goal

pub returns-clause-left : goal.returns-clause-left
returns-clause-left g c = elim c.match-next.branch [
  | in-None w ↦ let no : ⊥ = search (rules, w.in-None.is) in absurd no
  | in-Some+then-not-goes_on w ↦
      subst (λ (q : Carried g.row.E-Entry.Denot g.row.E-Job.Denot). SaverLeft g.E.Held.book g.E.Held.job (g.E.Held.stands_on g.E.Held.ground) g.S.Act.relates c.args.saver q) (sym w.pass-is)
      (record {
        turns = c.loop.invariant.1.0;
        before = c.loop.saver;
        after = w.act-kept.new.act;
        pass = c.loop.pass;
        answer = w.act-kept.result;
        goes = c.loop.invariant.1.1;
        ends = w.act-kept.ensures;
        lets_go = w.goes_on.ensures.ends w.if-not-goes_on.true;
      })
]

pub loop-preserved : goal.loop-preserved
loop-preserved g c = (c.act-kept.ensures.gate ∙ c.loop.invariant.0, (suc c.loop.invariant.1.0, (c.loop.saver, c.loop.pass, c.act-kept.result, c.loop.invariant.1.1, c.act-kept.ensures, c.goes_on.ensures.goes c.if-not-goes_on.false)))
