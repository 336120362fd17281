use Rattle.std.proofs.Common.{rules, inl, inr, suc, sym, subst}
use Rattle.ut_gate.specs.Passes.{Carried}
use Rattle.ut_crew.specs.Leaving.{MergerLeft, Merges}
use Rattle.ut_crew.specs.declared.role.Kept.TheVariants.{Over}
use Rattle.ut_crew.proofs.Parts.{goes_same}
use Rattle.ut_crew.proofs.member.merge.Goals.{in-None, in-Some+in_default, in-Some+in-Some-end_or_take+then-not-goes_on}
use Rattle.ut_crew.proofs.member.merge.Goals as goal

pub returns-clause-left : goal.returns-clause-left
returns-clause-left g c = elim c.match-next.branch [
  | in-None w ↦ let no : ⊥ = search (rules, w.in-None.is) in absurd no
  | in-Some+in_default w ↦
      let none = w.in_default.ensures.none in
      subst (λ (q : Carried g.row.E-Entry.Denot g.row.E-Job.Denot). MergerLeft g.E.Held.book g.E.Held.job (g.E.Held.stands_on g.E.Held.ground) g.M.Act.relates g.M.End.Act.asks g.M.End.Act.relates g.M.Build.unbuilt c.args.merger q) (sym w.pass-is)
      (inr (record {
        turns = c.loop.invariant.1.0;
        after = w.end_or_take.new.merger;
        goes = goes_same (Merges g.E.Held.book g.E.Held.job (g.E.Held.stands_on g.E.Held.ground) g.M.Act.relates g.M.End.Act.asks g.M.End.Act.relates) Over c.loop.invariant.1.0 c.args.merger c.loop.merger w.end_or_take.new.merger c.loop.pass w.end_or_take.new.pass none.0 none.1 c.loop.invariant.1.1;
        stuck = none.2;
      }))
  | in-Some+in-Some-end_or_take+then-not-goes_on w ↦
      subst (λ (q : Carried g.row.E-Entry.Denot g.row.E-Job.Denot). MergerLeft g.E.Held.book g.E.Held.job (g.E.Held.stands_on g.E.Held.ground) g.M.Act.relates g.M.End.Act.asks g.M.End.Act.relates g.M.Build.unbuilt c.args.merger q) (sym w.pass-is)
      (inl (record {
        turns = c.loop.invariant.1.0;
        before = c.loop.merger;
        after = w.end_or_take.new.merger;
        pass = c.loop.pass;
        answer = w.in-Some-end_or_take.kept;
        goes = c.loop.invariant.1.1;
        ends = w.in-Some-end_or_take.ensures.turn;
        lets_go = w.goes_on.ensures.ends w.if-not-goes_on.true;
      }))
]

pub loop-preserved : goal.loop-preserved
loop-preserved g c = (c.end_or_take.ensures.gate, (suc c.loop.invariant.1.0, (c.loop.merger, c.loop.pass, c.in-Some-end_or_take.kept, c.loop.invariant.1.1, c.in-Some-end_or_take.ensures.turn, c.goes_on.ensures.goes c.if-not-goes_on.false)))
