use Rattle.std.proofs.Common.{List, ℕ, subst, sym, ◌∙◌}
use Rattle.ut_outside.specs.declared.faults.Failed.{Failed}
use Rattle.ut_run.specs.Writing.{IsWriting}
use Rattle.ut_run.proofs.WriteLemmas.{writing-more}
use Rattle.ut_run.proofs.write.write_all.Goals as goal

pub loop-rest-preserved : goal.loop-rest-preserved
loop-rest-preserved g c = record {
  writing =
      subst (λ (rest : List ℕ). IsWriting (g.K.Taken.held c.args.sink.now) (g.K.Sink.moments c.args.sink.now) c.args.bytes.now rest (g.D.Disk.view c.args.disk.now).moment (g.K.Taken.held c.give.new.self) (g.K.Sink.moments c.give.new.self)) (sym c.split_at.ensures.back)
      (writing-more Failed _ _ _ _ _ _ _ c.in_ok-count.count _ _ c.in_ok-count.ensures.bound c.loop-rest.invariant.writing c.in_ok-count.ensures.bytes c.in_ok-count.ensures.moments);
  still = c.in_ok-count.ensures.cause.still ∙ c.loop-rest.invariant.still;
}
