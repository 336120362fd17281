use Rattle.std.proofs.Common.{◌∙◌, arith}
use Rattle.std.proofs.lemmas.Result.{err_from_is_err_and}
use Rattle.ut_outside.specs.MemDisks.{histories, all_before}
use Rattle.ut_outside.proofs.DiskLemmas.{asks_call, cause_of, still_of, never_ok, rose_later}
use Rattle.ut_outside.proofs.mem_disk.MemDisk.ask.Goals as goal

pub returns-in_err-whole-clause-asks : goal.returns-in_err-whole-clause-asks
returns-in_err-whole-clause-asks c =
    let m = c.args.self.now in
    let p = err_from_is_err_and c.from_residual.result c.from_residual.ensures.1 in
    asks_call (histories m) (histories c.begin.new.self) m.calls c.begin.new.self.calls (all_before m) c.begin.ensures.small c.begin.ensures.calls c.begin.ensures.same m.faults c.begin.new.self.faults c.from_residual.result c.begin.ensures.faults (λ _. c.in_err-whole.ensures.err) (never_ok c.from_residual.result _ (p.0, p.1))

pub returns-clause-asks : goal.returns-clause-asks
returns-clause-asks c =
    let m = c.args.self.now in
    asks_call (histories m) (histories c.begin.new.self) m.calls c.begin.new.self.calls (all_before m) c.begin.ensures.small c.begin.ensures.calls c.begin.ensures.same m.faults c.finish.new.faults c.finish.result (omega (arith, c.begin.ensures.faults, c.finish.ensures.faults)) (λ is. rose_later m.faults c.begin.new.self.faults c.finish.new.faults c.begin.ensures.faults (cause_of c.finish.result _ c.finish.ensures.err is)) (λ is. still_of c.finish.result _ c.finish.ensures.still is ∙ c.in_ok-whole.ensures.ok.1)
