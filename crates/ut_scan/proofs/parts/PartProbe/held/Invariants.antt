use Rattle.std.proofs.Common.{◌≡◌, take}
use Rattle.ut_scan.specs.Coded.{held_mask}
use Rattle.ut_scan.proofs.parts.PartProbe.held.Given as goal

abbrev pub invariant-loop-pred : goal.invariant-loop-pred
invariant-loop-pred l = l.mask ≡ held_mask (take l.pred-index l.self.coded.now) l.self.part.now
