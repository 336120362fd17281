use Rattle.std.proofs.Common.{◌-◌, Bool, replicate, sym, ap, ◌∙◌}
use Rattle.ut_mask.specs.Mask.{kept_from}
use Rattle.ut_mask.proofs.KeptLemmas.{kept_from-all_true}
use Rattle.ut_mask.proofs.mask.Mask.keep_range.Goals as goal

pub returns-else-not-stays : goal.returns-else-not-stays
returns-else-not-stays c =
    sym (ap (λ (b : Bool). kept_from c.args.from c.args.self.now (replicate (c.args.to - c.args.from) b)) c.if-not-stays.false ∙ kept_from-all_true c.args.from (c.args.to - c.args.from) c.args.self.now)
