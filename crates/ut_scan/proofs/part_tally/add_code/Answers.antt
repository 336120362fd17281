use Rattle.std.proofs.Common.{◌+◌, get_or, set, refl}
use Rattle.ut_scan.proofs.TallyLemmas.{more-one}
use Rattle.ut_scan.proofs.part_tally.add_code.Goals as goal

pub returns : goal.returns
returns c =
    let n = get_or c.args.counts.now c.args.code 0 + 1 in
    more-one c.args.counts.now (set c.args.counts.now c.args.code n) c.args.code n c.requires.there refl refl
