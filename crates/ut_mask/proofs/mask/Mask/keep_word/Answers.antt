use Rattle.std.proofs.Common.{◌*◌, List, Bool, length, refl, ap, arith}
use Rattle.ut_mask.proofs.WordsLemmas.{keep-one, length-view}
use Rattle.ut_mask.proofs.mask.Mask.keep_word.Goals as goal

pub invariant_of-self : goal.invariant_of-self
invariant_of-self c =
    let long = length-view c.self.inside.len c.self.inside.words.items c.self.invariant in
    let size = ap (λ (l : List Bool). length l) c.self.view_is in
    (keep-one c.self.inside.len c.args.k (64 * c.args.k) c.index_mut.result.now c.args.bits c.self.inside.words.items c.args.self.now c.self.invariant c.self.view_is c.index_mut.ensures.value refl
    (omega (arith, c.requires, long, size, c.self.invariant.count))).0

pub returns : goal.returns
returns c =
    let long = length-view c.self.inside.len c.self.inside.words.items c.self.invariant in
    let size = ap (λ (l : List Bool). length l) c.self.view_is in
    (keep-one c.self.inside.len c.args.k (64 * c.args.k) c.index_mut.result.now c.args.bits c.self.inside.words.items c.args.self.now c.self.invariant c.self.view_is c.index_mut.ensures.value refl
    (omega (arith, c.requires, long, size, c.self.invariant.count))).1
