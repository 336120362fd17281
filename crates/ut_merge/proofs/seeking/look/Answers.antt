use Rattle.std.proofs.Common.{◌≡◌, ◌∙◌, [], true, false, not, ◌&&◌, refl, sym, true≢false}
use Rattle.std.proofs.lemmas.Option.{get_or_from_slice_get, slice_get_within}
use Rattle.ut_own.specs.Own.{holds}
use Rattle.ut_prefix.specs.Chain.{end_to_end}
use Rattle.ut_merge.proofs.SeekLemmas.{holds-lacking, holds-there}
use Rattle.ut_merge.proofs.seeking.look.Goals as goal

held : (g : _) (c : goal.In-Some g) → holds (end_to_end c.args.chain.now) c.args.key.now ≡ true
held g c =
    let keys = end_to_end c.args.chain.now in
    let found = c.in-Some.ensures.found in
    holds-there keys c.args.key.now (c.in-Some.code, slice_get_within keys c.in-Some.code c.args.key.now found, get_or_from_slice_get keys c.in-Some.code c.args.key.now c.args.key.now found)

lacking : (g : _) (c : goal.In-None g) → holds (end_to_end c.args.chain.now) c.args.key.now ≡ false
lacking g c = holds-lacking (end_to_end c.args.chain.now) c.args.key.now (c.in-None.ensures.absent.0 refl)

pub returns-in-Some-clause-new : goal.returns-in-Some-clause-new
returns-in-Some-clause-new g c = sym (λ i. c.if-not-is_used.false i && not (held g c i))

pub returns-in-Some-clause-found : goal.returns-in-Some-clause-found
returns-in-Some-clause-found g c used there =
    let keys = end_to_end c.args.chain.now in
    (c.in-Some.code, refl, slice_get_within keys c.in-Some.code c.args.key.now c.in-Some.ensures.found, get_or_from_slice_get keys c.in-Some.code c.args.key.now [] c.in-Some.ensures.found)

pub returns-in-None-clause-new : goal.returns-in-None-clause-new
returns-in-None-clause-new g c = sym (λ i. c.if-not-is_used.false i && not (lacking g c i))

pub returns-in-None-clause-found : goal.returns-in-None-clause-found
returns-in-None-clause-found g c used there = absurd (true≢false (sym there ∙ lacking g c))
