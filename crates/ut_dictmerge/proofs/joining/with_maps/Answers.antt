use Rattle.std.proofs.Common.{◌≡◌, subst, IfOk}
use Rattle.ut_dictmerge.specs.Merge.{merged}
use Rattle.ut_dictmerge.specs.Pieces.{AreMaps}
use Rattle.ut_dictmerge.proofs.JoinLemmas.{is_merge}
use Rattle.ut_dictmerge.proofs.joining.with_maps.Goals as goal

pub returns : goal.returns
returns c =
    is_merge c.args.a.now c.args.used_a.now c.args.b.now c.args.used_b.now c.in_ok-keys.keys c.in_ok-from_a.field-0.from_a.items c.in_ok-from_a.field-0.from_b.items c.requires.lists
    (subst (λ r. IfOk r (λ keys. keys ≡ merged c.args.a.now c.args.used_a.now c.args.b.now c.args.used_b.now)) c.in_ok-keys.was c.requires.keys)
    (subst (λ r. IfOk r (λ m. AreMaps c.args.a.now c.args.used_a.now c.args.b.now c.args.used_b.now (merged c.args.a.now c.args.used_a.now c.args.b.now c.args.used_b.now) m.from_a.items m.from_b.items)) c.in_ok-from_a.was c.requires.maps)
