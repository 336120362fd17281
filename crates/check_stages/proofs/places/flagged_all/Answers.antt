use Rattle.std.proofs.Common.{◌≡◌, ◌⊎◌, inl, inr, length}
use Rattle.check_stages.proofs.KeptLemmas.{flagged_all_end}
use Rattle.check_stages.proofs.places.flagged_all.Goals as goal

pub returns : goal.returns
returns c =
    let none : (length c.loop-places.places-iterator.a.rest.now ≡ 0) ⊎ (length c.loop-places.places-iterator.b.rest.now ≡ 0) = elim c.in-None.ensures.steps [ inl e ↦ inl e.1.0 | inr e ↦ inr e.1.0 ] in
    flagged_all_end c.loop-places.kept _ c.loop-places.places-iterator.a.rest.now c.loop-places.places-iterator.b.rest.now none c.loop-places.invariant
