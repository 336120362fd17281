use Rattle.std.proofs.Common.{◌≡◌, ◌⊎◌, inl, inr, length}
use Rattle.check_stages.proofs.KeptLemmas.{flagged_end}
use Rattle.check_stages.proofs.places.flagged.Goals as goal

pub returns : goal.returns
returns c =
    let none : (length c.loop-place.place-iterator.a.rest.now ≡ 0) ⊎ (length c.loop-place.place-iterator.b.rest.now ≡ 0) = elim c.in-None.ensures.steps [ inl e ↦ inl e.1.0 | inr e ↦ inr e.1.0 ] in
    flagged_end c.loop-place.kept _ c.loop-place.place-iterator.a.rest.now c.loop-place.place-iterator.b.rest.now none c.loop-place.invariant
