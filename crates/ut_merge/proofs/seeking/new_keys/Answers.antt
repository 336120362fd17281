use Rattle.std.proofs.Common.{◌∙◌, ◌<◌, ◌++◌, [], ◌∷◌, List, ℕ, Option, Some, None, length, get_or, sym, ap, subst, arith}
use Rattle.std.proofs.lemmas.List.{get_or_default, length-set, map_more, take_all}
use Rattle.ut_unsorted.specs.FirstSeen.{keys_at}
use Rattle.ut_merge.specs.Uniting.{IsPlaceIn, IsUnited}
use Rattle.ut_merge.proofs.SeekLemmas.{new-united, place-more}
use Rattle.ut_merge.proofs.seeking.new_keys.Goals as goal

pub loop-place-preserved : goal.loop-place-preserved
loop-place-preserved c =
    let closed = c.args.closed.now in
    let codes = c.in_ok-codes.codes.items in
    let place = c.loop-place.place in
    let entries = c.loop-place.places.items in
    let lt : place < length codes = omega (arith, c.loop-place-test.true, c.len-place-end.ensures, c.in_ok-codes.codes.ok.0) in
    let here = c.index-code.ensures ∙ get_or_default codes place c.index-code.result.now 0 lt in
    let low : c.index-code.result.now < length entries = omega (arith, c.loop-place.invariant.1, here, c.in_ok-codes.ensures.within place 0 lt) in (
      c.in_ok-push.ensures.ok ∙ (λ k. c.loop-place.invariant.0 k ++ (c.bytes.ensures.key ∙ ap (λ n. get_or closed n []) here) k ∷ []) ∙ sym (map_more (λ x. get_or closed x []) codes place 0 lt),
      length-set entries c.index-code.result.now (Some place) ∙ c.loop-place.invariant.1,
      λ code low_code. place-more codes place c.index-code.result.now entries lt here low (λ x l. c.loop-place.invariant.2 x (omega (arith, l, c.loop-place.invariant.1))) code (omega (arith, low_code, c.loop-place.invariant.1)),
    )

pub returns : goal.returns
returns c =
    let closed = c.args.closed.now in
    let new = c.args.new.now in
    let codes = c.in_ok-codes.codes.items in
    let entries = c.loop-place.places.items in
    let all = take_all c.loop-place.place codes (omega (arith, c.loop-place-test.false, c.len-place-end.ensures, c.in_ok-codes.codes.ok.0)) in
    subst (λ (l : List (Option ℕ)). IsUnited [] [] closed new c.loop-place.keys l entries) (sym c.new.ensures.items)
    (new-united closed new codes c.loop-place.keys entries c.requires.flags c.in_ok-codes.ensures.within c.in_ok-codes.ensures.exactly c.in_ok-codes.ensures.ascending c.in_ok-codes.ensures.few
    (c.loop-place.invariant.0 ∙ ap (λ (l : List ℕ). keys_at closed l) all) c.loop-place.invariant.1
    (λ code lt. subst (λ (l : List ℕ). IsPlaceIn l code (get_or entries code None)) all (c.loop-place.invariant.2 code lt)))
