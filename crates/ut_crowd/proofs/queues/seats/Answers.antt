use Rattle.std.proofs.Common.{ℕ, ◌≡◌, ◌+◌, List, [], ◌∷◌, ◌++◌, length, length-append, sym, ap, ◌∙◌, subst, arith}
use Rattle.ut_crowd.specs.Queues.{left_of}
use Rattle.ut_crowd.proofs.SortLemmas.{left_push}
use Rattle.ut_crowd.proofs.queues.seats.Goals as goal

pub loop-seat-preserved : goal.loop-seat-preserved
loop-seat-preserved c =
    let old : List (List (List ℕ)) = c.loop-seat.queues.items in
    let is : c.push.new.self.items ≡ old ++ [] ∷ [] = c.in_ok-push.ensures.items ∙ ap (λ (q : List (List ℕ)). old ++ q ∷ []) c.new.ensures in
    let more = length-append old ([] ∷ []) in
    let was = c.loop-seat.invariant.0 in
    let len : length c.push.new.self.items ≡ c.loop-seat.seat + 1 = ap (λ (l : List (List (List ℕ))). length l) is ∙ omega (arith, more, was) in (
      len,
      λ s. subst (λ (l : List (List (List ℕ))). left_of l s ≡ []) (sym is) (left_push old c.loop-seat.invariant.1 s),
    )
