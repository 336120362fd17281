use Rattle.std.proofs.Common.{◌≡◌, ◌+◌, ◌<◌, ◌++◌, length, arith, ap, sym, ◌∙◌, ℕ, take, get_or, [], ◌∷◌, append_assoc, append-nil, List}
use Rattle.std.proofs.lemmas.List.{take_all}
use Rattle.ut_bits.specs.Places.{places_from, is_in}
use Rattle.ut_bits.proofs.PlacesLemmas.{places_from-take, places_from-one, places_from-none}
use Rattle.ut_packed.proofs.packed.places_among.Goals as goal
use Rattle.ut_packed.proofs.packed.places_among.Goals.{then-is_in+in_ok-push_or_cut, else-is_in}

pub loop-i-preserved : goal.loop-i-preserved
loop-i-preserved c =
    let within : c.loop-i.i < length c.args.list.now.codes = omega arith in
    let more = places_from-take (is_in c.args.ranges.now) c.args.list.now.codes c.loop-i.i 0 within in
    let test : c.is_in.result ≡ is_in c.args.ranges.now (get_or c.args.list.now.codes c.loop-i.i 0) = c.is_in.ensures ∙ ap (λ (n : ℕ). is_in c.args.ranges.now n) c.get.ensures in
    let joined : (tail : List ℕ) → places_from (is_in c.args.ranges.now) c.loop-i.i (get_or c.args.list.now.codes c.loop-i.i 0 ∷ []) ≡ tail → c.loop-i.out.items ++ tail ≡ c.args.out.now.items ++ places_from (is_in c.args.ranges.now) 0 (take (c.loop-i.i + 1) c.args.list.now.codes) =
    λ tail e. ap (λ (l : List ℕ). l ++ tail) c.loop-i.invariant ∙ append_assoc c.args.out.now.items _ tail ∙ ap (λ (l : List ℕ). c.args.out.now.items ++ l) (ap (λ (l : List ℕ). places_from (is_in c.args.ranges.now) 0 (take c.loop-i.i c.args.list.now.codes) ++ l) (sym e) ∙ sym more) in
    elim c.if-is_in.branch [
      | then-is_in+in_ok-push_or_cut w ↦ ap (λ v. v.items) w.out-is ∙ w.in_ok-push_or_cut.ensures.ok ∙ joined (c.loop-i.i ∷ []) (places_from-one (is_in c.args.ranges.now) c.loop-i.i _ (sym test ∙ w.if-is_in.true))
      | else-is_in w ↦ ap (λ v. v.items) w.out-is ∙ sym (append-nil c.loop-i.out.items) ∙ joined [] (places_from-none (is_in c.args.ranges.now) c.loop-i.i _ (sym test ∙ w.if-is_in.false))
    ]

pub returns-clause-ok : goal.returns-clause-ok
returns-clause-ok c =
    c.loop-i.invariant ∙ ap (λ l. c.args.out.now.items ++ places_from (is_in c.args.ranges.now) 0 l) (take_all c.loop-i.i c.args.list.now.codes (omega arith))
