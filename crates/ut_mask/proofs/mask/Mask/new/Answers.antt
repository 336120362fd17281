use Rattle.std.proofs.Common.{◌≡◌, ℕ, ◌-◌, ◌/◌, List, [], ◌∷◌, ◌++◌, take, replicate, refl, ap, ◌∙◌, arith}
use Rattle.std.proofs.lemmas.List.{take_all}
use Rattle.ut_mask.proofs.WordsLemmas.{all-stand}
use Rattle.ut_mask.proofs.mask.Mask.new.Goals as goal

-- what was filled in behind nothing
filled : (whole old fill last : ℕ) (before after all : List ℕ) → before ≡ [] → old ≡ 0 → after ≡ take whole before ++ replicate (whole - old) fill → all ≡ after ++ last ∷ [] → all ≡ replicate whole fill ++ last ∷ []
filled whole old fill last before after all none zero e is =
    let some : whole - old ≡ whole = omega (arith, zero) in
    is ∙ ap (λ (l : List ℕ). l ++ last ∷ []) (e ∙ ap (λ (l : List ℕ). take whole l ++ replicate (whole - old) fill) none ∙ ap (λ (l : List ℕ). l ++ replicate (whole - old) fill) (take_all whole [] (omega arith)) ∙ ap (λ (k : ℕ). replicate k fill) some)

pub invariant_of-result : goal.invariant_of-result
invariant_of-result c =
    (all-stand c.args.len (c.args.len / 64) c.ones.result c.push.new.self.items c.requires refl c.ones.ensures
    (filled (c.args.len / 64) _ 18446744073709551615 c.ones.result _ _ _ c.in_ok-words.ensures.items c.in_ok-words.ensures.len c.in_ok-resize.ensures.items c.in_ok-push.ensures.items)).0

pub returns : goal.returns
returns c =
    (all-stand c.args.len (c.args.len / 64) c.ones.result c.push.new.self.items c.requires refl c.ones.ensures
    (filled (c.args.len / 64) _ 18446744073709551615 c.ones.result _ _ _ c.in_ok-words.ensures.items c.in_ok-words.ensures.len c.in_ok-resize.ensures.items c.in_ok-push.ensures.items)).1
