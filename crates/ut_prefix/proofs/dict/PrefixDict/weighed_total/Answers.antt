use Rattle.std.proofs.Common.{◌≡◌, ◌≤◌, ℕ, ℤ, List, length, refl, sym, ap, ◌∙◌, subst, arith}
use Rattle.ut_prefix.specs.Reading.{keys_of, IsKept}
use Rattle.ut_prefix.specs.Totals.{weighed, weighed_above, IsWithin}
use Rattle.ut_prefix.proofs.LayoutLemmas.{length-keys_of}
use Rattle.ut_prefix.proofs.TotalLemmas.{weighed-usual}
use Rattle.ut_prefix.proofs.AboveLemmas.{usual-fits, both-fits, both-is}
use Rattle.ut_prefix.proofs.dict.PrefixDict.weighed_total.Goals as goal

-- how many keys there are
size : (starts : List ℕ) (n : ℕ) (bytes : List ℕ) (total : ℤ) → IsKept starts n bytes total → length (keys_of starts n bytes) ≡ n
size starts n bytes total h = length-keys_of starts n bytes h.laid.count

-- how far the sum of their numbers may go
total-within : (starts : List ℕ) (n : ℕ) (bytes : List ℕ) (total : ℤ) → IsKept starts n bytes total → IsWithin 9223372036854775808 n total
total-within starts n bytes total h = subst (λ (k : ℕ). IsWithin 9223372036854775808 k total) (size starts n bytes total h) h.sum.within

-- there are no more weights
fewer : (starts : List ℕ) (n : ℕ) (bytes weights : List ℕ) (total : ℤ) (keys : List (List ℕ)) → IsKept starts n bytes total → keys_of starts n bytes ≡ keys → length weights ≤ length keys → length weights ≤ n
fewer starts n bytes weights total keys h e le = omega (arith, size starts n bytes total h, ap (λ l. length l) e, le)

resized : (k n : ℕ) (z : ℤ) → k ≡ n → IsWithin 79228162514264337593543950336 k z → IsWithin 79228162514264337593543950336 n z
resized k n z e h = subst (λ (m : ℕ). IsWithin 79228162514264337593543950336 m z) e h

pub usual_of-usual-requires : goal.usual_of-usual-requires
usual_of-usual-requires c = fewer c.self.inside.starts.items c.self.inside.len c.self.inside.bytes.items c.args.weights.now c.self.inside.total c.args.self.now c.self.invariant c.self.view_is c.requires

pub all_above-above-requires-clause-weights : goal.all_above-above-requires-clause-weights
all_above-above-requires-clause-weights c = fewer c.self.inside.starts.items c.self.inside.len c.self.inside.bytes.items c.args.weights.now c.self.inside.total c.args.self.now c.self.invariant c.self.view_is c.requires

pub overflow_mul-result : goal.overflow_mul-result
overflow_mul-result c =
    usual-fits c.usual_of-usual.result c.self.inside.len c.from.result c.self.inside.total (omega arith) c.self.invariant.laid.size c.from.ensures (total-within c.self.inside.starts.items c.self.inside.len c.self.inside.bytes.items c.self.inside.total c.self.invariant)

pub overflow_add-result : goal.overflow_add-result
overflow_add-result c =
    both-fits c.usual_of-usual.result c.self.inside.len c.from.result c.self.inside.total (omega arith) c.self.invariant.laid.size c.from.ensures (total-within c.self.inside.starts.items c.self.inside.len c.self.inside.bytes.items c.self.inside.total c.self.invariant)
    (length c.args.weights.now) c.all_above-above.result (fewer c.self.inside.starts.items c.self.inside.len c.self.inside.bytes.items c.args.weights.now c.self.inside.total c.args.self.now c.self.invariant c.self.view_is c.requires) c.all_above-above.ensures.within

pub returns-clause-sum : goal.returns-clause-sum
returns-clause-sum c =
    let u = c.usual_of-usual.result in
    let len = c.self.inside.len in
    let ws = c.args.weights.now in
    let keys = keys_of c.self.inside.starts.items c.self.inside.len c.self.inside.bytes.items in
    let above : c.all_above-above.result ≡ weighed_above u ws keys =
    c.all_above-above.ensures.sum ∙ (λ i. weighed_above u ws (keys_of (c.as_slice-2.ensures.value i) len (c.as_slice.ensures.value i))) in
    let both = both-is c.usual_of-usual.result c.self.inside.len c.from.result c.self.inside.total (omega arith) c.self.invariant.laid.size c.from.ensures (total-within c.self.inside.starts.items c.self.inside.len c.self.inside.bytes.items c.self.inside.total c.self.invariant) (length c.args.weights.now) c.all_above-above.result (fewer c.self.inside.starts.items c.self.inside.len c.self.inside.bytes.items c.args.weights.now c.self.inside.total c.args.self.now c.self.invariant c.self.view_is c.requires) c.all_above-above.ensures.within _ refl in
    weighed-usual u ws keys c.self.inside.total c.all_above-above.result _ (λ some. c.usual_of-usual.ensures some ∙ sym (size c.self.inside.starts.items c.self.inside.len c.self.inside.bytes.items c.self.inside.total c.self.invariant)) c.self.invariant.sum.sum above both.0
    ∙ ap (λ ks. weighed ws ks) c.self.view_is

pub returns-clause-within : goal.returns-clause-within
returns-clause-within c =
    let both = both-is c.usual_of-usual.result c.self.inside.len c.from.result c.self.inside.total (omega arith) c.self.invariant.laid.size c.from.ensures (total-within c.self.inside.starts.items c.self.inside.len c.self.inside.bytes.items c.self.inside.total c.self.invariant) (length c.args.weights.now) c.all_above-above.result (fewer c.self.inside.starts.items c.self.inside.len c.self.inside.bytes.items c.args.weights.now c.self.inside.total c.args.self.now c.self.invariant c.self.view_is c.requires) c.all_above-above.ensures.within _ refl in
    resized c.self.inside.len (length c.args.self.now) _ (sym (size c.self.inside.starts.items c.self.inside.len c.self.inside.bytes.items c.self.inside.total c.self.invariant) ∙ ap (λ l. length l) c.self.view_is) both.1
