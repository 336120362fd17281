use Rattle.std.proofs.Common.{◌≡◌, ◌+◌, ◌-◌, List, ℕ, take, drop, get_or, sym, ap, arith, refl, true, false, subst}
use Rattle.std.proofs.lemmas.List.{take_rest}
use Rattle.ut_prefix.specs.Reading.{CanFollow}
use Rattle.ut_prefix.proofs.EntryLemmas.{CanFollow-entry, IsEntry-next}
use Rattle.ut_prefix.proofs.parse.read_next.Goals as goal

false_true : false ≡ true → ⊥
false_true h = cc

-- the bytes of the key's own
own_is : (bytes : List ℕ) (size : ℕ) → size ≡ get_or bytes 1 0 → take (2 + size - 2) (drop 2 bytes) ≡ take (get_or bytes 1 0) (drop 2 bytes)
own_is bytes size e =
    let count : 2 + size - 2 ≡ get_or bytes 1 0 = omega (arith, e) in
    ap (λ (k : ℕ). take k (drop 2 bytes)) count

pub returns-then-not-may_follow-clause-none : goal.returns-then-not-may_follow-clause-none
returns-then-not-may_follow-clause-none c = λ next rest e.
    let can = CanFollow-entry c.args.i c.args.key.now next c.args.bytes.now rest (take (2 + c.from-end.result - 2) (drop 2 c.args.bytes.now)) c.from-shared.result c.requires e c.from-shared.ensures (own_is c.args.bytes.now c.from-end.result c.from-end.ensures) in
    false_true (c.if-not-may_follow.ensures.1 (subst (λ (l : List ℕ). CanFollow l c.from-shared.result (take (2 + c.from-end.result - 2) (drop 2 c.args.bytes.now))) (sym c.as_slice.ensures.bytes) can))

pub returns-clause-some : goal.returns-clause-some
returns-clause-some c =
    let can = subst (λ (l : List ℕ). CanFollow l c.from-shared.result (take (2 + c.from-end.result - 2) (drop 2 c.args.bytes.now))) c.as_slice.ensures.bytes (c.if-not-may_follow.ensures.0 refl) in
    let own : take (2 + c.from-end.result - 2) (drop 2 c.args.bytes.now) ≡ take c.from-end.result (drop 2 c.args.bytes.now) =
    (let size : 2 + c.from-end.result - 2 ≡ c.from-end.result = omega arith in ap (λ (k : ℕ). take k (drop 2 c.args.bytes.now)) size) in
    IsEntry-next c.args.i c.args.key.now c.splice.new.self c.args.bytes.now _ (take (2 + c.from-end.result - 2) (drop 2 c.args.bytes.now)) c.from-shared.result c.from-end.result c.requires can c.from-shared.ensures c.from-end.ensures own (omega arith) c.splice.ensures (take_rest c.args.bytes.now (2 + c.from-end.result))
