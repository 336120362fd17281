use Rattle.std.proofs.Common.{◌≡◌, ℕ, ◌+◌, ◌*◌, ◌^◌, ◌<◌, ◌++◌, [], ◌∷◌, ap, sym, subst, ◌∙◌}
use Rattle.ut_bits.specs.Bits.{fields, bytes_of, byte_count, packed_bytes, number_of}
use Rattle.ut_bits.proofs.BitLemmas.{length-fields, AllBelow-fields, joined-fields, padded-number, padded-length, padded-below}
use Rattle.ut_bits.proofs.ListLemmas.{packed_bytes-number}
use Rattle.ut_bits.proofs.bit_list.BitListWriter.finish.Goals as goal

-- the packed bytes of what was written, with eight zero bytes behind
bytes_are : (c : goal.In_ok-extend_from_slice) → c.extend_from_slice.new.self.items ≡ packed_bytes c.self.inside.width (fields c.self.inside.width c.self.inside.len c.self.inside.bits.number) ++ (0 ∷ 0 ∷ 0 ∷ 0 ∷ 0 ∷ 0 ∷ 0 ∷ 0 ∷ [])
bytes_are c =
    c.in_ok-extend_from_slice.ensures.items
    ∙ ap (λ l. l ++ (0 ∷ 0 ∷ 0 ∷ 0 ∷ 0 ∷ 0 ∷ 0 ∷ 0 ∷ [])) (c.in_ok-bytes.ensures ∙ ap (λ (k : ℕ). bytes_of (byte_count k) c.self.inside.bits.number) c.self.invariant.2 ∙ sym (packed_bytes-number c.self.inside.width c.self.inside.len c.self.inside.bits.number c.self.invariant.3))

number : (c : goal.In_ok-extend_from_slice) → number_of c.extend_from_slice.new.self.items ≡ c.self.inside.bits.number
number c = padded-number c.self.inside.width (fields c.self.inside.width c.self.inside.len c.self.inside.bits.number) _ (AllBelow-fields _ _ _) (bytes_are c) ∙ joined-fields c.self.inside.width c.self.inside.len c.self.inside.bits.number c.self.invariant.3

pub invariant_of-result : goal.invariant_of-result
invariant_of-result c = (
  c.self.invariant.0,
  c.self.invariant.1,
  padded-length c.self.inside.width (fields c.self.inside.width c.self.inside.len c.self.inside.bits.number) _ (bytes_are c) ∙ ap (λ (n : ℕ). byte_count (n * c.self.inside.width) + 8) (length-fields _ _ _),
  subst (λ (k : ℕ). k < 2 ^ (c.self.inside.len * c.self.inside.width)) (sym (number c)) c.self.invariant.3,
  padded-below c.self.inside.width (fields c.self.inside.width c.self.inside.len c.self.inside.bits.number) _ (bytes_are c),
)

pub returns-clause-codes : goal.returns-clause-codes
returns-clause-codes c = ap (λ (x : ℕ). fields c.self.inside.width c.self.inside.len x) (number c) ∙ ap (λ v. v.codes) c.self.view_is
