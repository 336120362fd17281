use Rattle.std.proofs.Common.{◌≡◌, ◌++◌, ◌∷◌, ◌+◌, ◌-◌, ◌≤◌, [], List, ℕ, length, drop, take, refl, sym, ◌∙◌, ap, arith}
use Rattle.std.specs.Int.{w32, to_le_bytes}
use Rattle.std.proofs.lemmas.List.{length-append, length-drop}
use Rattle.ut_frame.specs.Framed.{payload_in, IsWhole}
use Rattle.ut_frame.proofs.BodyLemmas.{added, body_from, replaced, whole_body}
use Rattle.ut_frame.proofs.frame.close.Goals as goal

-- the gate behind the numbers
end_is : (c : goal.After-push_reserved) → c.push_reserved.new.self.items ≡ c.set_numbers.new.bytes ++ 0 ∷ []
end_is c =
    let bytes = c.args.bytes.now in
    let long : length c.set_numbers.new.bytes ≡ length bytes.items = c.set_numbers.ensures.len ∙ ap (λ (l : List ℕ). length l) c.deref_mut.ensures.value in
    c.push_reserved.ensures.items ∙ ap (λ (l : List ℕ). l ++ 0 ∷ []) (replaced bytes.items c.set_numbers.new.bytes bytes.len (omega (arith, bytes.ok.0)) long)

pub returns-clause-whole : goal.returns-clause-whole
returns-clause-whole c =
    let set = c.set_numbers.new.bytes in
    let bytes = c.args.bytes.now in
    let same : length c.deref_mut.result.now ≡ length set = sym c.set_numbers.ensures.len in
    let long : length set ≡ bytes.len = omega (arith, same, ap (λ (l : List ℕ). length l) c.deref_mut.ensures.value, bytes.ok.0) in
    let front : take 4 set ≡ to_le_bytes w32 (length set - 4) = c.set_numbers.ensures.front ∙ ap (λ (n : ℕ). to_le_bytes w32 (n - 4)) same in
    whole_body c.push_reserved.new.self.items (drop 4 set) (end_is c ∙ body_from set (omega (arith, long, c.requires.begun)) front)
    (omega (arith, length-drop 4 set, long, c.requires.size))

-- a frame has a gate
gated : (before : List ℕ) → IsWhole before → length before - 1 + 1 ≡ length before
gated before whole =
    let p = payload_in before in
    omega (arith, ap (λ (l : List ℕ). length l) whole.parts, length-append (to_le_bytes w32 (length p) ++ p) (0 ∷ []))

pub returns-clause-added : goal.returns-clause-added
returns-clause-added c os op before whole put is =
    added os op before (take (length before - 1) before) c.args.bytes.now.items c.set_numbers.new.bytes c.push_reserved.new.self.items (length before - 1) whole (gated before whole) refl put
    (λ k front rest few four parts. c.set_numbers.ensures.set k front rest few four (c.deref_mut.ensures.value ∙ parts) ∙ ap (λ (l : List ℕ). to_le_bytes w32 (length l - 4) ++ (2 ∷ to_le_bytes w32 (k + 1) ++ rest)) c.deref_mut.ensures.value)
    (end_is c) is
