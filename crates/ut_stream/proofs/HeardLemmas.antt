-- What is heard of the bytes that are held.
use Rattle.std.proofs.Common.{◌≡◌, ℕ, ◌+◌, ◌-◌, List, ◌∷◌, ◌++◌, length, take, drop, refl, sym, ◌∙◌, ap, arith, take-append-drop}
use Rattle.std.specs.Int.{w32, to_le_bytes}
use Rattle.std.proofs.lemmas.List.{take_all, length-drop, drop-drop, length-take-le}
use Rattle.ut_value.specs.declared.entry.Entry.{Entry}
use Rattle.ut_redo.specs.Frames.{open_gate, frame, payload_of, IsPayload, IsFrame}
use Rattle.ut_redo.proofs.FrameLemmas.{items_some, regroup}
use Rattle.ut_stream.specs.Fronts.{HasHeader, HasNoFrame, IsWhole, IsOff, Length, Payload}

pub held_is : (at : ℕ) (d bytes held : List ℕ) → d ≡ bytes → drop at bytes ≡ held → take (length d - at) (drop at d) ≡ held
held_is at d bytes held same is = take_all (length d - at) (drop at d) (omega (arith, length-drop at d)) ∙ ap (drop at) same ∙ is

pub off_is : (bytes : List ℕ) → HasNoFrame bytes → IsOff bytes
off_is bytes h = Length h.length_in h.behind h.header h.never

-- what stands behind a header
behind_is : (len : ℕ) (behind held : List ℕ) → HasHeader len behind held → drop 5 held ≡ behind
behind_is len behind held h = ap (drop 5) h.are

-- the payload, as it is read
pub payload_is : (at len : ℕ) (d bytes held behind : List ℕ) → d ≡ bytes → drop at bytes ≡ held → HasHeader len behind held → take (at + 5 + len - (at + 5)) (drop (at + 5) d) ≡ take len behind
payload_is at len d bytes held behind same is h =
    let n : at + 5 + len - (at + 5) ≡ len = omega arith in
    let front : drop (at + 5) d ≡ behind = ap (drop (at + 5)) same ∙ sym (drop-drop 5 at bytes) ∙ ap (drop 5) is ∙ behind_is len behind held h in
    λ i. take (n i) (front i)

pub heard_bad : (len : ℕ) (held payload : List ℕ) (w : IsWhole len held) → payload ≡ take len w.behind → ((items : List Entry) → IsPayload items payload → ⊥) → IsOff held
heard_bad len held payload w is none = Payload len w.behind w.header w.there (λ items p. none items (p.0, is ∙ p.1))

pub heard_frame : (at len : ℕ) (bytes held payload : List ℕ) (items : List Entry) → drop at bytes ≡ held → (w : IsWhole len held) → payload ≡ take len w.behind → IsPayload items payload → IsFrame items × (held ≡ frame (payload_of items) ++ drop (at + 5 + len) bytes)
heard_frame at len bytes held payload items is w same p =
    let front : take len w.behind ≡ payload_of items = sym same ∙ p.1 in
    let long : length (payload_of items) ≡ len = ap length (sym front) ∙ length-take-le len w.behind w.there in
    let some = w.some in
    let short = w.short in
    let rest : drop len w.behind ≡ drop (at + 5 + len) bytes =
    ap (drop len) (sym (behind_is len w.behind held w.header)) ∙ ap (λ (l : List ℕ). drop len (drop 5 l)) (sym is) ∙ ap (drop len) (drop-drop 5 at bytes) ∙ drop-drop len (at + 5) bytes in
    let parts : w.behind ≡ payload_of items ++ drop (at + 5 + len) bytes = sym (take-append-drop len w.behind) ∙ (λ i. front i ++ rest i) in (
      record { some = items_some items (payload_of items) (omega (arith, long, some)) refl; each = p.0; short = omega (arith, long, short) },
      w.header.are ∙ (λ i. open_gate ∷ (to_le_bytes w32 (sym long i) ++ parts i)) ∙ sym (regroup (payload_of items) (drop (at + 5 + len) bytes)),
    )
