-- Where reading stops no frame begins.
use Rattle.std.proofs.Common.{◌≡◌, ◌≢◌, ℕ, zero, suc, ◌+◌, ◌-◌, slice_index_or, ◌<◌, ◌≤◌, ◌^◌, inl, inr, false, List, [], ◌∷◌, ◌++◌, length, take, drop, refl, sym, ◌∙◌, ap, arith, length-append}
use Rattle.std.specs.Int.{w32, to_le_bytes, from_le_bytes}
use Rattle.std.proofs.lemmas.List.{take_all}
use Rattle.std.proofs.lemmas.Nat.{from_le_bytes-to_le_bytes_4}
use Rattle.ut_value.specs.declared.entry.Entry.{Entry}
use Rattle.ut_value.proofs.OneSpelling.{same_front}
use Rattle.ut_redo.specs.Frames.{open_gate, frame, payload_of, IsFrame, IsEnd}
use Rattle.ut_redo.proofs.FrameLemmas.{regroup, payload_some, no_frame}
use Rattle.ut_stream.specs.Fronts.{HasHeader, HasNoFrame, IsWhole, IsShort, None, Gate, Part, IsOff, Length, Payload}
use Rattle.ut_stream.specs.Streams.{IsStop, Waits, Ends, Breaks}

-- ---- what bytes begin with, step by step

pub short_none : (bytes : List ℕ) → bytes ≡ [] → IsShort bytes
short_none bytes is = None is

-- a first byte and those behind it
pub first_byte : (bytes : List ℕ) (gate : ℕ) → 1 ≤ length bytes → slice_index_or bytes 0 0 ≡ gate → bytes ≡ gate ∷ take (length bytes - 1) (drop 1 bytes)
first_byte [] gate some is = absurd (omega (arith, some))
first_byte (x ∷ xs) gate some is = λ i. is i ∷ sym (take_all (length (x ∷ xs) - 1) xs (omega arith)) i

pub some_of : (n : ℕ) → (n ≡ 0 → ⊥) → 1 ≤ n
some_of zero other = absurd (other refl)
some_of (suc n) other = omega arith

header_of : (bytes behind payload : List ℕ) (gate n : ℕ) → bytes ≡ gate ∷ behind → gate ≡ open_gate → behind ≡ to_le_bytes w32 n ++ payload → n < 2 ^ 32 → HasHeader n payload bytes
header_of bytes behind payload gate n is opened spelled small = record { small = small; are = is ∙ (λ i. opened i ∷ spelled i) }

pub short_gate : (bytes behind : List ℕ) (gate : ℕ) → bytes ≡ gate ∷ behind → gate ≡ open_gate → length behind < 4 → IsShort bytes
short_gate bytes behind gate is opened few = Gate behind (is ∙ ap (λ (g : ℕ). g ∷ behind) opened) few

pub short_part : (bytes behind payload : List ℕ) (gate n : ℕ) → bytes ≡ gate ∷ behind → gate ≡ open_gate → behind ≡ to_le_bytes w32 n ++ payload → n < 2 ^ 32 → 1 ≤ n → n ≤ 2 ^ 30 → length payload < n → IsShort bytes
short_part bytes behind payload gate n is opened spelled small some short few = Part n payload (header_of bytes behind payload gate n is opened spelled small) some short few

pub closed_gate : (bytes behind : List ℕ) (gate : ℕ) → bytes ≡ gate ∷ behind → gate ≢ open_gate → IsEnd false bytes
closed_gate bytes behind gate is closed = (gate, behind, is, closed)

pub off_zero : (bytes behind payload : List ℕ) (gate n : ℕ) → bytes ≡ gate ∷ behind → gate ≡ open_gate → behind ≡ to_le_bytes w32 n ++ payload → n < 2 ^ 32 → n ≡ 0 → HasNoFrame bytes
off_zero bytes behind payload gate n is opened spelled small none = record { length_in = n; behind = payload; header = header_of bytes behind payload gate n is opened spelled small; never = inl none }

pub off_long : (bytes behind payload : List ℕ) (gate n : ℕ) → bytes ≡ gate ∷ behind → gate ≡ open_gate → behind ≡ to_le_bytes w32 n ++ payload → n < 2 ^ 32 → 2 ^ 30 < n → HasNoFrame bytes
off_long bytes behind payload gate n is opened spelled small long = record { length_in = n; behind = payload; header = header_of bytes behind payload gate n is opened spelled small; never = inr long }

pub whole_there : (bytes behind payload : List ℕ) (gate n : ℕ) → bytes ≡ gate ∷ behind → gate ≡ open_gate → behind ≡ to_le_bytes w32 n ++ payload → n < 2 ^ 32 → 1 ≤ n → n ≤ 2 ^ 30 → n ≤ length payload → IsWhole n bytes
whole_there bytes behind payload gate n is opened spelled small some short there = record { behind = payload; header = header_of bytes behind payload gate n is opened spelled small; some = some; short = short; there = there }

-- ---- where reading stops

abbrev tail : List ℕ → List ℕ
tail [] = []
tail (x ∷ xs) = xs

-- a header that a frame has is the frame's
header-is : (n : ℕ) (behind bytes rest p : List ℕ) → length p ≤ 2 ^ 30 → HasHeader n behind bytes → bytes ≡ frame p ++ rest → (n ≡ length p) × (behind ≡ p ++ rest)
header-is n behind bytes rest p small h is =
    let both : to_le_bytes w32 n ++ behind ≡ to_le_bytes w32 (length p) ++ (p ++ rest) = ap tail (sym h.are ∙ is ∙ regroup p rest) in
    let halves = same_front (to_le_bytes w32 n) (to_le_bytes w32 (length p)) behind (p ++ rest) refl both in
    let fits : length p < 2 ^ 32 = omega (arith, small) in
    (sym (from_le_bytes-to_le_bytes_4 n h.small) ∙ ap (from_le_bytes w32) halves.0 ∙ from_le_bytes-to_le_bytes_4 (length p) fits, halves.1)

take-front : (p rest : List ℕ) → take (length p) (p ++ rest) ≡ p
take-front [] rest = refl
take-front (x ∷ p) rest = ap (λ l. x ∷ l) (take-front p rest)

short_no_frame : (bytes rest : List ℕ) (items : List Entry) → IsShort bytes → IsFrame items → bytes ≡ frame (payload_of items) ++ rest → ⊥
short_no_frame bytes rest items (None is) f same = let both : [] ≡ open_gate ∷ (to_le_bytes w32 (length (payload_of items)) ++ (payload_of items ++ rest)) = sym is ∙ same ∙ regroup (payload_of items) rest in cc
short_no_frame bytes rest items (Gate behind is few) f same =
    let both : behind ≡ to_le_bytes w32 (length (payload_of items)) ++ (payload_of items ++ rest) = ap tail (sym is ∙ same ∙ regroup (payload_of items) rest) in
    omega (arith, few, ap length both, length-append (to_le_bytes w32 (length (payload_of items))) (payload_of items ++ rest))
short_no_frame bytes rest items (Part n behind header some small few) f same =
    let h = header-is n behind bytes rest (payload_of items) f.short header same in
    omega (arith, few, h.0, ap length h.1, length-append (payload_of items) rest)

off_no_frame : (bytes rest : List ℕ) (items : List Entry) → IsOff bytes → IsFrame items → bytes ≡ frame (payload_of items) ++ rest → ⊥
off_no_frame bytes rest items (Length n behind header (inl none)) f same = let h = header-is n behind bytes rest (payload_of items) f.short header same in omega (arith, none, h.0, payload_some items f.some)
off_no_frame bytes rest items (Length n behind header (inr long)) f same = let h = header-is n behind bytes rest (payload_of items) f.short header same in let short = f.short in omega (arith, long, h.0, short)
off_no_frame bytes rest items (Payload n behind header there none) f same =
    let h = header-is n behind bytes rest (payload_of items) f.short header same in
    let is : take n behind ≡ payload_of items = (λ i. take (h.0 i) (h.1 i)) ∙ take-front (payload_of items) rest in
    none items (f.each, is)

pub stop_no_frame : (bytes rest : List ℕ) (items : List Entry) → IsStop bytes → IsFrame items → bytes ≡ frame (payload_of items) ++ rest → ⊥
stop_no_frame bytes rest items (Waits short) f same = short_no_frame bytes rest items short f same
stop_no_frame bytes rest items (Ends end) f same = no_frame false items bytes rest end f same
stop_no_frame bytes rest items (Breaks off) f same = off_no_frame bytes rest items off f same
