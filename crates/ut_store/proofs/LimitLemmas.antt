-- Limits, as they are measured.
use Rattle.std.proofs.Common.{ℕ, ◌+◌, ◌-◌, ◌<◌, ◌≤◌, ◌≡◌, Bool, true, false, ◌&&◌, ◌||◌, is_some, List, [], ◌∷◌, length, Option, None, Some, refl, sym, ap, ◌∙◌, arith, IfNone, IfSome, MatchOption, nat_le, nat_lt, le-leb, leb-true}
use Rattle.std.specs.Option.{option_map}
use Rattle.ut_value.specs.declared.entry.Op.{Op}
use Rattle.ut_value.specs.Spelling.{ops_len}
use Rattle.ut_plain.specs.declared.reply.Refusal.TheVariants as refusals
use Rattle.ut_plain.specs.Rows.{inserts_of}
use Rattle.ut_plain.specs.Refusals.{unless, or_else}
use Rattle.ut_stamps.specs.declared.place.Place.{Place}
use Rattle.ut_txn.specs.Seats.{opened_at, payload_at}
use Rattle.ut_store.specs.Held.{Held}
use Rattle.ut_store.specs.Hits.{first_taken_of}
use Rattle.ut_store.specs.Changes.{has_ids_for, has_bytes_for, has_room_for, late_refusal}

bytes_by : (a b len : ℕ) (o : Option ℕ) → a ≤ b → MatchOption o (b - a < len) (λ n. (n ≡ len) × (n ≤ b - a)) → is_some o ≡ nat_le (a + len) b
bytes_by a b len None h k = sym (too_many (nat_le (a + len) b) refl)
  where
    too_many : (t : Bool) → nat_le (a + len) b ≡ t → t ≡ false
    too_many true e = let le = leb-true (a + len) b e in absurd (omega arith)
    too_many false e = refl
bytes_by a b len (Some n) h k = sym (le-leb (a + len) b (omega (arith, k.0, k.1)))

pub bytes-fit : (a b own len : ℕ) (o : Option ℕ) → a ≡ own → a ≤ b → MatchOption o (b - a < len) (λ n. (n ≡ len) × (n ≤ b - a)) → is_some o ≡ nat_le (own + len) b
bytes-fit a b own len o same h k = bytes_by a b len o h k ∙ ap (λ x. nat_le (x + len) b) same

-- ---- all limits

and_false : (b : Bool) → b && false ≡ false
and_false true = refl
and_false false = refl

-- whether the journal has room for one entry more, where one is needed
abbrev pub has_entry : Held → ℕ → Bool
has_entry e session = is_some (opened_at e.seats session) || nat_lt e.counts.entries 1073741823

module _ (e : Held) (session : ℕ) where
  -- operations that keep to each
  pub room_all : (os : List Op) → has_ids_for e (inserts_of os) ≡ true → has_bytes_for e session os ≡ true → has_entry e session ≡ true → has_room_for e session os ≡ true
  room_all [] ids bytes entry = refl
  room_all (op ∷ os) ids bytes entry = λ i. ids i && bytes i && entry i

  -- some that don't keep to one
  pub no_ids_left : (os : List Op) → 0 < length os → has_ids_for e (inserts_of os) ≡ false → has_room_for e session os ≡ false
  no_ids_left [] some ids = absurd (omega arith)
  no_ids_left (op ∷ os) some ids = λ i. ids i && has_bytes_for e session (op ∷ os) && has_entry e session

  pub no_bytes_left : (os : List Op) → 0 < length os → has_bytes_for e session os ≡ false → has_room_for e session os ≡ false
  no_bytes_left [] some bytes = absurd (omega arith)
  no_bytes_left (op ∷ os) some bytes = (λ i. has_ids_for e (inserts_of (op ∷ os)) && bytes i && has_entry e session)
      ∙ ap (λ (b : Bool). b && has_entry e session) (and_false (has_ids_for e (inserts_of (op ∷ os))))

  pub no_entry_left : (os : List Op) → 0 < length os → has_entry e session ≡ false → has_room_for e session os ≡ false
  no_entry_left [] some entry = absurd (omega arith)
  no_entry_left (op ∷ os) some entry =
      (λ i. has_ids_for e (inserts_of (op ∷ os)) && has_bytes_for e session (op ∷ os) && entry i)
      ∙ and_false (has_ids_for e (inserts_of (op ∷ os)) && has_bytes_for e session (op ∷ os))

  -- the bytes that are left, where there are ids and an entry
  module _ (os : List Op) (some : 0 < length os) (own : ℕ) (size : own ≡ length (payload_at e.seats session)) (short : own ≤ 1073741824) where
    pub told_room : (o : Option ℕ) → has_ids_for e (inserts_of os) ≡ true → has_entry e session ≡ true → MatchOption o (1073741824 - own < ops_len os) (λ n. (n ≡ ops_len os) × (n ≤ 1073741824 - own)) → IfSome o (λ n. has_room_for e session os ≡ true)
    told_room None ids entry h = tt
    told_room (Some n) ids entry h = room_all os ids (sym (bytes-fit own 1073741824 (length (payload_at e.seats session)) (ops_len os) (Some n) size short h)) entry

    pub told_none : (o : Option ℕ) → MatchOption o (1073741824 - own < ops_len os) (λ n. (n ≡ ops_len os) × (n ≤ 1073741824 - own)) → IfNone o (has_room_for e session os ≡ false)
    told_none None h = no_bytes_left os some (sym (bytes-fit own 1073741824 (length (payload_at e.seats session)) (ops_len os) None size short h))
    told_none (Some n) h = tt

  -- the session's own bytes are too many already
  pub no_bytes_own : (os : List Op) (own : ℕ) → 0 < length os → own ≡ length (payload_at e.seats session) → 1073741824 < own → has_room_for e session os ≡ false
  no_bytes_own os own some size long = no_bytes_left os some (too_many (has_bytes_for e session os) refl)
    where
      too_many : (t : Bool) → has_bytes_for e session os ≡ t → t ≡ false
      too_many true is = let le = leb-true (length (payload_at e.seats session) + ops_len os) 1073741824 is in absurd (omega (arith, le, size, long))
      too_many false is = refl

pub told_bytes : (a b len : ℕ) (o : Option ℕ) → MatchOption o (a < len) (λ n. (n ≡ len) × (n ≤ b)) → IfSome o (λ n. n ≡ len)
told_bytes a b len None h = tt
told_bytes a b len (Some n) h = h.0

-- ---- the late refusal

module _ (e : Held) (session n : ℕ) (hits : List (ℕ × Place)) (os : List Op) where
  pub late_full : has_room_for e session os ≡ false → late_refusal e session n hits os ≡ Some refusals.Full
  late_full none = λ i. or_else (unless (none i) refusals.Full) (option_map refusals.Conflict (first_taken_of e session n hits))

  pub late_taken : (o : Option ℕ) → has_room_for e session os ≡ true → first_taken_of e session n hits ≡ o → late_refusal e session n hits os ≡ option_map refusals.Conflict o
  late_taken o room taken = λ i. or_else (unless (room i) refusals.Full) (option_map refusals.Conflict (taken i))
