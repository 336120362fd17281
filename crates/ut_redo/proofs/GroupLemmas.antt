-- What a crash leaves while a group is written, and what a read finds of it.
use Rattle.std.proofs.Common.{◌≡◌, ℕ, ◌+◌, ◌-◌, ◌<◌, ◌≤◌, ◌^◌, List, [], ◌∷◌, ◌++◌, length, take, drop, replicate, Result, Ok, refl, sym, ◌∙◌, ap, subst, arith, append_assoc}
use Rattle.std.specs.Int.{w32, to_le_bytes}
use Rattle.std.specs.Prelude.{IsTrue}
use Rattle.std.proofs.lemmas.List.{take_at, append-nil, length-append, length-drop, length-take, drop-take, drop-append-le}
use Rattle.ut_outside.specs.declared.disk.Which.{Which}
use Rattle.ut_outside.specs.declared.faults.Failed.{Failed}
use Rattle.ut_outside.specs.Chains.{Settles, Reached}
use Rattle.ut_outside.specs.Disk.{Image, View, IsTold, Changes, TornWrite, content, overlaid, padded}
use Rattle.ut_outside.specs.HistoryLaws.{length-overlaid}
use Rattle.ut_outside.specs.Run.{Always, ComesFrom, LeavesOnly}
use Rattle.ut_outside.proofs.RunLemmas.{started, goes_on, weaker, others_same, drop-overlaid}
use Rattle.ut_value.specs.declared.entry.Entry.{Entry}
use Rattle.ut_redo.specs.Frames.{open_gate, payload_of, IsFrame}
use Rattle.ut_frame.specs.Framed.{body}
use Rattle.ut_redo.specs.Appends.{LogPlace, IsClosedAt, HasClosedGate, Extends, Extended, BeforeOrAfter, After}
use Rattle.ut_redo.specs.Groups.{Log, behind_group, IsUnderWay, Unmoved}
use Rattle.ut_redo.proofs.AppendLemmas.{Behind, still_closed, shorter_front, gate_within, torn_behind, body_leaves, body_reached, gate_leaves, gate_opened, next_closed, length-body}
use Rattle.ut_redo.proofs.HoldsLemmas.{still_holds, closed_at_end, by_entries, after}

-- ---- a write behind the gate

-- what stood before the gate stands there still
pub behind_unmoved : (at : ℕ) (d c : List ℕ) → Behind at d c → Unmoved at d c
behind_unmoved at d c same from held holds =
    let gate = still_closed at d c same (closed_at_end from at held d holds) in
    still_holds from held at d c holds (shorter_front at d c same) (omega (arith, gate.within)) gate

module _ (v0 : View) (file : Which) (at from n : ℕ) (le : at + 1 ≤ from) (settled : Always v0 (λ c. IsClosedAt at (content file c))) (stays : v0.crash_states v0.seen)
    {T : Type 0} (Done : List ℕ → List ℕ → Type 0) (v1 : View) (r : Result T Failed) (w : Changes file (TornWrite (length (content file v0.seen)) from n) Done v0 v1 r) where
  left_behind : (c : Image) → v1.crash_states c → ComesFrom v0 file (Behind at) c
  left_behind c left = let d = w.crash c left in (d.0, d.1, d.2.1, torn_behind v0 file at settled stays from n le (content file d.0) (content file c) d.2.0)

  pub write_leaves : ((c : Image) → v0.crash_states_since v0.moment c → v0.crash_states c) → LeavesOnly v0 v1 (ComesFrom v0 file (Unmoved at))
  write_leaves only = weaker v0 v1 (ComesFrom v0 file (Behind at)) (ComesFrom v0 file (Unmoved at))
      (λ c from. (from.0, from.1, from.2, behind_unmoved at (content file from.0) (content file c) from.3))
      (goes_on v0 v0 v1 (ComesFrom v0 file (Behind at)) r (started v0 (ComesFrom v0 file (Behind at)) (λ c left. (c, only c left, others_same file c, refl))) w.counts left_behind)

  pub write_closed : Always v1 (λ c. IsClosedAt at (content file c))
  write_closed c left = let d = left_behind c left in still_closed at (content file d.0) (content file c) d.3 (settled d.0 d.1)

-- ---- bytes

-- bytes that are written behind a front
pub laid_behind : (k at : ℕ) (front rest b s : List ℕ) → k ≤ length s → at ≡ k + length front → drop k s ≡ front ++ rest → drop k (overlaid at b s) ≡ (front ++ b) ++ drop (at + length b) s
laid_behind k at front rest b s long there is =
    let within : at ≤ length s = omega (arith, there, ap length is, length-drop k s, length-append front rest, long) in
    let none : at - length s ≡ 0 = omega (arith, within) in
    let whole : padded at s ≡ take at s = ap (λ (n : ℕ). take at s ++ replicate n 0) none ∙ append-nil (take at s) in
    let kept : drop k (take at s) ≡ front = ap (λ (n : ℕ). drop k (take n s)) there ∙ drop-take k (length front) s ∙ ap (λ (l : List ℕ). take (length front) l) is ∙ take_at front rest (length front) refl in
    let behind : List ℕ = drop (at + length b) s in
    let short : k ≤ length (take at s) = omega (arith, length-take at s, within, there) in
    ap (λ (l : List ℕ). drop k (l ++ b ++ behind)) whole
    ∙ ap (λ (l : List ℕ). drop k l) (append_assoc (take at s) b behind)
    ∙ drop-append-le k (take at s) (b ++ behind) short
    ∙ ap (λ (l : List ℕ). l ++ (b ++ behind)) kept
    ∙ sym (append_assoc front b behind)

-- ---- the first two calls

-- the length of the group's payload
pub begun : {T : Type 0} (place : LogPlace) (n : ℕ) (v0 v1 : View) (a : T) → place.end ≤ 2 ^ 61 → n ≤ 2 ^ 30 → HasClosedGate place v0 → (IsTold v0 → v0.crash_states v0.seen)
    → Changes place.file (TornWrite (length (content place.file v0.seen)) (place.end + 1) (length (to_le_bytes w32 n))) (λ x y. y ≡ overlaid (place.end + 1) (to_le_bytes w32 n) x) v0 v1 (Ok a)
    → IsUnderWay (record { place = place; group = record { room = n; added = 0 } }) [] v1
begun place n v0 v1 a low short gate stays w = record {
  gate = λ later. let told : IsTold v0 = subst IsTrue w.counts.told later in write_closed v0 place.file place.end (place.end + 1) (length (to_le_bytes w32 n)) (omega arith) (gate told) (stays told) (λ x y. y ≡ overlaid (place.end + 1) (to_le_bytes w32 n) x) v1 (Ok a) w;
  low = low;
  short = short;
  added = refl;
  there = λ later.
      let told : IsTold v0 = subst IsTrue w.counts.told later in
      let s : List ℕ = content place.file v0.seen in
      let rest : List ℕ = drop (place.end + 1 + length (to_le_bytes w32 n)) s in
      (rest, ap (λ (l : List ℕ). drop (place.end + 1) l) (w.done told).0 ∙ drop-overlaid (place.end + 1) (to_le_bytes w32 n) s ∙ ap (λ (l : List ℕ). l ++ rest) (sym (append-nil (to_le_bytes w32 n))));
}

-- where the next payload goes
pub next_is : (log : Log) (payload : List ℕ) (v : View) → IsUnderWay log payload v → log.place.end + 5 + log.group.added ≡ log.place.end + 1 + length (to_le_bytes w32 log.group.room ++ payload)
next_is log payload v begun = omega (arith, begun.added, length-append (to_le_bytes w32 log.group.room) payload)

-- a payload more
pub added : {T : Type 0} (log : Log) (payload more : List ℕ) (at : ℕ) (v0 v1 : View) (a : T) → IsUnderWay log payload v0 → (IsTold v0 → v0.crash_states v0.seen) → at ≡ log.place.end + 5 + log.group.added
    → Changes log.place.file (TornWrite (length (content log.place.file v0.seen)) at (length more)) (λ x y. y ≡ overlaid at more x) v0 v1 (Ok a)
    → IsUnderWay (record { place = log.place; group = record { room = log.group.room; added = log.group.added + length more } }) (payload ++ more) v1
added log payload more at v0 v1 a begun stays there w =
    let front : List ℕ = to_le_bytes w32 log.group.room in
    let at_is : at ≡ log.place.end + 1 + length (front ++ payload) = there ∙ next_is log payload v0 begun in
    record {
      gate = λ later. let told : IsTold v0 = subst IsTrue w.counts.told later in write_closed v0 log.place.file log.place.end at (length more) (omega (arith, there)) (begun.gate told) (stays told) (λ x y. y ≡ overlaid at more x) v1 (Ok a) w;
      low = begun.low;
      short = begun.short;
      added = omega (arith, begun.added, length-append payload more);
      there = λ later.
          let told : IsTold v0 = subst IsTrue w.counts.told later in
          let s : List ℕ = content log.place.file v0.seen in
          let was = begun.there told in
          let within = gate_within v0 log.place.file log.place.end (begun.gate told) (stays told) in
          let rest : List ℕ = drop (at + length more) s in (
            rest,
            ap (λ (l : List ℕ). drop (log.place.end + 1) l) (w.done told).0
                ∙ laid_behind (log.place.end + 1) at (front ++ payload) was.0 more s (omega (arith, within)) at_is was.1
                ∙ ap (λ (l : List ℕ). l ++ rest) (append_assoc front payload more),
          );
    }

-- ---- the end

-- the write of the next gate, and that of the group's own
abbrev pub ClosesNext : {T : Type 0} → Log → View → View → Result T Failed → Type 0
ClosesNext log old new result = Settles log.place.file (TornWrite (length (content log.place.file old.seen)) (log.place.end + 5 + log.group.room) 1) (overlaid (log.place.end + 5 + log.group.room) (0 ∷ [])) old new result

abbrev pub OpensGate : {T : Type 0} → Log → View → View → Result T Failed → Type 0
OpensGate log old new result = Settles log.place.file (TornWrite (length (content log.place.file old.seen)) log.place.end 1) (overlaid log.place.end (open_gate ∷ [])) old new result

pub closes_as : {T : Type 0} (log now : Log) (old new : View) (result : Result T Failed) → log ≡ now → ClosesNext log old new result → ClosesNext now old new result
closes_as log now old new result is w = subst (λ (h : Log). ClosesNext h old new result) is w

pub opens_as : {T : Type 0} (log now : Log) (old new : View) (result : Result T Failed) → log ≡ now → OpensGate log old new result → OpensGate now old new result
opens_as log now old new result is w = subst (λ (h : Log). OpensGate h old new result) is w

module _ (log : Log) (payload : List ℕ) (v0 : View) (begun : IsUnderWay log payload v0) (full : log.group.added ≡ log.group.room) (told : IsTold v0) (stays : v0.crash_states v0.seen) where
  abbrev file : Which
  file = log.place.file

  abbrev at : ℕ
  at = log.place.end

  abbrev next : ℕ
  next = log.place.end + 5 + log.group.room

  -- what a read finds once the next gate is written
  abbrev bytes : List ℕ
  bytes = overlaid next (0 ∷ []) (content file v0.seen)

  abbrev rest : List ℕ
  rest = drop (next + 1) (content file v0.seen)

  room_is : log.group.room ≡ length payload
  room_is = omega (arith, full, begun.added)

  within0 : at < length (content file v0.seen)
  within0 = gate_within v0 file at (begun.gate told) stays

  body_is : drop (at + 1) bytes ≡ body payload ++ rest
  body_is =
      let was = begun.there told in
      let there : next ≡ at + 1 + length (to_le_bytes w32 log.group.room ++ payload) = omega (arith, room_is, length-append (to_le_bytes w32 log.group.room) payload) in
      laid_behind (at + 1) next (to_le_bytes w32 log.group.room ++ payload) was.0 (0 ∷ []) (content file v0.seen) (omega (arith, within0)) there was.1
      ∙ ap (λ (n : ℕ). (to_le_bytes w32 n ++ payload ++ 0 ∷ []) ++ rest) room_is

  within : at < length bytes
  within = omega (arith, length-overlaid next (0 ∷ []) (content file v0.seen), within0)

  module _ {T : Type 0} (v1 : View) (r1 : Result T Failed) (w1 : Settles file (TornWrite (length (content file v0.seen)) next 1) (overlaid next (0 ∷ [])) v0 v1 r1) where
    pub end_begins : LeavesOnly v0 v1 (ComesFrom v0 file (Extends at payload))
    end_begins = body_leaves v0 file at next payload (0 ∷ []) (omega arith) told (begun.gate told) stays v1 r1 w1

  module _ {A : Type 0} (v1 : View) (a : A) (w1 : Settles file (TornWrite (length (content file v0.seen)) next 1) (overlaid next (0 ∷ [])) v0 v1 (Ok a)) where
    reached : Reached file (ComesFrom v0 file (Extends at payload)) (Behind at) bytes v0 v1
    reached = body_reached v0 file at next payload (0 ∷ []) (omega arith) told (begun.gate told) stays v1 (Ok a) w1 (w1.durable told) (w1.seen told)

    pub end_goes_on : {B : Type 0} (v2 : View) (r : Result B Failed) → Settles file (TornWrite (length (content file v1.seen)) at 1) (overlaid at (open_gate ∷ [])) v1 v2 r → LeavesOnly v0 v2 (ComesFrom v0 file (Extends at payload))
    end_goes_on v2 r w2 = gate_leaves v0 file at payload bytes rest within body_is v1 reached v2 r w2

    pub ended : {B : Type 0} (v2 : View) (b : B) → Settles file (TornWrite (length (content file v1.seen)) at 1) (overlaid at (open_gate ∷ [])) v1 v2 (Ok b) → Always v2 (ComesFrom v0 file (Extended at payload))
    ended v2 b w2 = gate_opened v0 file at payload bytes rest within body_is v1 reached v2 (Ok b) w2 (w2.durable reached.told) (w2.seen reached.told)

-- the place behind it, by its entries
pub behind_is : (log : Log) (items : List Entry) (v : View) → IsUnderWay log (payload_of items) v → log.group.added ≡ log.group.room → log.place.end + length (body (payload_of items)) ≡ (behind_group log).end
behind_is log items v begun full = omega (arith, length-body (payload_of items), begun.added, full)

pub group_leaves : (log : Log) (items : List Entry) (v0 v1 : View) → IsUnderWay log (payload_of items) v0 → log.group.added ≡ log.group.room → IsFrame items → LeavesOnly v0 v1 (ComesFrom v0 log.place.file (Extends log.place.end (payload_of items)))
    → LeavesOnly v0 v1 (ComesFrom v0 log.place.file (BeforeOrAfter items log.place.end (behind_group log).end))
group_leaves log items v0 v1 begun full whole run =
    subst (λ (n : ℕ). LeavesOnly v0 v1 (ComesFrom v0 log.place.file (BeforeOrAfter items log.place.end n))) (behind_is log items v0 begun full) (by_entries items log.place.end log.place.file v0 v1 whole run)

pub group_after : (log : Log) (items : List Entry) (v0 v1 : View) → IsUnderWay log (payload_of items) v0 → log.group.added ≡ log.group.room → IsFrame items → Always v1 (ComesFrom v0 log.place.file (Extended log.place.end (payload_of items)))
    → Always v1 (ComesFrom v0 log.place.file (After items log.place.end (behind_group log).end))
group_after log items v0 v1 begun full whole done c left =
    let from = done c left in
    (from.0, from.1, from.2, subst (λ (n : ℕ). After items log.place.end n (content log.place.file from.0) (content log.place.file c)) (behind_is log items v0 begun full) (after items log.place.end (content log.place.file from.0) (content log.place.file c) whole from.3))

-- the next gate is closed
pub group_gate : (log : Log) (payload : List ℕ) (v0 v1 : View) → IsUnderWay log payload v0 → log.group.added ≡ log.group.room → Always v1 (ComesFrom v0 log.place.file (Extended log.place.end payload)) → Always v1 (λ c. IsClosedAt (behind_group log).end (content log.place.file c))
group_gate log payload v0 v1 begun full done c left =
    let from = done c left in
    let there : log.place.end + length (body payload) ≡ (behind_group log).end = omega (arith, length-body payload, begun.added, full) in
    subst (λ (n : ℕ). IsClosedAt n (content log.place.file c)) there (next_closed log.place.end payload (content log.place.file c) from.3.opened)
