-- The inserts of a bulk of narrow rows have a spelling.
use Rattle.std.proofs.Common.{ℕ, zero, suc, ◌+◌, ◌<◌, ◌≤◌, ◌&&◌, IsTrue, nat_le, List, [], ◌∷◌, length, take, drop, refl, arith, lt-ltb, length-drop}
use Rattle.std.specs.List.{list_all}
use Rattle.std.proofs.lemmas.Bool.{le-leb}
use Rattle.std.proofs.lemmas.List.{length-take}
use Rattle.ut_value.specs.declared.value.Value.{Value}
use Rattle.ut_value.specs.declared.entry.Op.TheVariants.{Insert}
use Rattle.ut_value.specs.KeyBytes.{is_value}
use Rattle.ut_value.specs.Spelling.{is_op, is_u16, is_u32, is_count, are_values}
use Rattle.ut_plain.specs.Made.{cut, inserts}
use Rattle.ut_plain.proofs.BoolLemmas.{and_both}
use Rattle.ut_plain.proofs.ListLemmas.{list_all_take, list_all_drop}
use Rattle.ut_change.specs.declared.bulk.Bulk.{Bulk}
use Rattle.ut_change.specs.Bulks.{CanLoad}

-- one to 64 values that keep their rule, under a place that has its bytes
is-insert : (table id : ℕ) (row : List Value) → table < 65536 → id < 4294967296 → 0 < length row → length row ≤ 64 → IsTrue (list_all is_value row) → IsTrue (is_op (Insert table id row))
is-insert table id row small ids some narrow h =
    and_both (is_u16 table && is_u32 id) (are_values row) (and_both (is_u16 table) (is_u32 id) (lt-ltb table 65536 small) (lt-ltb id 4294967296 ids))
    (and_both (is_count 64 (length row)) (list_all is_value row) (and_both (nat_le 1 (length row)) (nat_le (length row) 64) (le-leb 1 (length row) some) (le-leb (length row) 64 narrow)) h)

are-inserts : (n table id width : ℕ) (vs : List Value) → 0 < width → width ≤ 64 → table < 65536 → id + length vs < 4294967296 → IsTrue (list_all is_value vs)
    → IsTrue (list_all is_op (inserts table id (cut n width vs)))
are-inserts zero table id width vs w narrow small ids h = refl
are-inserts (suc n) table id width [] w narrow small ids h = refl
are-inserts (suc n) table id width (v ∷ vs) w narrow small ids h =
    let long = length-take width (v ∷ vs) in
    let less = length-drop width (v ∷ vs) in
    and_both (is_op (Insert table id (take width (v ∷ vs)))) _
    (is-insert table id (take width (v ∷ vs)) small (omega (arith, ids)) (omega (arith, long, w)) (omega (arith, long, narrow)) (list_all_take is_value width (v ∷ vs) h))
    (are-inserts n table (id + 1) width (drop width (v ∷ vs)) w narrow small (omega (arith, less, w, ids)) (list_all_drop is_value width (v ∷ vs) h))

-- each row has a value
pub rows-few : (n width : ℕ) (vs : List Value) → 0 < width → length (cut n width vs) ≤ length vs
rows-few zero width vs w = omega arith
rows-few (suc n) width [] w = omega arith
rows-few (suc n) width (v ∷ vs) w =
    let less = length-drop width (v ∷ vs) in
    let few = rows-few n width (drop width (v ∷ vs)) w in
    omega (arith, less, w, few)

pub can-load : (b : Bulk) → 0 < b.width → b.width ≤ 64 → b.table < 65536 → b.id + length b.values.now < 4294967296 → IsTrue (list_all is_value b.values.now) → CanLoad b
can-load b w narrow small ids h =
    let few = rows-few (length b.values.now) b.width b.values.now w in
    record {
      width = w;
      ids = omega (arith, few, ids);
      rule = are-inserts (length b.values.now) b.table b.id b.width b.values.now w narrow small ids h;
    }
