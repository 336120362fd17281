-- A row that is put in its place, and the operations on the list of rows.
use Rattle.std.proofs.Common.{◌≡◌, ℕ, zero, suc, ◌<◌, Bool, true, false, not, cond, List, [], ◌∷◌, ◌++◌, length, take, drop, set, get_or, Option, None, refl, sym, ap, ◌∙◌, arith, nat_eq}
use Rattle.std.specs.Ordering.{nat_cmp}
use Rattle.std.specs.Cmp.{nat_cmp_is, nat_cmp_total, unsigned_tied, ranked}
use Rattle.std.specs.List.{filter}
use Rattle.std.specs.FinMap as finmap
use Rattle.std.specs.FinMap.{nat_cmp-IsAntisymmetric}
use Rattle.std.specs.FinMap.Entries.{put, by_order, is_sorted-where_key, find-where_key, same_entries}
use Rattle.std.specs.declared.cmp.Ordering.{Ordering}
use Rattle.std.specs.declared.cmp.Ordering.TheVariants.{Equal}
use Rattle.ut_value.specs.declared.entry.Op.{Op}
use Rattle.ut_value.specs.declared.entry.Op.TheVariants as ops
use Rattle.ut_plain.specs.declared.table.Stored.{Stored}
use Rattle.ut_plain.specs.Rows.{Rows, with_op, with_ops}
use Rattle.check_rows.specs.Listed.{listed, listed_all}

put_step : (id : ℕ) (v : Stored) (e : ℕ × Stored) (es : List (ℕ × Stored)) (o : Ordering) → nat_cmp id e.0 ≡ o → put nat_cmp id v (e ∷ es) ≡ by_order o ((id, v) ∷ e ∷ es) ((e.0, v) ∷ es) (e ∷ put nat_cmp id v es)
put_step id v e es o h = ap (λ o. by_order o ((id, v) ∷ e ∷ es) ((e.0, v) ∷ es) (e ∷ put nat_cmp id v es)) h

put_same : (rows : List (ℕ × Stored)) (i id : ℕ) (v : Stored) (d : ℕ × Stored) → i < length rows → (get_or rows i d).0 ≡ id → take i rows ++ put nat_cmp id v (drop i rows) ≡ set rows i (id, v)
put_same [] i id v d h k = absurd (omega arith)
put_same (e ∷ es) zero id v d h k = put_step id v e es Equal (sym (nat_cmp_is id e.0 Equal (sym k))) ∙ ap (λ n. (n, v) ∷ es) k
put_same (e ∷ es) (suc i) id v d h k = ap (λ xs. e ∷ xs) (put_same es i id v d (omega arith) k)

pub put_over : (rows : List (ℕ × Stored)) (i id : ℕ) (v : Stored) (d : ℕ × Stored) → put nat_cmp id v rows ≡ take i rows ++ put nat_cmp id v (drop i rows) → i < length rows → (get_or rows i d).0 ≡ id → put nat_cmp id v rows ≡ set rows i (id, v)
put_over rows i id v d p h k = p ∙ put_same rows i id v d h k

-- ---- the list of rows follows the map

entries-remove : (m : Rows) (id : ℕ) → finmap.entries (finmap.remove m id) ≡ filter (λ e. not (nat_eq e.0 id)) (finmap.entries m)
entries-remove m id =
    same_entries nat_cmp nat_cmp_total nat_cmp-IsAntisymmetric (finmap.entries (finmap.remove m id)) (filter (λ e. not (nat_eq e.0 id)) (finmap.entries m)) (finmap.entries_sorted (finmap.remove m id)) (is_sorted-where_key nat_cmp (λ x. not (nat_eq x id)) (finmap.entries m) (finmap.entries_sorted m))
    (λ q. sym (finmap.get-entries (finmap.remove m id) q) ∙ finmap.get-remove nat_cmp_total m id q ∙ ap (λ b. cond b None (finmap.get m q)) (unsigned_tied q id) ∙ turned (nat_eq q id) (finmap.get m q)
    ∙ ap (λ o. cond (not (nat_eq q id)) o None) (finmap.get-entries m q) ∙ sym (find-where_key nat_cmp (λ x. not (nat_eq x id)) q (alike q) (finmap.entries m)))
  where
    turned : (b : Bool) (o : Option Stored) → cond b None o ≡ cond (not b) o None
    turned true o = refl
    turned false o = refl

    alike : (q x : ℕ) → nat_cmp q x ≡ Equal → not (nat_eq x id) ≡ not (nat_eq q id)
    alike q x e = let same : q ≡ x = ranked q x Equal (sym e) in ap (λ n. not (nat_eq n id)) (sym same)

pub entries-with_op : (m : Rows) (op : Op) → finmap.entries (with_op m op) ≡ listed (finmap.entries m) op
entries-with_op m (ops.Insert table id values) = finmap.entries-insert nat_cmp_total m id (record { table = table; values = values })
entries-with_op m (ops.Delete table id) = entries-remove m id

pub entries-with_ops : (m : Rows) (os : List Op) → finmap.entries (with_ops m os) ≡ listed_all (finmap.entries m) os
entries-with_ops m [] = refl
entries-with_ops m (op ∷ os) = entries-with_ops (with_op m op) os ∙ ap (λ rows. listed_all rows os) (entries-with_op m op)

pub listed_all-more : (rows : List (ℕ × Stored)) (os : List Op) (op : Op) → listed_all rows (os ++ op ∷ []) ≡ listed (listed_all rows os) op
listed_all-more rows [] op = refl
listed_all-more rows (o ∷ os) op = listed_all-more (listed rows o) os op
