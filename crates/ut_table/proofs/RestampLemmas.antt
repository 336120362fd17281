-- The stages with another stamp at a place.
use Rattle.std.proofs.Common.{◌≡◌, ℕ, zero, suc, List, [], ◌∷◌, length, map, get_or, set, Option, None, Some, unwrap_or, refl, ◌∙◌, ap, arith, drop}
use Rattle.std.specs.Option.{option_map}
use Rattle.std.proofs.lemmas.List.{length-set}
use Rattle.ut_value.specs.declared.value.Column.{Column}
use Rattle.ut_value.specs.declared.value.Row.{Row}
use Rattle.ut_stamps.specs.declared.visibility.Stamp.{Stamp}
use Rattle.ut_stamps.specs.declared.place.Place.{Place}
use Rattle.ut_stamps.specs.declared.place.Place.TheVariants.{L1, L2, Closed, Main}
use Rattle.ut_l2.specs.KeyRows.{KeyRow}
use Rattle.ut_stamps.specs.StampLists.{with_stamp}
use Rattle.ut_staged.specs.Staged.{stamped_row}
use Rattle.ut_table.specs.Contents.{Contents, PendingValue, stamped_rows, decoded_rows, held, held_parts, staged}
use Rattle.ut_table.specs.Kept.{IsTable}
use Rattle.ut_table.specs.Filled.{restamped, restamped_at}

stamped_rows-set : (stamp : Stamp) (i : ℕ) (rows : List Row) (stamps : List Stamp) → stamped_rows rows (set stamps i stamp) ≡ restamped_at stamp i (stamped_rows rows stamps)
stamped_rows-set stamp zero [] stamps = refl
stamped_rows-set stamp (suc i) [] stamps = refl
stamped_rows-set stamp zero (r ∷ rs) [] = refl
stamped_rows-set stamp (suc i) (r ∷ rs) [] = refl
stamped_rows-set stamp zero (r ∷ rs) (s ∷ ss) = refl
stamped_rows-set stamp (suc i) (r ∷ rs) (s ∷ ss) = ap (λ l. stamped_row s r ∷ l) (stamped_rows-set stamp i rs ss)

parts-set : (columns : List Column) (stamp : Stamp) (p i : ℕ) (parts : List (List KeyRow)) (stamps : List (List Stamp)) → map length stamps ≡ map length parts
    → held_parts columns parts (set stamps p (set (get_or stamps p []) i stamp)) ≡ set (held_parts columns parts stamps) p (restamped_at stamp i (get_or (held_parts columns parts stamps) p []))
parts-set columns stamp p i [] [] e = refl
parts-set columns stamp p i [] (s ∷ ss) e = absurd (omega (arith, ap length e))
parts-set columns stamp p i (r ∷ rs) [] e = absurd (omega (arith, ap length e))
parts-set columns stamp zero i (r ∷ rs) (s ∷ ss) e = ap (λ l. l ∷ held_parts columns rs ss) (stamped_rows-set stamp i (decoded_rows columns r) s)
parts-set columns stamp (suc p) i (r ∷ rs) (s ∷ ss) e = ap (λ l. held columns r s ∷ l) (parts-set columns stamp p i rs ss (ap (drop 1) e))

length-set_part : (parts : List (List Stamp)) (p i : ℕ) (stamp : Stamp) → map length (set parts p (set (get_or parts p []) i stamp)) ≡ map length parts
length-set_part [] p i stamp = refl
length-set_part (l ∷ ls) zero i stamp = ap (λ n. n ∷ map length ls) (length-set l i stamp)
length-set_part (l ∷ ls) (suc p) i stamp = ap (λ ns. length l ∷ ns) (length-set_part ls p i stamp)

length-set_closed : (closed : Option (List Stamp)) (i : ℕ) (stamp : Stamp) → option_map length (option_map (λ (l : List Stamp). set l i stamp) closed) ≡ option_map length closed
length-set_closed None i stamp = refl
length-set_closed (Some l) i stamp = ap Some (length-set l i stamp)

module _ {t : Contents} (h : IsTable t) (stamp : Stamp) where
  pub restamped-stages : (p : Place) → staged (record t { stamps = with_stamp t.stamps p stamp }) ≡ restamped stamp p (staged t)
  restamped-stages (L1 i) = ap (λ l. record (staged t) { l1 = l }) (stamped_rows-set stamp i t.l1 t.stamps.l1.items)
  restamped-stages (L2 i) = ap (λ l. record (staged t) { l2 = l }) (stamped_rows-set stamp i (decoded_rows t.columns t.l2.rows) t.stamps.l2.items)
  restamped-stages (Closed i) = ap (λ o. record (staged t) { closed = o }) (by t.stamps.closed t.pending h.stamped.closed)
    where
      by : (o : Option (List Stamp)) (q : Option PendingValue) → option_map length o ≡ option_map (λ (p : PendingValue). length p.closed.rows) q
          → option_map (λ (p : PendingValue). held t.columns p.closed.rows (unwrap_or (option_map (λ (l : List Stamp). set l i stamp) o) [])) q
          ≡ option_map (restamped_at stamp i) (option_map (λ (p : PendingValue). held t.columns p.closed.rows (unwrap_or o [])) q)
      by o None e = refl
      by None (Some p) e = cc
      by (Some l) (Some p) e = ap Some (stamped_rows-set stamp i (decoded_rows t.columns p.closed.rows) l)
  restamped-stages (Main p i) = ap (λ l. record (staged t) { parts = l }) (parts-set t.columns stamp p i t.main.parts t.stamps.parts h.stamped.parts)

  pub restamped-kept : (p : Place) → IsTable (record t { stamps = with_stamp t.stamps p stamp })
  restamped-kept p = record {
    rows = record { narrow = h.rows.narrow; l1 = h.rows.l1; l2_wide = h.rows.l2_wide; l2 = h.rows.l2; closed_wide = h.rows.closed_wide; closed = h.rows.closed; main_wide = h.rows.main_wide; parts = h.rows.parts };
    stamped = record {
      l1 = first p ∙ h.stamped.l1;
      l2 = second p ∙ h.stamped.l2;
      closed = third p ∙ h.stamped.closed;
      parts = fourth p ∙ h.stamped.parts;
    };
    job = h.job;
    few = h.few;
  }
    where
      first : (p : Place) → length (with_stamp t.stamps p stamp).l1.items ≡ length t.stamps.l1.items
      first (L1 i) = length-set t.stamps.l1.items i _
      first (L2 i) = refl
      first (Closed i) = refl
      first (Main p i) = refl

      second : (p : Place) → length (with_stamp t.stamps p stamp).l2.items ≡ length t.stamps.l2.items
      second (L1 i) = refl
      second (L2 i) = length-set t.stamps.l2.items i _
      second (Closed i) = refl
      second (Main p i) = refl

      third : (p : Place) → option_map length (with_stamp t.stamps p stamp).closed ≡ option_map length t.stamps.closed
      third (L1 i) = refl
      third (L2 i) = refl
      third (Closed i) = length-set_closed t.stamps.closed i _
      third (Main p i) = refl

      fourth : (p : Place) → map length (with_stamp t.stamps p stamp).parts ≡ map length t.stamps.parts
      fourth (L1 i) = refl
      fourth (L2 i) = refl
      fourth (Closed i) = refl
      fourth (Main p i) = length-set_part t.stamps.parts p i _
