-- The stages with an end at a place.
use Rattle.std.proofs.Common.{◌≡◌, ℕ, List, [], length, get_or, set, Option, None, Some, unwrap_or, refl, ap}
use Rattle.std.specs.Option.{option_map}
use Rattle.ut_stamps.specs.declared.visibility.Stamp.{Stamp}
use Rattle.ut_stamps.specs.declared.place.Place.{Place}
use Rattle.ut_stamps.specs.declared.place.Place.TheVariants.{L1, L2, Closed, Main}
use Rattle.ut_stamps.specs.StampLists.{StampLists, stamp_at, with_stamp, no_stamp, if_closed}
use Rattle.ut_staged.specs.Staged.{ended_in, end_at}
use Rattle.ut_table.specs.Contents.{Contents, PendingValue, decoded_rows, held, staged}
use Rattle.ut_table.specs.Kept.{IsTable}
use Rattle.ut_table.proofs.StampedLemmas.{stamped_rows-end, parts-end}
use Rattle.ut_table.proofs.RestampLemmas.{restamped-kept}

-- the row at a place ends
abbrev pub ended_stamps : StampLists → ℕ → Place → StampLists
ended_stamps stamps n p = with_stamp stamps p (record { begin = (stamp_at stamps p).begin; end = Some n })

module _ {t : Contents} (h : IsTable t) (n : ℕ) where
  pub ended-stages : (p : Place) → staged (record t { stamps = ended_stamps t.stamps n p }) ≡ ended_in n p (staged t)
  ended-stages (L1 i) = ap (λ l. record (staged t) { l1 = l }) (stamped_rows-end n i t.l1 t.stamps.l1.items)
  ended-stages (L2 i) = ap (λ l. record (staged t) { l2 = l }) (stamped_rows-end n i (decoded_rows t.columns t.l2.rows) t.stamps.l2.items)
  ended-stages (Closed i) = ap (λ o. record (staged t) { closed = o }) (by t.stamps.closed t.pending h.stamped.closed)
    where
      by : (o : Option (List Stamp)) (q : Option PendingValue) → option_map length o ≡ option_map (λ (p : PendingValue). length p.closed.rows) q
          → option_map (λ (p : PendingValue). held t.columns p.closed.rows (unwrap_or (option_map (λ (l : List Stamp). set l i (record { begin = (get_or (if_closed o) i no_stamp).begin; end = Some n })) o) [])) q
          ≡ option_map (end_at n i) (option_map (λ (p : PendingValue). held t.columns p.closed.rows (unwrap_or o [])) q)
      by o None e = refl
      by None (Some p) e = cc
      by (Some l) (Some p) e = ap Some (stamped_rows-end n i (decoded_rows t.columns p.closed.rows) l)
  ended-stages (Main p i) = ap (λ l. record (staged t) { parts = l }) (parts-end t.columns n p i t.main.parts t.stamps.parts h.stamped.parts)

  pub ended-kept : (p : Place) → IsTable (record t { stamps = ended_stamps t.stamps n p })
  ended-kept p = restamped-kept h (record { begin = (stamp_at t.stamps p).begin; end = Some n }) p
