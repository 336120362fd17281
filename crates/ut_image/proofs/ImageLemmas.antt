-- What is no directory, by the part that fails.
use Rattle.std.proofs.Common.{◌≡◌, ℕ, ◌<◌, ◌^◌, List, [], ◌++◌, length, false, true≢false, IsTrue, sym, ◌∙◌, ap, arith, subst}
use Rattle.std.specs.Int.{w32, to_le_bytes}
use Rattle.std.specs.List.{flat_map, list_all}
use Rattle.std.proofs.lemmas.List.{append-nil}
use Rattle.ut_value.proofs.OneSpelling.{one_list, one_u32}
use Rattle.ut_image.specs.declared.drawn.Drawn.{Drawn}
use Rattle.ut_image.specs.Bytes.{drawn_bytes, image_bytes}
use Rattle.ut_image.specs.Rules.{is_drawn, drawn_differ, ids_of, AreDrawn, AreOwnIds}
use Rattle.ut_image.proofs.OneLemmas.{one_drawn}

-- the tables that were read, and what stands behind them
pub record AreTables (bytes : List ℕ) (count : ℕ) (rest : List ℕ) (ds : List Drawn) (behind : List ℕ) : Type 0 where
  pub is : bytes ≡ to_le_bytes w32 count ++ rest
  pub fits : count < 2 ^ 32
  pub many : length ds ≡ count
  pub each : IsTrue (list_all is_drawn ds)
  pub spelled : rest ≡ flat_map drawn_bytes ds ++ behind

pub tables_read : (bytes : List ℕ) (count : ℕ) (rest : List ℕ) (ds : List Drawn) (behind : List ℕ) → bytes ≡ to_le_bytes w32 count ++ rest → count < 2 ^ 32
    → (length ds ≡ count) × IsTrue (list_all is_drawn ds) × (rest ≡ flat_map drawn_bytes ds ++ behind) → AreTables bytes count rest ds behind
tables_read bytes count rest ds behind is fits found = record { is = is; fits = fits; many = found.0; each = found.1; spelled = found.2 }

module _ (next commits : ℕ) (bytes : List ℕ) where
  abbrev pub NoImage : Type 0
  NoImage = (v : List Drawn) → AreDrawn next commits v → bytes ≡ image_bytes v → ⊥

  pub no_tables : (count : ℕ) (rest : List ℕ) → bytes ≡ to_le_bytes w32 count ++ rest → count < 2 ^ 32
      → ((ds : List Drawn) (x : List ℕ) → length ds ≡ count → IsTrue (list_all is_drawn ds) → rest ≡ flat_map drawn_bytes ds ++ x → ⊥) → NoImage
  no_tables count rest is fits none v h same =
      let one = one_u32 count (length v) rest (flat_map drawn_bytes v) fits (omega (arith, h.few)) (sym is ∙ same) in
      none v [] (sym one.0) h.each (one.1 ∙ sym (append-nil (flat_map drawn_bytes v)))

  module _ (count : ℕ) (rest : List ℕ) (ds : List Drawn) (behind : List ℕ) (t : AreTables bytes count rest ds behind) where
    -- there are no other tables, and nothing stands behind them
    only : (v : List Drawn) → AreDrawn next commits v → bytes ≡ image_bytes v → (ds ≡ v) × (behind ≡ [])
    only v h same =
        let one = one_u32 count (length v) rest (flat_map drawn_bytes v) t.fits (omega (arith, h.few)) (sym t.is ∙ same) in
        one_list drawn_bytes is_drawn one_drawn ds v behind [] (t.many ∙ one.0) t.each h.each (sym t.spelled ∙ one.1 ∙ sym (append-nil (flat_map drawn_bytes v)))

    pub more_behind : (behind ≡ [] → ⊥) → NoImage
    more_behind some v h same = some (only v h same).1

    pub same_names : drawn_differ ds ≡ false → NoImage
    same_names equal v h same = true≢false (sym (ap drawn_differ (only v h same).0 ∙ h.names) ∙ equal)

    pub other_ids : (AreOwnIds next (ids_of ds) → ⊥) → NoImage
    other_ids wrong v h same = wrong (subst (λ (l : List Drawn). AreOwnIds next (ids_of l)) (sym (only v h same).0) h.ids)
