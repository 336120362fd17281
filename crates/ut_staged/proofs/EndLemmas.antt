-- A merge ends: each kept row stands in one place with the stamp that it has now, and what is given up is seen by nobody.
use Rattle.std.proofs.Common.{ℕ, ◌<◌, ◌≡◌, inl, inr, Bool, false, List, [], ◌∷◌, ◌++◌, length, map, take, drop, Option, None, Some, refl, sym, ap, ◌∙◌, subst, arith, slice_get, slice_set, unwrap_or, true≢false}
use Rattle.std.proofs.lemmas.List.{length-map, map-append}
use Rattle.std.specs.Option.{option_map, option_and_then}
use Rattle.ut_value.specs.declared.entry.MergeKind.{MergeKind}
use Rattle.ut_plain.specs.declared.stage.Placed.{Placed}
use Rattle.ut_plain.specs.Stages.{Stages, stages_at}
use Rattle.ut_plain.specs.Merges as plain
use Rattle.ut_plain.specs.Merges.{staying, arranged, flagged_all, rebuilt}
use Rattle.ut_stamps.specs.declared.visibility.Stamp.{Stamp}
use Rattle.ut_exact.specs.Stamped.{Stamped}
use Rattle.ut_exact.specs.Places.{StagedRow, is_dead, stamped_in, AreHeld}
use Rattle.ut_exact.specs.Dropped.{AreDropped, placed_at, kept_at}
use Rattle.ut_exact.proofs.PlaceLemmas.{AreHeld-switched}
use Rattle.ut_stamps.specs.declared.place.Place.{Place}
use Rattle.ut_staged.specs.Staged.{Staged, row_at, row_in, rows_at, placed_of, stages_of, switched}
use Rattle.ut_staged.specs.Choice.{IsChoice, back, flag_at, AreFlags, IsDropped}
use Rattle.ut_staged.specs.Tables.{place_at, moved_in, IsArranged}
use Rattle.ut_staged.proofs.ListLemmas.{none_some, some_same, get-within, get-map, map-take}
use Rattle.ut_staged.proofs.TableLemmas.{stages-here, switched_among}
use Rattle.ut_staged.proofs.SwitchLemmas.{switched_is}
use Rattle.ut_staged.proofs.KeptLemmas.{row_is}

-- ---- the plain places

-- the row of a place of main or of the closed stage, as the plain store has it
placed_there : (s : Staged) (f : AreFlags s) (g i : ℕ) (r : StagedRow) → row_in (slice_get (s.parts ++ f.closed ∷ []) g) i ≡ Some r → placed_at (stages_of s) g i ≡ Some (placed_of r)
placed_there s f g i r h =
    ap (λ (x : List (List Placed)). option_and_then (λ places. slice_get places i) (slice_get x g)) lists_are ∙ by (slice_get (s.parts ++ f.closed ∷ []) g) refl h
  where
    lists_are : ((stages_of s).parts ++ unwrap_or (stages_of s).closed [] ∷ []) ≡ map (map placed_of) (s.parts ++ f.closed ∷ [])
    lists_are = ap (λ (o : Option (List StagedRow)). map (map placed_of) s.parts ++ unwrap_or (option_map (map placed_of) o) [] ∷ []) f.is_closed ∙ sym (map-append (map placed_of) s.parts (f.closed ∷ []))

    by : (o : Option (List StagedRow)) → slice_get (s.parts ++ f.closed ∷ []) g ≡ o → row_in o i ≡ Some r → option_and_then (λ places. slice_get places i) (slice_get (map (map placed_of) (s.parts ++ f.closed ∷ [])) g) ≡ Some (placed_of r)
    by None e k = absurd (none_some r k)
    by (Some rows) e k = ap (option_and_then (λ (places : List Placed). slice_get places i)) (get-map (map placed_of) (s.parts ++ f.closed ∷ []) g rows e) ∙ get-map placed_of rows i r k

-- ---- what is given up is gone

module _ (gone : Stamp → Type 0) (held : ℕ → Option Stamped) (staged : List Staged) (n stay : ℕ) (s : Staged) (olds : List Place) (is : slice_get staged n ≡ Some s) (f : AreFlags s)
    (places : AreHeld (place_at staged) gone held) (d : AreDropped (map stages_of staged) gone held) (c : IsChoice stay s (IsDropped s) olds) where
  dropped_gone : (q : Place) (r : StagedRow) → row_at s q ≡ Some r → is_dead r.stamp ≡ false → IsDropped s q → gone r.stamp
  dropped_gone q r h lives x =
      let in_list : row_in (slice_get (s.parts ++ f.closed ∷ []) x.list) x.place ≡ Some r =
      sym (row_is s f x.list x.place (small (slice_get s.keep x.list) refl x.flag)) ∙ ap (row_at s) (sym x.is) ∙ h in
      let at : placed_at (stages_at (map stages_of staged) n) x.list x.place ≡ Some (placed_of r) = ap (λ t. placed_at t x.list x.place) (stages-here staged n s is) ∙ placed_there s f x.list x.place r in_list in
      let flag : kept_at (stages_at (map stages_of staged) n) x.list x.place ≡ Some false = ap (λ t. kept_at t x.list x.place) (stages-here staged n s is) ∙ x.flag in
      elim (d.each n x.list x.place (placed_of r) at flag) [
        | inl dead ↦ absurd (true≢false (sym dead ∙ lives))
        | inr y ↦
            let in_place : held r.id ≡ Some (stamped_in n r) = places.each n q r (ap (λ o. option_and_then (λ t. row_at t q) o) is ∙ h) lives in
            subst (λ (z : Stamped). gone z.stamp) (some_same y.0 (stamped_in n r) (sym y.1 ∙ in_place)) y.2
      ]
    where
      small : (o : Option (List Bool)) → slice_get s.keep x.list ≡ o → option_and_then (λ (flags : List Bool). slice_get flags x.place) o ≡ Some false → x.list < length (s.parts ++ f.closed ∷ [])
      small None e k = absurd (none_some false k)
      small (Some flags) e k = omega (arith, get-within s.keep x.list flags e, sym (length-map s.keep length) ∙ ap length f.sizes ∙ length-map (s.parts ++ f.closed ∷ []) length)

  -- THE SWITCH: the row of each id stands where it is kept, or it is gone
  pub AreHeld-merged : AreHeld (place_at (slice_set staged n (switched stay olds s))) gone held
  AreHeld-merged =
      AreHeld-switched (place_at staged) (place_at (slice_set staged n (switched stay olds s))) gone held (moved_in n (back stay olds)) (λ m q. (m ≡ n) × IsDropped s q) places
      (switched_among staged n s (switched stay olds s) (back stay olds) is (IsDropped s) (switched_is stay s (IsDropped s) olds c))
      (λ m q r h lives x. dropped_gone q r (sym (ap (λ o. option_and_then (λ t. row_at t q) o) (ap (slice_get staged) x.0 ∙ is)) ∙ h) lives x.1)

-- ---- the plain store's switch

pub stages-switched : (kind : MergeKind) (s : Staged) (olds : List Place) → IsArranged kind s olds → stages_of (switched (staying kind (length s.parts)) olds s) ≡ plain.switched kind (stages_of s)
stages-switched kind s olds a =
    let stay = staying kind (length s.parts) in
    let same : staying kind (length s.parts) ≡ staying kind (length (map (map placed_of) s.parts)) = ap (staying kind) (sym (length-map s.parts (map placed_of))) in
    let parts : map (map placed_of) (take stay s.parts ++ rows_at s olds ∷ []) ≡ plain.merged kind (stages_of s).parts (unwrap_or (stages_of s).closed []) s.keep =
    map-append (map placed_of) (take stay s.parts) (rows_at s olds ∷ []) ∙ (λ i. map-take (map placed_of) stay s.parts i ++ a.order i ∷ [])
    ∙ (λ i. take (same i) (map (map placed_of) s.parts) ++ arranged kind (flagged_all (rebuilt kind (stages_of s).parts (unwrap_or (stages_of s).closed [])) (drop (same i) s.keep)) ∷ []) in
    λ i. record { l1 = map placed_of s.l1; l2 = map placed_of s.l2; closed = None; parts = parts i; keep = [] }

-- where nothing is being merged nothing is given up
pub AreDropped-rest : (stages : Stages) (gone : Stamp → Type 0) (held : ℕ → Option Stamped) → ((n : ℕ) → (stages_at stages n).keep ≡ []) → AreDropped stages gone held
AreDropped-rest stages gone held rest = record { each = λ n g i place at flag. absurd (none_some false (sym (ap (λ (keep : List (List Bool)). flag_at keep g i) (rest n)) ∙ flag)) }
