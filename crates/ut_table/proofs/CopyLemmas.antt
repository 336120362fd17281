-- A stage that is copied row by row.
use Rattle.std.proofs.Common.{◌≡◌, ℕ, ◌+◌, ◌<◌, ◌≤◌, List, [], ◌∷◌, ◌++◌, length, map, take, get_or, All, sym, ◌∙◌, ap}
use Rattle.std.proofs.lemmas.List.{take_all, take_more}
use Rattle.std.proofs.lemmas.List.Elements.{All-get_or, All-nil, All-cons}
use Rattle.ut_value.specs.declared.value.Value.{Value}
use Rattle.ut_value.specs.declared.value.Row.{Row}
use Rattle.ut_value.specs.declared.value.Column.{Column}
use Rattle.ut_l2.specs.KeyRows.{KeyRow, keyed, no_row}
use Rattle.ut_l2.specs.Delta.{Delta}
use Rattle.ut_table.specs.Decoded.{decoded_keys}
use Rattle.ut_table.specs.Kept.{IsHeld, HoldsRow, IsStage}
use Rattle.ut_table.proofs.DecodedLemmas.{fits-length}

module _ {columns : List Column} {d : Delta} (s : IsStage columns d) where
  -- a row of the stage stands there, and for one that fits the columns
  pub stage-row : (i : ℕ) → i < length d.rows → HoldsRow columns d.width d.rows i
  stage-row i lt = record { narrow = s.narrow; wide = s.wide; place = lt; held = All-get_or (IsHeld columns) d.rows i no_row lt s.rows }

  module _ (i : ℕ) (lt : i < length d.rows) (id : ℕ) (values : List Value) (id_is : id ≡ (get_or d.rows i no_row).id) (are : values ≡ decoded_keys columns (get_or d.rows i no_row).keys) where
    abbrev copy : Row
    copy = record { id = id; values = values }

    -- it has the keys that the stage has
    copy-keyed : keyed copy ≡ get_or d.rows i no_row
    copy-keyed = (λ k. keyed (record { id = id_is k; values = are k })) ∙ (stage-row i lt).held.keys

    copy-long : length values ≡ d.width
    copy-long = ap length are ∙ fits-length columns (decoded_keys columns (get_or d.rows i no_row).keys) (stage-row i lt).held.fit.fits ∙ sym s.wide

    pub copy-wide : (width : ℕ) → width ≡ d.width → All (λ (r : Row). length r.values ≡ width) (copy ∷ [])
    copy-wide width same = All-cons (λ (r : Row). length r.values ≡ width) copy [] (copy-long ∙ sym same) (All-nil (λ (r : Row). length r.values ≡ width))

    -- the copy with one row more
    pub copied-more : (old new : List KeyRow) → old ≡ take i d.rows → new ≡ old ++ map keyed (copy ∷ []) → new ≡ take (i + 1) d.rows
    copied-more old new so_far is = is ∙ (λ k. so_far k ++ copy-keyed k ∷ []) ∙ sym (take_more d.rows i no_row lt)

-- all of them
pub copied-all : (d made : Delta) (i : ℕ) → length d.rows ≤ i → made.width ≡ d.width → made.rows ≡ take i d.rows → made ≡ d
copied-all d made i end width rows = λ k. record { width = width k; rows = (rows ∙ take_all i d.rows end) k }
