-- What is seen of a table with one row.
use Rattle.std.proofs.Common.{◌≡◌, ℕ, zero, suc, ◌≤◌, inl, inr, true, cond, List, [], ◌∷◌, length, None, Some, IsTrue, refl, sym, ap, ◌∙◌, subst, arith}
use Rattle.std.proofs.lemmas.Bool.{cases_eq}
use Rattle.std.specs.Prelude.{slice_get}
use Rattle.std.specs.List.{list_all}
use Rattle.std.proofs.lemmas.List.Elements.{All-nil, All-cons}
use Rattle.std.specs.Ordering.{nat_cmp}
use Rattle.std.specs.FinMap as finmap
use Rattle.std.specs.FinMap.{find}
use Rattle.ut_value.specs.declared.value.Column.{Column}
use Rattle.ut_value.specs.declared.value.Row.{Row}
use Rattle.ut_value.specs.KeyBytes.{is_value}
use Rattle.ut_plain.specs.declared.table.Table.{Table}
use Rattle.ut_plain.specs.declared.table.Stored.{Stored}
use Rattle.ut_plain.specs.declared.statement.Query.{Query}
use Rattle.ut_plain.specs.State.{State}
use Rattle.ut_plain.specs.Tables.{fits_columns}
use Rattle.ut_stamps.specs.declared.fates.Fate.TheVariants.{Committed}
use Rattle.ut_stamps.specs.declared.place.Place.{Place}
use Rattle.ut_stamps.specs.declared.place.Place.TheVariants.{L1, L2, Closed, Main}
use Rattle.ut_stamps.specs.Stamps.{sees}
use Rattle.ut_exact.specs.Places.{StagedRow}
use Rattle.ut_exact.specs.Scan.{AreSeen, stored_in}
use Rattle.ut_exact.proofs.OrderLemmas.{first_found, not_tied}
use Rattle.ut_staged.specs.Staged.{Staged, row_at, no_rows, begun_row, entered_l1}
use Rattle.ut_staged.specs.Tables.{place_at}
use Rattle.ut_table.specs.Finds.{SeenOnce}
use Rattle.ut_look.specs.Look.{Sight}
use Rattle.ut_query.specs.Look.{CanLook, KeepsRules, Sees}
use Rattle.ut_shot.specs.Shot.{ShotValue, IsShot, IsShotOf}
use Rattle.ut_shown.proofs.ListLemmas.{none_some, some_same}
use Rattle.check_tables.specs.OneRow.{HasOneRow}

-- the row that is there, as a stage has it
abbrev held : Row → StagedRow
held row = begun_row 0 row

-- a table that has it alone
abbrev one_table : List Column → Row → Staged
one_table columns row = entered_l1 (held row) (no_rows columns)

-- it stands in one place
stands : (columns : List Column) (row : Row) (p : Place) (x : StagedRow) → row_at (one_table columns row) p ≡ Some x → (p ≡ L1 0) × (x ≡ held row)
stands columns row (L1 zero) x is = (refl, sym (some_same (held row) x is))
stands columns row (L1 (suc i)) x is = absurd (none_some x is)
stands columns row (L2 i) x is = absurd (none_some x is)
stands columns row (Closed i) x is = absurd (none_some x is)
stands columns row (Main p i) x is = absurd (none_some x is)

module _ (head : Table) (row : Row) where
  abbrev one : Staged
  one = one_table head.columns row

  abbrev pub rows : List (ℕ × Stored)
  rows = (row.id, stored_in 0 (Some (held row))) ∷ []

  abbrev pub small : Sight
  small = record { tables = head ∷ []; staged = one ∷ []; fates = Committed 0 ∷ []; snapshot = 0; own = None }

  -- what is found there
  found-is : (id : ℕ) (stored : Stored) → find nat_cmp id rows ≡ Some stored → (row.id ≡ id) × (stored_in 0 (Some (held row)) ≡ stored)
  found-is id stored found = elim (cases_eq id row.id) [
    | inl same ↦ (sym same, some_same (stored_in 0 (Some (held row))) stored (sym (first_found (row.id, stored_in 0 (Some (held row))) []) ∙ ap (λ k. find nat_cmp k rows) (sym same) ∙ found))
    | inr other ↦ absurd (none_some stored (sym (ap (λ b. cond b (Some (stored_in 0 (Some (held row)))) None) (not_tied id row.id other)) ∙ found))
  ]

  seen-there : AreSeen (place_at (one ∷ [])) (Committed 0 ∷ []) 0 None rows
  seen-there = record { sorted = tt; sound = sound; complete = complete }
    where
      sound : (id : ℕ) (stored : Stored) → find nat_cmp id rows ≡ Some stored
          → (n : ℕ) × (p : Place) × (x : StagedRow) × (place_at (one ∷ []) n p ≡ Some x) × (x.id ≡ id) × (sees (Committed 0 ∷ []) 0 None x.stamp ≡ true) × (stored_in n (Some x) ≡ stored)
      sound id stored found = let f = found-is id stored found in (0, L1 0, held row, refl, f.0, refl, f.1)

      complete : (n : ℕ) (p : Place) (x : StagedRow) → place_at (one ∷ []) n p ≡ Some x → sees (Committed 0 ∷ []) 0 None x.stamp ≡ true → find nat_cmp x.id rows ≡ Some (stored_in n (Some x))
      complete zero p x is seen =
          let s = stands head.columns row p x is in
          ap (λ (y : StagedRow). find nat_cmp y.id rows) s.1 ∙ first_found (row.id, stored_in 0 (Some (held row))) [] ∙ ap (λ (y : StagedRow). Some (stored_in 0 (Some y))) (sym s.1)
      complete (suc n) p x is seen = absurd (none_some x is)

  module _ (narrow : length head.columns ≤ 64) (fits : IsTrue (fits_columns head.columns row.values)) (kept : IsTrue (list_all is_value row.values)) where
    small-sees : Sees small rows
    small-sees = record {
      seen = seen-there;
      columns = refl;
      narrow = All-cons (λ (t : Table). length t.columns ≤ 64) head [] narrow (All-nil (λ (t : Table). length t.columns ≤ 64));
      once = once;
      keep = keep;
      few = omega arith;
    }
      where
        once : (n : ℕ) (s : Staged) → slice_get (one ∷ []) n ≡ Some s → SeenOnce s (Committed 0 ∷ []) 0 None
        once zero s is = subst (λ (x : Staged). SeenOnce x (Committed 0 ∷ []) 0 None) (some_same one s is) (record {
          each = λ p q a b at_p at_q sees_a sees_b same. (stands head.columns row p a at_p).0 ∙ sym (stands head.columns row q b at_q).0;
        })
        once (suc n) s is = absurd (none_some s is)

        keep : (id : ℕ) (stored : Stored) → find nat_cmp id rows ≡ Some stored → KeepsRules (head ∷ []) stored
        keep id stored found = subst (KeepsRules (head ∷ [])) (found-is id stored found).1 (record { fits = fits; values = kept })

    pub can-look : (l : Sight) → l ≡ small → CanLook l
    can-look l same = subst CanLook (sym same) (record { rows = rows; sees = small-sees })

    -- the rows are those of a state
    abbrev state : State
    state = record { tables = head ∷ []; rows = finmap.from_sorted rows; next = 2; commits = 0; merges = 0; length = 0 }

    pub shot-of : (query : Query) (l : Sight) (shot : ShotValue) → l ≡ small → ((seen : List (ℕ × Stored)) → Sees l seen → IsShot query l.tables seen shot) → (s : State) × IsShotOf query s shot
    shot-of query l shot same is =
        let taken : IsShot query (head ∷ []) rows shot = subst (λ (x : Sight). IsShot query x.tables rows shot) same (is rows (subst (λ (x : Sight). Sees x rows) (sym same) small-sees)) in
        (state, subst (λ (r : List (ℕ × Stored)). IsShot query (head ∷ []) r shot) (sym (finmap.entries-from_sorted nat_cmp rows tt)) taken)

-- the same, as a test has it
pub can-look-there : (head : Table) (s : Staged) (columns : List Column) (l : Sight) → columns ≡ head.columns → length head.columns ≡ 1 → HasOneRow columns s → l ≡ record { tables = head ∷ []; staged = s ∷ []; fates = Committed 0 ∷ []; snapshot = 0; own = None } → CanLook l
can-look-there head s columns l same one h is = let few : length head.columns ≤ 64 = omega (arith, one) in can-look head h.row few (subst (λ (cs : List Column). IsTrue (fits_columns cs h.row.values)) same h.fits) h.kept l
    (is ∙ (λ i. record { tables = head ∷ []; staged = (h.is ∙ ap (λ (cs : List Column). one_table cs h.row) same) i ∷ []; fates = Committed 0 ∷ []; snapshot = 0; own = None }))

pub shot-there : (head : Table) (s : Staged) (columns : List Column) (l : Sight) (query : Query) (shot : ShotValue) → columns ≡ head.columns → length head.columns ≡ 1 → HasOneRow columns s → l ≡ record { tables = head ∷ []; staged = s ∷ []; fates = Committed 0 ∷ []; snapshot = 0; own = None }
    → ((seen : List (ℕ × Stored)) → Sees l seen → IsShot query l.tables seen shot) → (state : State) × IsShotOf query state shot
shot-there head s columns l query shot same one h is taken = let few : length head.columns ≤ 64 = omega (arith, one) in shot-of head h.row few (subst (λ (cs : List Column). IsTrue (fits_columns cs h.row.values)) same h.fits) h.kept query l shot
    (is ∙ (λ i. record { tables = head ∷ []; staged = (h.is ∙ ap (λ (cs : List Column). one_table cs h.row) same) i ∷ []; fates = Committed 0 ∷ []; snapshot = 0; own = None })) taken
