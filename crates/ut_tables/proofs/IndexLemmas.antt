-- The table at a place among all, and the rows with another table there.
use Rattle.std.specs.Option.{option_and_then}
use Rattle.std.proofs.Common.{ℕ, zero, suc, ◌<◌, ◌≡◌, List, [], ◌∷◌, length, map, Option, None, Some, refl, sym, ap, ◌∙◌, arith, slice_get, slice_set, get_or, unwrap_or}
use Rattle.std.proofs.lemmas.List.{length-map}
use Rattle.ut_merge.specs.Jobs.{JobValue}
use Rattle.ut_staged.specs.Staged.{Staged}
use Rattle.ut_staged.proofs.ListLemmas.{get-set_same, get-within}
use Rattle.ut_table.specs.Contents.{TableValue}
use Rattle.ut_table.specs.Pending.{pending_job}
use Rattle.ut_tables.specs.Rows.{HasTable, Rows, RowsValue}
use Rattle.ut_tables.specs.Changed.{Changed}
use Rattle.ut_tables.specs.Merging.{job_at}

-- ---- the stages of all tables, and their room

abbrev pub stages_in : List TableValue → List Staged
stages_in items = map (λ (t : TableValue). t.stages) items

abbrev pub spares_in : List TableValue → List ℕ
spares_in items = map (λ (t : TableValue). t.spare) items

pub some_inside : {X : Type 0} (a b : X) → Some a ≡ Some b → a ≡ b
some_inside a b h = ap (λ o. unwrap_or o a) h

pub stages_at_place : (items : List TableValue) (n : ℕ) (t : TableValue) (s : Staged) → slice_get (stages_in items) n ≡ Some s → t ≡ get_or items n t → t.stages ≡ s
stages_at_place [] n t s at is = cc
stages_at_place (x ∷ xs) zero t s at is = ap (λ (v : TableValue). v.stages) is ∙ some_inside x.stages s at
stages_at_place (x ∷ xs) (suc n) t s at is = stages_at_place xs n t s at is

pub stages_set : (items : List TableValue) (n : ℕ) (t : TableValue) → stages_in (slice_set items n t) ≡ slice_set (stages_in items) n t.stages
stages_set [] n t = refl
stages_set (x ∷ xs) zero t = refl
stages_set (x ∷ xs) (suc n) t = ap (λ ys. x.stages ∷ ys) (stages_set xs n t)

-- a table with the same stages
stages_same : (items : List TableValue) (n : ℕ) (read now : TableValue) → read ≡ get_or items n read → now.stages ≡ read.stages → stages_in (slice_set items n now) ≡ stages_in items
stages_same [] n read now is same = refl
stages_same (x ∷ xs) zero read now is same = λ i. (same ∙ ap (λ (v : TableValue). v.stages) is) i ∷ stages_in xs
stages_same (x ∷ xs) (suc n) read now is same = ap (λ ys. x.stages ∷ ys) (stages_same xs n read now is same)

spare_set : (items : List TableValue) (n : ℕ) (t : TableValue) → n < length (stages_in items) → get_or (spares_in (slice_set items n t)) n 0 ≡ t.spare
spare_set [] n t h = absurd (omega arith)
spare_set (x ∷ xs) zero t h = refl
spare_set (x ∷ xs) (suc n) t h = spare_set xs n t (omega arith)

-- a table with a pending merge
pub job_table : (r : Rows) (n : ℕ) (job : JobValue) → job_at r n ≡ Some job → HasTable r n (λ s. pending_job s ≡ Some job)
job_table r n job h = by (slice_get r.staged n) refl h
  where
    by : (o : Option Staged) → slice_get r.staged n ≡ o → option_and_then pending_job o ≡ Some job → HasTable r n (λ s. pending_job s ≡ Some job)
    by None at is = cc
    by (Some s) at is = record { table = s; at = at; has = is }

-- ---- the rows as contracts see them, with another table at a place

-- a place of theirs is one of the list
pub place_within : (inside v : RowsValue) (items : List TableValue) (n : ℕ) (s : Staged) → inside ≡ v → inside.rows.staged ≡ stages_in items → slice_get v.rows.staged n ≡ Some s → n < length items
place_within inside v items n s same are at =
    let within = get-within v.rows.staged n s at in
    omega (arith, within, ap (λ (x : RowsValue). length x.rows.staged) same, ap (λ (ss : List Staged). length ss) are, length-map items (λ (t : TableValue). t.stages))

module _ (inside v : RowsValue) (items : List TableValue) (n : ℕ) (read now : TableValue) (same : inside ≡ v) (are : inside.rows.staged ≡ stages_in items) (is : read ≡ get_or items n read) where
  -- the stages of these rows
  staged_are : stages_in items ≡ v.rows.staged
  staged_are = sym are ∙ ap (λ (x : RowsValue). x.rows.staged) same

  -- what was read there
  pub read_is : (s : Staged) → slice_get v.rows.staged n ≡ Some s → read.stages ≡ s
  read_is s at = stages_at_place items n read s (ap (λ ss. slice_get ss n) staged_are ∙ at) is

  -- its stages became others
  pub changed_to : (after : Staged → Staged) → now.stages ≡ after read.stages → Changed v.rows n after (record inside.rows { staged = stages_in (slice_set items n now) })
  changed_to after to s at = λ i. record (same i).rows { staged = (stages_set items n now ∙ (λ k. slice_set (staged_are k) n ((to ∙ ap after (read_is s at)) k))) i }

  -- its stages are the same
  pub kept_as : now.stages ≡ read.stages → record inside.rows { staged = stages_in (slice_set items n now) } ≡ v.rows
  kept_as to = λ i. record (same i).rows { staged = (stages_same items n read now is to ∙ staged_are) i }

  -- it has this room
  pub room_there : n < length v.rows.staged → get_or (spares_in (slice_set items n now)) n 0 ≡ now.spare
  room_there h = let many = ap (λ (ss : List Staged). length ss) staged_are in spare_set items n now (omega (arith, h, many))

  -- it is there
  pub there_now : (s : Staged) → slice_get v.rows.staged n ≡ Some s → slice_get (stages_in (slice_set items n now)) n ≡ Some now.stages
  there_now s at = ap (λ ss. slice_get ss n) (stages_set items n now) ∙ get-set_same (stages_in items) n now.stages (get-within (stages_in items) n s (ap (λ ss. slice_get ss n) staged_are ∙ at))
