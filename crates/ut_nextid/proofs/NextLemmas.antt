-- One above the greatest id that operations insert.
use Rattle.std.proofs.Common.{◌≡◌, ℕ, zero, suc, ◌+◌, ◌≤◌, max, List, [], ◌∷◌, ◌++◌, refl, ◌∙◌, arith}
use Rattle.std.proofs.lemmas.List.Sums.{sum_by-cons}
use Rattle.ut_value.specs.declared.value.Value.{Value}
use Rattle.ut_value.specs.declared.entry.Op.{Op}
use Rattle.ut_value.specs.declared.entry.Op.TheVariants as ops
use Rattle.ut_plain.specs.declared.table.Stored.{Stored}
use Rattle.ut_plain.specs.Rows.{next_after, op_inserts, inserts_of}
use Rattle.ut_plain.specs.Made.{inserts, updates, deletes_all}

pub next_after-append : (m : ℕ) (os ps : List Op) → next_after m (os ++ ps) ≡ next_after (next_after m os) ps
next_after-append m [] ps = refl
next_after-append m (ops.Insert table id vs ∷ os) ps = next_after-append (max m (id + 1)) os ps
next_after-append m (ops.Delete table id ∷ os) ps = next_after-append m os ps

-- behind a number it is the greater of that and what it is alone
pub next_after-max : (m : ℕ) (os : List Op) → next_after m os ≡ max m (next_after 0 os)
next_after-max m [] = omega arith
next_after-max m (ops.Insert table id vs ∷ os) = let a = next_after-max (max m (id + 1)) os in let b = next_after-max (max 0 (id + 1)) os in omega (arith, a, b)
next_after-max m (ops.Delete table id ∷ os) = next_after-max m os

-- where nothing is inserted it stays
pub next_after-none : (m : ℕ) (os : List Op) → inserts_of os ≡ 0 → next_after m os ≡ m
next_after-none m [] none = refl
next_after-none m (ops.Insert table id vs ∷ os) none = absurd (omega (arith, sum_by-cons op_inserts (ops.Insert table id vs) os, none))
next_after-none m (ops.Delete table id ∷ os) none = next_after-none m os (omega (arith, sum_by-cons op_inserts (ops.Delete table id) os, none))

-- Operations insert rows under the ids from a number on.
abbrev pub IsRun : ℕ → List Op → Type 0
IsRun id os = (m : ℕ) → m ≤ id → 1 ≤ inserts_of os → next_after m os ≡ id + inserts_of os

pub run-inserts : (table id : ℕ) (rows : List (List Value)) → IsRun id (inserts table id rows)
run-inserts table id [] m le some = absurd (omega (arith, some))
run-inserts table id (row ∷ rows) m le some = by (inserts_of (inserts table (id + 1) rows)) refl (λ more. run-inserts table (id + 1) rows (max m (id + 1)) (omega (arith, le)) more)
  where
    one : inserts_of (inserts table id (row ∷ rows)) ≡ 1 + inserts_of (inserts table (id + 1) rows)
    one = sum_by-cons op_inserts (ops.Insert table id row) (inserts table (id + 1) rows)

    high : max m (id + 1) ≡ id + 1
    high = omega (arith, le)

    by : (n : ℕ) → inserts_of (inserts table (id + 1) rows) ≡ n → (1 ≤ inserts_of (inserts table (id + 1) rows) → next_after (max m (id + 1)) (inserts table (id + 1) rows) ≡ id + 1 + inserts_of (inserts table (id + 1) rows))
        → next_after (max m (id + 1)) (inserts table (id + 1) rows) ≡ id + inserts_of (inserts table id (row ∷ rows))
    by zero is more = next_after-none (max m (id + 1)) (inserts table (id + 1) rows) is ∙ omega (arith, one, is, high)
    by (suc n) is more = let rest = more (omega (arith, is)) in omega (arith, rest, one)

pub run-updates : (table id : ℕ) (change : List Value → List Value) (es : List (ℕ × Stored)) → IsRun id (updates table id change es)
run-updates table id change [] m le some = absurd (omega (arith, some))
run-updates table id change (e ∷ es) m le some = by (inserts_of (updates table (id + 1) change es)) refl (λ more. run-updates table (id + 1) change es (max m (id + 1)) (omega (arith, le)) more)
  where
    rest_ops : List Op
    rest_ops = updates table (id + 1) change es

    one : inserts_of (updates table id change (e ∷ es)) ≡ 1 + inserts_of rest_ops
    one = let a = sum_by-cons op_inserts (ops.Delete table e.0) (ops.Insert table id (change e.1.values) ∷ rest_ops) in let b = sum_by-cons op_inserts (ops.Insert table id (change e.1.values)) rest_ops in omega (arith, a, b)

    high : max m (id + 1) ≡ id + 1
    high = omega (arith, le)

    by : (n : ℕ) → inserts_of rest_ops ≡ n → (1 ≤ inserts_of rest_ops → next_after (max m (id + 1)) rest_ops ≡ id + 1 + inserts_of rest_ops)
        → next_after (max m (id + 1)) rest_ops ≡ id + inserts_of (updates table id change (e ∷ es))
    by zero is more = next_after-none (max m (id + 1)) rest_ops is ∙ omega (arith, one, is, high)
    by (suc n) is more = let rest = more (omega (arith, is)) in omega (arith, rest, one)

pub no_inserts : (table : ℕ) (es : List (ℕ × Stored)) → inserts_of (deletes_all table es) ≡ 0
no_inserts table [] = refl
no_inserts table (e ∷ es) = omega (arith, sum_by-cons op_inserts (ops.Delete table e.0) (deletes_all table es), no_inserts table es)
