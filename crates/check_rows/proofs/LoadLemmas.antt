-- The next id, one operation or entry after the other.
use Rattle.std.proofs.Common.{◌≡◌, ℕ, ◌+◌, max, List, [], ◌∷◌, ◌++◌, refl}
use Rattle.ut_value.specs.declared.entry.Op.{Op}
use Rattle.ut_value.specs.declared.entry.Op.TheVariants as ops
use Rattle.ut_value.specs.declared.entry.Entry.{Entry}
use Rattle.ut_value.specs.declared.entry.Entry.TheVariants as entries
use Rattle.ut_plain.specs.Rows.{next_after}
use Rattle.ut_plain.specs.State.{State, after}
use Rattle.ut_plain.specs.Journal.{after_all}
use Rattle.check_rows.specs.Known.{entry_next}

pub next_after-append : (next : ℕ) (os : List Op) (op : Op) → next_after next (os ++ op ∷ []) ≡ next_after (next_after next os) (op ∷ [])
next_after-append next [] op = refl
next_after-append next (ops.Insert table id values ∷ os) op = next_after-append (max next (id + 1)) os op
next_after-append next (ops.Delete table id ∷ os) op = next_after-append next os op

next-after : (s : State) (e : Entry) → entry_next s.next e ≡ (after s e).next
next-after s (entries.Create name columns) = refl
next-after s (entries.Txn os) = refl
next-after s (entries.Begun n table kind) = refl
next-after s (entries.Ended n) = refl

pub next-after_all : (s : State) (es : List Entry) (e : Entry) → entry_next (after_all s es).next e ≡ (after_all s (es ++ e ∷ [])).next
next-after_all s [] e = next-after s e
next-after_all s (x ∷ es) e = next-after_all (after s x) es e
