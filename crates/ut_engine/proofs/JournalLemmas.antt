-- Journals that can be opened, and the spelling of their last entry.
use Rattle.std.proofs.Common.{◌≡◌, List, [], ◌∷◌, ◌++◌, length, refl, sym, ap, arith, IsTrue}
use Rattle.ut_value.specs.declared.entry.Entry.{Entry}
use Rattle.ut_value.specs.Spelling.{has_spelling}
use Rattle.ut_plain.specs.State.{State, empty_state, after, can, suits}
use Rattle.ut_plain.specs.Journal.{Journal, empty_journal, can_all, appended, IsJournal}
use Rattle.ut_plain.specs.Plain.{Plain, new_store, no_savepoint}
use Rattle.ut_plain.specs.Reached.{IsPlain, MayOpen}
use Rattle.ut_plain.proofs.BoolLemmas.{and_left, and_right}
use Rattle.ut_plain.proofs.OpenedLaws.{IsPlain-new}

-- what a running store has written can be opened
pub may_open : (p : Plain) → IsPlain p → p.journal.base ≡ empty_state → MayOpen [] p.journal
may_open p h base = record {
  base = h.base;
  journal = h.journal;
  short = h.short;
  load = let load = h.load in let last = h.last in omega arith;
  staged = ap (λ (s : State). length s.tables) (sym base);
  places = omega arith;
  mains = λ n. record { parts = omega arith; few = omega arith };
  rest = λ n. record { closed = refl; keep = refl };
}

pub may_open_new : MayOpen [] empty_journal
may_open_new = may_open (new_store no_savepoint 0) (IsPlain-new no_savepoint.image_pages 0 (omega arith)) refl

-- the last entry has a spelling
last_can : (s : State) (es : List Entry) (e : Entry) → IsTrue (can_all s (es ++ e ∷ [])) → IsTrue (has_spelling e)
last_can s [] e h = and_left (has_spelling e) (suits s e) (and_left (can s e) _ h)
last_can s (f ∷ es) e h = last_can (after s f) es e (and_right (can s f) _ h)

pub last_spelled : (j : Journal) (e : Entry) → IsJournal (appended j e) → IsTrue (has_spelling e)
last_spelled j e h = last_can j.base j.entries e h
