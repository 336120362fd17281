-- Entries, one after the other, against the state before each.
use Rattle.std.proofs.Common.{◌≡◌, List, [], ◌∷◌, ◌++◌, refl, sym, subst, arith, length-append, IsTrue}
use Rattle.std.proofs.lemmas.List.Sums.{sum_by-append, sum_by-cons}
use Rattle.std.specs.List.{AllByRecursion}
use Rattle.ut_value.specs.declared.entry.Entry.{Entry}
use Rattle.ut_value.specs.Spelling.{has_spelling}
use Rattle.ut_plain.specs.State.{State, can, after, entry_inserts}
use Rattle.ut_plain.specs.Journal.{after_all, can_all}
use Rattle.ut_plain.specs.Stages.{Stages}
use Rattle.ut_plain.specs.Restart.{replayed_entry, replayed}
use Rattle.ut_plain.proofs.BoolLemmas.{and_left, and_right, and_both}
use Rattle.ut_plain.proofs.JournalLaws.{after_all-append, can_all-append}
use Rattle.ut_restart.specs.declared.replay.Replay.{Replay}
use Rattle.ut_restart.specs.Replayed.{IsReplay, Agrees, Followed, Strange, Replayed, NoJournal}

-- before any entry
pub replayed-none : (r : Replay) → IsReplay r → Replayed r [] r
replayed-none r sound = record { sound = sound; count = omega arith; load = omega arith; can = λ s stages a. refl; agrees = λ s stages a. a }

replayed-append : (stages : Stages) (es fs : List Entry) → replayed stages (es ++ fs) ≡ replayed (replayed stages es) fs
replayed-append stages [] fs = refl
replayed-append stages (e ∷ es) fs = replayed-append (replayed_entry stages e) es fs

-- an entry more
pub replayed-then : (first : Replay) (es : List Entry) (e : Entry) (a b : Replay) → Replayed first es a → Followed a e b → IsTrue (has_spelling e) → Replayed first (es ++ e ∷ []) b
replayed-then first es e a b r f spelled = record {
  sound = f.sound;
  count = omega (arith, f.count, r.count, length-append es (e ∷ []));
  load = omega (arith, f.load, r.load, sum_by-append entry_inserts es (e ∷ []), sum_by-cons entry_inserts e []);
  can = λ s stages g. can_all-append s es e (r.can s stages g) (and_both (has_spelling e) _ spelled (f.suits_it (after_all s es) (replayed stages es) (r.agrees s stages g)));
  agrees = λ s stages g. subst (λ x. Agrees b x (replayed stages (es ++ e ∷ []))) (sym (after_all-append s es (e ∷ [])))
      (subst (Agrees b (after (after_all s es) e)) (sym (replayed-append stages es (e ∷ []))) (f.agrees (after_all s es) (replayed stages es) (r.agrees s stages g)));
}

can_behind : (s : State) (es fs : List Entry) → IsTrue (can_all s (es ++ fs)) → IsTrue (can_all (after_all s es) fs)
can_behind s [] fs h = h
can_behind s (e ∷ es) fs h = can_behind (after s e) es fs (and_right (can s e) _ h)

-- an entry that does not suit what stood before it
pub no_journal : (first : Replay) (es : List Entry) (e : Entry) (rest : List Entry) (a : Replay) → Replayed first es a → Strange a e → NoJournal first (es ++ e ∷ rest)
no_journal first es e rest a r strange = record {
  never = λ s stages g can few.
      let behind = and_left _ (can_all (after (after_all s es) e) rest) (can_behind s es (e ∷ rest) can) in
      strange.never (after_all s es) (replayed stages es) (r.agrees s stages g) (and_right (has_spelling e) _ behind)
      (omega (arith, few, r.load, sum_by-append entry_inserts es (e ∷ rest), sum_by-cons entry_inserts e rest));
}

pub within : {X : Type 0} (P : X → Type 0) (xs : List X) (y : X) (ys : List X) → AllByRecursion P (xs ++ y ∷ ys) → P y
within P [] y ys h = h.0
within P (x ∷ xs) y ys h = within P xs y ys h.1
