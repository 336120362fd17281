use Rattle.std.proofs.Common.{◌≡◌, ◌∷◌, ◌++◌, length, length-append, sym, ◌∙◌, ap, subst, arith, Err}
use Rattle.std.proofs.lemmas.Grind.{common_steps}
use Rattle.std.specs.List.{AllByRecursion}
use Rattle.std.specs.Vec.Iter.{into_iter_items}
use Rattle.ut_redo.specs.Frames.{IsEntry}
use Rattle.ut_restart.specs.declared.error.RestartError.TheVariants.{Damaged}
use Rattle.ut_restart.specs.Replayed.{NoJournal}
use Rattle.ut_restart.proofs.JournalLemmas.{replayed-none, replayed-then, no_journal, within}
use Rattle.ut_restart.proofs.TakenLemmas.{taken_front}
use Rattle.ut_restart.proofs.replay.Replay.follow_all.Goals as goal

pub loop-entry-init : goal.loop-entry-init
loop-entry-init c = (tt, tt, replayed-none c.args.self.now c.requires.sound)

pub follow-requires-clause-sound : goal.follow-requires-clause-sound
follow-requires-clause-sound c = c.loop-entry.invariant.2.sound

pub follow-requires-clause-spelled : goal.follow-requires-clause-spelled
follow-requires-clause-spelled c =
    let rest = into_iter_items c.next.new.self in
    let front = taken_front c.into_iter-entry-iterator.result c.loop-entry.yielded c.loop-entry.entry-iterator c.loop-entry.yielded_by in
    let all : c.args.entries ≡ c.loop-entry.yielded ++ (c.in-Some.entry ∷ rest) = sym (ap (λ xs. c.loop-entry.yielded ++ xs) (sym c.in-Some.ensures.steps.0) ∙ sym front ∙ c.into_iter-entry-iterator.ensures.into_iter_gives.0 ∙ c.into_vec-entry-items.ensures) in
    within IsEntry c.loop-entry.yielded c.in-Some.entry rest (subst (AllByRecursion IsEntry) all c.requires.spelled)

pub follow-requires-clause-few : goal.follow-requires-clause-few
follow-requires-clause-few c =
    let rest = into_iter_items c.next.new.self in
    let front = taken_front c.into_iter-entry-iterator.result c.loop-entry.yielded c.loop-entry.entry-iterator c.loop-entry.yielded_by in
    let all : c.args.entries ≡ c.loop-entry.yielded ++ (c.in-Some.entry ∷ rest) = sym (ap (λ xs. c.loop-entry.yielded ++ xs) (sym c.in-Some.ensures.steps.0) ∙ sym front ∙ c.into_iter-entry-iterator.ensures.into_iter_gives.0 ∙ c.into_vec-entry-items.ensures) in
    omega (arith, c.requires.few, c.loop-entry.invariant.2.count, ap length all, length-append c.loop-entry.yielded (c.in-Some.entry ∷ rest))

pub loop-entry-preserved : goal.loop-entry-preserved
loop-entry-preserved c =
    let rest = into_iter_items c.next.new.self in
    let front = taken_front c.into_iter-entry-iterator.result c.loop-entry.yielded c.loop-entry.entry-iterator c.loop-entry.yielded_by in
    let all : c.args.entries ≡ c.loop-entry.yielded ++ (c.in-Some.entry ∷ rest) = sym (ap (λ xs. c.loop-entry.yielded ++ xs) (sym c.in-Some.ensures.steps.0) ∙ sym front ∙ c.into_iter-entry-iterator.ensures.into_iter_gives.0 ∙ c.into_vec-entry-items.ensures) in (
      tt,
      tt,
      replayed-then c.args.self.now c.loop-entry.yielded c.in-Some.entry c.loop-entry.self c.follow.new.self c.loop-entry.invariant.2 c.in_ok-follow.ensures.ok
          (within IsEntry c.loop-entry.yielded c.in-Some.entry rest (subst (AllByRecursion IsEntry) all c.requires.spelled)),
    )

pub returns-in_err-follow-clause-damaged : goal.returns-in_err-follow-clause-damaged
returns-in_err-follow-clause-damaged c = λ e.
    let same : c.in_err-follow.field-0.0 ≡ Damaged = grind (arith, common_steps) in
    let rest = into_iter_items c.next.new.self in
    let front = taken_front c.into_iter-entry-iterator.result c.loop-entry.yielded c.loop-entry.entry-iterator c.loop-entry.yielded_by in
    let all : c.loop-entry.yielded ++ (c.in-Some.entry ∷ rest) ≡ c.args.entries = ap (λ xs. c.loop-entry.yielded ++ xs) (sym c.in-Some.ensures.steps.0) ∙ sym front ∙ c.into_iter-entry-iterator.ensures.into_iter_gives.0 ∙ c.into_vec-entry-items.ensures in
    subst (NoJournal c.args.self.now) all (no_journal c.args.self.now c.loop-entry.yielded c.in-Some.entry rest c.loop-entry.self c.loop-entry.invariant.2 (c.in_err-follow.ensures.damaged (ap Err same)))
