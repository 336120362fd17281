-- The memory of a store whose disk failed at a statement of the savepoint: no row moved.
use Rattle.std.proofs.Common.{ℕ, ◌+◌, min, Option, None, Some, refl, IsTrue}
use Rattle.ut_plain.specs.declared.reply.Refusal.{Refusal}
use Rattle.ut_plain.specs.declared.statement.Statement.{Statement}
use Rattle.ut_plain.specs.declared.statement.Statement.TheVariants as statements
use Rattle.ut_plain.specs.Journal.{journal_len}
use Rattle.ut_plain.specs.Plain.{Plain, Phase, Idle, Writing, Sealed}
use Rattle.ut_plain.specs.Reached.{IsPlain}
use Rattle.ut_plain.specs.Refusals.{is_save, refusal}
use Rattle.ut_plain.specs.Step.{step, step_by, save_written, save_sealed, save_flipped}
use Rattle.ut_plain.specs.View.{view, captured_now}
use Rattle.ut_plain.proofs.SaveLaws.{save_written_is}
use Rattle.ut_plain.proofs.StepLaws.{IsPlain-step}
use Rattle.ut_store.specs.Held.{Held}
use Rattle.ut_store.specs.Stands.{StandsFor}
use Rattle.ut_engine.proofs.PhaseLemmas.{stands_in}

-- ---- the state after it is one

by_plain : (why : Option Refusal) (p : Plain) (session n : ℕ) → IsPlain p → IsPlain (step_by why p session (statements.SaveStep n)).plain
by_plain (Some why) p session n plain = plain
by_plain None p session n plain = save_written_is p n plain

step_plain : (p : Plain) (session : ℕ) (st : Statement) → IsTrue (is_save st) → IsPlain p → IsPlain (step p session st).plain
step_plain p session statements.SaveBegin save plain = IsPlain-step p session statements.SaveBegin plain refl
step_plain p session (statements.SaveStep n) save plain = by_plain (refusal (view p session) (statements.SaveStep n)) p session n plain
step_plain p session statements.SaveSeal save plain = IsPlain-step p session statements.SaveSeal plain refl
step_plain p session statements.SaveFlip save plain = IsPlain-step p session statements.SaveFlip plain refl
step_plain p session statements.SaveDrop save plain = IsPlain-step p session statements.SaveDrop plain refl
step_plain p session _ save plain = absurd cc

-- ---- the store stands for it

module _ (e : Held) (p : Plain) (s : StandsFor e p) where
  written : (n : ℕ) (phase : Phase) → IsPlain (save_written p n phase).plain → StandsFor e (save_written p n phase).plain
  written n Idle plain = s
  written n (Writing captured done pages image) plain = stands_in e p (Writing captured (min pages (done + n)) pages image) p.root_pages plain s
  written n (Sealed captured pages image) plain = s

  sealed : (phase : Phase) → IsPlain (save_sealed p phase).plain → StandsFor e (save_sealed p phase).plain
  sealed Idle plain = s
  sealed (Writing captured done pages image) plain = stands_in e p (Sealed captured pages image) p.root_pages plain s
  sealed (Sealed captured pages image) plain = s

  flipped : (phase : Phase) → IsPlain (save_flipped p phase).plain → StandsFor e (save_flipped p phase).plain
  flipped Idle plain = s
  flipped (Writing captured done pages image) plain = s
  flipped (Sealed captured pages image) plain = stands_in e p Idle pages plain s

  by_step : (why : Option Refusal) (session : ℕ) (st : Statement) → IsTrue (is_save st) → IsPlain (step_by why p session st).plain → StandsFor e (step_by why p session st).plain
  by_step (Some why) session st save plain = s
  by_step None session statements.SaveBegin save plain = stands_in e p (Writing (journal_len p.journal) 0 (p.image_pages (captured_now p)) (captured_now p)) p.root_pages plain s
  by_step None session (statements.SaveStep n) save plain = written n p.phase plain
  by_step None session statements.SaveSeal save plain = sealed p.phase plain
  by_step None session statements.SaveFlip save plain = flipped p.phase plain
  by_step None session statements.SaveDrop save plain = stands_in e p Idle p.root_pages plain s
  by_step None session _ save plain = absurd cc

  pub saved_stands : (session : ℕ) (st : Statement) → IsTrue (is_save st) → StandsFor e (step p session st).plain
  saved_stands session st save = by_step (refusal (view p session) st) session st save (step_plain p session st save s.plain)
