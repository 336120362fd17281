-- What each call does to what is known of the files, by what the log's and the pages' calls do to them.
use Rattle.std.proofs.Common.{◌≡◌, ◌⊎◌, ℕ, List, [], ◌∷◌, subst}
use Rattle.std.specs.Prelude.{IsTrue}
use Rattle.ut_outside.specs.declared.disk.Which.TheVariants.{Pages}
use Rattle.ut_outside.specs.Disk.{View, Image, IsTold}
use Rattle.ut_outside.specs.Run.{Always, ComesFrom, ComesBy, LeavesOnly}
use Rattle.ut_outside.proofs.RunLemmas.{weaker}
use Rattle.ut_value.specs.declared.entry.Entry.{Entry}
use Rattle.ut_value.specs.Spelling.{Spells}
use Rattle.ut_plain.specs.Journal.{appended, journal_len}
use Rattle.ut_redo.specs.Appends.{behind, BeforeOrAfter, After}
use Rattle.ut_redo.specs.Logs.{MaySwitch, IsSwitched, switched_place}
use Rattle.ut_redo.proofs.LogLemmas.{closed_at_log_end}
use Rattle.ut_pages.specs.declared.root.Root.{Root}
use Rattle.ut_pages.specs.Layout.{other}
use Rattle.ut_pages.specs.Crash.{Keeps, Selects, Seals}
use Rattle.ut_plain.specs.Capture.{Directory}
use Rattle.ut_plain.specs.Journal.{Journal, entries_after}
use Rattle.ut_durable.specs.Journals.{place_of, HoldsPrefix}
use Rattle.ut_durable.specs.Files.{HasSelected, Rests}
use Rattle.ut_durable.specs.Calls.{FilesHeld, IsSettled, IsRested, Gains, MayGain, Stays, BecomesReady, Flips, MayFlip, Moves, MayMove}
use Rattle.ut_durable.proofs.RestLemmas as rest

-- files that hold a journal are settled
pub settled : (j : Journal) (root : Root) (d : Directory) (f : FilesHeld) (v : View) → IsRested j root d f v → IsSettled f v
settled j root d f v rests told c left = let a = rests told c left in (closed_at_log_end (place_of root) (entries_after j root.length) f.log c a.log, a.stands)

module _ (f : FilesHeld) (v0 v1 : View) (same : v1.told ≡ v0.told) where
  before : IsTold v1 → IsTold v0
  before told = subst IsTrue same told

  -- ---- an append

  module _ (payload : List ℕ) where
    abbrev next : FilesHeld
    next = record f { log = behind f.log payload }

    pub gains : ((entry : Entry) → Spells payload entry → IsTold v0 → Always v1 (ComesFrom v0 f.log.file (After (entry ∷ []) f.log.end (behind f.log payload).end))) → Gains payload f next v0 v1
    gains done = record {
      rests = λ j root d entry spells of rests told c left. rest.appended_rests j entry f.log (behind f.log payload).end v0 f.slot f.reached root d of (rests (before told)) c (done entry spells (before told) c left);
      followed = λ j root entry spells within held told c left. rest.captured_more j entry f.log (behind f.log payload).end v0 root within (held (before told)) c (done entry spells (before told) c left);
      ready = λ j root reached d entry spells of sealed told c left. rest.sealed_more j entry f.log (behind f.log payload).end v0 (other f.slot) reached root d of (sealed (before told)) c (done entry spells (before told) c left);
    }

    pub may_gain : ((entry : Entry) → Spells payload entry → IsTold v0 → LeavesOnly v0 v1 (ComesFrom v0 f.log.file (BeforeOrAfter (entry ∷ []) f.log.end (behind f.log payload).end))) → MayGain payload f v0 v1
    may_gain run = record {
      journal = λ j root d entry spells of more rests told.
          weaker v0 v1 (ComesFrom v0 f.log.file (BeforeOrAfter (entry ∷ []) f.log.end (behind f.log payload).end)) (HoldsPrefix (appended j entry) (journal_len j))
          (rest.appending j entry f.log (behind f.log payload).end v0 f.slot f.reached root d of (rests told) more) (run entry spells told);
      root = λ j root d entry spells rests told.
          weaker v0 v1 (ComesFrom v0 f.log.file (BeforeOrAfter (entry ∷ []) f.log.end (behind f.log payload).end)) (HasSelected f.slot f.reached root d)
          (rest.append_keeps j f.slot f.reached root d f.log v0 (BeforeOrAfter (entry ∷ []) f.log.end (behind f.log payload).end) (rests told)) (run entry spells told);
    }

  -- ---- a page, or a root in the other slot

  pub stays : (IsTold v0 → LeavesOnly v0 v1 (ComesFrom v0 Pages (Keeps f.slot f.reached))) → ((c : Image) → IsTold v0 → v1.crash_states c → v1.crash_states_since v0.moment c) → Stays f v0 v1
  stays run now = record {
    rests = λ j root d rests told c left. let was = before told in rest.kept j f.slot f.reached root d f.log v0 (rests was) c ((run was).each c (now c was left));
    any_moment = λ j root d rests told. weaker v0 v1 (ComesFrom v0 Pages (Keeps f.slot f.reached)) (Rests j f.slot f.reached root d f.log) (rest.kept j f.slot f.reached root d f.log v0 (rests told)) (run told);
    followed = λ j root held told c left. let was = before told in rest.captured_kept j root f.log v0 (Keeps f.slot f.reached) (held was) c ((run was).each c (now c was left));
  }

  pub becomes_ready : (root : Root) → (IsTold v0 → Always v1 (ComesFrom v0 Pages (λ _ file. Seals (other f.slot) root v0.seen.pages file))) → BecomesReady root f v0 v1
  becomes_ready root done j reached d held staged told c left = let was = before told in rest.ready j (other f.slot) reached root d f.log v0 (held was) (staged was) c (done was c left)

  -- ---- the flip

  pub flips : (reached : List ℕ) → (IsTold v0 → Always v1 (ComesFrom v0 Pages (Selects (other f.slot)))) → Flips reached f (record f { slot = other f.slot; reached = reached }) v0 v1
  flips reached done j old new d e rests sealed told c left = let was = before told in rest.selected j f.slot f.reached old d f.log v0 (rests was) reached new e (sealed was) c (done was c left)

  pub may_flip : (reached : List ℕ) → (IsTold v0 → LeavesOnly v0 v1 (ComesFrom v0 Pages (λ a b. Selects f.slot a b ⊎ Selects (other f.slot) a b))) → MayFlip reached f v0 v1
  may_flip reached run j old new d e of new_of rests sealed told =
      weaker v0 v1 (ComesFrom v0 Pages (λ a b. Selects f.slot a b ⊎ Selects (other f.slot) a b)) (HoldsPrefix j (journal_len j))
      (rest.flipping j f.slot f.reached old d f.log v0 (rests told) reached new e (sealed told) of new_of) (run told)

  -- ---- the switch

  pub moves : (IsTold v0 → Always v1 (ComesBy v0 (IsSwitched f.log))) → Moves f (record f { log = switched_place f.log }) v0 v1
  moves done j root d straight rests told c left = let was = before told in rest.switched j f.slot f.reached root d f.log v0 (rests was) straight c (done was c left)

  pub may_move : (IsTold v0 → LeavesOnly v0 v1 (ComesBy v0 (MaySwitch f.log))) → MayMove f v0 v1
  may_move run = record {
    journal = λ j root d of straight rests told. weaker v0 v1 (ComesBy v0 (MaySwitch f.log)) (HoldsPrefix j (journal_len j)) (rest.switching j f.slot f.reached root d f.log v0 (rests told) straight of) (run told);
    root = λ j root d rests told. weaker v0 v1 (ComesBy v0 (MaySwitch f.log)) (HasSelected f.slot f.reached root d) (rest.switch_keeps j f.slot f.reached root d f.log v0 (rests told)) (run told);
  }
