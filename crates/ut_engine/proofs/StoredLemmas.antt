-- What is known of a store's files stays where they are only read.
use Rattle.std.proofs.Common.{Bool, true, false, take, Option, None, Some, sym, subst, IsTrue}
use Rattle.std.specs.List.{AllByRecursion}
use Rattle.ut_outside.specs.Disk.{Image, View, IsTold}
use Rattle.ut_outside.specs.Run.{LeavesOnly, ReadsOnly}
use Rattle.ut_outside.proofs.RunLemmas.{weaker}
use Rattle.ut_plain.specs.Journal.{Journal, journal_len}
use Rattle.ut_plain.specs.Capture.{Directory}
use Rattle.ut_plain.specs.Plain.{Phase, Idle, Writing, Sealed}
use Rattle.ut_pages.specs.declared.root.Root.{Root}
use Rattle.ut_durable.specs.Calls.{FilesHeld}
use Rattle.ut_durable.specs.Moments.{Leaves}
use Rattle.ut_durable.specs.Saving.{Saving, IsWritten, IsSaving, IsStored}
use Rattle.ut_durable.proofs.RestLemmas.{rests_all}

-- two states of a disk, by which laws of any disk are used
abbrev pub two : View → View → Bool → View
two before after false = before
two before after true = after

module _ (v w : View) (reads : ReadsOnly v w) where
  was_told : IsTold w → IsTold v
  was_told told = subst IsTrue reads.told told

  saving_read : (j : Journal) (f : FilesHeld) (selected : Root) (saving : Option Saving) (phase : Phase) → IsSaving j f selected v saving phase → IsSaving j f selected w saving phase
  saving_read j f selected None Idle is = tt
  saving_read j f selected None (Writing b p q d) is = is
  saving_read j f selected None (Sealed b q d) is = is
  saving_read j f selected (Some s) Idle is = is
  saving_read j f selected (Some s) (Writing b p q d) is = record {
    captured = is.captured;
    done = is.done;
    pages = is.pages;
    unsealed = is.unsealed;
    few = is.few;
    version = is.version;
    image = is.image;
    apart = is.apart;
    log = λ told c left. is.log (was_told told) c (reads.no_more c left);
    plan = is.plan;
    written = λ told. subst (λ (i : Image). AllByRecursion (IsWritten i.pages) (take s.done s.planned)) (sym reads.seen) (is.written (was_told told));
  }
  saving_read j f selected (Some s) (Sealed b q d) is = record {
    captured = is.captured;
    pages = is.pages;
    sealed = is.sealed;
    image = is.image;
    apart = is.apart;
    ready = λ told c left. is.ready (was_told told) c (reads.no_more c left);
  }

  pub stored_read : (j : Journal) (f : FilesHeld) (selected : Root) (d : Directory) (saving : Option Saving) (phase : Phase) → IsStored j f selected d saving phase v → IsStored j f selected d saving phase w
  stored_read j f selected d saving phase stored = record {
    image = stored.image;
    rests = λ told c left. stored.rests (was_told told) c (reads.no_more c left);
    under_way = saving_read j f selected saving phase stored.under_way;
  }

  -- at each moment a crash leaves what it left before
  pub read_leaves : (j : Journal) (f : FilesHeld) (selected : Root) (d : Directory) (saving : Option Saving) (phase : Phase) → IsStored j f selected d saving phase v → IsTold v → LeavesOnly v w (Leaves j (journal_len j) f selected d)
  read_leaves j f selected d saving phase stored told =
      weaker v w v.crash_states (Leaves j (journal_len j) f selected d)
      (λ c left.
      let rests = stored.rests told c left in
      record { holds = rests_all j f.slot f.reached selected d f.log c stored.image rests; root = record { stands = rests.stands; image = rests.image } })
      reads.any_moment
