-- What each call does to all that a store knows of its files.
use Rattle.std.proofs.Common.{◌≡◌, ◌≢◌, ℕ, zero, suc, ◌+◌, ◌<◌, true, false, List, [], ◌∷◌, ◌++◌, length, take, Option, None, Some, refl, sym, ◌∙◌, ap, subst, arith}
use Rattle.std.specs.Prelude.{IsTrue, slice_get}
use Rattle.std.specs.List.{AllByRecursion}
use Rattle.std.specs.FinMap as finmap
use Rattle.std.proofs.lemmas.List.{take_all}
use Rattle.ut_outside.specs.declared.disk.Which.TheVariants.{Pages}
use Rattle.ut_outside.specs.Disk.{View, IsTold, OnFile}
use Rattle.ut_plain.specs.Journal.{Journal, journal_len, appended}
use Rattle.ut_plain.specs.Capture.{Directory}
use Rattle.ut_plain.specs.Plain.{Phase, Idle, Writing, Sealed}
use Rattle.ut_redo.specs.Logs.{IsLogFile, other_log}
use Rattle.ut_redo.proofs.LogLemmas.{other_differs}
use Rattle.ut_pages.specs.declared.root.Root.{Root}
use Rattle.ut_pages.specs.Layout.{HasPage, other}
use Rattle.ut_pages.specs.Crash.{ChangesOnly}
use Rattle.ut_durable.specs.Journals.{place_of}
use Rattle.ut_durable.specs.Files.{IsImageOf, IsStaged}
use Rattle.ut_durable.specs.Calls.{FilesHeld, IsSettled, IsRested, IsFollowed, IsReady}
use Rattle.ut_durable.specs.Saving.{Planned, IsWritten, MayWrite, Saving, IsPlan, IsSaving, IsStored}
use Rattle.ut_durable.proofs.PlaceLemmas.{is_log}
use Rattle.ut_durable.specs.Laws.{AppendIsStored, SwitchIsStored, BeginIsStored, NextMayBeWritten, PageIsStored, SealIsStored, FlipIsStored, DropIsStored, StoredHoldsAll}
use Rattle.ut_durable.proofs.CallLemmas.{settled}
use Rattle.ut_durable.proofs.GroupLemmas.{more_group, stored_on}
use Rattle.ut_durable.proofs.RestLemmas.{captured_now, rests_all}
use Rattle.ut_durable.proofs.PlanLemmas.{still_written, earlier_apart, taken_more, all_push}

-- the image stays, and the savepoint goes on
stored_still : (j : Journal) (f : FilesHeld) (selected : Root) (d : Directory) (saving saving' : Option Saving) (phase phase' : Phase) (v0 v1 : View) → (IsRested j selected d f v0 → IsRested j selected d f v1) → IsSaving j f selected v1 saving' phase'
    → IsStored j f selected d saving phase v0 → IsStored j f selected d saving' phase' v1
stored_still j f selected d saving saving' phase phase' v0 v1 rests under_way stored = record { image = stored.image; rests = rests stored.rests; under_way = under_way }

-- ---- a savepoint begins

-- the log has moved off the selected root's file, or stood in the other one before
stored_begun : (j : Journal) (f : FilesHeld) (selected : Root) (d : Directory) (s : Saving) (c : Directory) (v : View) → IsImageOf j selected d → IsRested j selected d f v → IsSettled f v
    → IsImageOf j s.root c → s.root.length ≡ journal_len j → place_of s.root ≡ f.log → s.root.version ≡ 2 → f.log.file ≢ (place_of selected).file → s.sealed ≡ false → s.done ≡ 0 → IsPlan s.planned f.reached s.reached s.root c
    → IsStored j f selected d (Some s) (Writing (journal_len j) 0 (length s.planned) c) v
stored_begun j f selected d s c v image rests settled of whole here version apart unsealed none plan = record {
  image = image;
  rests = rests;
  under_way = record {
    captured = sym whole;
    done = sym none;
    pages = refl;
    unsealed = unsealed;
    few = omega (arith, none);
    version = version;
    image = of;
    apart = apart;
    log = λ told image' left. captured_now j s.root f.log image' (omega (arith, whole)) here (settled told image' left).0;
    plan = plan;
    written = λ told. subst (λ (n : ℕ). AllByRecursion (IsWritten v.seen.pages) (take n s.planned)) (sym none) tt;
  };
}

-- after a switch it has
switched_differs : (f : FilesHeld) (selected : Root) → f.log.file ≡ (place_of selected).file → other_log f.log.file ≢ (place_of selected).file
switched_differs f selected same is = other_differs f.log.file (subst IsLogFile (sym same) (is_log selected.file)) (same ∙ sym is)

-- ---- a page

stored_step : (j : Journal) (f : FilesHeld) (selected : Root) (d : Directory) (s : Saving) (b n q : ℕ) (c : Directory) (p : Planned) (v0 v1 : View) → slice_get s.planned s.done ≡ Some p → s.done < length s.planned → v1.told ≡ v0.told
    → (IsRested j selected d f v0 → IsRested j selected d f v1) → (IsFollowed j s.root f v0 → IsFollowed j s.root f v1)
    → (IsTold v0 → HasPage p.n p.next p.payload v1.seen.pages) → (IsTold v0 → OnFile Pages (ChangesOnly p.n (length v0.seen.pages)) v0.seen v1.seen)
    → IsStored j f selected d (Some s) (Writing b n q c) v0 → IsStored j f selected d (Some (record s { done = s.done + 1 })) (Writing b (n + 1) q c) v1
stored_step j f selected d s b n q c p v0 v1 next more same rests captured here others stored =
    let w = stored.under_way in
    stored_still j f selected d (Some s) (Some (record s { done = s.done + 1 })) (Writing b n q c) (Writing b (n + 1) q c) v0 v1 rests
    (record {
      captured = w.captured;
      done = omega (arith, w.done);
      pages = w.pages;
      unsealed = w.unsealed;
      few = omega (arith, more);
      version = w.version;
      image = w.image;
      apart = w.apart;
      log = captured w.log;
      plan = w.plan;
      written = λ later.
          let told : IsTold v0 = subst IsTrue same later in
          let before = still_written (take s.done s.planned) p.n v0.seen.pages v1.seen.pages (earlier_apart s.planned s.done p next w.plan.apart) (others told).0 (w.written told) in
          let both = all_push (IsWritten v1.seen.pages) (take s.done s.planned) p before (here told) in
          let next_is : s.done + 1 ≡ suc s.done = omega arith in
          let is : take (s.done + 1) s.planned ≡ take s.done s.planned ++ p ∷ [] = ap (λ (k : ℕ). take k s.planned) next_is ∙ taken_more s.planned s.done p next in
          subst (AllByRecursion (IsWritten v1.seen.pages)) (sym is) both;
    })
    stored

-- ---- the root

stored_sealed : (j : Journal) (f : FilesHeld) (selected : Root) (d : Directory) (s : Saving) (b n q : ℕ) (c : Directory) (v0 v1 : View) → s.done ≡ length s.planned
    → (IsRested j selected d f v0 → IsRested j selected d f v1)
    → ((IsTold v0 → IsStaged s.reached s.root c v0.seen.pages) → IsFollowed j s.root f v0 → IsReady j (other f.slot) s.reached s.root c f v1)
    → IsStored j f selected d (Some s) (Writing b n q c) v0 → IsStored j f selected d (Some (record s { sealed = true })) (Sealed b q c) v1
stored_sealed j f selected d s b n q c v0 v1 all rests ready stored =
    let w = stored.under_way in
    stored_still j f selected d (Some s) (Some (record s { sealed = true })) (Writing b n q c) (Sealed b q c) v0 v1 rests
    (record {
      captured = w.captured;
      pages = w.pages;
      sealed = refl;
      image = w.image;
      apart = w.apart;
      ready = ready (λ told. w.plan.staged v0.seen.pages (subst (AllByRecursion (IsWritten v0.seen.pages)) (take_all s.done s.planned (omega (arith, all))) (w.written told))) w.log;
    })
    stored

-- ---- the flip

stored_flipped : (j : Journal) (f f' : FilesHeld) (selected : Root) (d : Directory) (s : Saving) (b q : ℕ) (c : Directory) (v0 v1 : View)
    → (IsRested j selected d f v0 → IsReady j (other f.slot) s.reached s.root c f v0 → IsRested j s.root c f' v1)
    → IsStored j f selected d (Some s) (Sealed b q c) v0 → IsStored j f' s.root c None Idle v1
stored_flipped j f f' selected d s b q c v0 v1 flip stored =
    let w = stored.under_way in record { image = w.image; rests = flip stored.rests w.ready; under_way = tt }

-- ---- it is dropped

stored_dropped : (j : Journal) (f : FilesHeld) (selected : Root) (d : Directory) (saving : Option Saving) (phase : Phase) (v : View) → IsStored j f selected d saving phase v → IsStored j f selected d None Idle v
stored_dropped j f selected d saving phase v stored = stored_still j f selected d saving None phase Idle v v (λ rests. rests) tt stored

-- ---- the laws

pub append_is_stored : {D : Type 0} (view : D → View) → AppendIsStored view
append_is_stored {D} view j e payload f f' selected d saving phase v0 v1 p spells is next place same pages gains stored =
    stored_on j (appended j e) f f' selected d (view v0) (view v1) (ap (λ (h : FilesHeld). h.log.file) place) (ap (λ (h : FilesHeld). h.slot) place) (ap (λ (h : FilesHeld). h.reached) place) same pages
    (more_group p j (e ∷ []) is next) (λ root c of rests. gains.rests j root c e spells of rests) (λ root within followed. gains.followed j root e spells within followed)
    (λ root ps c of ready. gains.ready j root ps c e spells of ready) saving phase stored

pub switch_is_stored : {D : Type 0} (view : D → View) → SwitchIsStored view
switch_is_stored {D} view j f f' selected d v0 v1 straight place moves stored = (
  record { image = stored.image; rests = moves j selected d straight stored.rests; under_way = tt },
  subst (λ (h : FilesHeld). h.log.file ≢ (place_of selected).file) (sym place) (switched_differs f selected straight),
)

pub begin_is_stored : {D : Type 0} (view : D → View) → BeginIsStored view
begin_is_stored {D} view j f selected d s c v of whole here version apart unsealed none plan stored = stored_begun j f selected d s c (view v) stored.image stored.rests (settled j selected d f (view v) stored.rests) of whole here version apart unsealed none plan

planned_at : (P : Planned → Type 0) (ps : List Planned) (k : ℕ) (p : Planned) → AllByRecursion P ps → slice_get ps k ≡ Some p → P p
planned_at P [] k p all is = absurd cc
planned_at P (q ∷ ps) zero p all is = let same : q ≡ p = cc in subst P same all.0
planned_at P (q ∷ ps) (suc k) p all is = planned_at P ps k p all.1 is

pub next_may_be_written : {D : Type 0} (view : D → View) → NextMayBeWritten view
next_may_be_written {D} view j f selected d s b n q c p v stored is = planned_at (MayWrite f.reached) s.planned s.done p stored.under_way.plan.may is

pub page_is_stored : {D : Type 0} (view : D → View) → PageIsStored view
page_is_stored {D} view j f selected d s b n q c p v0 v1 is more same stays here others stored = stored_step j f selected d s b n q c p (view v0) (view v1) is more same (λ rests. stays.rests j selected d rests) (λ followed. stays.followed j s.root followed) here others stored

pub seal_is_stored : {D : Type 0} (view : D → View) → SealIsStored view
seal_is_stored {D} view j f selected d s b n q c v0 v1 all stays becomes stored = stored_sealed j f selected d s b n q c (view v0) (view v1) all (λ rests. stays.rests j selected d rests) (λ staged followed. becomes j s.reached c followed staged) stored

pub flip_is_stored : {D : Type 0} (view : D → View) → FlipIsStored view
flip_is_stored {D} view j f f' selected d s b q c v0 v1 flips stored = stored_flipped j f f' selected d s b q c (view v0) (view v1) (λ rests ready. flips j selected s.root d c rests ready) stored

pub drop_is_stored : {D : Type 0} (view : D → View) → DropIsStored view
drop_is_stored {D} view j f selected d saving phase v stored = stored_dropped j f selected d saving phase (view v) stored

pub stored_holds_all : {D : Type 0} (view : D → View) → StoredHoldsAll view
stored_holds_all {D} view j f selected d saving phase v stored = (settled j selected d f (view v) stored.rests, λ told c left. rests_all j f.slot f.reached selected d f.log c stored.image (stored.rests told c left))
