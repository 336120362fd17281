-- Pages of a savepoint, one behind the other.
use Rattle.std.proofs.Common.{◌≡◌, ℕ, ◌+◌, ◌-◌, ◌≤◌, ◌<◌, true, false, length, Option, None, Some, refl, sym, ◌∙◌, ap, subst, arith, IsTrue}
use Rattle.std.specs.Prelude.{slice_get}
use Rattle.std.specs.Option.{option_map}
use Rattle.ut_outside.specs.declared.disk.Which.TheVariants.{Pages}
use Rattle.ut_outside.specs.Disk.{View, Image, IsTold, OnFile}
use Rattle.ut_outside.proofs.RunLemmas.{started, joined}
use Rattle.ut_plain.specs.Plain.{Writing}
use Rattle.ut_pages.specs.Layout.{HasPage}
use Rattle.ut_pages.specs.Crash.{ChangesOnly}
use Rattle.ut_durable.specs.Calls.{FilesHeld, IsSettled, Stays}
use Rattle.ut_durable.specs.Files.{Rests}
use Rattle.ut_durable.specs.Saving.{Planned, Saving, IsStored}
use Rattle.ut_durable.proofs.CallLemmas.{settled}
use Rattle.ut_durable.proofs.SavingLemmas.{page_is_stored}
use Rattle.ut_engine.specs.Logged.{Logged}
use Rattle.ut_engine.specs.Saves.{more, pages_left, MayGoOn, Goes}
use Rattle.ut_engine.proofs.StoredLemmas.{two}

-- ---- calls that leave what is selected follow each other

pub stays_then : (f : FilesHeld) (v0 v1 v2 : View) → v1.told ≡ v0.told → Stays f v0 v1 → Stays f v1 v2 → Stays f v0 v2
stays_then f v0 v1 v2 told first second = record {
  rests = λ j root d rests. second.rests j root d (first.rests j root d rests);
  any_moment = λ j root d rests is_told.
      joined v0 v1 v2 (Rests j f.slot f.reached root d f.log) (first.any_moment j root d rests is_told) (second.any_moment j root d (first.rests j root d rests) (subst IsTrue (sym told) is_told));
  followed = λ j root followed. second.followed j root (first.followed j root followed);
}

-- where nothing was called
pub stays_none : (f : FilesHeld) (v : View) → ((c : Image) → v.crash_states_since v.moment c → v.crash_states c) → Stays f v v
stays_none f v only = record {
  rests = λ j root d rests. rests;
  any_moment = λ j root d rests is_told. started v (Rests j f.slot f.reached root d f.log) (λ c left. rests is_told c (only c left));
  followed = λ j root followed. followed;
}

-- ---- what a page's call asks

pub files_settled : (e : Logged) (disk : View) → MayGoOn e disk → IsSettled e.files disk
files_settled e disk may = settled may.journal may.selected may.directory e.files disk may.stored.rests

-- ---- how many are left

pub is_left : (o : Option Saving) (s : Saving) → o ≡ Some s → 1 ≤ pages_left o → s.done < length s.planned
is_left o s is left = let same : pages_left o ≡ length s.planned - s.done = ap pages_left is in omega (arith, same, left)

-- ---- what it leaves

-- nothing was written yet
pub goes_none : (e : Logged) (disk : View) → Goes 0 e disk e disk
goes_none e disk = record {
  same = ap (λ (o : Option Saving). record e { saving = o }) (same e.saving);
  stored = λ j selected d s b n q c is stored.
      subst (λ (k : ℕ). IsStored j e.files selected d (Some (record s { done = k })) (Writing b (n + 0) q c) disk) (zero_more s.done)
      (subst (λ (k : ℕ). IsStored j e.files selected d (Some s) (Writing b k q c) disk) (zero_more n) stored);
}
  where
    zero_more : (n : ℕ) → n ≡ n + 0
    zero_more n = omega arith

    same : (o : Option Saving) → o ≡ option_map (more 0) o
    same None = refl
    same (Some s) = ap (λ (k : ℕ). Some (record s { done = k })) (zero_more s.done)

-- one page more
pub goes_one : (old new : Logged) (before after : View) (p : Planned) → ((s : Saving) → old.saving ≡ Some s → (slice_get s.planned s.done ≡ Some p) × (s.done < length s.planned)) → new ≡ record old { saving = option_map (more 1) old.saving }
    → after.told ≡ before.told → Stays old.files before after → (IsTold before → HasPage p.n p.next p.payload after.seen.pages) → (IsTold before → OnFile Pages (ChangesOnly p.n (length before.seen.pages)) before.seen after.seen)
    → Goes 1 old before new after
goes_one old new before after p next same told stays here others = record {
  same = same;
  stored = λ j selected d s b n q c is stored. page_is_stored (two before after) j old.files selected d s b n q c p false true (next s is).0 (next s is).1 told stays here others stored;
}

-- the page that was next
pub page_written : (old new : Logged) (before after : View) (s t : Saving) (p : Planned) (files : FilesHeld) → old.saving ≡ Some s → slice_get s.planned s.done ≡ Some p → s.done < length s.planned
    → t ≡ record s { done = s.done + 1 } → files ≡ old.files → new ≡ record old { files = files; saving = Some t }
    → after.told ≡ before.told → Stays old.files before after → (IsTold before → HasPage p.n p.next p.payload after.seen.pages) → (IsTold before → OnFile Pages (ChangesOnly p.n (length before.seen.pages)) before.seen after.seen)
    → Goes 1 old before new after
page_written old new before after s t p files under next within wrote kept is told stays here others = goes_one old new before after p
    (λ x at. let same : s ≡ x = the_same x (sym under ∙ at) in subst (λ (y : Saving). (slice_get y.planned y.done ≡ Some p) × (y.done < length y.planned)) same (next, within))
    (is ∙ (λ i. record old { files = kept i; saving = Some (wrote i) }) ∙ ap (λ (o : Option Saving). record old { saving = option_map (more 1) o }) (sym under))
    told stays here others
  where
    the_same : (x : Saving) → Some s ≡ Some x → s ≡ x
    the_same x is = cc

-- so many, and then one
pub goes_more : (count : ℕ) (old mid new : Logged) (v0 v1 v2 : View) → Goes count old v0 mid v1 → Goes 1 mid v1 new v2 → Goes (count + 1) old v0 new v2
goes_more count old mid new v0 v1 v2 first second = record {
  same = second.same ∙ (λ i. record (first.same i) { saving = option_map (more 1) (first.same i).saving }) ∙ ap (λ (o : Option Saving). record old { saving = o }) (twice old.saving);
  stored = λ j selected d s b n q c is stored.
      let mid_is : mid.saving ≡ Some (more count s) = ap (λ (e : Logged). e.saving) first.same ∙ ap (option_map (more count)) is in
      let files : mid.files ≡ old.files = ap (λ (e : Logged). e.files) first.same in
      let at = subst (λ (f : FilesHeld). IsStored j f selected d (Some (more count s)) (Writing b (n + count) q c) v1) (sym files) (first.stored j selected d s b n q c is stored) in
      let done = subst (λ (f : FilesHeld). IsStored j f selected d (Some (more 1 (more count s))) (Writing b (n + count + 1) q c) v2) files (second.stored j selected d (more count s) b (n + count) q c mid_is at) in
      subst (λ (k : ℕ). IsStored j old.files selected d (Some (record s { done = k })) (Writing b (n + (count + 1)) q c) v2) (both s.done count)
      (subst (λ (k : ℕ). IsStored j old.files selected d (Some (more 1 (more count s))) (Writing b k q c) v2) (both n count) done);
}
  where
    both : (n k : ℕ) → n + k + 1 ≡ n + (k + 1)
    both n k = omega arith

    twice : (o : Option Saving) → option_map (more 1) (option_map (more count) o) ≡ option_map (more (count + 1)) o
    twice None = refl
    twice (Some s) = ap (λ (k : ℕ). Some (record s { done = k })) (both s.done count)

-- it may go on behind them
pub goes_on : (count : ℕ) (old new : Logged) (before after : View) → MayGoOn old before → Goes count old before new after → MayGoOn new after
goes_on count old new before after may goes = record {
  saving = more count may.saving;
  under_way = ap (λ (e : Logged). e.saving) goes.same ∙ ap (option_map (more count)) may.under_way;
  journal = may.journal;
  selected = may.selected;
  directory = may.directory;
  captured = may.captured;
  done = may.done + count;
  pages = may.pages;
  image = may.image;
  stored = subst (λ (f : FilesHeld). IsStored may.journal f may.selected may.directory (Some (more count may.saving)) (Writing may.captured (may.done + count) may.pages may.image) after) (sym (ap (λ (e : Logged). e.files) goes.same))
      (goes.stored may.journal may.selected may.directory may.saving may.captured may.done may.pages may.image may.under_way may.stored);
}
