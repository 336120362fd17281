-- What the files of a store hold while it is made, and when it is opened.
use Rattle.std.proofs.Common.{◌≡◌, ◌≢◌, ◌⊎◌, inl, inr, ⊎_elim, ℕ, ◌+◌, ◌*◌, ◌≤◌, Bool, true, false, List, [], length, None, refl, sym, ◌∙◌, ap, subst, arith, IsTrue}
use Rattle.std.specs.Prelude.{⊤, ◌↔◌, Contains}
use Rattle.ut_outside.specs.declared.disk.Which.{Which}
use Rattle.ut_outside.specs.declared.disk.Which.TheVariants.{Redo, Pages}
use Rattle.ut_outside.specs.Disk.{Image, View, IsTold, content}
use Rattle.ut_outside.specs.Run.{Always, LeavesOnly, ComesFrom, ReadsOnly}
use Rattle.ut_outside.proofs.RunLemmas.{joined, weaker}
use Rattle.ut_outside.proofs.DiskLemmas.{same_image}
use Rattle.ut_pages.specs.Layout.{IsMade, made_pages, empty_root}
use Rattle.ut_pages.specs.declared.root.Root.{Root}
use Rattle.ut_pages.specs.declared.slot.Slot.{Slot}
use Rattle.ut_redo.specs.Frames.{Holds}
use Rattle.ut_redo.specs.Appends.{LogPlace}
use Rattle.ut_redo.specs.Groups.{Log}
use Rattle.ut_redo.specs.Logs.{IsLogFile, LogHolds}
use Rattle.ut_redo.specs.declared.error.RedoError.{RedoError}
use Rattle.ut_redo.specs.declared.error.RedoError.TheVariants as redo_errors
use Rattle.ut_redo.proofs.LogLemmas.{one_reading}
use Rattle.ut_pages.specs.declared.chain.PageError.{PageError}
use Rattle.ut_pages.specs.declared.chain.PageError.TheVariants as page_errors
use Rattle.ut_restart.specs.declared.error.RestartError.{RestartError}
use Rattle.ut_restart.specs.declared.error.RestartError.TheVariants as restart_errors
use Rattle.ut_restart.specs.Began.{BeginsWith}
use Rattle.ut_restart.specs.Standing.{Reopens}
use Rattle.ut_tables.specs.declared.restored.Restored.{Restored}
use Rattle.ut_tables.specs.Standing as standing
use Rattle.ut_value.specs.declared.entry.Entry.{Entry}
use Rattle.ut_plain.specs.declared.stage.Placed.{Placed}
use Rattle.ut_plain.specs.State.{State, empty_state}
use Rattle.ut_plain.specs.Capture.{Directory, StandsAnywhere}
use Rattle.ut_plain.specs.Stages.{no_stages}
use Rattle.ut_plain.specs.Plain.{Plain, Idle, no_image, new_store, opened_store}
use Rattle.ut_plain.specs.Reached.{MayOpen}
use Rattle.ut_store.specs.Held.{Held}
use Rattle.ut_store.specs.Stands.{StandsFor}
use Rattle.ut_store.specs.Standing.{Reopened}
use Rattle.ut_plain.specs.Journal.{Journal, empty_journal, after_all, can_all}
use Rattle.ut_durable.specs.Bytes.{image_pages, no_directory}
use Rattle.ut_durable.specs.Calls.{FilesHeld}
use Rattle.ut_durable.specs.Directories.{IsBase}
use Rattle.ut_durable.specs.Images.{HasImage}
use Rattle.ut_durable.specs.Journals.{log_file, place_of, HoldsJournal}
use Rattle.ut_durable.specs.Made.{made_held}
use Rattle.ut_durable.specs.Rules.{IsDirectory}
use Rattle.ut_durable.specs.Saving.{IsStored}
use Rattle.ut_durable.proofs.OpenLemmas.{made_is_stored, opened_is_stored, reading_image}
use Rattle.ut_durable.proofs.RestLemmas.{rests_holds}
use Rattle.ut_reading.specs.declared.image.Image.{Image as ReadImage}
use Rattle.ut_reading.specs.Reading.{IsImageIn, Begins}
use Rattle.ut_reading.proofs.RuleLemmas.{in_keys}
use Rattle.ut_reading.proofs.StoreLemmas.{one_image_each, image_is_base, directory_base}
use Rattle.ut_nextid.specs.NextIds.{Noted, Keeps, nobody}
use Rattle.ut_engine.specs.Logged.{Logged}
use Rattle.ut_engine.specs.Opening.{of_redo, of_page, of_restart}
use Rattle.ut_engine.specs.Runs.{Runs, IsNew, Opens, opening_of, NotMadeOrEmpty}
use Rattle.ut_engine.specs.declared.error.OpenError.TheVariants as opening
use Rattle.ut_engine.proofs.JournalLemmas.{may_open_new}
use Rattle.ut_engine.proofs.NotedLemmas.{opened_noted}
use Rattle.ut_engine.proofs.PlacedLemmas.{opened_rows}
use Rattle.ut_engine.proofs.StoredLemmas.{two}

pages_differ : Pages ≢ Redo
pages_differ e = cc

redo_differs : Redo ≢ Pages
redo_differs e = cc

-- ---- while a store is made

abbrev pub NoneMade : View → Type 0
NoneMade disk = Always disk (λ c. IsMade c.pages → ⊥)

-- whether it is made is read
pub unmade_read : (v0 v1 : View) → NoneMade v0 → ReadsOnly v0 v1 → LeavesOnly v0 v1 NotMadeOrEmpty
unmade_read v0 v1 none reads = weaker v0 v1 v0.crash_states NotMadeOrEmpty (λ c left. inl (none c left)) reads.any_moment

-- the log is made
still_unmade : (v0 v1 : View) (Step : List ℕ → List ℕ → Type 0) → NoneMade v0 → ReadsOnly v0 v1 → (c : Image) → ComesFrom v1 Redo Step c → IsMade c.pages → ⊥
still_unmade v0 v1 Step none reads c from made = none from.0 (reads.no_more from.0 from.1) (subst IsMade (from.2 Pages pages_differ) made)

pub unmade_redo : (v0 v1 v2 : View) → NoneMade v0 → ReadsOnly v0 v1 → LeavesOnly v1 v2 (ComesFrom v1 Redo (λ _ _. ⊤)) → LeavesOnly v0 v2 NotMadeOrEmpty
unmade_redo v0 v1 v2 none reads run =
    joined v0 v1 v2 NotMadeOrEmpty (unmade_read v0 v1 none reads) (weaker v1 v2 (ComesFrom v1 Redo (λ _ _. ⊤)) NotMadeOrEmpty (λ c from. inl (still_unmade v0 v1 (λ _ _. ⊤) none reads c from)) run)

-- the log is empty in each outcome
abbrev pub EmptyLog : View → View → Type 0
EmptyLog v1 v2 = Always v2 (ComesFrom v1 Redo (λ _ c. Holds 0 [] 0 c))

-- a disk that leaves this alone
abbrev settled_at : Image → View
settled_at c = record { told = true; seen = c; crash_states = λ d. d ≡ c; moment = 0; crash_states_since = λ t d. d ≡ c; faults = 0 }

-- files of which each outcome is that of a store without entries
made_stored : (v : View) → (IsTold v → Always v (λ c. (c.pages ≡ made_pages) × Holds 0 [] 0 c.redo)) → IsStored empty_journal made_held empty_root no_directory None Idle v
made_stored v left = made_is_stored (two v v) made_held false refl may_open_new left

empty_holds : (c : Image) → c.pages ≡ made_pages → Holds 0 [] 0 c.redo → HoldsJournal empty_journal c
empty_holds c pages log =
    let stored = made_stored (settled_at c) (λ told d is. (ap (λ (i : Image). i.pages) is ∙ pages, subst (λ (i : Image). Holds 0 [] 0 i.redo) (sym is) log)) in
    rests_holds empty_journal made_held.slot made_held.reached empty_root no_directory made_held.log c stored.image (stored.rests refl c refl)

-- the redo log is as it was
still_empty : (v1 v2 : View) → EmptyLog v1 v2 → (c : Image) (Step : List ℕ → List ℕ → Type 0) → ComesFrom v2 Pages Step c → Holds 0 [] 0 c.redo
still_empty v1 v2 empty c Step from = subst (Holds 0 [] 0) (sym (from.2 Redo redo_differs)) (empty from.0 from.1).3

-- the page file is made
pub unmade_pages : (v0 v1 v2 v3 : View) → NoneMade v0 → ReadsOnly v0 v1 → LeavesOnly v1 v2 (ComesFrom v1 Redo (λ _ _. ⊤)) → EmptyLog v1 v2 → (NoneMade v2 → LeavesOnly v2 v3 (ComesFrom v2 Pages (λ _ c. (IsMade c → ⊥) ⊎ (c ≡ made_pages)))) → LeavesOnly v0 v3 NotMadeOrEmpty
unmade_pages v0 v1 v2 v3 none reads log empty pages =
    joined v0 v2 v3 NotMadeOrEmpty (unmade_redo v0 v1 v2 none reads log)
    (weaker v2 v3 (ComesFrom v2 Pages (λ _ c. (IsMade c → ⊥) ⊎ (c ≡ made_pages))) NotMadeOrEmpty each (pages (λ c left. still_unmade v0 v1 (λ _ c. Holds 0 [] 0 c) none reads c (empty c left))))
  where
    each : (c : Image) → ComesFrom v2 Pages (λ _ c. (IsMade c → ⊥) ⊎ (c ≡ made_pages)) c → NotMadeOrEmpty c
    each c from = ⊎_elim (λ not. inl not) (λ is. inr (empty_holds c is (still_empty v1 v2 empty c (λ _ c. (IsMade c → ⊥) ⊎ (c ≡ made_pages)) from))) from.3

-- files that aren't made, as was asked
pub unmade_by : (b : Bool) (v : View) → b ≡ false → (IsTold v → (IsTrue b ↔ IsMade v.seen.pages)) → IsTold v → IsMade v.seen.pages → ⊥
unmade_by true v e asked told made = cc
unmade_by false v e asked told made = let t : IsTrue false = (asked told).1 made in cc

-- nothing stands in a store without tables
no_element : {X : Type 0} (x : X) → Contains [] x → ⊥
no_element x (i, lt, is) = absurd (omega (arith, lt))

nowhere : (p : Placed) → StandsAnywhere no_stages p → ⊥
nowhere p (inl l1) = no_element p l1
nowhere p (inr (inl l2)) = no_element p l2
nowhere p (inr (inr (inl closed))) = no_element p closed
nowhere p (inr (inr (inr (part, in_parts, in_part)))) = no_element part in_parts

-- what is noted of the next id behind these entries
abbrev pub NotedBehind : ℕ → List Entry → Noted → Type 0
NotedBehind first entries next = (s : State) → s.next ≡ first → IsTrue (can_all s entries) → next ≡ nobody (after_all s entries).next

-- a store that was made
abbrev pub made_logged : Held → Noted → Logged
made_logged store next = record { store = store; files = made_held; begins = Redo; saving = None; next = next; down = false }

new_runs : (v1 v2 v3 : View) (store : Held) (next : Noted) (rows : ℕ) → NotedBehind 1 [] next → StandsFor store (new_store (no_image image_pages) rows) → v2.told ≡ v1.told → v3.told ≡ v2.told → (IsTold v1 → EmptyLog v1 v2) → (IsTold v2 → Always v3 (ComesFrom v2 Pages (λ _ c. c ≡ made_pages)))
    → Runs (made_logged store next) v3 (new_store (no_image image_pages) rows)
new_runs v1 v2 v3 store next rows noted stands told12 told23 empty pages =
    record {
      up = refl;
      stands = stands;
      root = empty_root;
      directory = no_directory;
      stored = made_stored v3 (λ told c left.
          let told2 : IsTold v2 = subst IsTrue told23 told in
          let told1 : IsTold v1 = subst IsTrue told12 told2 in
          let from = pages told2 c left in
          (from.3, still_empty v1 v2 (empty told1) c (λ _ c. c ≡ made_pages) from));
      begins = refl;
      even = tt;
      log = redo_differs;
      short = omega arith;
      measure = refl;
      reached = refl;
      rows = λ n p at. absurd (nowhere p at);
      next = subst (λ (n : Noted). Keeps n (new_store (no_image image_pages) rows)) (sym (noted empty_state refl refl)) (opened_noted (no_image image_pages) empty_journal rows);
    }

pub is_new : (v0 v1 v2 v3 : View) (store : Held) (files : FilesHeld) (next : Noted) (rows : ℕ) → NotedBehind 1 [] next → ReadsOnly v0 v1 → (IsTold v0 → IsMade v0.seen.pages → ⊥) → StandsFor store (new_store (no_image image_pages) rows) → files ≡ made_held → v2.told ≡ v1.told → v3.told ≡ v2.told → (IsTold v1 → EmptyLog v1 v2)
    → (IsTold v2 → Always v3 (ComesFrom v2 Pages (λ _ c. c ≡ made_pages))) → IsNew (record { store = store; files = files; begins = Redo; saving = None; next = next; down = false }) rows v0 v3
is_new v0 v1 v2 v3 store files next rows noted read unmade stands is told12 told23 empty pages =
    subst (λ (f : FilesHeld). IsNew (record { store = store; files = f; begins = Redo; saving = None; next = next; down = false }) rows v0 v3) (sym is)
    (record {
      runs = new_runs v1 v2 v3 store next rows noted stands told12 told23 empty pages;
      unmade = unmade;
      pages = λ told c left. (pages (subst IsTrue (sym told12) (subst IsTrue (sym read.told) told)) c left).3;
    })

-- ---- a store that is opened

-- an image in memory is that of one state
pub began : (image : ReadImage) (d : Directory) → Begins image.root image.tables image.mains d → (s : State) × BeginsWith image.root image.tables image.mains d s
began image d begins = let base = directory_base image.root d begins.directory in (base.0, record { rules = begins.rules; shown = begins.shown; directory = begins.directory; base = base.1 })

-- the store of what was restored
pub reopened_store : (image : ReadImage) (entries : List Entry) (x : Restored) (store : Held) (rows : ℕ) → rows ≤ 2147483648
    → ((d : Directory) (s : State) → BeginsWith image.root image.tables image.mains d s → Reopens s d.stages entries x)
    → ((p : Plain) → standing.Opens x p → p.rows_limit ≡ rows → StandsFor store p)
    → (d : Directory) (s : State) → BeginsWith image.root image.tables image.mains d s → Reopened s d.stages entries rows store
reopened_store image entries x store rows small again stands d s b = record {
  may = (again d s b).may;
  stands = λ image_pages root_pages.
      stands (opened_store (record { stages = d.stages; image_pages = image_pages; root_pages = root_pages }) (record { base = s; entries = entries }) rows)
      ((again d s b).opens image_pages root_pages rows small) refl;
}

-- an image's directory keeps the rules
directory_rules : (slot : Slot) (reached : List ℕ) (root : Root) (d : Directory) (file : List ℕ) → HasImage slot reached root d file → IsDirectory root.next root.commits d
directory_rules slot reached root d file has = (in_keys reached root d file has.image).rules

-- the files were settled, were asked whether they are made, and their image was read, without a change
pub record IsRead (v0 v1 v2 v3 : View) : Type 0 where
  pub settle : ReadsOnly v0 v1
  pub made : ReadsOnly v1 v2
  pub image : ReadsOnly v2 v3
  pub is_made : IsTold v1 → IsMade v1.seen.pages

module _ (v0 v1 v2 v3 : View) (r : IsRead v0 v1 v2 v3) where
  told_1 : IsTold v0 → IsTold v1
  told_1 told = subst IsTrue (sym r.settle.told) told

  told_2 : IsTold v0 → IsTold v2
  told_2 told = subst IsTrue (sym r.made.told) (told_1 told)

  told_3 : IsTold v0 → IsTold v3
  told_3 told = subst IsTrue (sym r.image.told) (told_2 told)

  seen_2 : v2.seen ≡ v0.seen
  seen_2 = r.made.seen ∙ r.settle.seen

  seen_3 : v3.seen ≡ v0.seen
  seen_3 = r.image.seen ∙ seen_2

  made_first : IsTold v0 → IsMade v0.seen.pages
  made_first told = subst (λ (i : Image). IsMade i.pages) r.settle.seen (r.is_made (told_1 told))

module _ (v0 v1 v2 v3 v4 : View) (r : IsRead v0 v1 v2 v3) (reads : ReadsOnly v3 v4) (settled : IsTold v0 → Always v1 (λ c. (file : Which) → content file c ≡ content file v0.seen)) where
  told_0 : IsTold v4 → IsTold v0
  told_0 told = subst IsTrue (reads.told ∙ r.image.told ∙ r.made.told ∙ r.settle.told) told

  same_seen : IsTold v4 → (c : Image) → v4.crash_states c → c ≡ v0.seen
  same_seen told c left = same_image c v0.seen (settled (told_0 told) c (r.made.no_more c (r.image.no_more c (reads.no_more c left))))

  module _ (store : Held) (log : Log) (next : Noted) (image : ReadImage) (entries : List Entry) (rows : ℕ) where
    abbrev files : FilesHeld
    files = record { log = log.place; group = log.group; slot = image.pages.slot; reached = image.pages.reached }

    abbrev opened_logged : Logged
    opened_logged = record { store = store; files = files; begins = log_file image.root.file; saving = None; next = next; down = false }

    abbrev journal : State → Journal
    journal s = record { base = s; entries = entries }

    module _ (reopened : (d : Directory) (s : State) → BeginsWith image.root image.tables image.mains d s → Reopened s d.stages entries rows store) (file : IsLogFile log.place.file) (small : log.place.end ≤ image.root.offset + length entries * 1073741829) (noted : NotedBehind image.root.next entries next) where
      opened_runs : (d : Directory) (s : State) → BeginsWith image.root image.tables image.mains d s → IsStored (journal s) files image.root d None Idle v4
          → Runs opened_logged v4 (opened_store (opening_of d (length image.pages.reached)) (journal s) rows)
      opened_runs d s begins stored =
          let again = reopened d s begins in
          record {
            up = refl;
            stands = again.stands image_pages (length image.pages.reached);
            root = image.root;
            directory = d;
            stored = stored;
            begins = refl;
            even = tt;
            log = file;
            short =
                let offset = begins.rules.allowed.offset in
                let long = begins.base.length in
                omega (arith, small, offset, long);
            measure = refl;
            reached = refl;
            rows = opened_rows d image.root.next image.root.commits (journal s) (length image.pages.reached) rows begins.directory begins.base.tables again.may;
            next =
                subst (λ (n : Noted). Keeps n (opened_store (opening_of d (length image.pages.reached)) (journal s) rows)) (sym (noted s begins.base.next again.may.journal))
                (opened_noted (opening_of d (length image.pages.reached)) (journal s) rows);
          }

      module _ (found : IsTold v2 → (d : Directory) × IsImageIn image d v2.seen.pages) (held : IsTold v3 → LogHolds (place_of image.root) entries log.place v3.seen) where
        -- what is read of a disk that tells what it holds
        opens_told : IsTold v0 → Opens opened_logged rows v0 v4
        opens_told told =
            let read = found (told_2 v0 v1 v2 v3 r told) in
            let d = read.0 in
            let is = subst (λ (i : Image). IsImageIn image d i.pages) (seen_2 v0 v1 v2 v3 r) read.1 in
            let base = image_is_base image.pages.slot image.pages.reached image.root d v0.seen.pages is.has in
            let begins : BeginsWith image.root image.tables image.mains d base.0 = record { rules = is.has.has.rules; shown = is.shown; directory = directory_rules image.pages.slot image.pages.reached image.root d v0.seen.pages is.has; base = base.1 } in
            let again = reopened d base.0 begins in
            let is_made = made_first v0 v1 v2 v3 r told in
            let log_held = subst (LogHolds (place_of image.root) entries log.place) (seen_3 v0 v1 v2 v3 r) (held (told_3 v0 v1 v2 v3 r told)) in
            let stored = opened_is_stored (two v4 v4) (journal base.0) d files image.root v0.seen false is_made is.selected is.there is.has base.1 log_held again.may same_seen in
            record {
              journal = journal base.0;
              directory = d;
              reached = image.pages.reached;
              runs = opened_runs d base.0 begins stored;
              said = λ _. record {
                end = log.place;
                reading = record {
                  slot = image.pages.slot;
                  reached = image.pages.reached;
                  root = image.root;
                  made = is_made;
                  selected = is.selected;
                  image = is.has;
                  base = base.1;
                  log = log_held;
                  may = again.may;
                };
                pages = refl;
              };
            }

        -- and of one that doesn't
        opens_untold : (IsTold v0 → ⊥) → (d : Directory) (s : State) → BeginsWith image.root image.tables image.mains d s → Opens opened_logged rows v0 v4
        opens_untold not d s begins =
            let again = reopened d s begins in
            record {
              journal = journal s;
              directory = d;
              reached = image.pages.reached;
              runs = opened_runs d s begins (record { image = reading_image (journal s) image.root d begins.base again.may begins.rules; rests = λ told c left. absurd (not (told_0 told)); under_way = tt });
              said = λ told. absurd (not told);
            }

        pub opens : (d : Directory) (s : State) → BeginsWith image.root image.tables image.mains d s → Opens opened_logged rows v0 v4
        opens d s begins = by v0.told refl
          where
            by : (b : Bool) → v0.told ≡ b → Opens opened_logged rows v0 v4
            by true told = opens_told told
            by false told = opens_untold (λ is. let no : false ≡ true = sym told ∙ is in cc) d s begins

-- ---- files that are damaged

pub redo_damaged : (error : RedoError) → of_redo error ≡ opening.Damaged → error ≡ redo_errors.Damaged
redo_damaged redo_errors.Damaged e = refl
redo_damaged redo_errors.Disk e = cc
redo_damaged redo_errors.Memory e = cc

pub page_damaged : (error : PageError) → of_page error ≡ opening.Damaged → error ≡ page_errors.Damaged
page_damaged page_errors.Damaged e = refl
page_damaged page_errors.Disk e = cc
page_damaged page_errors.Memory e = cc

pub restart_damaged : (error : RestartError) → of_restart error ≡ opening.Damaged → error ≡ restart_errors.Damaged
restart_damaged restart_errors.Damaged e = refl
restart_damaged restart_errors.Memory e = cc

-- Files have one image, and are read in one way behind it: so a log that is none is that of no journal,
no_log : (image : ReadImage) (c : Image) → (d : Directory) × IsImageIn image d c.pages → ((items : List Entry) (end : LogPlace) → LogHolds (place_of image.root) items end c → ⊥) → (j : Journal) → HoldsJournal j c → ⊥
no_log image c found none j is =
    let r = is.reading in
    let one = one_image_each image.pages.slot r.slot image.pages.reached r.reached image.root r.root found.0 is.directory c.pages found.1.selected r.selected found.1.has r.image in
    none j.entries is.end (subst (λ (root : Root). LogHolds (place_of root) j.entries is.end c) (sym one.0) r.log)

-- and entries that are none are all that it holds.
no_journal : (image : ReadImage) (c : Image) (entries : List Entry) (end : LogPlace) → (d : Directory) × IsImageIn image d c.pages → LogHolds (place_of image.root) entries end c
    → ((d : Directory) (s : State) → BeginsWith image.root image.tables image.mains d s → MayOpen d.stages (record { base = s; entries = entries }) → ⊥) → (j : Journal) → HoldsJournal j c → ⊥
no_journal image c entries end found holds none j is =
    let r = is.reading in
    let one = one_image_each image.pages.slot r.slot image.pages.reached r.reached image.root r.root found.0 is.directory c.pages found.1.selected r.selected found.1.has r.image in
    let base = subst (λ (root : Root). IsBase root found.0 j.base) (sym one.0) (subst (λ (d : Directory). IsBase r.root d j.base) (sym one.1) r.base) in
    let log = one_reading (place_of image.root) j.entries entries is.end end c (subst (λ (root : Root). LogHolds (place_of root) j.entries is.end c) (sym one.0) r.log) holds in
    none found.0 j.base
    (record { rules = found.1.has.has.rules; shown = found.1.shown; directory = directory_rules image.pages.slot image.pages.reached image.root found.0 c.pages found.1.has; base = base })
    (subst (λ (es : List Entry). MayOpen found.0.stages (record { base = j.base; entries = es })) log.0 (subst (λ (d : Directory). MayOpen d.stages j) (sym one.1) r.may))

-- what is said of damaged files
abbrev IsDamaged : Image → Type 0
IsDamaged c = IsMade c.pages × ((j : Journal) → HoldsJournal j c → ⊥)

module _ (v0 v1 v2 v3 : View) (r : IsRead v0 v1 v2 v3) (image : ReadImage) (found : IsTold v2 → (d : Directory) × IsImageIn image d v2.seen.pages) where
  read_in : IsTold v0 → (d : Directory) × IsImageIn image d v0.seen.pages
  read_in told = subst (λ (i : Image). (d : Directory) × IsImageIn image d i.pages) (seen_2 v0 v1 v2 v3 r) (found (told_2 v0 v1 v2 v3 r told))

  -- no log is behind the image
  pub log_damaged : (IsTold v3 → (items : List Entry) (end : LogPlace) → LogHolds (place_of image.root) items end v3.seen → ⊥) → IsTold v0 → IsDamaged v0.seen
  log_damaged none told =
      let unlogged = no_log image v0.seen (read_in told) (λ items end holds. none (told_3 v0 v1 v2 v3 r told) items end (subst (λ (i : Image). LogHolds (place_of image.root) items end i) (sym (seen_3 v0 v1 v2 v3 r)) holds)) in
      (made_first v0 v1 v2 v3 r told, unlogged)

  -- its entries are no journal
  pub entries_damaged : (entries : List Entry) (end : LogPlace) → (IsTold v3 → LogHolds (place_of image.root) entries end v3.seen)
      → ((d : Directory) (s : State) → BeginsWith image.root image.tables image.mains d s → MayOpen d.stages (record { base = s; entries = entries }) → ⊥) → IsTold v0 → IsDamaged v0.seen
  entries_damaged entries end holds none told = (
    made_first v0 v1 v2 v3 r told,
    no_journal image v0.seen entries end (read_in told) (subst (λ (i : Image). LogHolds (place_of image.root) entries end i) (seen_3 v0 v1 v2 v3 r) (holds (told_3 v0 v1 v2 v3 r told))) none,
  )
