-- What a crash leaves of a store's files, call by call.
use Rattle.std.proofs.Common.{◌≡◌, ◌⊎◌, ⊎_elim, ℕ, ◌≤◌, List, [], ◌∷◌, sym, subst, arith}
use Rattle.ut_value.specs.declared.entry.Entry.{Entry}
use Rattle.ut_outside.specs.declared.disk.Which.TheVariants.{Pages}
use Rattle.ut_outside.specs.Disk.{Image, View, Others, content}
use Rattle.ut_outside.specs.Run.{Always, ComesFrom, ComesBy}
use Rattle.ut_plain.specs.Journal.{Journal, journal_len, entries_after, appended, since}
use Rattle.ut_plain.specs.Reached.{MayOpen}
use Rattle.ut_plain.proofs.JournalLaws.{journal_len-appended}
use Rattle.ut_redo.specs.Appends.{LogPlace, IsClosedAt, BeforeOrAfter, After}
use Rattle.ut_redo.specs.Logs.{LogHolds, MaySwitch, IsSwitched, switched_place}
use Rattle.ut_redo.proofs.LogLemmas.{log_same, log_more, log_more_or_same, log_empty, log_switched, log_may_switch, end_is_log, not_pages}
use Rattle.ut_pages.specs.declared.slot.Slot.{Slot}
use Rattle.ut_pages.specs.declared.root.Root.{Root}
use Rattle.ut_pages.specs.Layout.{other}
use Rattle.ut_pages.specs.Crash.{Stands, Keeps, Selects, Seals}
use Rattle.ut_plain.specs.Capture.{Directory}
use Rattle.ut_durable.specs.Images.{HasImage, AreThere}
use Rattle.ut_durable.specs.Journals.{place_of, HoldsJournal, HoldsPrefix}
use Rattle.ut_durable.specs.Files.{IsImageOf, LogBehind, HasSelected, Rests, IsSealed, IsStaged}
use Rattle.ut_durable.proofs.PlaceLemmas.{is_log}
use Rattle.ut_durable.proofs.JournalLemmas.{entries_after-appended, entries_after-all, part-appended, part-all}
use Rattle.ut_durable.proofs.ImageLemmas.{same_image, keeps_pages, keeps_stands, selects_root, selects_pages, selects_stands, sealed_image, sealed_there}

-- ---- from what is known of the files to what is promised

-- what rests holds the journal from the root on
pub rests_holds : (j : Journal) (slot : Slot) (reached : List ℕ) (root : Root) (d : Directory) (place : LogPlace) (c : Image) → IsImageOf j root d → Rests j slot reached root d place c → HoldsJournal (since j root.length) c
rests_holds j slot reached root d place c of rests = record {
  directory = d;
  end = place;
  reading = record {
    slot = slot;
    reached = reached;
    root = root;
    made = rests.stands.made;
    selected = rests.stands.selected;
    image = rests.image;
    base = of.base;
    log = rests.log;
    may = subst (MayOpen d.stages) (part-all j root.length of.begins of.within) (of.may (journal_len j) of.within (omega arith));
  };
}

-- and so all of it
pub rests_all : (j : Journal) (slot : Slot) (reached : List ℕ) (root : Root) (d : Directory) (place : LogPlace) (c : Image) → IsImageOf j root d → Rests j slot reached root d place c → HoldsPrefix j (journal_len j) c
rests_all j slot reached root d place c of rests = record {
  from = root.length;
  count = journal_len j;
  begins = of.begins;
  within = of.within;
  no_fewer = omega arith;
  no_more = omega arith;
  holds = subst (λ (k : Journal). HoldsJournal k c) (sym (part-all j root.length of.begins of.within)) (rests_holds j slot reached root d place c of rests);
}

-- a prefix of a journal is one of a longer journal
pub prefix_more : (j : Journal) (e : Entry) (least : ℕ) (c : Image) → HoldsPrefix j least c → HoldsPrefix (appended j e) least c
prefix_more j e least c has = record {
  from = has.from;
  count = has.count;
  begins = has.begins;
  within = has.within;
  no_fewer = has.no_fewer;
  no_more = omega (arith, has.no_more, journal_len-appended j e);
  holds = subst (λ (k : Journal). HoldsJournal k c) (sym (part-appended j e has.from has.count has.begins has.within has.no_more)) has.holds;
}

pub prefix_fewer : (j : Journal) (least fewer : ℕ) (c : Image) → fewer ≤ least → HoldsPrefix j least c → HoldsPrefix j fewer c
prefix_fewer j least fewer c le has = record { from = has.from; count = has.count; begins = has.begins; within = has.within; no_fewer = omega (arith, le, has.no_fewer); no_more = has.no_more; holds = has.holds }

-- ---- an append

module _ (j : Journal) (e : Entry) (place : LogPlace) (next : ℕ) (v0 : View) where
  abbrev behind : LogPlace
  behind = record { file = place.file; end = next }

  -- of the log behind one root, selected or not
  pub log_appended : (root : Root) → root.length ≤ journal_len j → (d c : Image) → Others place.file d c → After (e ∷ []) place.end next (content place.file d) (content place.file c) → LogBehind j root place d → LogBehind (appended j e) root behind c
  log_appended root within d c others after log =
      subst (λ (es : List Entry). LogHolds (place_of root) es behind c) (sym (entries_after-appended j e root.length within))
      (log_more (place_of root) (entries_after j root.length) (e ∷ []) place next d c (is_log root.file) others after log)

  module _ (slot : Slot) (reached : List ℕ) (root : Root) (d : Directory) (of : IsImageOf j root d) where
    pages_stay : (a c : Image) → Others place.file a c → Rests j slot reached root d place a → content Pages c ≡ content Pages a
    pages_stay a c others rests = others Pages (not_pages place.file (end_is_log (place_of root) (entries_after j root.length) place a (is_log root.file) rests.log))

    -- once it has answered Ok
    pub appended_rests : Always v0 (Rests j slot reached root d place) → (c : Image) → ComesFrom v0 place.file (After (e ∷ []) place.end next) c → Rests (appended j e) slot reached root d behind c
    appended_rests held c from =
        let a = held from.0 from.1 in
        let same : c.pages ≡ from.0.pages = pages_stay from.0 c from.2 a in
        record {
          stands = subst (Stands slot reached) (sym same) a.stands;
          image = subst (HasImage slot reached root d) (sym same) a.image;
          log = log_appended root of.within from.0 c from.2 from.3 a.log;
        }

    -- at any moment
    pub appending : Always v0 (Rests j slot reached root d place) → IsImageOf (appended j e) root d → (c : Image) → ComesFrom v0 place.file (BeforeOrAfter (e ∷ []) place.end next) c → HoldsPrefix (appended j e) (journal_len j) c
    appending held more c from =
        let a = held from.0 from.1 in
        let same : c.pages ≡ from.0.pages = pages_stay from.0 c from.2 a in
        let stands = subst (Stands slot reached) (sym same) a.stands in
        let image = subst (HasImage slot reached root d) (sym same) a.image in
        ⊎_elim
        (λ log. prefix_more j e (journal_len j) c (rests_all j slot reached root d place c of (record { stands = stands; image = image; log = log })))
        (λ log. prefix_fewer (appended j e) (journal_len (appended j e)) (journal_len j) c (omega (arith, journal_len-appended j e))
        (rests_all (appended j e) slot reached root d behind c more (record { stands = stands; image = image; log = subst (λ (es : List Entry). LogHolds (place_of root) es behind c) (sym (entries_after-appended j e root.length of.within)) log })))
        (log_more_or_same (place_of root) (entries_after j root.length) (e ∷ []) place next from.0 c (is_log root.file) from.2 from.3 a.log)

    -- a sealed root stays one
    pub sealed_more : Always v0 (IsSealed j slot reached root d place) → (c : Image) → ComesFrom v0 place.file (After (e ∷ []) place.end next) c → IsSealed (appended j e) slot reached root d behind c
    sealed_more sealed c from =
        let a = sealed from.0 from.1 in
        let same : c.pages ≡ from.0.pages = from.2 Pages (not_pages place.file (end_is_log (place_of root) (entries_after j root.length) place from.0 (is_log root.file) a.log)) in
        record {
          there = subst (AreThere reached) (sym same) a.there;
          image = subst (HasImage slot reached root d) (sym same) a.image;
          log = log_appended root of.within from.0 c from.2 from.3 a.log;
        }

  -- and so does the log behind a captured one
  pub captured_more : (root : Root) → root.length ≤ journal_len j → Always v0 (LogBehind j root place) → (c : Image) → ComesFrom v0 place.file (After (e ∷ []) place.end next) c → LogBehind (appended j e) root behind c
  captured_more root within held c from = log_appended root within from.0 c from.2 from.3 (held from.0 from.1)

-- what is captured now: the log behind its closed gate is empty
pub captured_now : (j : Journal) (root : Root) (place : LogPlace) (c : Image) → journal_len j ≤ root.length → place_of root ≡ place → IsClosedAt place.end (content place.file c) → LogBehind j root place c
captured_now j root place c whole here gate =
    subst (λ (es : List Entry). LogHolds (place_of root) es place c) (sym (entries_after-all j root.length whole)) (subst (λ (p : LogPlace). LogHolds p [] place c) (sym here) (log_empty place c gate))

-- ---- a page, or a root in the other slot

-- the log behind any root stays
pub captured_kept : (j : Journal) (root : Root) (place : LogPlace) (v0 : View) (Step : List ℕ → List ℕ → Type 0) → Always v0 (LogBehind j root place) → (c : Image) → ComesFrom v0 Pages Step c → LogBehind j root place c
captured_kept j root place v0 Step held c from = log_same (place_of root) (entries_after j root.length) place from.0 c (is_log root.file) from.2 (held from.0 from.1)

module _ (j : Journal) (slot : Slot) (reached : List ℕ) (root : Root) (d : Directory) (place : LogPlace) (v0 : View) (held : Always v0 (Rests j slot reached root d place)) where
  pub kept : (c : Image) → ComesFrom v0 Pages (Keeps slot reached) c → Rests j slot reached root d place c
  kept c from =
      let a = held from.0 from.1 in
      record {
        stands = keeps_stands slot reached from.0.pages c.pages from.3 a.stands;
        image = same_image slot reached root d from.0.pages c.pages from.3.root (keeps_pages slot reached from.0.pages c.pages from.3) a.image;
        log = log_same (place_of root) (entries_after j root.length) place from.0 c (is_log root.file) from.2 a.log;
      }

  pub keeping : IsImageOf j root d → (c : Image) → ComesFrom v0 Pages (Keeps slot reached) c → HoldsPrefix j (journal_len j) c
  keeping of c from = rests_all j slot reached root d place c of (kept c from)

  -- ---- the flip

  module _ (new_reached : List ℕ) (new_root : Root) (new_d : Directory) (sealed : Always v0 (IsSealed j (other slot) new_reached new_root new_d place)) where
    pub selected : (c : Image) → ComesFrom v0 Pages (Selects (other slot)) c → Rests j (other slot) new_reached new_root new_d place c
    selected c from =
        let a = held from.0 from.1 in
        let s = sealed from.0 from.1 in
        record {
          stands = selects_stands (other slot) new_reached from.0.pages c.pages a.stands.made s.there from.3;
          image = same_image (other slot) new_reached new_root new_d from.0.pages c.pages (selects_root (other slot) (other slot) from.0.pages c.pages from.3) (selects_pages (other slot) new_reached from.0.pages c.pages (λ n is. (s.there n is).0) from.3) s.image;
          log = log_same (place_of new_root) (entries_after j new_root.length) place from.0 c (is_log new_root.file) from.2 s.log;
        }

    stays : (c : Image) → ComesFrom v0 Pages (Selects slot) c → Rests j slot reached root d place c
    stays c from =
        let a = held from.0 from.1 in
        record {
          stands = selects_stands slot reached from.0.pages c.pages a.stands.made a.stands.there from.3;
          image = same_image slot reached root d from.0.pages c.pages (selects_root slot slot from.0.pages c.pages from.3) (selects_pages slot reached from.0.pages c.pages (λ n is. (a.stands.there n is).0) from.3) a.image;
          log = log_same (place_of root) (entries_after j root.length) place from.0 c (is_log root.file) from.2 a.log;
        }

    pub flipping : IsImageOf j root d → IsImageOf j new_root new_d → (c : Image) → ComesFrom v0 Pages (λ old new. Selects slot old new ⊎ Selects (other slot) old new) c → HoldsPrefix j (journal_len j) c
    flipping of new_of c from = ⊎_elim
        (λ old. rests_all j slot reached root d place c of (stays c (from.0, from.1, from.2, old)))
        (λ new. rests_all j (other slot) new_reached new_root new_d place c new_of (selected c (from.0, from.1, from.2, new)))
        from.3

  -- ---- the switch in `save begin`

  module _ (straight : place.file ≡ (place_of root).file) where
    pages_switched : (a c : Image) → content Pages c ≡ content Pages a → Rests j slot reached root d place a → Stands slot reached c.pages × HasImage slot reached root d c.pages
    pages_switched a c same rests = (subst (Stands slot reached) (sym same) rests.stands, subst (HasImage slot reached root d) (sym same) rests.image)

    pub switched : (c : Image) → ComesBy v0 (IsSwitched place) c → Rests j slot reached root d (switched_place place) c
    switched c from =
        let a = held from.0 from.1 in
        let pages = pages_switched from.0 c from.2.pages a in
        record { stands = pages.0; image = pages.1; log = log_switched (place_of root) (entries_after j root.length) place from.0 c (is_log root.file) straight from.2 a.log }

    pub switching : IsImageOf j root d → (c : Image) → ComesBy v0 (MaySwitch place) c → HoldsPrefix j (journal_len j) c
    switching of c from =
        let a = held from.0 from.1 in
        let pages = pages_switched from.0 c from.2.pages a in
        ⊎_elim
        (λ log. rests_all j slot reached root d place c of (record { stands = pages.0; image = pages.1; log = log }))
        (λ log. rests_all j slot reached root d (switched_place place) c of (record { stands = pages.0; image = pages.1; log = log }))
        (log_may_switch (place_of root) (entries_after j root.length) place from.0 c (is_log root.file) straight from.2 a.log)

-- ---- a root in the other slot

pub ready : (j : Journal) (slot : Slot) (reached : List ℕ) (root : Root) (d : Directory) (place : LogPlace) (v0 : View) → Always v0 (LogBehind j root place) → IsStaged reached root d v0.seen.pages
    → (c : Image) → ComesFrom v0 Pages (λ _ file. Seals slot root v0.seen.pages file) c → IsSealed j slot reached root d place c
ready j slot reached root d place v0 captured staged c from = record {
  there = sealed_there slot reached root d v0.seen.pages c.pages staged from.3;
  image = sealed_image slot reached root d v0.seen.pages c.pages staged from.3;
  log = captured_kept j root place v0 (λ _ file. Seals slot root v0.seen.pages file) captured c from;
}

-- ---- the selected root stays where the page file does

pub still_selected : (j : Journal) (slot : Slot) (reached : List ℕ) (root : Root) (d : Directory) (place : LogPlace) (a c : Image) → content Pages c ≡ content Pages a → Rests j slot reached root d place a → HasSelected slot reached root d c
still_selected j slot reached root d place a c same rests = record { stands = subst (Stands slot reached) (sym same) rests.stands; image = subst (HasImage slot reached root d) (sym same) rests.image }

pub append_keeps : (j : Journal) (slot : Slot) (reached : List ℕ) (root : Root) (d : Directory) (place : LogPlace) (v0 : View) (Step : List ℕ → List ℕ → Type 0) → Always v0 (Rests j slot reached root d place) → (c : Image) → ComesFrom v0 place.file Step c → HasSelected slot reached root d c
append_keeps j slot reached root d place v0 Step held c from =
    let a = held from.0 from.1 in
    still_selected j slot reached root d place from.0 c (from.2 Pages (not_pages place.file (end_is_log (place_of root) (entries_after j root.length) place from.0 (is_log root.file) a.log))) a

pub switch_keeps : (j : Journal) (slot : Slot) (reached : List ℕ) (root : Root) (d : Directory) (place : LogPlace) (v0 : View) → Always v0 (Rests j slot reached root d place) → (c : Image) → ComesBy v0 (MaySwitch place) c → HasSelected slot reached root d c
switch_keeps j slot reached root d place v0 held c from = still_selected j slot reached root d place from.0 c from.2.pages (held from.0 from.1)
