-- What a group of entries does to what is known of the files, call by call.
use Rattle.std.proofs.Common.{◌≡◌, ◌⊎◌, inl, inr, ⊎_elim, ℕ, ◌+◌, ◌-◌, ◌≤◌, List, ◌++◌, length, take, Option, None, Some, refl, sym, ◌∙◌, ap, subst, arith, length-append}
use Rattle.std.specs.Prelude.{IsTrue}
use Rattle.std.specs.List.{AllByRecursion}
use Rattle.std.specs.FinMap as finmap
use Rattle.ut_value.specs.declared.entry.Entry.{Entry}
use Rattle.ut_outside.specs.declared.disk.Which.TheVariants.{Pages}
use Rattle.ut_outside.specs.Disk.{Image, View, IsTold, Others, content}
use Rattle.ut_outside.specs.Run.{Always, ComesFrom, LeavesOnly}
use Rattle.ut_outside.proofs.RunLemmas.{weaker}
use Rattle.ut_plain.specs.State.{State}
use Rattle.ut_plain.specs.Stages.{all_places}
use Rattle.ut_plain.specs.Journal.{Journal, journal_len, state_at, entries_after, after_all, part}
use Rattle.ut_plain.specs.Capture.{Directory}
use Rattle.ut_plain.specs.Plain.{Plain, Phase, Idle, Writing, Sealed}
use Rattle.ut_plain.specs.Reached.{IsPlain, IsCaptured, MayOpen}
use Rattle.ut_plain.proofs.ListLemmas.{take_within, drop_within}
use Rattle.ut_plain.proofs.PartLaws.{may_open_part}
use Rattle.ut_redo.specs.Frames.{payload_of, IsFrame}
use Rattle.ut_redo.specs.Appends.{LogPlace, BeforeOrAfter, After}
use Rattle.ut_redo.specs.Groups.{IsUnderWay, Unmoved, behind_group}
use Rattle.ut_redo.specs.Logs.{LogHolds}
use Rattle.ut_redo.proofs.LogLemmas.{log_unmoved, log_more, log_more_or_same, end_is_log, not_pages}
use Rattle.ut_pages.specs.declared.slot.Slot.{Slot}
use Rattle.ut_pages.specs.declared.root.Root.{Root}
use Rattle.ut_pages.specs.Layout.{other}
use Rattle.ut_durable.specs.Directories.{IsBase}
use Rattle.ut_durable.specs.Images.{HasImage, AreThere}
use Rattle.ut_durable.specs.Journals.{place_of}
use Rattle.ut_durable.specs.Files.{IsImageOf, LogBehind, HasSelected, Rests, IsSealed}
use Rattle.ut_durable.specs.Calls.{FilesHeld, IsRested, IsFollowed, IsReady}
use Rattle.ut_durable.specs.Saving.{IsWritten, Saving, IsPlan, IsSaving, IsStored}
use Rattle.ut_durable.specs.Moments.{Leaves}
use Rattle.ut_durable.specs.Groups.{extended, log_held, HoldsEither, LeavesEither, Waits, GainsGroup, MayGainGroup, WaitIsStored, WaitLeaves, GroupIsStored, GroupLeaves}
use Rattle.ut_durable.proofs.PlaceLemmas.{is_log}
use Rattle.ut_durable.proofs.RestLemmas.{rests_all, append_keeps}

-- ---- journals

pub state_at-extended : (j : Journal) (items : List Entry) (k : ℕ) → k ≤ journal_len j → state_at (extended j items) k ≡ state_at j k
state_at-extended j items k h = ap (after_all j.base) (take_within (k - j.base.length) j.entries items (omega (arith, h)))

pub entries_after-extended : (j : Journal) (items : List Entry) (n : ℕ) → n ≤ journal_len j → entries_after (extended j items) n ≡ entries_after j n ++ items
entries_after-extended j items n within = drop_within (n - j.base.length) j.entries items (omega (arith, within))

pub journal_len-extended : (j : Journal) (items : List Entry) → journal_len (extended j items) ≡ journal_len j + length items
journal_len-extended j items = omega (arith, length-append j.entries items)

pub image_of_group : (j : Journal) (items : List Entry) (root : Root) (d : Directory) → IsImageOf j root d → ((n : ℕ) → root.length ≤ n → n ≤ journal_len (extended j items) → MayOpen d.stages (part (extended j items) root.length n)) → IsImageOf (extended j items) root d
image_of_group j items root d of may = record {
  rules = of.rules;
  begins = of.begins;
  within = omega (arith, of.within, journal_len-extended j items);
  base = subst (IsBase root d) (sym (state_at-extended j items root.length of.within)) of.base;
  may = may;
}

-- ---- the log of an image

module _ (j : Journal) (root : Root) (place : LogPlace) (v0 : View) where
  pub behind_unmoved : Always v0 (LogBehind j root place) → (c : Image) → ComesFrom v0 place.file (Unmoved place.end) c → LogBehind j root place c
  behind_unmoved held c from = log_unmoved (place_of root) (entries_after j root.length) place from.0 c (is_log root.file) from.2 from.3 (held from.0 from.1)

  module _ (slot : Slot) (reached : List ℕ) (d : Directory) where
    pub rests_unmoved : Always v0 (Rests j slot reached root d place) → (c : Image) → ComesFrom v0 place.file (Unmoved place.end) c → Rests j slot reached root d place c
    rests_unmoved held c from =
        let a = held from.0 from.1 in
        let kept = append_keeps j slot reached root d place v0 (Unmoved place.end) held c from in
        record { stands = kept.stands; image = kept.image; log = behind_unmoved (λ x left. (held x left).log) c from }

    pub sealed_unmoved : Always v0 (IsSealed j slot reached root d place) → (c : Image) → ComesFrom v0 place.file (Unmoved place.end) c → IsSealed j slot reached root d place c
    sealed_unmoved held c from =
        let a = held from.0 from.1 in
        let same : c.pages ≡ from.0.pages = from.2 Pages (not_pages place.file (end_is_log (place_of root) (entries_after j root.length) place from.0 (is_log root.file) a.log)) in
        record {
          there = subst (AreThere reached) (sym same) a.there;
          image = subst (HasImage slot reached root d) (sym same) a.image;
          log = behind_unmoved (λ x left. (held x left).log) c from;
        }

-- ---- a group is written

pub waits : (f : FilesHeld) (v0 v1 : View) → v1.told ≡ v0.told → (IsTold v0 → LeavesOnly v0 v1 (ComesFrom v0 f.log.file (Unmoved f.log.end))) → ((c : Image) → IsTold v0 → v1.crash_states c → v1.crash_states_since v0.moment c) → Waits f v0 v1
waits f v0 v1 same run now = record {
  rests = λ j root d rests later c left. let told : IsTold v0 = subst IsTrue same later in rests_unmoved j root f.log v0 f.slot f.reached d (rests told) c ((run told).each c (now c told left));
  followed = λ j root held later c left. let told : IsTold v0 = subst IsTrue same later in behind_unmoved j root f.log v0 (held told) c ((run told).each c (now c told left));
  ready = λ j root reached d ready later c left. let told : IsTold v0 = subst IsTrue same later in sealed_unmoved j root f.log v0 (other f.slot) reached d (ready told) c ((run told).each c (now c told left));
  any_moment = λ j root d rests told. weaker v0 v1 (ComesFrom v0 f.log.file (Unmoved f.log.end)) (Rests j f.slot f.reached root d f.log) (rests_unmoved j root f.log v0 f.slot f.reached d (rests told)) (run told);
}

-- ---- it ends

module _ (j : Journal) (items : List Entry) (place : LogPlace) (next : ℕ) (v0 : View) where
  abbrev behind : LogPlace
  behind = record { file = place.file; end = next }

  pub log_grown : (root : Root) → root.length ≤ journal_len j → (d c : Image) → Others place.file d c → After items place.end next (content place.file d) (content place.file c) → LogBehind j root place d → LogBehind (extended j items) root behind c
  log_grown root within d c others after log =
      subst (λ (es : List Entry). LogHolds (place_of root) es behind c) (sym (entries_after-extended j items root.length within))
      (log_more (place_of root) (entries_after j root.length) items place next d c (is_log root.file) others after log)

  pub behind_grown : (root : Root) → root.length ≤ journal_len j → Always v0 (LogBehind j root place) → (c : Image) → ComesFrom v0 place.file (After items place.end next) c → LogBehind (extended j items) root behind c
  behind_grown root within held c from = log_grown root within from.0 c from.2 from.3 (held from.0 from.1)

  module _ (slot : Slot) (reached : List ℕ) (root : Root) (d : Directory) (of : IsImageOf j root d) where
    pub rests_grown : Always v0 (Rests j slot reached root d place) → (c : Image) → ComesFrom v0 place.file (After items place.end next) c → Rests (extended j items) slot reached root d behind c
    rests_grown held c from =
        let kept = append_keeps j slot reached root d place v0 (After items place.end next) held c from in
        record { stands = kept.stands; image = kept.image; log = behind_grown root of.within (λ x left. (held x left).log) c from }

    pub sealed_grown : Always v0 (IsSealed j slot reached root d place) → (c : Image) → ComesFrom v0 place.file (After items place.end next) c → IsSealed (extended j items) slot reached root d behind c
    sealed_grown held c from =
        let a = held from.0 from.1 in
        let same : c.pages ≡ from.0.pages = from.2 Pages (not_pages place.file (end_is_log (place_of root) (entries_after j root.length) place from.0 (is_log root.file) a.log)) in
        record {
          there = subst (AreThere reached) (sym same) a.there;
          image = subst (HasImage slot reached root d) (sym same) a.image;
          log = behind_grown root of.within (λ x left. (held x left).log) c from;
        }

    -- at any moment: the one journal or the other, whole
    pub growing : Always v0 (Rests j slot reached root d place) → IsImageOf (extended j items) root d → (c : Image) → ComesFrom v0 place.file (BeforeOrAfter items place.end next) c → HoldsEither j (extended j items) c
    growing held more c from =
        let a = held from.0 from.1 in
        let kept = append_keeps j slot reached root d place v0 (BeforeOrAfter items place.end next) held c from in
        ⊎_elim
        (λ log. inl (rests_all j slot reached root d place c of (record { stands = kept.stands; image = kept.image; log = log })))
        (λ log. inr (rests_all (extended j items) slot reached root d behind c more (record { stands = kept.stands; image = kept.image; log = subst (λ (es : List Entry). LogHolds (place_of root) es behind c) (sym (entries_after-extended j items root.length of.within)) log })))
        (log_more_or_same (place_of root) (entries_after j root.length) items place next from.0 c (is_log root.file) from.2 from.3 a.log)

module _ (f : FilesHeld) (v0 v1 : View) (same : v1.told ≡ v0.told) where
  told_before : IsTold v1 → IsTold v0
  told_before told = subst IsTrue same told

  abbrev next : FilesHeld
  next = record f { log = behind_group (log_held f) }

  abbrev end : ℕ
  end = (behind_group (log_held f)).end

  pub gains_group : ((items : List Entry) → IsFrame items → IsUnderWay (log_held f) (payload_of items) v0 → IsTold v0 → Always v1 (ComesFrom v0 f.log.file (After items f.log.end end))) → GainsGroup f next v0 v1
  gains_group done = record {
    rests = λ j root d items full of rests later c left. let told = told_before later in rests_grown j items f.log end v0 f.slot f.reached root d of (rests told) c (done items full.whole full.under_way told c left);
    followed = λ j root items full within held later c left. let told = told_before later in behind_grown j items f.log end v0 root within (held told) c (done items full.whole full.under_way told c left);
    ready = λ j root reached d items full of sealed later c left. let told = told_before later in sealed_grown j items f.log end v0 (other f.slot) reached root d of (sealed told) c (done items full.whole full.under_way told c left);
  }

  pub may_gain_group : ((items : List Entry) → IsFrame items → IsUnderWay (log_held f) (payload_of items) v0 → IsTold v0 → LeavesOnly v0 v1 (ComesFrom v0 f.log.file (BeforeOrAfter items f.log.end end))) → MayGainGroup f v0 v1
  may_gain_group run = record {
    journal = λ j root d items full of more rests told.
        weaker v0 v1 (ComesFrom v0 f.log.file (BeforeOrAfter items f.log.end end)) (HoldsEither j (extended j items))
        (growing j items f.log end v0 f.slot f.reached root d of (rests told) more) (run items full.whole full.under_way told);
    root = λ j root d items full rests told.
        weaker v0 v1 (ComesFrom v0 f.log.file (BeforeOrAfter items f.log.end end)) (HasSelected f.slot f.reached root d)
        (append_keeps j f.slot f.reached root d f.log v0 (BeforeOrAfter items f.log.end end) (rests told)) (run items full.whole full.under_way told);
  }

-- ---- all that a store knows

written_still : (s : Saving) (v0 v1 : View) → v1.told ≡ v0.told → (IsTold v0 → content Pages v1.seen ≡ content Pages v0.seen) → (IsTold v0 → AllByRecursion (IsWritten v0.seen.pages) (take s.done s.planned)) → IsTold v1 → AllByRecursion (IsWritten v1.seen.pages) (take s.done s.planned)
written_still s v0 v1 same pages written later =
    let told : IsTold v0 = subst IsTrue same later in
    subst (λ (file : List ℕ). AllByRecursion (IsWritten file) (take s.done s.planned)) (sym (pages told)) (written told)

-- from one journal to a longer one, which may be the same
module _ (j k : Journal) (f f' : FilesHeld) (selected : Root) (d : Directory) (v0 v1 : View) (file : f'.log.file ≡ f.log.file) (slot : f'.slot ≡ f.slot) (reached : f'.reached ≡ f.reached)
    (same : v1.told ≡ v0.told) (pages : IsTold v0 → content Pages v1.seen ≡ content Pages v0.seen)
    (more : (root : Root) (c : Directory) → IsImageOf j root c → IsImageOf k root c)
    (rests : (root : Root) (c : Directory) → IsImageOf j root c → IsRested j root c f v0 → IsRested k root c f' v1)
    (followed : (root : Root) → root.length ≤ journal_len j → IsFollowed j root f v0 → IsFollowed k root f' v1)
    (ready : (root : Root) (pages : List ℕ) (c : Directory) → IsImageOf j root c → IsReady j (other f.slot) pages root c f v0 → IsReady k (other f.slot) pages root c f' v1) where
  saving_on : (saving : Option Saving) (phase : Phase) → IsSaving j f selected v0 saving phase → IsSaving k f' selected v1 saving phase
  saving_on None Idle is = tt
  saving_on None (Writing b p q c) is = is
  saving_on None (Sealed b q c) is = is
  saving_on (Some s) Idle is = is
  saving_on (Some s) (Writing b p q c) is = record {
    captured = is.captured;
    done = is.done;
    pages = is.pages;
    unsealed = is.unsealed;
    few = is.few;
    version = is.version;
    image = more s.root c is.image;
    apart = λ same_file. is.apart (sym file ∙ same_file);
    log = followed s.root is.image.within is.log;
    plan = subst (λ (l : List ℕ). IsPlan s.planned l s.reached s.root c) (sym reached) is.plan;
    written = written_still s v0 v1 same pages is.written;
  }
  saving_on (Some s) (Sealed b q c) is = record {
    captured = is.captured;
    pages = is.pages;
    sealed = is.sealed;
    image = more s.root c is.image;
    apart = λ same_file. is.apart (sym file ∙ same_file);
    ready = subst (λ (x : Slot). IsReady k (other x) s.reached s.root c f' v1) (sym slot) (ready s.root s.reached c is.image is.ready);
  }

  pub stored_on : (saving : Option Saving) (phase : Phase) → IsStored j f selected d saving phase v0 → IsStored k f' selected d saving phase v1
  stored_on saving phase stored = record { image = more selected d stored.image; rests = rests selected d stored.image stored.rests; under_way = saving_on saving phase stored.under_way }

-- ---- the laws

-- behind a root each part of the longer journal can be opened
may_group : (p : Plain) (j : Journal) (items : List Entry) → IsPlain p → p.journal ≡ extended j items → (root : Root) (c : Directory) → IsImageOf j root c → (n : ℕ) → root.length ≤ n → n ≤ journal_len (extended j items) → MayOpen c.stages (part (extended j items) root.length n)
may_group p j items is next root c of n from until =
    let here = of.may root.length (omega arith) of.within in
    let same : state_at j root.length ≡ state_at p.journal root.length = sym (state_at-extended j items root.length of.within) ∙ ap (λ (k : Journal). state_at k root.length) (sym next) in
    let captured : IsCaptured c = record { staged = here.staged ∙ ap length of.base.tables; mains = here.mains; rest = here.rest } in
    let long : journal_len p.journal ≡ journal_len (extended j items) = ap journal_len next in
    subst (λ (k : Journal). MayOpen c.stages (part k root.length n)) next
    (may_open_part p c root.length n is (omega (arith, of.begins, ap (λ (k : Journal). k.base.length) next)) from (omega (arith, until, long)) captured (sym of.base.tables ∙ ap (λ (s : State). s.tables) same)
    (subst (λ (s : State). all_places c.stages ≤ finmap.len s.rows) same here.places))

pub more_group : (p : Plain) (j : Journal) (items : List Entry) → IsPlain p → p.journal ≡ extended j items → (root : Root) (c : Directory) → IsImageOf j root c → IsImageOf (extended j items) root c
more_group p j items is next root c of = image_of_group j items root c of (may_group p j items is next root c of)

same_files : (f f' : FilesHeld) → f'.log ≡ f.log → f'.slot ≡ f.slot → f'.reached ≡ f.reached → record f { group = f'.group } ≡ f'
same_files f f' log slot reached = ap (λ (l : LogPlace). record { log = l; group = f'.group; slot = f.slot; reached = f.reached }) (sym log) ∙ ap (λ (s : Slot). record { log = f'.log; group = f'.group; slot = s; reached = f.reached }) (sym slot) ∙ ap (λ (l : List ℕ). record { log = f'.log; group = f'.group; slot = f'.slot; reached = l }) (sym reached)

pub wait_is_stored : {D : Type 0} (view : D → View) → WaitIsStored view
wait_is_stored {D} view j f f' selected d saving phase v0 v1 log slot reached same pages waits stored =
    let now : FilesHeld = record f { group = f'.group } in
    subst (λ (h : FilesHeld). IsStored j h selected d saving phase (view v1)) (same_files f f' log slot reached)
    (stored_on j j f now selected d (view v0) (view v1) refl refl refl same pages (λ root c of. of) (λ root c of rests. waits.rests j root c rests) (λ root within held. waits.followed j root held) (λ root ps c of ready. waits.ready j root ps c ready) saving phase stored)

pub wait_leaves : {D : Type 0} (view : D → View) → WaitLeaves view
wait_leaves {D} view j f selected d saving phase v0 v1 waits stored told = weaker (view v0) (view v1) (Rests j f.slot f.reached selected d f.log) (Leaves j (journal_len j) f selected d)
    (λ c rests. record { holds = rests_all j f.slot f.reached selected d f.log c stored.image rests; root = record { stands = rests.stands; image = rests.image } }) (waits.any_moment j selected d stored.rests told)

pub group_is_stored : {D : Type 0} (view : D → View) → GroupIsStored view
group_is_stored {D} view j items f f' selected d saving phase v0 v1 p full is next place same pages gains stored =
    stored_on j (extended j items) f f' selected d (view v0) (view v1) (ap (λ (h : FilesHeld). h.log.file) place) (ap (λ (h : FilesHeld). h.slot) place) (ap (λ (h : FilesHeld). h.reached) place) same pages (more_group p j items is next)
    (λ root c of rests. gains.rests j root c items full of rests) (λ root within held. gains.followed j root items full within held) (λ root ps c of ready. gains.ready j root ps c items full of ready) saving phase stored

-- what is left has both
pub both : (old new : View) (P Q R : Image → Type 0) → ((c : Image) → P c → Q c → R c) → LeavesOnly old new P → LeavesOnly old new Q → LeavesOnly old new R
both old new P Q R pair a b = record {
  later = a.later;
  each = λ c left. pair c (a.each c left) (b.each c left);
  before = λ t c le left. ⊎_elim (λ was. inl was) (λ p. ⊎_elim (λ was. inl was) (λ q. inr (pair c p q)) (b.before t c le left)) (a.before t c le left);
  keeps = a.keeps;
}

pub group_leaves : {D : Type 0} (view : D → View) → GroupLeaves view
group_leaves {D} view j items f selected d saving phase v0 v1 p full is next may stored told =
    let a = may.journal j selected d items full stored.image (more_group p j items is next selected d stored.image) stored.rests told in
    let b = may.root j selected d items full stored.rests told in
    both (view v0) (view v1) (HoldsEither j (extended j items)) (HasSelected f.slot f.reached selected d) (LeavesEither j (extended j items) f selected d) (λ c holds root. record { holds = holds; root = root }) a b
