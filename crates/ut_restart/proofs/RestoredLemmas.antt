-- The store that is restored stands for the plain store that is opened.
use Rattle.std.proofs.Common.{inr, ℕ, zero, suc, ◌+◌, ◌<◌, ◌≤◌, ◌≡◌, max, Bool, true, false, ◌&&◌, cond, List, [], ◌∷◌, length, map, replicate, Option, None, Some, refl, sym, ap, ◌∙◌, subst, arith, slice_get, le-leb}
use Rattle.std.specs.Option.{option_map, unwrap_or}
use Rattle.std.specs.FinMap as finmap
use Rattle.ut_value.specs.declared.entry.Entry.{Entry}
use Rattle.ut_plain.specs.declared.table.Table.{Table}
use Rattle.ut_plain.specs.declared.table.Stored.{Stored}
use Rattle.ut_plain.specs.declared.transaction.OpenTransaction.{OpenTransaction}
use Rattle.ut_plain.specs.State.{State}
use Rattle.ut_plain.specs.Rows.{Rows}
use Rattle.ut_plain.specs.Journal.{Journal, journal_len, current, load_of, after_all}
use Rattle.ut_plain.specs.Stages.{Stages}
use Rattle.ut_plain.specs.Restart.{replayed}
use Rattle.ut_plain.specs.declared.stage.PendingMerge.{PendingMerge}
use Rattle.ut_plain.specs.Capture.{Directory}
use Rattle.ut_plain.specs.Plain.{Opening, opened_store, no_sessions, open_at}
use Rattle.ut_plain.specs.Reached.{MayOpen, IsPlain}
use Rattle.ut_plain.proofs.JournalLaws.{state_at-last, deleted_after-last}
use Rattle.ut_plain.proofs.StateLaws.{IsState-current}
use Rattle.ut_plain.proofs.OpenedLaws.{IsPlain-opened}
use Rattle.ut_stamps.specs.declared.fates.Fate.{Fate}
use Rattle.ut_stamps.specs.declared.fates.Fate.TheVariants.{Running, Committed, Aborted}
use Rattle.ut_stamps.specs.Stamps.{fate_at, counts}
use Rattle.ut_exact.specs.Stamped.{Stamped}
use Rattle.ut_exact.specs.Exact.{IsExact, AreOpen, shown_by, ended_by, is_later}
use Rattle.ut_exact.specs.Work.{AreFree}
use Rattle.ut_plain.specs.declared.stage.TableStages.{TableStages}
use Rattle.ut_plain.specs.Stages.{stages_at}
use Rattle.std.specs.Option.{option_and_then}
use Rattle.ut_exact.specs.Dropped.{kept_at}
use Rattle.ut_exact.specs.Gone.{IsGone}
use Rattle.ut_exact.specs.Places.{StagedRow, is_dead, stamped_in, dead_number, AreHeld}
use Rattle.ut_staged.specs.Staged.{Staged, stages_of}
use Rattle.ut_staged.specs.Tables.{place_at}
use Rattle.ut_tables.specs.Standing.{AreRows, Opens}
use Rattle.ut_stamps.specs.declared.visibility.Stamp.{Stamp}
use Rattle.ut_stamps.specs.declared.place.Place.{Place}
use Rattle.ut_staged.proofs.ListLemmas.{none_some, some_same}
use Rattle.ut_main.specs.Parts.{MainValue}
use Rattle.ut_image.specs.declared.drawn.Drawn.{Drawn}
use Rattle.ut_pages.specs.declared.root.Root.{Root}
use Rattle.ut_reading.proofs.StoreLemmas.{directory_may_open}
use Rattle.ut_restart.specs.declared.rows.Position.{Position}
use Rattle.ut_restart.specs.declared.replay.Replay.{Replay}
use Rattle.ut_restart.specs.Began.{BeginsWith}
use Rattle.ut_restart.specs.Rows.{Positions, IsSound, Keeps, position_in, position, stored_of, row_at}
use Rattle.ut_restart.specs.Replayed.{Agrees, IsFirst, Replayed, NoJournal}
use Rattle.ut_restart.specs.Shown.{stamp_of}
use Rattle.ut_tables.specs.declared.restored.Restored.{Restored}
use Rattle.ut_tables.specs.Rows as all
use Rattle.ut_restart.specs.Standing.{shown, Rebuilt, Reopens}

-- ---- what a restored store begins with

-- the fates: one transaction committed before all else, and one that aborted
abbrev first_fates : List Fate
first_fates = Committed 0 ∷ Aborted ∷ []

unopened : (n s : ℕ) → open_at (replicate n None) s ≡ None
unopened zero s = refl
unopened (suc n) zero = refl
unopened (suc n) (suc s) = unopened n s

nothing : {X A : Type 0} (x : X) → None ≡ Some x → A
nothing x h = cc

none_open : {A : Type 0} (s : ℕ) (t : OpenTransaction) → open_at no_sessions s ≡ Some t → A
none_open s t h = nothing t (sym (unopened 17 s) ∙ h)

-- the fates of a transaction that committed or runs
committed_first : (t c : ℕ) → fate_at first_fates t ≡ Committed c → c ≡ 0
committed_first zero c h = cc
committed_first (suc zero) c h = cc
committed_first (suc (suc t)) c h = cc

none_runs : {A : Type 0} (t : ℕ) → fate_at first_fates t ≡ Running → A
none_runs zero h = cc
none_runs (suc zero) h = cc
none_runs (suc (suc t)) h = cc

-- ---- stamps

-- a row that was committed before all else
abbrev before_all : Stored → Stamped
before_all stored = record { stored = stored; stamp = record { begin = 0; end = None } }

shown_first : (k : ℕ) (o : Option Stored) → o ≡ shown_by (counts first_fates k None) (option_map before_all o)
shown_first k None = refl
shown_first k (Some row) = ap (λ b. cond (b && true) (Some row) None) (sym (le-leb 0 k (omega arith)))

ended_first : (test : ℕ → Bool) (o : Option Stored) → false ≡ ended_by test (option_map before_all o)
ended_first test None = refl
ended_first test (Some row) = refl

begun_first : (o : Option Stored) (row : Stamped) → option_map before_all o ≡ Some row → row.stamp.begin < 2
begun_first None row h = nothing row h
begun_first (Some stored) row h = let e : 0 ≡ row.stamp.begin = ap (λ r. (unwrap_or r row).stamp.begin) h in omega arith

ended_none : {A : Type 0} (o : Option Stored) (row : Stamped) (t : ℕ) → option_map before_all o ≡ Some row → row.stamp.end ≡ Some t → A
ended_none None row t h e = nothing row h
ended_none (Some stored) row t h e = nothing t (ap (λ r. (unwrap_or r row).stamp.end) h ∙ e)

exact : (j : Journal) → IsExact first_fates (λ id. option_map before_all (finmap.get (current j).rows id)) j (journal_len j)
exact j = record {
  shows = λ k from to id. ap (λ (s : State). finmap.get s.rows id) (state_at-last j k from) ∙ shown_first k (finmap.get (current j).rows id);
  deletes = λ k from to id. deleted_after-last j k id from ∙ ended_first (λ t. is_later (fate_at first_fates t) k) (finmap.get (current j).rows id);
  within = λ t c is. let z = committed_first t c is in omega arith;
  begun = λ id row is. begun_first (finmap.get (current j).rows id) row is;
  ended = λ id row t is e. ended_none (finmap.get (current j).rows id) row t is e;
}

open_first : (held : ℕ → Option Stamped) (numbers : ℕ → ℕ) (j : Journal) (opening : ℕ) → AreOpen first_fates held no_sessions numbers j opening
open_first held numbers j opening = record {
  own = λ s t is. none_open s t is;
  since = λ s t is. none_open s t is;
  until = λ s t is. none_open s t is;
  apart = λ s r t u is js same. none_open s t is;
  known = λ t runs. none_runs t runs;
}

nothing_kept : {A : Type 0} (t : TableStages) (g i : ℕ) → t.keep ≡ [] → kept_at t g i ≡ Some false → A
nothing_kept t g i none flag = no (sym (ap (λ (k : List (List Bool)). option_and_then (λ (flags : List Bool). slice_get flags i) (slice_get k g)) none) ∙ flag)
  where
    no : {B : Type 0} → None ≡ Some false → B
    no h = cc

-- ---- the one place that is somebody's and holds the row of an id

inside : {X : Type 0} (a b : X) → Some a ≡ Some b → a ≡ b
inside a b e = cc

module _ (tables : List Table) (staged : List Staged) (positions : Positions) (load : ℕ) (rows : Rows) (stages : Stages) (s : IsSound tables staged positions load) (k : Keeps staged positions rows stages) where
  held : ℕ → Option Stamped
  held id = option_map before_all (finmap.get rows id)

  there-is : (id n : ℕ) (p : Place) (row : StagedRow) → positions id ≡ Some (position n p) → place_at staged n p ≡ Some row → option_map before_all (finmap.get rows id) ≡ Some (stamped_in n row)
  there-is id n p row known is =
      let f = s.there id n p known in
      let same : f.0 ≡ row = some_same f.0 row (sym f.1 ∙ is) in
      let born : stamp_of false ≡ row.stamp = sym f.2 ∙ ap (λ (r : StagedRow). r.stamp) same in
      ap (option_map before_all) (k.row id ∙ ap (row_at staged) known ∙ ap (option_map (stored_of n)) is)
      ∙ ap (λ (stamp : Stamp). Some (record { stored = stored_of n row; stamp = stamp })) born

  known-at : (id : ℕ) (x : Stamped) → option_map before_all (finmap.get rows id) ≡ Some x → (o : Option Position) → positions id ≡ o → (n : ℕ) × (p : Place) × (positions id ≡ Some (position n p))
  known-at id x is None e = absurd (none_some x (sym (ap (option_map before_all) (k.row id ∙ ap (row_at staged) e)) ∙ is))
  known-at id x is (Some at) e = (at.table, at.place, e)

  pub held-sound : (gone : Stamp → Type 0) → AreHeld (place_at staged) gone (λ id. option_map before_all (finmap.get rows id))
  held-sound gone = record {
    each = λ n p row is lives. there-is row.id n p row (s.live n p row is lives) is;
    only = λ id x is.
        let at = known-at id x is (positions id) refl in
        let f = s.there id at.0 at.1 at.2 in
        inr (at.0, at.1, f.0, f.1, ap is_dead f.2, f.3, some_same (stamped_in at.0 f.0) x (sym (there-is id at.0 at.1 f.0 at.2 f.1) ∙ is));
    once = λ n m p q row other is js lives lived same.
        let e = inside (position n p) (position m q) (sym (s.live n p row is lives) ∙ ap positions same ∙ s.live m q other js lived) in
        (ap (λ (at : Position). at.table) e, ap (λ (at : Position). at.place) e);
  }

-- no table has a merge
none-there : {X : Type 0} (x : X) → None ≡ Some x → ⊥
none-there x h = cc

merges-at : (tables : List Table) (merges : List (Option PendingMerge)) (n : ℕ) (merge : Option PendingMerge) → merges ≡ map (λ (t : Table). None) tables → slice_get merges n ≡ Some merge → merge ≡ None
merges-at tables merges n merge same is = by tables n (ap (λ ms. slice_get ms n) (sym same) ∙ is)
  where
    by : (tables : List Table) (n : ℕ) → slice_get (map (λ (t : Table). None) tables) n ≡ Some merge → merge ≡ None
    by [] n h = absurd (none-there merge h)
    by (t ∷ tables) zero h = cc
    by (t ∷ tables) (suc n) h = by tables n h

-- ---- all of it

module _ (root : Root) (tables : List Drawn) (mains : List MainValue) (es : List Entry) (first r : Replay) (begun : IsFirst root tables mains first) (read : Replayed first es r) where
  -- the state and the directory that the store begins with
  module _ (d : Directory) (s : State) (b : BeginsWith root tables mains d s) (few : root.length + length es ≤ 1073741824) where
    abbrev j : Journal
    j = record { base = s; entries = es }

    agrees : Agrees r (after_all s es) (replayed d.stages es)
    agrees = read.agrees s d.stages (begun.agrees d s b)

    load-is : load_of j ≡ r.rows.load
    load-is = omega (arith, read.load, begun.load d s b)

    pub may : MayOpen d.stages (record { base = s; entries = es })
    may = directory_may_open root d j b.rules b.directory b.base (read.can s d.stages (begun.agrees d s b)) (omega (arith, few, b.base.length)) (omega (arith, load-is, read.sound.rows.within))

    module _ (x : Restored) (built : Rebuilt r x) (image_pages : Directory → ℕ) (root_pages limit : ℕ) (small : limit ≤ 2147483648) where
      abbrev o : Opening
      o = record { stages = d.stages; image_pages = image_pages; root_pages = root_pages }

      plain : IsPlain (opened_store o j limit)
      plain = IsPlain-opened o j limit may small

      next-is : max r.rows.next (r.rows.load + 1) ≡ max (current j).next (load_of j + 1)
      next-is = λ i. max (agrees.next i) (sym load-is i + 1)

      fates-are : x.rows.rows.fates ≡ first_fates
      fates-are = ap (λ (q : all.Rows). q.fates) built.rows

      staged-are : x.rows.rows.staged ≡ shown r.rows.stages.items
      staged-are = ap (λ (q : all.Rows). q.staged) built.rows

      tables-are : x.rows.rows.tables ≡ r.tables.items
      tables-are = ap (λ (q : all.Rows). q.tables) built.rows

      free : AreFree (λ id. option_map before_all (finmap.get (current j).rows id)) (max (current j).next (load_of j + 1))
      free id above = by (finmap.get (current j).rows id) refl
        where
          by : (o : Option Stored) → finmap.get (current j).rows id ≡ o → option_map before_all (finmap.get (current j).rows id) ≡ None
          by None is = ap (option_map before_all) is
          by (Some row) is = let given : id < (current j).next = ((IsState-current j may.base may.journal).rows.each id row is).given.1 in absurd (omega (arith, given, above))

      rows : (numbers : ℕ → ℕ) → AreRows x.rows.rows x.next_id None numbers (opened_store o j limit)
      rows numbers = record {
        held = λ id. option_map before_all (finmap.get (current j).rows id);
        places = subst (λ staged. AreHeld (place_at staged) (IsGone x.rows.rows.fates no_sessions) (λ id. option_map before_all (finmap.get (current j).rows id))) (sym staged-are)
            (held-sound r.tables.items (shown r.rows.stages.items) (position_in r.rows.positions) r.rows.load (current j).rows (replayed d.stages es) read.sound.rows agrees.rows (IsGone x.rows.rows.fates no_sessions));
        dropped = record { each = λ n g i place at flag. nothing_kept (stages_at (replayed d.stages es) n) g i (plain.merges n).keep flag };
        free = subst (AreFree (λ id. option_map before_all (finmap.get (current j).rows id))) (sym (built.next_id ∙ next-is)) free;
        exact = subst (λ fs. IsExact fs (λ id. option_map before_all (finmap.get (current j).rows id)) j (journal_len j)) (sym fates-are) (exact j);
        transactions = subst (λ fs. AreOpen fs (λ id. option_map before_all (finmap.get (current j).rows id)) no_sessions numbers j (journal_len j)) (sym fates-are)
            (open_first (λ id. option_map before_all (finmap.get (current j).rows id)) numbers j (journal_len j));
        dead = ap (λ fs. fate_at fs dead_number) fates-are;
        started = subst (λ fs. dead_number < length fs) (sym fates-are) (omega arith);
        stages = agrees.rows.stages_are ∙ sym (ap (map stages_of) staged-are);
        columns = ap (map (λ s. s.columns)) staged-are ∙ read.sound.rows.columns ∙ sym (ap (map (λ (t : Table). t.columns)) tables-are);
        merging = λ n merge is. merges-at r.tables.items (map (λ (s : Staged). s.merge) x.rows.rows.staged) n merge (ap (map (λ (s : Staged). s.merge)) staged-are ∙ read.sound.rows.merges) is;
      }

      pub opens : Opens x (opened_store o j limit)
      opens = record {
        plain = plain;
        tables = tables-are ∙ agrees.tables;
        commits = built.commits ∙ agrees.commits;
        merges = built.merges ∙ agrees.merges;
        entries = omega (arith, built.entries, read.count, begun.entries, b.base.length);
        next_id = built.next_id ∙ next-is;
        idle = refl;
        alone = refl;
        rows = rows;
      }

  pub reopened : (x : Restored) → root.length + length es ≤ 1073741824 → Rebuilt r x → (d : Directory) (s : State) → BeginsWith root tables mains d s → Reopens s d.stages es x
  reopened x few built d s b = record { may = may d s b few; opens = λ image_pages root_pages limit small. opens d s b few x built image_pages root_pages limit small }

-- ---- entries that are no journal behind the image

pub too-long : (root : Root) (tables : List Drawn) (mains : List MainValue) (es : List Entry) → 1073741824 < root.length + length es → (d : Directory) (s : State) → BeginsWith root tables mains d s → MayOpen d.stages (record { base = s; entries = es }) → ⊥
too-long root tables mains es long d s b may = let short = may.short in absurd (omega (arith, long, short, b.base.length))

pub unsuited : (root : Root) (tables : List Drawn) (mains : List MainValue) (es : List Entry) (first : Replay) → IsFirst root tables mains first → NoJournal first es → (d : Directory) (s : State) → BeginsWith root tables mains d s → MayOpen d.stages (record { base = s; entries = es }) → ⊥
unsuited root tables mains es first begun strange d s b may = let load = may.load in strange.never s d.stages (begun.agrees d s b) may.journal (omega (arith, load, begun.load d s b))
