-- What the stages that a table lends hold.
use Rattle.std.proofs.Common.{◌≡◌, ◌<◌, ℕ, List, length, map, All, Option, None, Some, IfSome, refl, sym, ◌∙◌, ap, subst}
use Rattle.std.specs.Option.{option_map}
use Rattle.std.specs.List.Sorted.{IsPermutation, IsNonDecreasingBy}
use Rattle.std.proofs.lemmas.Option.{same_Some}
use Rattle.ut_value.specs.declared.value.Row.{Row}
use Rattle.ut_plain.specs.declared.statement.Pred.{Pred}
use Rattle.ut_stamps.specs.declared.fates.Fate.{Fate}
use Rattle.ut_l2.specs.KeyRows.{keyed}
use Rattle.ut_l2.specs.Delta.{Delta}
use Rattle.ut_main.specs.Parts.{MainValue}
use Rattle.ut_key.specs.declared.comparison.ColumnPred.{ColumnPred}
use Rattle.ut_scan.specs.declared.asked.Asked.{Asked}
use Rattle.ut_scan.specs.declared.place.Found.{Found}
use Rattle.ut_scan.specs.declared.stages.Stages.{Stages}
use Rattle.ut_stamps.specs.StampLists.{StampLists}
use Rattle.ut_scan.specs.StageRows.{rows_in, rows_asked, outside_asked, found_in_parts, found_outside, found_rows, AreStamped, AsksFor, MayAsk}
use Rattle.ut_scan.specs.Tallies.{Tallies, TalliesAsked}
use Rattle.ut_staged.specs.Staged.{Staged}
use Rattle.ut_plain.specs.Compiled.{Compiles}
use Rattle.ut_table.specs.Contents.{Contents, PendingValue}
use Rattle.ut_table.specs.Finds.{SeenOnce, Counts, Finds}
use Rattle.ut_table.specs.Lent.{AreLent}
use Rattle.ut_table.specs.Tallied.{Tallied}
use Rattle.ut_table.proofs.ReadLemmas.{rows-wide}
use Rattle.ut_table.proofs.ScanLemmas.{rows_of, scan-finds, scan-counts}
use Rattle.ut_table.proofs.TallyLemmas.{scan-tallies}

through : {A B C : Type 0} (f : A → B) (g : B → C) (o : Option A) → option_map (λ a. g (f a)) o ≡ option_map g (option_map f o)
through f g None = refl
through f g (Some a) = refl

all-wide : {A : Type 0} (f : A → Delta) (o : Option A) (pending : Option PendingValue) (width : ℕ) → option_map f o ≡ option_map (λ (p : PendingValue). p.closed) pending
    → ((p : PendingValue) → pending ≡ Some p → p.closed.width ≡ width) → IfSome o (λ a. (f a).width ≡ width)
all-wide f None pending width e wide = tt
all-wide f (Some a) None width e wide = cc
all-wide f (Some a) (Some p) width e wide = ap (λ (d : Delta). d.width) (same_Some (f a) p.closed e) ∙ wide p refl

module _ {s : Staged} {stages : Stages} (a : AreLent s stages) where
  abbrev t : Contents
  t = a.table

  pub lent-width : stages.l2.now.width ≡ length t.columns
  lent-width = ap (λ (d : Delta). d.width) a.l2 ∙ a.kept.rows.l2_wide

  lent-stamped : AreStamped stages
  lent-stamped = record {
    l1 = ap (λ (x : StampLists). length x.l1.items) a.stamps ∙ a.kept.stamped.l1 ∙ sym (ap length a.l1);
    l2 = ap (λ (x : StampLists). length x.l2.items) a.stamps ∙ a.kept.stamped.l2 ∙ sym (ap (λ (d : Delta). length d.rows) a.l2);
    closed = ap (λ (x : StampLists). option_map length x.closed) a.stamps ∙ a.kept.stamped.closed
        ∙ through (λ (p : PendingValue). p.closed) (λ (d : Delta). length d.rows) t.pending ∙ sym (ap (option_map (λ (d : Delta). length d.rows)) a.closed) ∙ sym (through (λ l. l.now) (λ (d : Delta). length d.rows) stages.closed);
    parts = ap (λ (x : StampLists). map length x.parts) a.stamps ∙ a.kept.stamped.parts ∙ sym (ap (λ (m : MainValue). map length m.parts) a.main);
    wide = subst (All (λ (r : Row). length r.values ≡ stages.l2.now.width)) (sym a.l1)
        (subst (λ (d : Delta). All (λ (r : Row). length r.values ≡ d.width) t.l1) (sym a.l2) (rows-wide a.kept a.view t.l1 a.kept.rows.l1));
    closed_wide = all-wide (λ l. l.now) stages.closed t.pending stages.l2.now.width a.closed (λ p e. a.kept.rows.closed_wide p e ∙ sym lent-width);
    main_wide = ap (λ (m : MainValue). m.width) a.main ∙ a.kept.rows.main_wide ∙ sym lent-width;
  }

  rows-are : rows_in stages ≡ rows_of t
  rows-are = λ i. record {
    l1 = map keyed (a.l1 i);
    l2 = (a.l2 i).rows;
    closed = (through (λ l. l.now) (λ (d : Delta). d.rows) stages.closed ∙ ap (option_map (λ (d : Delta). d.rows)) a.closed ∙ sym (through (λ (p : PendingValue). p.closed) (λ (d : Delta). d.rows) t.pending)) i;
    parts = (a.main i).parts;
  }

  -- what a scan of the stages answers, as the contract of a table says it
  module _ {fates : List Fate} {snapshot : ℕ} {own : Option ℕ} {preds : List ColumnPred} {q : Asked} (is : AsksFor fates snapshot own preds q) where
    -- the columns that are named are there in the stages too
    pub lent-asked : All (λ (p : ColumnPred). p.column < length s.columns) preds → MayAsk stages q
    lent-asked h = record {
      stamped = lent-stamped;
      columns = subst (All (λ (p : ColumnPred). p.column < stages.l2.now.width)) (sym is.preds_are)
          (subst (λ n. All (λ (p : ColumnPred). p.column < n) preds) (ap (λ (x : Staged). length x.columns) (sym a.view) ∙ sym lent-width) h);
    }

    module _ (once : SeenOnce s fates snapshot own) (asked : List Pred) (compiles : Compiles s.columns asked preds) where
      compiles-there : Compiles t.columns asked preds
      compiles-there = subst (λ (x : Staged). Compiles x.columns asked preds) (sym a.view) compiles

      rows-lent : rows_asked q stages ≡ found_rows fates snapshot own preds (rows_of t) t.stamps
      rows-lent = λ i. found_rows (is.fates_are i) (is.snapshot_is i) (is.own_is i) (is.preds_are i) (rows-are i) (a.stamps i)

      pub lent-finds : (found : List Found) → IsPermutation (rows_asked q stages) found → IsNonDecreasingBy (λ (f : Found). f.id) found → Finds s fates snapshot own asked found
      lent-finds found rows up = scan-finds a.kept a.view fates snapshot own asked preds compiles-there once found (subst (λ l. IsPermutation l found) rows-lent rows) up

      pub lent-counts : (count : ℕ) → count ≡ length (rows_asked q stages) → Counts s fates snapshot own asked count
      lent-counts count at = scan-counts a.kept a.view fates snapshot own asked preds compiles-there once count (at ∙ ap length rows-lent)

      tallies-lent : (column : ℕ) (counts : List ℕ) → TalliesAsked q stages column counts → Tallies t.main column (found_in_parts fates snapshot own preds t.main.parts t.stamps.parts) counts
      tallies-lent column counts told =
          subst (λ (x : StampLists). Tallies t.main column (found_in_parts fates snapshot own preds t.main.parts x.parts) counts) a.stamps
          (subst (λ (m : MainValue). Tallies m column (found_in_parts fates snapshot own preds m.parts stages.stamps.now.parts) counts) a.main
          (subst (λ (l : List Found). Tallies stages.main.now column l counts) (λ i. found_in_parts (is.fates_are i) (is.snapshot_is i) (is.own_is i) (is.preds_are i) stages.main.now.parts stages.stamps.now.parts) told))

      pub lent-tallied : (column : ℕ) → column < length s.columns → (counts : List ℕ) (rest : List Found) → TalliesAsked q stages column counts → rest ≡ outside_asked q stages → Tallied s fates snapshot own asked column counts rest
      lent-tallied column wide counts rest told at =
          scan-tallies a.kept a.view fates snapshot own asked preds compiles-there once column wide counts rest (tallies-lent column counts told)
          (at ∙ (λ i. found_outside (is.fates_are i) (is.snapshot_is i) (is.own_is i) (is.preds_are i) (rows-are i) (a.stamps i)))
