-- What the operators give is what a question is answered.
use Rattle.std.proofs.Common.{ℕ, ◌<◌, ◌≡◌, List, [], length, map, Option, Some, ℤ, IsTrue, refl, sym, ap, ◌∙◌, subst, slice_get}
use Rattle.std.specs.Option.{option_map}
use Rattle.ut_value.specs.declared.value.Value.{Value}
use Rattle.ut_value.specs.declared.value.Column.{Column}
use Rattle.ut_value.specs.declared.value.Kind.TheVariants as kinds
use Rattle.ut_plain.specs.declared.table.Stored.{Stored}
use Rattle.ut_plain.specs.declared.table.Table.{Table}
use Rattle.ut_plain.specs.declared.statement.Query.{Query}
use Rattle.ut_plain.specs.declared.reply.Group as group
use Rattle.ut_plain.specs.declared.reply.Reply.TheVariants as replies
use Rattle.ut_plain.specs.declared.statement.Pred.{Pred}
use Rattle.ut_plain.specs.Kinds.{is_int, kind_in, preds_fit, query_fits}
use Rattle.ut_plain.specs.Condition.{found}
use Rattle.ut_plain.specs.Query.{best, column_values, groups, joined, picked, told, total}
use Rattle.ut_plain.specs.Tables.{column_of, columns_in}
use Rattle.ut_plain.proofs.BoolLemmas.{and_left}
use Rattle.ut_scan.specs.declared.place.Found.{Found}
use Rattle.ut_staged.specs.Staged.{Staged}
use Rattle.ut_table.specs.Finds.{rows_at}
use Rattle.ut_table.specs.Tallied.{IsTally}
use Rattle.ut_ops.specs.Fit.{Fit}
use Rattle.ut_ops.specs.Named.{AreWithin}
use Rattle.ut_ops.proofs.NamedLemmas.{named-within}
use Rattle.ut_names.proofs.PlaceLemmas.{column_below, number_kind}
use Rattle.ut_names.specs.declared.resolved.Columns.{Columns}
use Rattle.ut_names.specs.declared.resolved.End.{End}
use Rattle.ut_names.specs.declared.resolved.End.TheVariants.{Least, Greatest}
use Rattle.ut_names.specs.declared.resolved.Question.TheVariants as questions
use Rattle.ut_names.specs.declared.resolved.Selection.{Selection}
use Rattle.ut_names.specs.Resolved.{AreColumns, IsSelection, beats, best_of}
use Rattle.ut_look.specs.Look.{Sight}
use Rattle.ut_query.specs.Tells.{IsAsked, Shows, ShowsCount, ShowsTally, Tells, extreme_reply}
use Rattle.ut_query.proofs.QuestionLemmas.{all_are, of_select, of_count, of_sum, of_extreme, of_group, of_join}

told_best : (tables : List Table) (rows : List (ℕ × Stored)) (end : End) (name column : List ℕ) (preds : List Pred)
    → extreme_reply end (best (beats end) (column_values (columns_in tables name) column (found tables rows name preds))) ≡ told tables rows (best_of end name column preds)
told_best tables rows Least name column preds = refl
told_best tables rows Greatest name column preds = refl

module _ (l : Sight) (rows : Selection) (s : Staged) (hits : List Found) (sh : Shows l rows s hits) where
  pub tells_select : (columns : Columns) (out : List (List Value)) → ((names : Option (List (List ℕ))) → AreColumns s.columns names columns → out ≡ map (λ (e : ℕ × Stored). picked s.columns names e.1.values) (rows_at rows.table s hits))
      → Tells l (questions.Select rows columns) (replies.Rows out)
  tells_select columns out h = record {
    each = λ q seen r sees.
        let f = of_select l.tables q rows columns r.is in
        let cs = sh.columns f.0 f.2 f.4 in
        subst (λ (x : Query). replies.Rows out ≡ told l.tables seen x) (sym f.3)
        (ap replies.Rows (h f.1 (subst (λ (x : List Column). AreColumns x f.1 columns) cs f.5) ∙ (λ i. map (λ (e : ℕ × Stored). picked (sym cs i) f.1 e.1.values) (sym (sh.found f.0 f.2 seen f.4 sees) i))));
  }

  pub tells_sum : (place : ℕ) (sum : ℤ) → ((name : List ℕ) → column_of s.columns name ≡ Some place → sum ≡ total (column_values s.columns name (rows_at rows.table s hits))) → Tells l (questions.Sum rows place) (replies.Sum sum)
  tells_sum place sum h = record {
    each = λ q seen r sees.
        let f = of_sum l.tables q rows place r.is in
        let cs = sh.columns f.0 f.2 f.4 in
        subst (λ (x : Query). replies.Sum sum ≡ told l.tables seen x) (sym f.3)
        (ap replies.Sum (h f.1 (ap (λ (x : List Column). column_of x f.1) (sym cs) ∙ f.5) ∙ (λ i. total (column_values (sym cs i) f.1 (sym (sh.found f.0 f.2 seen f.4 sees) i)))));
  }

  pub tells_extreme : (place : ℕ) (end : End) (value : Option Value) → ((name : List ℕ) → column_of s.columns name ≡ Some place → value ≡ best (beats end) (column_values s.columns name (rows_at rows.table s hits))) → Tells l (questions.Extreme rows place end) (extreme_reply end value)
  tells_extreme place end value h = record {
    each = λ q seen r sees.
        let f = of_extreme l.tables q rows place end r.is in
        let cs = sh.columns f.0 f.2 f.4 in
        subst (λ (x : Query). extreme_reply end value ≡ told l.tables seen x) (sym f.3)
        (ap (extreme_reply end) (h f.1 (ap (λ (x : List Column). column_of x f.1) (sym cs) ∙ f.5) ∙ (λ i. best (beats end) (column_values (sym cs i) f.1 (sym (sh.found f.0 f.2 seen f.4 sees) i))))
        ∙ told_best l.tables seen end f.0 f.1 f.2);
  }

  pub tells_groups : (key sum : ℕ) (said : List group.Group) → ((name other : List ℕ) → column_of s.columns name ≡ Some key → column_of s.columns other ≡ Some sum → said ≡ groups s.columns name other (rows_at rows.table s hits)) → Tells l (questions.Group rows key sum) (replies.Groups said)
  tells_groups key sum said h = record {
    each = λ q seen r sees.
        let f = of_group l.tables q rows key sum r.is in
        let cs = sh.columns f.0 f.3 f.5 in
        subst (λ (x : Query). replies.Groups said ≡ told l.tables seen x) (sym f.4)
        (ap replies.Groups (h f.1 f.2 (ap (λ (x : List Column). column_of x f.1) (sym cs) ∙ f.6) (ap (λ (x : List Column). column_of x f.2) (sym cs) ∙ f.7) ∙ (λ i. groups (sym cs i) f.1 f.2 (sym (sh.found f.0 f.3 seen f.5 sees) i))));
  }

pub tells_count : (l : Sight) (rows : Selection) (count : ℕ) → ShowsCount l rows count → Tells l (questions.Count rows) (replies.Count count)
tells_count l rows count sh = record {
  each = λ q seen r sees.
      let f = of_count l.tables q rows r.is in
      subst (λ (x : Query). replies.Count count ≡ told l.tables seen x) (sym f.2) (ap replies.Count (sh.found f.0 f.1 seen f.3 sees));
}

pub tells_tally : (l : Sight) (rows : Selection) (s : Staged) (place : ℕ) (counts : List ℕ) (rest : List Found) (sum : ℤ) → ShowsTally l rows s place counts rest
    → ((name : List ℕ) (found : List Found) → column_of s.columns name ≡ Some place → Fit s found → IsTally s place found counts rest → sum ≡ total (column_values s.columns name (rows_at rows.table s found)))
    → Tells l (questions.Sum rows place) (replies.Sum sum)
tells_tally l rows s place counts rest sum sh h = record {
  each = λ q seen r sees.
      let f = of_sum l.tables q rows place r.is in
      let cs = sh.columns f.0 f.2 f.4 in
      let t = sh.tally f.0 f.2 seen f.4 sees in
      subst (λ (x : Query). replies.Sum sum ≡ told l.tables seen x) (sym f.3)
      (ap replies.Sum (h f.1 t.0 (ap (λ (x : List Column). column_of x f.1) (sym cs) ∙ f.5) t.2 t.3 ∙ (λ i. total (column_values (sym cs i) f.1 (sym t.1 i)))));
}

pub tells_pairs : (l : Sight) (lefts rights : Selection) (s t : Staged) (some others : List Found) (a i b j : ℕ) (out : List (List Value)) → lefts.table ≡ a → rights.table ≡ b → lefts.preds.items ≡ [] → rights.preds.items ≡ [] → Shows l lefts s some → Shows l rights t others
    → ((c d : List ℕ) → column_of s.columns c ≡ Some i → column_of t.columns d ≡ Some j → out ≡ joined s.columns c (rows_at lefts.table s some) t.columns d (rows_at rights.table t others))
    → Tells l (questions.Join a i b j) (replies.Rows out)
tells_pairs l lefts rights s t some others a i b j out left_is right_is none nothing one two h =
    subst (λ (x : ℕ). Tells l (questions.Join x i b j) (replies.Rows out)) left_is
    (subst (λ (x : ℕ). Tells l (questions.Join lefts.table i x j) (replies.Rows out)) right_is tells)
  where
    tells : Tells l (questions.Join lefts.table i rights.table j) (replies.Rows out)
    tells = record {
      each = λ q seen r sees.
          let f = of_join l.tables q lefts.table i rights.table j r.is in
          let left = all_are l.tables f.0 lefts f.5 none in
          let right = all_are l.tables f.2 rights f.7 nothing in
          let cs = one.columns f.0 [] left in
          let ds = two.columns f.2 [] right in
          subst (λ (x : Query). replies.Rows out ≡ told l.tables seen x) (sym f.4)
          (ap replies.Rows (h f.1 f.3 (ap (λ (x : List Column). column_of x f.1) (sym cs) ∙ f.6) (ap (λ (x : List Column). column_of x f.3) (sym ds) ∙ f.8)
          ∙ (λ k. joined (sym cs k) f.1 (sym (one.found f.0 [] seen left sees) k) (sym ds k) f.3 (sym (two.found f.2 [] seen right sees) k))));
    }

-- ---- columns stand in their table

pub select_within : (l : Sight) (rows : Selection) (s : Staged) (hits : List Found) (columns : Columns) → Shows l rows s hits → IsAsked l.tables (questions.Select rows columns) → AreWithin s.columns columns
select_within l rows s hits columns sh a =
    let f = of_select l.tables a.query rows columns a.resolves.is in
    named-within s.columns f.1 columns (subst (λ (x : List Column). AreColumns x f.1 columns) (sh.columns f.0 f.2 f.4) f.5)

pub sum_within : (l : Sight) (rows : Selection) (s : Staged) (place : ℕ) → IsAsked l.tables (questions.Sum rows place) → ((name : List ℕ) (preds : List Pred) → IsSelection l.tables name preds rows → columns_in l.tables name ≡ s.columns) → place < length s.columns
sum_within l rows s place a columns =
    let f = of_sum l.tables a.query rows place a.resolves.is in
    column_below s.columns f.1 place (ap (λ (x : List Column). column_of x f.1) (sym (columns f.0 f.2 f.4)) ∙ f.5)

pub extreme_within : (l : Sight) (rows : Selection) (s : Staged) (hits : List Found) (place : ℕ) (end : End) → Shows l rows s hits → IsAsked l.tables (questions.Extreme rows place end) → place < length s.columns
extreme_within l rows s hits place end sh a =
    let f = of_extreme l.tables a.query rows place end a.resolves.is in
    column_below s.columns f.1 place (ap (λ (x : List Column). column_of x f.1) (sym (sh.columns f.0 f.2 f.4)) ∙ f.5)

pub group_within : (l : Sight) (rows : Selection) (s : Staged) (hits : List Found) (key sum : ℕ) → Shows l rows s hits → IsAsked l.tables (questions.Group rows key sum) → key < length s.columns
group_within l rows s hits key sum sh a =
    let f = of_group l.tables a.query rows key sum a.resolves.is in
    column_below s.columns f.1 key (ap (λ (x : List Column). column_of x f.1) (sym (sh.columns f.0 f.3 f.5)) ∙ f.6)

pub left_within : (l : Sight) (rows : Selection) (s : Staged) (hits : List Found) (a i b j : ℕ) → Shows l rows s hits → rows.table ≡ a → rows.preds.items ≡ [] → IsAsked l.tables (questions.Join a i b j) → i < length s.columns
left_within l rows s hits a i b j sh at none q =
    let f = of_join l.tables q.query a i b j q.resolves.is in
    column_below s.columns f.1 i (ap (λ (x : List Column). column_of x f.1) (sym (sh.columns f.0 [] (all_are l.tables f.0 rows (f.5 ∙ ap Some (sym at)) none))) ∙ f.6)

pub right_within : (l : Sight) (rows : Selection) (s : Staged) (hits : List Found) (a i b j : ℕ) → Shows l rows s hits → rows.table ≡ b → rows.preds.items ≡ [] → IsAsked l.tables (questions.Join a i b j) → j < length s.columns
right_within l rows s hits a i b j sh at none q =
    let f = of_join l.tables q.query a i b j q.resolves.is in
    column_below s.columns f.3 j (ap (λ (x : List Column). column_of x f.3) (sym (sh.columns f.2 [] (all_are l.tables f.2 rows (f.7 ∙ ap Some (sym at)) none))) ∙ f.8)

-- ---- numbers are summed

pub summed : (l : Sight) (rows : Selection) (s : Staged) (place : ℕ) → IsAsked l.tables (questions.Sum rows place) → ((name : List ℕ) (preds : List Pred) → IsSelection l.tables name preds rows → columns_in l.tables name ≡ s.columns) → option_map (λ (c : Column). c.kind) (slice_get s.columns place) ≡ Some kinds.Int
summed l rows s place a columns =
    let f = of_sum l.tables a.query rows place a.resolves.is in
    let cs = columns f.0 f.2 f.4 in
    let fits = ap (query_fits l.tables) (sym f.3) ∙ a.resolves.fits in
    number_kind s.columns f.1 place (ap (λ (x : List Column). column_of x f.1) (sym cs) ∙ f.5) (subst (λ (x : List Column). IsTrue (is_int (kind_in x f.1))) cs (and_left (is_int (kind_in (columns_in l.tables f.0) f.1)) (preds_fit (columns_in l.tables f.0) f.2) fits))

pub grouped : (l : Sight) (rows : Selection) (s : Staged) (hits : List Found) (key sum : ℕ) → IsAsked l.tables (questions.Group rows key sum) → Shows l rows s hits → option_map (λ (c : Column). c.kind) (slice_get s.columns sum) ≡ Some kinds.Int
grouped l rows s hits key sum a sh =
    let f = of_group l.tables a.query rows key sum a.resolves.is in
    let cs = sh.columns f.0 f.3 f.5 in
    let fits = ap (query_fits l.tables) (sym f.4) ∙ a.resolves.fits in
    number_kind s.columns f.2 sum (ap (λ (x : List Column). column_of x f.2) (sym cs) ∙ f.7) (subst (λ (x : List Column). IsTrue (is_int (kind_in x f.2))) cs (and_left (is_int (kind_in (columns_in l.tables f.0) f.2)) (preds_fit (columns_in l.tables f.0) f.3) fits))
