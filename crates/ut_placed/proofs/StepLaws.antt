-- Each statement, and each opening, keeps it so that every place holds a row of its table.
use Rattle.std.proofs.Common.{◌≡◌, inl, inr, ⊎_elim, ℕ, zero, suc, ◌+◌, Bool, true, false, ◌&&◌, List, [], ◌∷◌, ◌++◌, length, length-append, length-set, Option, None, Some, refl, sym, ◌∙◌, ap, subst, IsTrue, nat_le, nat_lt, arith}
use Rattle.std.specs.Prelude.{Contains}
use Rattle.std.specs.Option.{unwrap_or}
use Rattle.std.specs.List.{list_all, AllByRecursion, AllZip}
use Rattle.std.specs.FinMap as finmap
use Rattle.ut_value.specs.declared.value.Value.{Value}
use Rattle.ut_value.specs.declared.value.Column.{Column}
use Rattle.ut_value.specs.declared.entry.Op.{Op}
use Rattle.ut_value.specs.declared.entry.Op.TheVariants as ops
use Rattle.ut_value.specs.declared.entry.Entry.{Entry}
use Rattle.ut_value.specs.declared.entry.Entry.TheVariants as entries
use Rattle.ut_value.specs.Text.{is_name}
use Rattle.ut_value.specs.KeyBytes.{is_value}
use Rattle.ut_value.specs.Spelling.{has_spelling, entry_len, has_column}
use Rattle.ut_plain.specs.declared.table.Table.{Table}
use Rattle.ut_plain.specs.declared.stage.Placed.{Placed}
use Rattle.ut_plain.specs.declared.stage.TableStages.{TableStages}
use Rattle.ut_plain.specs.declared.stage.PendingMerge.{PendingMerge}
use Rattle.ut_plain.specs.declared.transaction.OpenTransaction.{OpenTransaction}
use Rattle.ut_plain.specs.declared.statement.Pred.{Pred}
use Rattle.ut_plain.specs.declared.statement.Statement.{Statement}
use Rattle.ut_plain.specs.declared.statement.Statement.TheVariants as statements
use Rattle.ut_plain.specs.declared.statement.Statement.TheVariants.{Create, Insert, Bulk, Ask, Update, Delete, Begin, Commit, Abort, MergeL1, MergeBegin}
use Rattle.ut_plain.specs.declared.reply.Refusal.{Refusal}
use Rattle.ut_plain.specs.Tables.{columns_in, place_in, fits_columns}
use Rattle.ut_plain.specs.Rows.{with_ops}
use Rattle.ut_plain.specs.State.{State, after, can}
use Rattle.ut_plain.specs.Journal.{Journal, current, appended, after_all, can_all}
use Rattle.ut_plain.specs.Stages.{Stages, no_stages, stages_at, with_stages, with_inserts, entered, placed, moved}
use Rattle.ut_plain.specs.Merges.{closing, switched}
use Rattle.ut_plain.specs.Restart.{replayed, replayed_entry, replayed_ops, with_dead}
use Rattle.ut_plain.specs.Plain.{Plain, Phase, Idle, Writing, Sealed, Opening, opened_store, new_store, open_at, seen}
use Rattle.ut_plain.specs.View.{view, own_ops}
use Rattle.ut_plain.specs.Condition.{found}
use Rattle.ut_plain.specs.Made.{made, inserts, rows_of}
use Rattle.ut_plain.specs.Names.{preds_known}
use Rattle.ut_plain.specs.Kinds.{has_kind, kind_in, preds_fit}
use Rattle.ut_plain.specs.Refusals.{refusal}
use Rattle.ut_plain.specs.Reached.{IsPlain, MayOpen}
use Rattle.ut_plain.specs.Spelled.{is_spelled, are_preds, are_some_values}
use Rattle.ut_plain.specs.Step.{step, step_by, effect_of, with_made, committed, committed_by, merge_ended, save_written, save_sealed, save_flipped}
use Rattle.ut_plain.specs.Capture.{Directory, StandsAnywhere}
use Rattle.ut_plain.proofs.BoolLemmas.{and_left, and_right, and_both}
use Rattle.ut_plain.proofs.TableLemmas.{there, there_known}
use Rattle.ut_plain.proofs.JournalLaws.{current-appended}
use Rattle.ut_plain.proofs.CaptureLaws.{first_in, later_in, in_tail}
use Rattle.ut_plain.proofs.SeenLemmas.{own_is}
use Rattle.ut_plain.proofs.PassedLemmas.{Passed, passed, HasRoom, room_is, IsTable, table_is, AreMadeBy, suits_is, all_suit, inserts_are_made, deletes_are_made, updates_are_made, found_is}
use Rattle.ut_durable.specs.Rules.{IsImageRow, IsImageTable, IsDirectory}
use Rattle.ut_durable.specs.Laws.{HaveRows}
use Rattle.ut_placed.specs.Placed.{IsRowOf, HaveRowsOf, HasRows}
use Rattle.ut_placed.proofs.StandLemmas.{no_element, changed_one, created_one, in_moved}
use Rattle.ut_placed.proofs.InsertLemmas.{inserts_hold, replays_hold}
use Rattle.ut_placed.proofs.MergeLemmas.{in_closing, in_switched}

-- ---- a table more

nothing_stands : (p : Placed) → StandsAnywhere no_stages p → ⊥
nothing_stands p (inl has) = no_element p has
nothing_stands p (inr (inl has)) = no_element p has
nothing_stands p (inr (inr (inl has))) = no_element p has
nothing_stands p (inr (inr (inr (part, there, has)))) = no_element part there

nothing_behind : (n : ℕ) (p : Placed) → StandsAnywhere (stages_at [] n) p → ⊥
nothing_behind zero p has = nothing_stands p has
nothing_behind (suc n) p has = nothing_stands p has

tail_holds : (t : Table) (ts : List Table) (s : TableStages) (ss : Stages) → HaveRowsOf (t ∷ ts) (s ∷ ss) → HaveRowsOf ts ss
tail_holds t ts s ss all n p has = all (suc n) p has

more_tables : (tables : List Table) (t : Table) (stages : Stages) → length stages ≡ length tables → HaveRowsOf tables stages → HaveRowsOf (tables ++ t ∷ []) stages
more_tables [] t [] e all n p has = absurd (nothing_behind n p has)
more_tables [] t (s ∷ ss) e all n p has = absurd (omega (arith, e))
more_tables (u ∷ us) t [] e all n p has = absurd (omega (arith, e))
more_tables (u ∷ us) t (s ∷ ss) e all zero p has = all zero p has
more_tables (u ∷ us) t (s ∷ ss) e all (suc n) p has = more_tables us t ss (omega (arith, e)) (tail_holds u us s ss all) n p has

created_holds : (tables : List Table) (t : Table) (stages : Stages) → length stages ≡ length tables → HaveRowsOf tables stages → HaveRowsOf (tables ++ t ∷ []) (stages ++ no_stages ∷ [])
created_holds tables t stages e all = created_one (IsRowOf (tables ++ t ∷ [])) stages (more_tables tables t stages e all)

-- ---- operations are made

made_by_insert : (p : Plain) (session : ℕ) (name : List ℕ) (values : List Value) → IsPlain p → IsTrue (is_spelled (Insert name values)) → Passed (view p session) (Insert name values)
    → AreMadeBy p session (inserts (place_in (current p.journal).tables name) p.next_id (values ∷ []))
made_by_insert p session name values h s k =
    let t : IsTable (current p.journal).tables name = table_is p name h (there (current p.journal).tables name k.names) in
    let are : IsTrue (list_all is_value values) = and_right (nat_le 1 (length values)) _ (and_right (is_name name) (are_some_values values) s) in
    let room : HasRoom p session (inserts (place_in (current p.journal).tables name) p.next_id (values ∷ [])) = room_is p session _ h (own_is p session h) k.room in
    inserts_are_made p session name (values ∷ []) h t (and_both _ true (suits_is p session name values t k.kinds are) refl) room

made_by_bulk : (p : Plain) (session : ℕ) (name : List ℕ) (values : List Value) → IsPlain p → IsTrue (is_spelled (Bulk name values)) → Passed (view p session) (Bulk name values)
    → AreMadeBy p session (inserts (place_in (current p.journal).tables name) p.next_id (rows_of (length (columns_in (current p.journal).tables name)) values))
made_by_bulk p session name values h s k =
    let t : IsTable (current p.journal).tables name = table_is p name h (there (current p.journal).tables name k.names) in
    let are : IsTrue (list_all is_value values) = and_right (nat_le 1 (length values)) _ (and_right (is_name name) (are_some_values values) s) in
    let news = rows_of (length (columns_in (current p.journal).tables name)) values in
    let fit : IsTrue (list_all (fits_columns (columns_in (current p.journal).tables name)) news) = and_right (nat_lt 0 (length values)) _ k.kinds in
    let room : HasRoom p session (inserts (place_in (current p.journal).tables name) p.next_id news) = room_is p session _ h (own_is p session h) k.room in
    inserts_are_made p session name news h t (all_suit p session name (length values) (length (columns_in (current p.journal).tables name)) values t fit are) room

made_by_update : (p : Plain) (session : ℕ) (name column : List ℕ) (value : Value) (preds : List Pred) → IsPlain p → IsTrue (is_spelled (Update name column value preds)) → Passed (view p session) (Update name column value preds)
    → AreMadeBy p session (made (current p.journal).tables (finmap.entries (seen p session)) p.next_id (Update name column value preds))
made_by_update p session name column value preds h s k =
    let t : IsTable (current p.journal).tables name = table_is p name h (there_known (current p.journal).tables (λ cs. has_column cs column && preds_known preds cs) name k.names) in
    let is : IsTrue (is_value value) = and_right (is_name name && is_name column) _ (and_left _ (are_preds preds) s) in
    let kind : IsTrue (has_kind value (kind_in (columns_in (current p.journal).tables name) column)) = and_left _ (preds_fit (columns_in (current p.journal).tables name) preds) k.kinds in
    let room = room_is p session (made (current p.journal).tables (finmap.entries (seen p session)) p.next_id (Update name column value preds)) h (own_is p session h) k.room in
    updates_are_made p session name column value (found (current p.journal).tables (finmap.entries (seen p session)) name preds) h t is kind (found_is p session name preds h k.clear) room

made_by_delete : (p : Plain) (session : ℕ) (name : List ℕ) (preds : List Pred) → IsPlain p → Passed (view p session) (Delete name preds)
    → AreMadeBy p session (made (current p.journal).tables (finmap.entries (seen p session)) p.next_id (Delete name preds))
made_by_delete p session name preds h k =
    let t : IsTable (current p.journal).tables name = table_is p name h (there_known (current p.journal).tables (preds_known preds) name k.names) in
    deletes_are_made p session name (found (current p.journal).tables (finmap.entries (seen p session)) name preds) h t (found_is p session name preds h k.clear)

-- they are no tables
tables_made : (p : Plain) (session : ℕ) (o : Option OpenTransaction) (os : List Op) → (current (with_made p session o os).journal).tables ≡ (current p.journal).tables
tables_made p session (Some t) os = refl
tables_made p session None [] = refl
tables_made p session None (op ∷ os) = ap (λ (s : State). s.tables) (current-appended p.journal (entries.Txn (op ∷ os)))

changed_holds : (p : Plain) (session : ℕ) (bulk : Bool) (os : List Op) → AreMadeBy p session os → HasRows p → HaveRowsOf (current (with_made p session (open_at p.sessions session) os).journal).tables (with_inserts bulk p.stages os)
changed_holds p session bulk os m all =
    subst (λ (tables : List Table). HaveRowsOf tables (with_inserts bulk p.stages os)) (sym (tables_made p session (open_at p.sessions session) os))
    (inserts_hold bulk (current p.journal).tables (with_ops (current p.journal).rows (own_ops (open_at p.sessions session))) os p.stages m.apply m.spelled all)

-- ---- an entry that is no table

same_tables : (p : Plain) (e : Entry) (stages : Stages) → (after (current p.journal) e).tables ≡ (current p.journal).tables → HaveRowsOf (current p.journal).tables stages → HaveRowsOf (current (appended p.journal e)).tables stages
same_tables p e stages same all = subst (λ (tables : List Table). HaveRowsOf tables stages) (sym (ap (λ (s : State). s.tables) (current-appended p.journal e) ∙ same)) all

committed_holds : (p : Plain) (session : ℕ) (o : Option OpenTransaction) → HasRows p → HasRows (committed p session o).plain
committed_holds p session None all = all
committed_holds p session (Some t) all = by t.ops
  where
    by : (os : List Op) → HasRows (committed_by p session os).plain
    by [] = all
    by (op ∷ os) = same_tables p (entries.Txn (op ∷ os)) p.stages refl all

ended_holds : (p : Plain) (pending : Option PendingMerge) → HasRows p → HasRows (merge_ended p pending).plain
ended_holds p None all = all
ended_holds p (Some m) all = same_tables p (entries.Ended m.number) (with_stages (switched m.kind) m.table p.stages) refl
    (changed_one (IsRowOf (current p.journal).tables) p.stages m.table (switched m.kind (stages_at p.stages m.table)) (λ q has. all m.table q (in_switched m.kind (stages_at p.stages m.table) q has)) all)

written_holds : (p : Plain) (n : ℕ) (phase : Phase) → HasRows p → HasRows (save_written p n phase).plain
written_holds p n Idle all = all
written_holds p n (Writing captured done pages image) all = all
written_holds p n (Sealed captured pages image) all = all

sealed_holds : (p : Plain) (phase : Phase) → HasRows p → HasRows (save_sealed p phase).plain
sealed_holds p Idle all = all
sealed_holds p (Writing captured done pages image) all = all
sealed_holds p (Sealed captured pages image) all = all

flipped_holds : (p : Plain) (phase : Phase) → HasRows p → HasRows (save_flipped p phase).plain
flipped_holds p Idle all = all
flipped_holds p (Writing captured done pages image) all = all
flipped_holds p (Sealed captured pages image) all = all

-- ---- each statement

effect_holds : (p : Plain) (session : ℕ) (st : Statement) → IsPlain p → IsTrue (is_spelled st) → Passed (view p session) st → HasRows p → HasRows (effect_of p session st).plain
effect_holds p session (Create name columns) h s k all =
    subst (λ (tables : List Table). HaveRowsOf tables (p.stages ++ no_stages ∷ [])) (sym (ap (λ (s : State). s.tables) (current-appended p.journal (entries.Create name columns))))
    (created_holds (current p.journal).tables (record { name = name; columns = columns }) p.stages h.staged all)
effect_holds p session (Insert name values) h s k all = changed_holds p session false _ (made_by_insert p session name values h s k) all
effect_holds p session (Bulk name values) h s k all = changed_holds p session true _ (made_by_bulk p session name values h s k) all
effect_holds p session (Ask query) h s k all = all
effect_holds p session (Update name column value preds) h s k all = changed_holds p session false _ (made_by_update p session name column value preds h s k) all
effect_holds p session (Delete name preds) h s k all = changed_holds p session false _ (made_by_delete p session name preds h k) all
effect_holds p session Begin h s k all = all
effect_holds p session Commit h s k all = committed_holds p session (open_at p.sessions session) all
effect_holds p session Abort h s k all = all
effect_holds p session (MergeL1 name n) h s k all =
    let table = place_in (current p.journal).tables name in
    changed_one (IsRowOf (current p.journal).tables) p.stages table (moved n (stages_at p.stages table)) (λ q has. all table q (in_moved n (stages_at p.stages table) q has)) all
effect_holds p session (MergeBegin name kind) h s k all =
    let table = place_in (current p.journal).tables name in
    same_tables p (entries.Begun ((current p.journal).merges + 1) table kind) (with_stages (closing p.journal p.sessions kind) table p.stages) refl
    (changed_one (IsRowOf (current p.journal).tables) p.stages table (closing p.journal p.sessions kind (stages_at p.stages table)) (λ q has. all table q (in_closing p.journal p.sessions kind (stages_at p.stages table) q has)) all)
effect_holds p session statements.MergeEnd h s k all = ended_holds p p.pending all
effect_holds p session statements.SaveBegin h s k all = all
effect_holds p session (statements.SaveStep n) h s k all = written_holds p n p.phase all
effect_holds p session statements.SaveSeal h s k all = sealed_holds p p.phase all
effect_holds p session statements.SaveFlip h s k all = flipped_holds p p.phase all
effect_holds p session statements.SaveDrop h s k all = all
effect_holds p session (statements.Shape name) h s k all = all

pub HasRows-step : (p : Plain) (session : ℕ) (st : Statement) → IsPlain p → IsTrue (is_spelled st) → HasRows p → HasRows (step p session st).plain
HasRows-step p session st h s all = by (refusal (view p session) st) refl
  where
    by : (o : Option Refusal) → refusal (view p session) st ≡ o → HasRows (step_by o p session st).plain
    by (Some why) e = all
    by None e = effect_holds p session st h s (passed (view p session) st e) all

-- ---- a store that is opened

length-replayed_ops : (stages : Stages) (os : List Op) → length (replayed_ops stages os) ≡ length stages
length-replayed_ops stages [] = refl
length-replayed_ops stages (ops.Insert table id vs ∷ os) =
    length-replayed_ops (with_stages (entered false (placed id vs)) table stages) os ∙ length-set stages table (entered false (placed id vs) (stages_at stages table))
length-replayed_ops stages (ops.Delete table id ∷ os) = length-replayed_ops (with_stages (with_dead id) table stages) os ∙ length-set stages table (with_dead id (stages_at stages table))

entry_holds : (s : State) (stages : Stages) (e : Entry) → length stages ≡ length s.tables → IsTrue (can s e) → HaveRowsOf s.tables stages
    → (length (replayed_entry stages e) ≡ length (after s e).tables) × HaveRowsOf (after s e).tables (replayed_entry stages e)
entry_holds s stages (entries.Create name columns) same can all =
    let more = length-append stages (no_stages ∷ []) in
    let tables = length-append s.tables (record { name = name; columns = columns } ∷ []) in
    (omega (arith, same, more, tables), created_holds s.tables (record { name = name; columns = columns }) stages same all)
entry_holds s stages (entries.Txn os) same can all = (
  length-replayed_ops stages os ∙ same,
  replays_hold s.tables s.rows os stages (and_right (has_spelling (entries.Txn os)) _ can) (and_right (nat_le 1 (length os)) _ (and_left _ (nat_le (entry_len (entries.Txn os)) 1073741824) (and_left _ _ can))) all,
)
entry_holds s stages (entries.Begun n table kind) same can all = (same, all)
entry_holds s stages (entries.Ended n) same can all = (same, all)

replayed_holds : (s : State) (stages : Stages) (es : List Entry) → length stages ≡ length s.tables → IsTrue (can_all s es) → HaveRowsOf s.tables stages → HaveRowsOf (after_all s es).tables (replayed stages es)
replayed_holds s stages [] same each all = all
replayed_holds s stages (e ∷ es) same each all =
    let next = entry_holds s stages e same (and_left _ _ each) all in
    replayed_holds (after s e) (replayed_entry stages e) es next.0 (and_right (can s e) _ each) next.1

pub HasRows-opened : (o : Opening) (j : Journal) (limit : ℕ) → MayOpen o.stages j → HaveRowsOf j.base.tables o.stages → HasRows (opened_store o j limit)
HasRows-opened o j limit may all = replayed_holds j.base o.stages j.entries may.staged may.journal all

-- ---- the parts of main

each_part : (columns : List Column) (places : List Placed) → ((p : Placed) → Contains places p → IsImageRow columns p) → AllByRecursion (IsImageRow columns) places
each_part columns [] all = tt
each_part columns (p ∷ ps) all = (all p (first_in p p ps refl), each_part columns ps (λ q has. all q (later_in p q ps has)))

each_main : (columns : List Column) (parts : List (List Placed)) → ((part : List Placed) (p : Placed) → Contains parts part → Contains part p → IsImageRow columns p) → AllByRecursion (AllByRecursion (IsImageRow columns)) parts
each_main columns [] all = tt
each_main columns (part ∷ parts) all = (
  each_part columns part (λ p has. all part p (first_in part part parts refl) has),
  each_main columns parts (λ other p there has. all other p (later_in part other parts there) has),
)

parts_hold : (tables : List Table) (stages : Stages) → length stages ≡ length tables → HaveRowsOf tables stages → AllZip HaveRows tables stages
parts_hold [] [] same all = tt
parts_hold [] (s ∷ ss) same all = absurd (omega (arith, same))
parts_hold (t ∷ ts) [] same all = absurd (omega (arith, same))
parts_hold (t ∷ ts) (s ∷ ss) same all =
    (each_main t.columns s.parts (λ part p there has. all zero p (inr (inr (inr (part, there, has)))) t.columns refl), parts_hold ts ss (omega (arith, same)) (tail_holds t ts s ss all))

-- each row of a part has an id and values, as an image wants it
pub parts_have : (p : Plain) → IsPlain p → HasRows p → AllZip HaveRows (current p.journal).tables p.stages
parts_have p h all = parts_hold (current p.journal).tables p.stages h.staged all

-- ---- where a store begins

pub HasRows-new : (o : Opening) (limit : ℕ) → o.stages ≡ [] → HasRows (new_store o limit)
HasRows-new o limit none = subst (HaveRowsOf []) (sym none) (λ n p has. absurd (nothing_behind n p has))

each_of : (columns : List Column) (places : List Placed) → AllByRecursion (IsImageRow columns) places → (p : Placed) → Contains places p → IsImageRow columns p
each_of columns [] all p has = absurd (no_element p has)
each_of columns (q ∷ places) all p has = ⊎_elim (λ same. subst (IsImageRow columns) same all.0) (λ rest. each_of columns places all.1 p rest) (in_tail q p places has)

each_in : (columns : List Column) (parts : List (List Placed)) → AllByRecursion (AllByRecursion (IsImageRow columns)) parts → (part : List Placed) → Contains parts part → (p : Placed) → Contains part p → IsImageRow columns p
each_in columns [] all part there p has = absurd (no_element part there)
each_in columns (first ∷ parts) all part there p has = ⊎_elim
    (λ same. each_of columns first all.0 p (subst (λ (places : List Placed). Contains places p) (sym same) has))
    (λ rest. each_in columns parts all.1 part rest p has) (in_tail first part parts there)

table_holds : (columns : List Column) (s : TableStages) → IsImageTable columns s → (p : Placed) → StandsAnywhere s p → IsImageRow columns p
table_holds columns s is p (inl has) = each_of columns s.l1 is.l1.rows p has
table_holds columns s is p (inr (inl has)) = each_of columns s.l2 is.l2.rows p has
table_holds columns s is p (inr (inr (inl has))) = absurd (no_element p (subst (λ (o : Option (List Placed)). Contains (unwrap_or o []) p) is.rest.closed has))
table_holds columns s is p (inr (inr (inr (part, there, has)))) = each_in columns s.parts is.parts part there p has

some_is : (t : Table) (columns : List Column) → Some t.columns ≡ Some columns → t.columns ≡ columns
some_is t columns e = cc

image_holds : (tables : List Table) (stages : Stages) → AllZip (λ (t : Table) (s : TableStages). IsImageTable t.columns s) tables stages → HaveRowsOf tables stages
image_holds [] [] all n p has columns at = absurd (nothing_behind n p has)
image_holds [] (s ∷ ss) all n p has columns at = absurd all
image_holds (t ∷ ts) [] all n p has columns at = absurd all
image_holds (t ∷ ts) (s ∷ ss) all zero p has columns at = subst (λ (cs : List Column). IsImageRow cs p) (some_is t columns at) (table_holds t.columns s all.0 p has)
image_holds (t ∷ ts) (s ∷ ss) all (suc n) p has columns at = image_holds ts ss all.1 n p has columns at

-- an image's directory has such rows alone
pub directory_holds : (next commits : ℕ) (d : Directory) → IsDirectory next commits d → HaveRowsOf d.tables d.stages
directory_holds next commits d is = image_holds d.tables d.stages is.stages
