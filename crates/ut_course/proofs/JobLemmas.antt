-- The job of the pending merge is one of the plain state, and only a merge that begins or ends changes it.
use Rattle.std.proofs.Common.{ℕ, zero, suc, ◌≡◌, ◌<◌, Bool, true, false, cond, List, [], ◌∷◌, ◌++◌, Option, None, Some, length, map, refl, ap, ◌∙◌, sym, subst, arith, length-append}
use Rattle.std.proofs.lemmas.Grind.{common_steps}
use Rattle.std.proofs.lemmas.List.{length-map}
use Rattle.std.specs.Prelude.{nat_eq, slice_get}
use Rattle.std.specs.Option.{option_map, option_and_then, unwrap_or}
use Rattle.ut_outside.specs.Disk.{View}
use Rattle.ut_value.specs.declared.value.Column.{Column}
use Rattle.ut_value.specs.declared.entry.Entry.{Entry}
use Rattle.ut_value.specs.declared.entry.Entry.TheVariants as entries
use Rattle.ut_value.specs.declared.entry.Op.{Op}
use Rattle.ut_value.specs.KeyBytes.{key_of}
use Rattle.ut_l2.specs.KeyRows.{KeyRow}
use Rattle.ut_plain.specs.declared.table.Table.{Table}
use Rattle.ut_plain.specs.declared.stage.Placed.{Placed}
use Rattle.ut_plain.specs.declared.stage.PendingMerge.{PendingMerge}
use Rattle.ut_plain.specs.declared.stage.TableStages.{TableStages}
use Rattle.ut_plain.specs.declared.statement.Statement.{Statement}
use Rattle.ut_plain.specs.declared.statement.Statement.TheVariants as statements
use Rattle.ut_plain.specs.declared.statement.Parsed.{Parsed}
use Rattle.ut_plain.specs.declared.statement.Parsed.TheVariants.{Comment, Stranger, Bad, Good}
use Rattle.ut_plain.specs.declared.transaction.OpenTransaction.{OpenTransaction}
use Rattle.ut_plain.specs.declared.reply.Reply.{Reply}
use Rattle.ut_plain.specs.declared.reply.Refusal.{Refusal}
use Rattle.ut_plain.specs.Journal.{Journal, journal_len, current, after_all}
use Rattle.ut_plain.specs.State.{State, after}
use Rattle.ut_plain.specs.Plain.{Plain, Phase, Idle, Writing, Sealed, open_at}
use Rattle.ut_plain.specs.Reached.{IsPlain, AreMerges}
use Rattle.ut_plain.specs.Refusals.{refusal}
use Rattle.ut_plain.specs.Made.{made}
use Rattle.ut_plain.specs.Stages.{Stages, stages_at, no_stages}
use Rattle.ut_plain.specs.Tables.{place_in}
use Rattle.ut_plain.specs.View.{view}
use Rattle.ut_plain.specs.Step.{step, step_by, effect_of, with_made, changed, committed, committed_by, is_bulk, MayAnswer, Steps, LacksMemory, save_written, save_sealed, save_flipped}
use Rattle.ut_plain.specs.Transcript.{Answer, AnswersLine}
use Rattle.ut_plain.proofs.MainLemmas.{SameMain, same_itself, same-with_inserts, same-moved, same-created}
use Rattle.ut_exact.specs.Places.{StagedRow}
use Rattle.ut_staged.specs.Staged.{Staged, stages_of, placed_of}
use Rattle.ut_merge.specs.Jobs.{JobValue}
use Rattle.ut_table.specs.Pending as tables
use Rattle.ut_store.specs.Held.{Held}
use Rattle.ut_store.specs.Jobs.{pending_job}
use Rattle.ut_tables.specs.Standing.{merge_at}
use Rattle.ut_store.specs.Stands.{StandsFor}
use Rattle.ut_engine.specs.Logged.{Logged}
use Rattle.ut_engine.specs.Runs.{Runs}
use Rattle.ut_course.specs.Coming.{is_of_merge, asks_merge}
use Rattle.ut_course.specs.Keeping.{GoesOn}
use Rattle.ut_course.proofs.TellLemmas.{step_on, line_on}

-- ---- the job in the plain state

abbrev plain_row : Placed → KeyRow
plain_row row = record { id = row.id; keys = map key_of row.values }

-- how many columns the table at a place has
abbrev width_at : List Table → ℕ → ℕ
width_at ts n = unwrap_or (option_map (λ (t : Table). length t.columns) (slice_get ts n)) 0

abbrev job_in : PendingMerge → TableStages → ℕ → JobValue
job_in m t width = record { head = m; width = width; parts = map (map plain_row) t.parts; closed = map plain_row (unwrap_or t.closed []); keep = t.keep }

abbrev job_by : Option PendingMerge → Stages → List Table → Option JobValue
job_by pending stages ts = option_map (λ (m : PendingMerge). job_in m (stages_at stages m.table) (width_at ts m.table)) pending

-- ---- it is the store's

rows_same : (rows : List StagedRow) → map tables.key_row rows ≡ map plain_row (map placed_of rows)
rows_same [] = refl
rows_same (r ∷ rs) = ap (λ l. tables.key_row r ∷ l) (rows_same rs)

parts_same : (parts : List (List StagedRow)) → map (map tables.key_row) parts ≡ map (map plain_row) (map (map placed_of) parts)
parts_same [] = refl
parts_same (p ∷ ps) = ap (λ l. l ∷ map (map tables.key_row) ps) (rows_same p) ∙ ap (λ l. map plain_row (map placed_of p) ∷ l) (parts_same ps)

closed_same : (closed : Option (List StagedRow)) → map tables.key_row (unwrap_or closed []) ≡ map plain_row (unwrap_or (option_map (map placed_of) closed) [])
closed_same None = refl
closed_same (Some rows) = rows_same rows

job_same : (m : PendingMerge) (s : Staged) → tables.job_of s m ≡ job_in m (stages_of s) (length s.columns)
job_same m s =
    ap (λ ps. record { head = m; width = length s.columns; parts = ps; closed = map tables.key_row (unwrap_or s.closed []); keep = s.keep }) (parts_same s.parts)
    ∙ ap (λ cs. record { head = m; width = length s.columns; parts = map (map plain_row) (map (map placed_of) s.parts); closed = cs; keep = s.keep }) (closed_same s.closed)

get_map : {A B : Type 0} (f : A → B) (xs : List A) (n : ℕ) (x : A) → slice_get xs n ≡ Some x → slice_get (map f xs) n ≡ Some (f x)
get_map f [] n x e = cc
get_map f (y ∷ ys) zero x e = let same : y ≡ x = cc in ap (λ z. Some (f z)) same
get_map f (y ∷ ys) (suc n) x e = get_map f ys n x e

there : {A : Type 0} (xs : List A) (n : ℕ) → n < length xs → (x : A) × (slice_get xs n ≡ Some x)
there [] n h = absurd (omega arith)
there (x ∷ xs) zero h = (x, refl)
there (x ∷ xs) (suc n) h = there xs n (omega arith)

width_of : (staged : List Staged) (ts : List Table) (n : ℕ) (s : Staged) → map (λ (s : Staged). s.columns) staged ≡ map (λ (t : Table). t.columns) ts → slice_get staged n ≡ Some s → width_at ts n ≡ length s.columns
width_of [] ts n s e h = cc
width_of (x ∷ xs) [] n s e h = cc
width_of (x ∷ xs) (t ∷ ts) zero s e h =
    let here : x.columns ≡ t.columns = cc in
    let same : x ≡ s = cc in
    ap (λ (cs : List Column). length cs) (sym here) ∙ ap (λ (y : Staged). length y.columns) same
width_of (x ∷ xs) (t ∷ ts) (suc n) s e h =
    let rest : map (λ (s : Staged). s.columns) xs ≡ map (λ (t : Table). t.columns) ts = cc in
    width_of xs ts n s rest h

same_number : (n : ℕ) → nat_eq n n ≡ true
same_number n = grind (arith, common_steps)

module _ (e : Held) (p : Plain) (s : StandsFor e p) where
  of_table : (m : PendingMerge) → e.counts.pending ≡ Some m → p.pending ≡ Some m → (t : Staged) → slice_get e.rows.staged m.table ≡ Some t → pending_job e ≡ job_by p.pending p.stages (current p.journal).tables
  of_table m is plain t at =
      let merging : t.merge ≡ Some m =
      s.rows.merging m.table t.merge (get_map (λ (x : Staged). x.merge) e.rows.staged m.table t at) ∙ ap (λ o. merge_at o m.table) is ∙ ap (λ (b : Bool). cond b (Some m) None) (same_number m.table) in
      let stages : stages_at p.stages m.table ≡ stages_of t =
      ap (λ (l : Stages). stages_at l m.table) s.rows.stages ∙ ap (λ o. unwrap_or o no_stages) (get_map stages_of e.rows.staged m.table t at) in
      let width : width_at (current p.journal).tables m.table ≡ length t.columns =
      ap (λ (l : List Table). width_at l m.table) (sym s.counts.tables) ∙ width_of e.rows.staged e.rows.tables m.table t s.rows.columns at in
      ap (λ o. option_and_then (λ (m : PendingMerge). option_and_then tables.pending_job (slice_get e.rows.staged m.table)) o) is
      ∙ ap (λ o. option_and_then tables.pending_job o) at
      ∙ ap (λ o. option_map (tables.job_of t) o) merging
      ∙ ap Some (job_same m t ∙ ap (λ (x : TableStages). job_in m x (length t.columns)) (sym stages) ∙ ap (λ (w : ℕ). job_in m (stages_at p.stages m.table) w) (sym width))
      ∙ ap (λ o. job_by o p.stages (current p.journal).tables) (sym plain)

  of_pending : (o : Option PendingMerge) → e.counts.pending ≡ o → p.pending ≡ o → AreMerges o p.stages (current p.journal).merges (journal_len p.journal) → pending_job e ≡ job_by p.pending p.stages (current p.journal).tables
  of_pending None is plain merges =
      ap (λ o. option_and_then (λ (m : PendingMerge). option_and_then tables.pending_job (slice_get e.rows.staged m.table)) o) is ∙ ap (λ o. job_by o p.stages (current p.journal).tables) (sym plain)
  of_pending (Some m) is plain merges =
      let count : length p.stages ≡ length e.rows.staged = ap (λ (l : Stages). length l) s.rows.stages ∙ length-map e.rows.staged stages_of in
      let within = merges.table in
      let t = there e.rows.staged m.table (omega (arith, count, within)) in of_table m is plain t.0 t.1

  pub job_is : pending_job e ≡ job_by p.pending p.stages (current p.journal).tables
  job_is = of_pending p.pending s.counts.pending refl s.plain.merges

-- ---- what a line leaves of it

-- the tables of a state stay where they are
width_after : (s : State) (e : Entry) (n : ℕ) → n < length s.tables → (width_at (after s e).tables n ≡ width_at s.tables n) × (n < length (after s e).tables)
width_after s (entries.Create name columns) n h = (ap (λ o. unwrap_or (option_map (λ (t : Table). length t.columns) o) 0) (get_front s.tables _ n h), omega (arith, h, length-append s.tables (record { name = name; columns = columns } ∷ [])))
  where
    get_front : {A : Type 0} (xs : List A) (x : A) (n : ℕ) → n < length xs → slice_get (xs ++ x ∷ []) n ≡ slice_get xs n
    get_front [] x n h = absurd (omega arith)
    get_front (y ∷ ys) x zero h = refl
    get_front (y ∷ ys) x (suc n) h = get_front ys x n (omega arith)
width_after s (entries.Txn ops) n h = (refl, h)
width_after s (entries.Begun a b c) n h = (refl, h)
width_after s (entries.Ended a) n h = (refl, h)

width_all : (s : State) (es more : List Entry) (n : ℕ) → n < length (after_all s es).tables → width_at (after_all s (es ++ more)).tables n ≡ width_at (after_all s es).tables n
width_all s (e ∷ es) more n h = width_all (after s e) es more n h
width_all s [] [] n h = refl
width_all s [] (e ∷ more) n h = let w = width_after s e n h in width_all (after s e) [] more n w.1 ∙ w.0

width_on : (j k : Journal) (n : ℕ) → GoesOn j k → n < length (current j).tables → width_at (current k).tables n ≡ width_at (current j).tables n
width_on j k n g h = ap (λ (l : Journal). width_at (current l).tables n) g.is ∙ width_all j.base j.entries g.more n h

-- the pending merge, and main and what is closed of each table, are as they were
pub record LeavesMerge (p q : Plain) : Type 0 where
  pub pending : q.pending ≡ p.pending
  pub same : (n : ℕ) → SameMain (stages_at p.stages n) (stages_at q.stages n)

leaves_all : (p q : Plain) → q.pending ≡ p.pending → q.stages ≡ p.stages → LeavesMerge p q
leaves_all p q pending stages = record { pending = pending; same = λ n. subst (λ (l : Stages). SameMain (stages_at p.stages n) (stages_at l n)) (sym stages) (same_itself (stages_at p.stages n)) }

made_pending : (p : Plain) (session : ℕ) (own : Option OpenTransaction) (ops : List Op) → (with_made p session own ops).pending ≡ p.pending
made_pending p session None [] = refl
made_pending p session None (op ∷ ops) = refl
made_pending p session (Some t) ops = refl

leaves_change : (p : Plain) (session : ℕ) (st : Statement) → LeavesMerge p (changed p session st).plain
leaves_change p session st =
    let ops = made (view p session).tables (view p session).rows (view p session).next_id st in
    record { pending = made_pending p session (view p session).own ops; same = same-with_inserts (is_bulk st) p.stages ops }

leaves_commit : (p : Plain) (session : ℕ) (ops : List Op) → LeavesMerge p (committed_by p session ops).plain
leaves_commit p session [] = leaves_all p _ refl refl
leaves_commit p session (op ∷ ops) = leaves_all p _ refl refl

leaves_end : (p : Plain) (session : ℕ) (t : Option OpenTransaction) → LeavesMerge p (committed p session t).plain
leaves_end p session None = leaves_all p _ refl refl
leaves_end p session (Some t) = leaves_commit p session t.ops

leaves_written : (p : Plain) (n : ℕ) (phase : Phase) → LeavesMerge p (save_written p n phase).plain
leaves_written p n Idle = leaves_all p _ refl refl
leaves_written p n (Writing captured done pages image) = leaves_all p _ refl refl
leaves_written p n (Sealed captured pages image) = leaves_all p _ refl refl

leaves_sealed : (p : Plain) (phase : Phase) → LeavesMerge p (save_sealed p phase).plain
leaves_sealed p Idle = leaves_all p _ refl refl
leaves_sealed p (Writing captured done pages image) = leaves_all p _ refl refl
leaves_sealed p (Sealed captured pages image) = leaves_all p _ refl refl

leaves_flipped : (p : Plain) (phase : Phase) → LeavesMerge p (save_flipped p phase).plain
leaves_flipped p Idle = leaves_all p _ refl refl
leaves_flipped p (Writing captured done pages image) = leaves_all p _ refl refl
leaves_flipped p (Sealed captured pages image) = leaves_all p _ refl refl

leaves_effect : (p : Plain) (session : ℕ) (st : Statement) → is_of_merge st ≡ false → LeavesMerge p (effect_of p session st).plain
leaves_effect p session (statements.Create a b) h = record { pending = refl; same = same-created p.stages }
leaves_effect p session (statements.Insert a b) h = leaves_change p session (statements.Insert a b)
leaves_effect p session (statements.Bulk a b) h = leaves_change p session (statements.Bulk a b)
leaves_effect p session (statements.Ask q) h = leaves_all p p refl refl
leaves_effect p session (statements.Update a b c d) h = leaves_change p session (statements.Update a b c d)
leaves_effect p session (statements.Delete a b) h = leaves_change p session (statements.Delete a b)
leaves_effect p session statements.Begin h = leaves_all p _ refl refl
leaves_effect p session statements.Commit h = leaves_end p session (open_at p.sessions session)
leaves_effect p session statements.Abort h = leaves_all p _ refl refl
leaves_effect p session (statements.MergeL1 a n) h = record { pending = refl; same = same-moved n (place_in (current p.journal).tables a) p.stages }
leaves_effect p session (statements.MergeBegin a b) h = cc
leaves_effect p session statements.MergeEnd h = cc
leaves_effect p session statements.SaveBegin h = leaves_all p _ refl refl
leaves_effect p session (statements.SaveStep n) h = leaves_written p n p.phase
leaves_effect p session statements.SaveSeal h = leaves_sealed p p.phase
leaves_effect p session statements.SaveFlip h = leaves_flipped p p.phase
leaves_effect p session statements.SaveDrop h = leaves_all p _ refl refl
leaves_effect p session (statements.Shape a) h = leaves_all p p refl refl

leaves_step : (why : Option Refusal) (p : Plain) (session : ℕ) (st : Statement) → is_of_merge st ≡ false → LeavesMerge p (step_by why p session st).plain
leaves_step (Some why) p session st h = leaves_all p p refl refl
leaves_step None p session st h = leaves_effect p session st h

leaves_itself : (p q : Plain) → q ≡ p → LeavesMerge p q
leaves_itself p q e = leaves_all p q (ap (λ (r : Plain). r.pending) e) (ap (λ (r : Plain). r.stages) e)

leaves_may : (p : Plain) (session : ℕ) (st : Statement) (reply : Reply) (q : Plain) → is_of_merge st ≡ false → MayAnswer p session st reply q → LeavesMerge p q
leaves_may p session st reply q h (Steps e f) = subst (λ (r : Plain). LeavesMerge p r) (sym f) (leaves_step (refusal (view p session) st) p session st h)
leaves_may p session st reply q h (LacksMemory m e f) = leaves_itself p q f

leaves_line : (p : Plain) (line : Parsed) (here : List Answer) (q : Plain) → asks_merge line ≡ false → AnswersLine p line here q → LeavesMerge p q
leaves_line p Comment here q h a = leaves_itself p q a.1
leaves_line p Stranger here q h a = leaves_itself p q a.1
leaves_line p (Bad session) here q h a = leaves_itself p q a.1
leaves_line p (Good session st) here q h a = leaves_may p session st a.reply q h a.may

-- ---- so the job stays

job_left : (m : PendingMerge) (t u : TableStages) (w v : ℕ) → SameMain t u → v ≡ w → job_in m u v ≡ job_in m t w
job_left m t u w v s e =
    ap (λ (n : ℕ). job_in m u n) e
    ∙ ap (λ ps. record { head = m; width = w; parts = map (map plain_row) ps; closed = map plain_row (unwrap_or u.closed []); keep = u.keep }) s.parts
    ∙ ap (λ cs. record { head = m; width = w; parts = map (map plain_row) t.parts; closed = map plain_row (unwrap_or cs []); keep = u.keep }) s.closed
    ∙ ap (λ ks. record { head = m; width = w; parts = map (map plain_row) t.parts; closed = map plain_row (unwrap_or t.closed []); keep = ks }) s.keep

jobs_left : (p q : Plain) → IsPlain p → LeavesMerge p q → GoesOn p.journal q.journal → job_by q.pending q.stages (current q.journal).tables ≡ job_by p.pending p.stages (current p.journal).tables
jobs_left p q is l on = by p.pending refl is.merges
  where
    by : (o : Option PendingMerge) → p.pending ≡ o → AreMerges o p.stages (current p.journal).merges (journal_len p.journal) → job_by q.pending q.stages (current q.journal).tables ≡ job_by p.pending p.stages (current p.journal).tables
    by None e merges = ap (λ o. job_by o q.stages (current q.journal).tables) (l.pending ∙ e) ∙ ap (λ o. job_by o p.stages (current p.journal).tables) (sym e)
    by (Some m) e merges =
        let within = merges.table in
        let count = is.staged in
        ap (λ o. job_by o q.stages (current q.journal).tables) (l.pending ∙ e)
        ∙ ap Some (job_left m _ _ _ _ (l.same m.table) (width_on p.journal q.journal m.table on (omega (arith, within, count))))
        ∙ ap (λ o. job_by o p.stages (current p.journal).tables) (sym e)

pub job_stays : (old new : Logged) (was now : View) (p q : Plain) (line : Parsed) (here : List Answer) → Runs old was p → Runs new now q → AnswersLine p line here q → asks_merge line ≡ false → pending_job new.store ≡ pending_job old.store
job_stays old new was now p q line here runs runs' answers h =
    job_is new.store q runs'.stands ∙ jobs_left p q runs.stands.plain (leaves_line p line here q h answers) (line_on p line here q answers) ∙ sym (job_is old.store p runs.stands)

-- of a store whose disk failed too, since its memory is that of the state after the statement
pub job_lost : (old new : Logged) (was : View) (p : Plain) (session : ℕ) (st : Statement) → Runs old was p → StandsFor new.store (step p session st).plain → is_of_merge st ≡ false → pending_job new.store ≡ pending_job old.store
job_lost old new was p session st runs stands h =
    job_is new.store (step p session st).plain stands
    ∙ jobs_left p (step p session st).plain runs.stands.plain (leaves_step (refusal (view p session) st) p session st h) (step_on p session st)
    ∙ sym (job_is old.store p runs.stands)
