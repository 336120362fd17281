-- What is noted of the next id stays the plain store's.
use Rattle.std.proofs.Common.{◌≡◌, ℕ, zero, suc, ◌+◌, ◌≤◌, ◌<◌, max, min, Bool, false, cond, List, [], ◌∷◌, ◌++◌, length, set, length-set, Option, None, Some, refl, sym, ◌∙◌, ap, subst, IsTrue, nat_lt, nat_le, arith}
use Rattle.std.specs.Prelude.{is_some, is_none, ◌&&◌}
use Rattle.std.specs.FinMap as finmap
use Rattle.std.proofs.lemmas.Bool.{leb-true, ltb-true, lt-ltb}
use Rattle.ut_value.specs.declared.entry.Op.{Op}
use Rattle.ut_value.specs.declared.entry.Op.TheVariants as ops
use Rattle.ut_value.specs.declared.entry.Entry.{Entry}
use Rattle.ut_value.specs.declared.entry.Entry.TheVariants as entries
use Rattle.ut_value.specs.declared.value.Value.{Value}
use Rattle.ut_plain.specs.declared.table.Table.{Table}
use Rattle.ut_plain.specs.declared.transaction.OpenTransaction.{OpenTransaction}
use Rattle.ut_plain.specs.declared.stage.PendingMerge.{PendingMerge}
use Rattle.ut_plain.specs.declared.statement.Pred.{Pred}
use Rattle.ut_plain.specs.declared.statement.Statement.{Statement}
use Rattle.ut_plain.specs.declared.statement.Statement.TheVariants as statements
use Rattle.ut_plain.specs.declared.statement.Statement.TheVariants.{Create, Insert, Bulk, Ask, Update, Delete, Begin, Commit, Abort, MergeL1, MergeBegin}
use Rattle.ut_plain.specs.declared.reply.Refusal.{Refusal}
use Rattle.ut_plain.specs.declared.reply.Reply.{Reply}
use Rattle.ut_plain.specs.declared.reply.Reply.TheVariants as replies
use Rattle.ut_plain.specs.Tables.{columns_at, fits_table, columns_in, place_in}
use Rattle.ut_plain.specs.Rows.{Rows, next_after, inserts_of, can_apply, can_apply_all, with_op}
use Rattle.ut_plain.specs.State.{State, after, can}
use Rattle.ut_plain.specs.Journal.{current, journal_len, appended, after_all, can_all}
use Rattle.ut_plain.specs.Plain.{Plain, Phase, Idle, Writing, Sealed, Sessions, open_at, seen}
use Rattle.ut_plain.specs.View.{view, own_ops}
use Rattle.ut_plain.specs.Condition.{found}
use Rattle.ut_plain.specs.Made.{made, rows_of, changed_value}
use Rattle.ut_plain.specs.Refusals.{refusal, state_why}
use Rattle.ut_plain.specs.Reached.{IsPlain}
use Rattle.ut_plain.specs.Step.{step_by, effect_of, with_made, with_txn, said_changed, said_alone, committed, committed_by, merge_ended, save_written, save_sealed, save_flipped}
use Rattle.ut_plain.proofs.BoolLemmas.{and_left, and_right, Tested, tested, Passes, Fails, not_both}
use Rattle.ut_plain.proofs.JournalLaws.{current-appended}
use Rattle.ut_plain.proofs.SeenLemmas.{own_is}
use Rattle.ut_plain.proofs.StateLaws.{next_after-le}
use Rattle.ut_plain.proofs.MadeLemmas.{inserts_of-inserts, inserts_of-updates}
use Rattle.ut_plain.proofs.PassedLemmas.{Passed, passed}
use Rattle.ut_nextid.specs.NextIds.{Noted, Keeps, NoteKeeps, own_at, over, noted, with_commit, with_rows, ops_next, entry_next, entries_next}
use Rattle.ut_nextid.proofs.SetLemmas.{set_here, set_other, Which, Same, Other, which}
use Rattle.ut_nextid.proofs.NextLemmas.{next_after-append, next_after-max, next_after-none, IsRun, run-inserts, run-updates, no_inserts}

-- ---- behind entries

ops_are : (tables : List Table) (rows : Rows) (next : ℕ) (os : List Op) → IsTrue (can_apply_all tables rows os) → ops_next next os ≡ next_after next os
ops_are tables rows next [] can = refl
ops_are tables rows next (ops.Insert table id vs ∷ os) can =
    let small : id ≤ 2147483648 = leb-true id 2147483648 (and_right (fits_table (columns_at tables table) vs && nat_le 1 id) _ (and_left _ (is_none (finmap.get rows id)) (and_left _ _ can))) in
    let same : max next (min (id + 1) 4294967295) ≡ max next (id + 1) = omega (arith, small) in
    ap (λ (n : ℕ). ops_next n os) same ∙ ops_are tables (with_op rows (ops.Insert table id vs)) (max next (id + 1)) os (and_right (can_apply tables rows (ops.Insert table id vs)) _ can)
ops_are tables rows next (ops.Delete table id ∷ os) can = ops_are tables (with_op rows (ops.Delete table id)) next os (and_right (can_apply tables rows (ops.Delete table id)) _ can)

entry_is : (s : State) (e : Entry) → IsTrue (can s e) → entry_next s.next e ≡ (after s e).next
entry_is s (entries.Create name columns) each = refl
entry_is s (entries.Txn os) each = ops_are s.tables s.rows s.next os (and_right _ _ each)
entry_is s (entries.Begun n table kind) each = refl
entry_is s (entries.Ended n) each = refl

entries_are : (s : State) (es : List Entry) → IsTrue (can_all s es) → entries_next s.next es ≡ (after_all s es).next
entries_are s [] each = refl
entries_are s (e ∷ es) each = ap (λ (n : ℕ). entries_next n es) (entry_is s e (and_left _ _ each)) ∙ entries_are (after s e) es (and_right (can s e) _ each)

pub next_is : (s : State) (next : ℕ) (es : List Entry) → s.next ≡ next → IsTrue (can_all s es) → entries_next next es ≡ (after_all s es).next
next_is s next es same each = ap (λ (n : ℕ). entries_next n es) (sym same) ∙ entries_are s es each

-- ---- one session among all

own_set : (n : Noted) (p : Plain) (session value : ℕ) (o : Option OpenTransaction) → session < 17 → IsPlain p → Keeps n p → value ≡ next_after 0 (own_ops o)
    → (other : ℕ) → other < 17 → own_at (set n.own session value) other ≡ next_after 0 (own_ops (open_at (set p.sessions session o) other))
own_set n p session value o low h k is other lt = by (which other session)
  where
    Is : ℕ → Type 0
    Is i = own_at (set n.own session value) i ≡ next_after 0 (own_ops (open_at (set p.sessions session o) i))

    here : Is session
    here =
        set_here 0 n.own session value (omega (arith, low, k.seats)) ∙ is
        ∙ sym (ap (λ (x : Option OpenTransaction). next_after 0 (own_ops x)) (set_here None p.sessions session o (omega (arith, low, h.seats))))

    by : Which other session → own_at (set n.own session value) other ≡ next_after 0 (own_ops (open_at (set p.sessions session o) other))
    by (Same e) = subst Is (sym e) here
    by (Other d) = set_other 0 n.own session other value d ∙ k.own other lt ∙ sym (ap (λ (x : Option OpenTransaction). next_after 0 (own_ops x)) (set_other None p.sessions session other o d))

-- the transaction of a session stands with what it inserted
own_same : (n : Noted) (p : Plain) (session : ℕ) (o : Option OpenTransaction) → session < 17 → IsPlain p → Keeps n p → own_at n.own session ≡ next_after 0 (own_ops o)
    → (other : ℕ) → other < 17 → own_at n.own other ≡ next_after 0 (own_ops (open_at (set p.sessions session o) other))
own_same n p session o low h k is other lt = by (which other session)
  where
    here : own_at n.own session ≡ next_after 0 (own_ops (open_at (set p.sessions session o) session))
    here = is ∙ sym (ap (λ (x : Option OpenTransaction). next_after 0 (own_ops x)) (set_here None p.sessions session o (omega (arith, low, h.seats))))

    by : Which other session → own_at n.own other ≡ next_after 0 (own_ops (open_at (set p.sessions session o) other))
    by (Same e) = subst (λ (i : ℕ). own_at n.own i ≡ next_after 0 (own_ops (open_at (set p.sessions session o) i))) (sym e) here
    by (Other d) = k.own other lt ∙ sym (ap (λ (x : Option OpenTransaction). next_after 0 (own_ops x)) (set_other None p.sessions session other o d))

-- ---- nothing is given

not_below : (a : ℕ) → nat_lt a a ≡ false
not_below a = by (tested (nat_lt a a))
  where
    by : Tested (nat_lt a a) → nat_lt a a ≡ false
    by (Passes e) = let wrong : a < a = ltb-true a a e in absurd (omega arith)
    by (Fails e) = e

quiet : (n : Noted) (session : ℕ) (reply : Reply) (a : ℕ) → cond (nat_lt a a) (with_rows n session reply a) n ≡ n
quiet n session reply a = ap (λ (b : Bool). cond b (with_rows n session reply a) n) (not_below a)

-- where the store's next id stays, so does what is noted
still : (n : Noted) (p q : Plain) (session : ℕ) (reply : Reply) (a : ℕ) → Keeps n q → Keeps (cond (nat_lt a a) (with_rows n session reply a) n) q
still n p q session reply a k = subst (λ (m : Noted). Keeps m q) (sym (quiet n session reply a)) k

-- an entry that inserts nothing
entry_keeps : (n : Noted) (p : Plain) (e : Entry) → (after (current p.journal) e).next ≡ (current p.journal).next → Keeps n p → Keeps n (record p { journal = appended p.journal e })
entry_keeps n p e same k = record { seats = k.seats; next = k.next ∙ sym (ap (λ (s : State). s.next) (current-appended p.journal e) ∙ same); own = k.own }

-- ---- rows are given

-- what a journal with operations more inserted
txn_next : (p : Plain) (os : List Op) → (current (with_txn p os).journal).next ≡ next_after (current p.journal).next os
txn_next p [] = refl
txn_next p (op ∷ os) = ap (λ (s : State). s.next) (current-appended p.journal (entries.Txn (op ∷ os)))

txn_sessions : (p : Plain) (os : List Op) → (with_txn p os).sessions ≡ p.sessions
txn_sessions p [] = refl
txn_sessions p (op ∷ os) = refl

-- A change of rows: its operations are a run from the next id on, and where it inserts any it changes some.
record IsChange (p : Plain) (session : ℕ) (os : List Op) (count : ℕ) : Type 0 where
  run : IsRun p.next_id os
  counts : 1 ≤ inserts_of os → 1 ≤ count

said_some : (commits count : ℕ) → 1 ≤ count → said_alone commits count ≡ replies.Changed count (Some (commits + 1))
said_some commits zero some = absurd (omega arith)
said_some commits (suc n) some = refl

-- the state behind a change, whatever else of it changes
abbrev changed_with : Plain → ℕ → List Op → Plain
changed_with p session os = with_made p session (open_at p.sessions session) os

module _ (n : Noted) (p : Plain) (session : ℕ) (os : List Op) (count commits : ℕ) (low : session < 17) (h : IsPlain p) (k : Keeps n p) (c : IsChange p session os count) where
  -- where nothing is inserted
  change_none : (q : Plain) → inserts_of os ≡ 0 → q.journal ≡ (changed_with p session os).journal → q.sessions ≡ (changed_with p session os).sessions → Keeps n q
  change_none q none journal sessions = by (open_at p.sessions session) refl journal sessions
    where
      by : (o : Option OpenTransaction) → open_at p.sessions session ≡ o → q.journal ≡ (with_made p session o os).journal → q.sessions ≡ (with_made p session o os).sessions → Keeps n q
      by None is journal sessions = record {
        seats = k.seats;
        next = k.next ∙ sym (next_after-none (current p.journal).next os none) ∙ sym (ap (λ j. (current j).next) journal ∙ txn_next p os);
        own = λ s lt. k.own s lt ∙ sym (ap (λ (l : Sessions). next_after 0 (own_ops (open_at l s))) (sessions ∙ txn_sessions p os));
      }
      by (Some t) is journal sessions = record {
        seats = k.seats;
        next = k.next ∙ sym (ap (λ j. (current j).next) journal);
        own = λ s lt.
            own_same n p session (Some (record t { ops = t.ops ++ os })) low h k
            (k.own session low ∙ ap (λ (x : Option OpenTransaction). next_after 0 (own_ops x)) is ∙ sym (next_after-append 0 t.ops os ∙ next_after-none (next_after 0 t.ops) os none)) s lt
            ∙ sym (ap (λ (l : Sessions). next_after 0 (own_ops (open_at l s))) sessions);
      }

  -- where some are
  change_some : (q : Plain) → 1 ≤ inserts_of os → q.journal ≡ (changed_with p session os).journal → q.sessions ≡ (changed_with p session os).sessions
      → Keeps (with_rows n session (said_changed (open_at p.sessions session) commits count) (p.next_id + inserts_of os)) q
  change_some q some journal sessions = by (open_at p.sessions session) refl journal sessions
    where
      by : (o : Option OpenTransaction) → open_at p.sessions session ≡ o → q.journal ≡ (with_made p session o os).journal → q.sessions ≡ (with_made p session o os).sessions
          → Keeps (with_rows n session (said_changed o commits count) (p.next_id + inserts_of os)) q
      by None is journal sessions =
          subst (λ (reply : Reply). Keeps (with_rows n session reply (p.next_id + inserts_of os)) q) (sym (said_some commits count (c.counts some)))
          (record {
            seats = k.seats;
            next = sym (c.run (current p.journal).next h.next some) ∙ sym (ap (λ j. (current j).next) journal ∙ txn_next p os);
            own = λ s lt. k.own s lt ∙ sym (ap (λ (l : Sessions). next_after 0 (own_ops (open_at l s))) (sessions ∙ txn_sessions p os));
          })
      by (Some t) is journal sessions =
          let own = own_is p session h in
          let given : next_after 0 t.ops ≤ p.next_id = subst (λ (x : Option OpenTransaction). next_after 0 (own_ops x) ≤ p.next_id) is (next_after-le 0 p.next_id (own_ops (open_at p.sessions session)) (omega arith) own.given) in
          record {
            seats = length-set n.own session (p.next_id + inserts_of os) ∙ k.seats;
            next = k.next ∙ sym (ap (λ j. (current j).next) journal);
            own = λ s lt.
                own_set n p session (p.next_id + inserts_of os) (Some (record t { ops = t.ops ++ os })) low h k (sym (next_after-append 0 t.ops os ∙ c.run (next_after 0 t.ops) given some)) s lt
                ∙ sym (ap (λ (l : Sessions). next_after 0 (own_ops (open_at l s))) sessions);
          }

  change_keeps : (q : Plain) → q.journal ≡ (changed_with p session os).journal → q.sessions ≡ (changed_with p session os).sessions
      → Keeps (cond (nat_lt p.next_id (p.next_id + inserts_of os)) (with_rows n session (said_changed (open_at p.sessions session) commits count) (p.next_id + inserts_of os)) n) q
  change_keeps q journal sessions = by (tested (nat_lt p.next_id (p.next_id + inserts_of os)))
    where
      by : Tested (nat_lt p.next_id (p.next_id + inserts_of os)) → Keeps (cond (nat_lt p.next_id (p.next_id + inserts_of os)) (with_rows n session (said_changed (open_at p.sessions session) commits count) (p.next_id + inserts_of os)) n) q
      by (Passes e) =
          let more : p.next_id < p.next_id + inserts_of os = ltb-true p.next_id (p.next_id + inserts_of os) e in
          subst (λ (b : Bool). Keeps (cond b (with_rows n session (said_changed (open_at p.sessions session) commits count) (p.next_id + inserts_of os)) n) q) (sym e) (change_some q (omega (arith, more)) journal sessions)
      by (Fails e) =
          subst (λ (b : Bool). Keeps (cond b (with_rows n session (said_changed (open_at p.sessions session) commits count) (p.next_id + inserts_of os)) n) q) (sym e)
          (change_none q (none (inserts_of os) e) journal sessions)
        where
          none : (i : ℕ) → nat_lt p.next_id (p.next_id + i) ≡ false → i ≡ 0
          none zero f = refl
          none (suc i) f = not_both (nat_lt p.next_id (p.next_id + suc i)) (lt-ltb p.next_id (p.next_id + suc i) (omega arith)) f

-- the changes of rows are such
insert_is : (p : Plain) (session : ℕ) (name : List ℕ) (values : List Value) → IsChange p session (made (current p.journal).tables (finmap.entries (seen p session)) p.next_id (Insert name values)) 1
insert_is p session name values = record { run = run-inserts (place_in (current p.journal).tables name) p.next_id (values ∷ []); counts = λ some. omega arith }

bulk_is : (p : Plain) (session : ℕ) (name : List ℕ) (values : List Value)
    → IsChange p session (made (current p.journal).tables (finmap.entries (seen p session)) p.next_id (Bulk name values)) (length (rows_of (length (columns_in (current p.journal).tables name)) values))
bulk_is p session name values =
    let rows = rows_of (length (columns_in (current p.journal).tables name)) values in
    record { run = run-inserts (place_in (current p.journal).tables name) p.next_id rows; counts = λ some. omega (arith, some, inserts_of-inserts (place_in (current p.journal).tables name) p.next_id rows) }

update_is : (p : Plain) (session : ℕ) (name column : List ℕ) (value : Value) (preds : List Pred)
    → IsChange p session (made (current p.journal).tables (finmap.entries (seen p session)) p.next_id (Update name column value preds)) (length (found (current p.journal).tables (finmap.entries (seen p session)) name preds))
update_is p session name column value preds =
    let es = found (current p.journal).tables (finmap.entries (seen p session)) name preds in
    let change = changed_value (columns_in (current p.journal).tables name) column value in
    record { run = run-updates (place_in (current p.journal).tables name) p.next_id change es; counts = λ some. omega (arith, some, inserts_of-updates (place_in (current p.journal).tables name) p.next_id change es) }

delete_is : (p : Plain) (session : ℕ) (name : List ℕ) (preds : List Pred)
    → IsChange p session (made (current p.journal).tables (finmap.entries (seen p session)) p.next_id (Delete name preds)) (length (found (current p.journal).tables (finmap.entries (seen p session)) name preds))
delete_is p session name preds =
    let es = found (current p.journal).tables (finmap.entries (seen p session)) name preds in
    let none = no_inserts (place_in (current p.journal).tables name) es in
    record { run = λ m le some. absurd (omega (arith, some, none)); counts = λ some. absurd (omega (arith, some, none)) }

-- ---- a transaction begins, and is over

begun_keeps : (n : Noted) (p : Plain) (session : ℕ) → session < 17 → IsPlain p → Keeps n p → open_at p.sessions session ≡ None → Keeps n (record p { sessions = set p.sessions session (Some (record { snapshot = journal_len p.journal; ops = [] })) })
begun_keeps n p session low h k none = record {
  seats = k.seats;
  next = k.next;
  own = own_same n p session (Some (record { snapshot = journal_len p.journal; ops = [] })) low h k (k.own session low ∙ ap (λ (x : Option OpenTransaction). next_after 0 (own_ops x)) none);
}

closed_keeps : (n : Noted) (p : Plain) (session : ℕ) → session < 17 → IsPlain p → Keeps n p → Keeps (over n session) (record p { sessions = set p.sessions session None })
closed_keeps n p session low h k = record { seats = length-set n.own session 0 ∙ k.seats; next = k.next; own = own_set n p session 0 None low h k refl }

commit_keeps : (n : Noted) (p : Plain) (session : ℕ) → session < 17 → IsPlain p → Keeps n p
    → Keeps (with_commit n session (committed p session (open_at p.sessions session)).reply) (committed p session (open_at p.sessions session)).plain
commit_keeps n p session low h k = by (open_at p.sessions session) refl
  where
    by : (o : Option OpenTransaction) → open_at p.sessions session ≡ o → Keeps (with_commit n session (committed p session o).reply) (committed p session o).plain
    by None is = record {
      seats = length-set n.own session 0 ∙ k.seats;
      next = k.next;
      own = λ s lt. subst (λ (l : Sessions). own_at (set n.own session 0) s ≡ next_after 0 (own_ops (open_at l s))) (set_same p.sessions session is) (own_set n p session 0 None low h k refl s lt);
    }
      where
        set_same : (l : Sessions) (i : ℕ) → open_at l i ≡ None → set l i None ≡ l
        set_same [] i e = refl
        set_same (x ∷ l) zero e = ap (λ (y : Option OpenTransaction). y ∷ l) (sym e)
        set_same (x ∷ l) (suc i) e = ap (λ (m : Sessions). x ∷ m) (set_same l i e)
    by (Some t) is = some t.ops refl
      where
        some : (os : List Op) → t.ops ≡ os → Keeps (with_commit n session (committed_by p session os).reply) (committed_by p session os).plain
        some [] e = closed_keeps n p session low h k
        some (op ∷ os) e = record {
          seats = length-set n.own session 0 ∙ k.seats;
          next =
              (λ i. max (k.next i) ((k.own session low ∙ ap (λ (x : Option OpenTransaction). next_after 0 (own_ops x)) is ∙ ap (λ (l : List Op). next_after 0 l) e) i))
              ∙ sym (ap (λ (s : State). s.next) (current-appended p.journal (entries.Txn (op ∷ os))) ∙ next_after-max (current p.journal).next (op ∷ os));
          own = own_set n p session 0 None low h k refl;
        }

-- ---- each statement

ended_keeps : (n : Noted) (p : Plain) (pending : Option PendingMerge) → Keeps n p → Keeps n (merge_ended p pending).plain
ended_keeps n p None k = k
ended_keeps n p (Some m) k = let e = entry_keeps n p (entries.Ended m.number) refl k in record { seats = e.seats; next = e.next; own = e.own }

-- a state with the same journal, sessions and next id
abbrev Same3 : Plain → Plain → Type 0
Same3 p q = (q.journal ≡ p.journal) × (q.sessions ≡ p.sessions) × (q.next_id ≡ p.next_id)

same_keeps : (n : Noted) (p q : Plain) (session : ℕ) (reply : Reply) → Same3 p q → Keeps n p → Keeps (cond (nat_lt p.next_id q.next_id) (with_rows n session reply q.next_id) n) q
same_keeps n p q session reply same k =
    subst (λ (a : ℕ). Keeps (cond (nat_lt p.next_id a) (with_rows n session reply a) n) q) (sym same.2)
    (still n p q session reply p.next_id (record {
      seats = k.seats;
      next = k.next ∙ sym (ap (λ j. (current j).next) same.0);
      own = λ s lt. k.own s lt ∙ sym (ap (λ (l : Sessions). next_after 0 (own_ops (open_at l s))) same.1);
    }))

written_same : (p : Plain) (count : ℕ) (phase : Phase) → Same3 p (save_written p count phase).plain
written_same p count Idle = (refl, refl, refl)
written_same p count (Writing captured done pages image) = (refl, refl, refl)
written_same p count (Sealed captured pages image) = (refl, refl, refl)

sealed_same : (p : Plain) (phase : Phase) → Same3 p (save_sealed p phase).plain
sealed_same p Idle = (refl, refl, refl)
sealed_same p (Writing captured done pages image) = (refl, refl, refl)
sealed_same p (Sealed captured pages image) = (refl, refl, refl)

flipped_same : (p : Plain) (phase : Phase) → Same3 p (save_flipped p phase).plain
flipped_same p Idle = (refl, refl, refl)
flipped_same p (Writing captured done pages image) = (refl, refl, refl)
flipped_same p (Sealed captured pages image) = (refl, refl, refl)

ended_next : (p : Plain) (pending : Option PendingMerge) → (merge_ended p pending).plain.next_id ≡ p.next_id
ended_next p None = refl
ended_next p (Some m) = refl

-- where a transaction begins none is open
none_open : (o : Option OpenTransaction) → state_why (is_some o) Begin ≡ None → o ≡ None
none_open None e = refl
none_open (Some t) e = cc

effect_keeps : (n : Noted) (p : Plain) (session : ℕ) (st : Statement) → session < 17 → IsPlain p → Passed (view p session) st → Keeps n p
    → Keeps (noted n session st (effect_of p session st).reply p.next_id (effect_of p session st).plain.next_id) (effect_of p session st).plain
effect_keeps n p session (Create name columns) low h c k =
    let e = entry_keeps n p (entries.Create name columns) refl k in still n p (effect_of p session (Create name columns)).plain session (effect_of p session (Create name columns)).reply p.next_id (record { seats = e.seats; next = e.next; own = e.own })
effect_keeps n p session (Insert name values) low h c k = change_keeps n p session _ 1 (current p.journal).commits low h k (insert_is p session name values) (effect_of p session (Insert name values)).plain refl refl
effect_keeps n p session (Bulk name values) low h c k = change_keeps n p session _ _ (current p.journal).commits low h k (bulk_is p session name values) (effect_of p session (Bulk name values)).plain refl refl
effect_keeps n p session (Ask query) low h c k = still n p p session (effect_of p session (Ask query)).reply p.next_id k
effect_keeps n p session (Update name column value preds) low h c k =
    change_keeps n p session _ _ (current p.journal).commits low h k (update_is p session name column value preds) (effect_of p session (Update name column value preds)).plain refl refl
effect_keeps n p session (Delete name preds) low h c k = change_keeps n p session _ _ (current p.journal).commits low h k (delete_is p session name preds) (effect_of p session (Delete name preds)).plain refl refl
effect_keeps n p session Begin low h c k = still n p (effect_of p session Begin).plain session (effect_of p session Begin).reply p.next_id (begun_keeps n p session low h k (none_open (open_at p.sessions session) c.state))
effect_keeps n p session Commit low h c k = commit_keeps n p session low h k
effect_keeps n p session Abort low h c k = closed_keeps n p session low h k
effect_keeps n p session (MergeL1 name m) low h c k = same_keeps n p (effect_of p session (MergeL1 name m)).plain session (effect_of p session (MergeL1 name m)).reply (refl, refl, refl) k
effect_keeps n p session (MergeBegin name kind) low h c k =
    let e = entry_keeps n p (entries.Begun ((current p.journal).merges + 1) (place_in (current p.journal).tables name) kind) refl k in
    still n p (effect_of p session (MergeBegin name kind)).plain session (effect_of p session (MergeBegin name kind)).reply p.next_id (record { seats = e.seats; next = e.next; own = e.own })
effect_keeps n p session statements.MergeEnd low h c k =
    subst (λ (a : ℕ). Keeps (cond (nat_lt p.next_id a) (with_rows n session (merge_ended p p.pending).reply a) n) (merge_ended p p.pending).plain) (sym (ended_next p p.pending))
    (still n p (merge_ended p p.pending).plain session (effect_of p session statements.MergeEnd).reply p.next_id (ended_keeps n p p.pending k))
effect_keeps n p session statements.SaveBegin low h c k = same_keeps n p (effect_of p session statements.SaveBegin).plain session (effect_of p session statements.SaveBegin).reply (refl, refl, refl) k
effect_keeps n p session (statements.SaveStep m) low h c k = same_keeps n p (save_written p m p.phase).plain session (effect_of p session (statements.SaveStep m)).reply (written_same p m p.phase) k
effect_keeps n p session statements.SaveSeal low h c k = same_keeps n p (save_sealed p p.phase).plain session (effect_of p session statements.SaveSeal).reply (sealed_same p p.phase) k
effect_keeps n p session statements.SaveFlip low h c k = same_keeps n p (save_flipped p p.phase).plain session (effect_of p session statements.SaveFlip).reply (flipped_same p p.phase) k
effect_keeps n p session statements.SaveDrop low h c k = same_keeps n p (effect_of p session statements.SaveDrop).plain session (effect_of p session statements.SaveDrop).reply (refl, refl, refl) k
effect_keeps n p session (statements.Shape name) low h c k = still n p p session (effect_of p session (statements.Shape name)).reply p.next_id k

-- a refusal changes nothing
refused_keeps : (n : Noted) (p : Plain) (session : ℕ) (st : Statement) (why : Refusal) → Keeps n p → Keeps (noted n session st (replies.Refused why) p.next_id p.next_id) p
refused_keeps n p session (Create name columns) why k = still n p p session (replies.Refused why) p.next_id k
refused_keeps n p session (Insert name values) why k = still n p p session (replies.Refused why) p.next_id k
refused_keeps n p session (Bulk name values) why k = still n p p session (replies.Refused why) p.next_id k
refused_keeps n p session (Ask query) why k = still n p p session (replies.Refused why) p.next_id k
refused_keeps n p session (Update name column value preds) why k = still n p p session (replies.Refused why) p.next_id k
refused_keeps n p session (Delete name preds) why k = still n p p session (replies.Refused why) p.next_id k
refused_keeps n p session Begin why k = still n p p session (replies.Refused why) p.next_id k
refused_keeps n p session Commit why k = k
refused_keeps n p session Abort why k = k
refused_keeps n p session (MergeL1 name m) why k = still n p p session (replies.Refused why) p.next_id k
refused_keeps n p session (MergeBegin name kind) why k = still n p p session (replies.Refused why) p.next_id k
refused_keeps n p session statements.MergeEnd why k = still n p p session (replies.Refused why) p.next_id k
refused_keeps n p session statements.SaveBegin why k = still n p p session (replies.Refused why) p.next_id k
refused_keeps n p session (statements.SaveStep m) why k = still n p p session (replies.Refused why) p.next_id k
refused_keeps n p session statements.SaveSeal why k = still n p p session (replies.Refused why) p.next_id k
refused_keeps n p session statements.SaveFlip why k = still n p p session (replies.Refused why) p.next_id k
refused_keeps n p session statements.SaveDrop why k = still n p p session (replies.Refused why) p.next_id k
refused_keeps n p session (statements.Shape name) why k = still n p p session (replies.Refused why) p.next_id k

pub note_keeps : NoteKeeps
note_keeps n p session st low h spelled k = by (refusal (view p session) st) refl
  where
    by : (o : Option Refusal) → refusal (view p session) st ≡ o → Keeps (noted n session st (step_by o p session st).reply p.next_id (step_by o p session st).plain.next_id) (step_by o p session st).plain
    by (Some why) e = refused_keeps n p session st why k
    by None e = effect_keeps n p session st low h (passed (view p session) st e) k
