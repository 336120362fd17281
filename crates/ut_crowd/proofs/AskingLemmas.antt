-- What the store may ask, one turn more; and that an answer comes to one state.
use Rattle.std.proofs.Common.{ℕ, zero, suc, ◌+◌, ◌≡◌, ◌<◌, Bool, true, false, cond, not, ltb, List, [], ◌∷◌, ◌++◌, length, Option, None, Some, refl, ap, ◌∙◌, sym, subst, arith}
use Rattle.std.proofs.lemmas.Bool.{lt-ltb}
use Rattle.std.proofs.lemmas.List.Elements.{All-head, All-tail}
use Rattle.std.specs.Prelude.{All}
use Rattle.std.specs.List.{position, position_or_len}
use Rattle.ut_outside.specs.Disk.{View}
use Rattle.ut_outside.specs.declared.ack.Ack.{Ack}
use Rattle.ut_value.specs.declared.entry.Op.{Op}
use Rattle.ut_plain.specs.declared.table.Table.{Table}
use Rattle.ut_plain.specs.declared.table.Stored.{Stored}
use Rattle.ut_plain.specs.declared.transaction.OpenTransaction.{OpenTransaction}
use Rattle.ut_plain.specs.declared.stage.PendingMerge.{PendingMerge}
use Rattle.ut_plain.specs.declared.stage.TableStages.{TableStages}
use Rattle.ut_plain.specs.declared.statement.Query.{Query}
use Rattle.ut_plain.specs.declared.statement.Query.TheVariants as queries
use Rattle.ut_plain.specs.declared.statement.Statement.{Statement}
use Rattle.ut_plain.specs.declared.statement.Statement.TheVariants as statements
use Rattle.ut_plain.specs.declared.statement.Parsed.{Parsed}
use Rattle.ut_plain.specs.declared.statement.Parsed.TheVariants.{Comment, Stranger, Bad, Good}
use Rattle.ut_plain.specs.declared.reply.Reply.{Reply}
use Rattle.ut_plain.specs.declared.reply.Reply.TheVariants as replies
use Rattle.ut_plain.specs.declared.reply.Refusal.{Refusal}
use Rattle.ut_plain.specs.declared.reply.Refusal.TheVariants as refusals
use Rattle.ut_plain.specs.Plain.{Plain, Phase, Idle, Writing, Sealed, open_at}
use Rattle.ut_plain.specs.Query.{told}
use Rattle.ut_plain.specs.Made.{changes}
use Rattle.ut_plain.specs.Refusals.{refusal}
use Rattle.ut_plain.specs.Stages.{Stages, stages_at}
use Rattle.ut_plain.specs.Step.{step, step_by, effect_of, said_alone, said_changed, committed, committed_by, merge_ended, save_written, save_sealed, save_flipped, MayAnswer, Steps, LacksMemory}
use Rattle.ut_plain.specs.Transcript.{Answer, AnswersLine, Answers}
use Rattle.ut_plain.specs.View.{view}
use Rattle.ut_engine.specs.Logged.{Logged}
use Rattle.ut_engine.specs.Runs.{Runs}
use Rattle.ut_course.specs.Telling.{Tells}
use Rattle.ut_course.specs.Keeping.{lengths_of}
use Rattle.ut_course.specs.Course.{Course, Goes, Failed}
use Rattle.ut_crowd.specs.declared.book.Asked.{Asked}
use Rattle.ut_crowd.specs.declared.book.Asked.TheVariants.{Line, Store}
use Rattle.ut_crowd.specs.declared.book.Begun.{Begun}
use Rattle.ut_crowd.specs.declared.book.Turn.{Turn}
use Rattle.ut_crowd.specs.Book.{lines_in, answer_of, answers_in, IsStores}
use Rattle.ut_crowd.specs.Sorting.{IsRefused}
use Rattle.ut_crowd.specs.Asking.{IsAsked, IsTaken, Asks, begun_by, begun_in, is_refusal}

-- ---- no effect is told as a refusal

told_sound : (ts : List Table) (rows : List (ℕ × Stored)) (q : Query) → is_refusal (told ts rows q) ≡ false
told_sound ts rows (queries.Select a b c) = refl
told_sound ts rows (queries.Count a b) = refl
told_sound ts rows (queries.Sum a b c) = refl
told_sound ts rows (queries.Min a b c) = refl
told_sound ts rows (queries.Max a b c) = refl
told_sound ts rows (queries.Group a b c d) = refl
told_sound ts rows (queries.Join a b c d) = refl

alone_sound : (commits rows : ℕ) → is_refusal (said_alone commits rows) ≡ false
alone_sound commits zero = refl
alone_sound commits (suc n) = refl

changed_sound : (own : Option OpenTransaction) (commits rows : ℕ) → is_refusal (said_changed own commits rows) ≡ false
changed_sound None commits rows = alone_sound commits rows
changed_sound (Some t) commits rows = refl

by_sound : (p : Plain) (session : ℕ) (ops : List Op) → is_refusal (committed_by p session ops).reply ≡ false
by_sound p session [] = refl
by_sound p session (op ∷ ops) = refl

commit_sound : (p : Plain) (session : ℕ) (t : Option OpenTransaction) → is_refusal (committed p session t).reply ≡ false
commit_sound p session None = refl
commit_sound p session (Some t) = by_sound p session t.ops

end_sound : (p : Plain) (pending : Option PendingMerge) → is_refusal (merge_ended p pending).reply ≡ false
end_sound p None = refl
end_sound p (Some m) = refl

written_sound : (p : Plain) (n : ℕ) (phase : Phase) → is_refusal (save_written p n phase).reply ≡ false
written_sound p n Idle = refl
written_sound p n (Writing captured done pages image) = refl
written_sound p n (Sealed captured pages image) = refl

sealed_sound : (p : Plain) (phase : Phase) → is_refusal (save_sealed p phase).reply ≡ false
sealed_sound p Idle = refl
sealed_sound p (Writing captured done pages image) = refl
sealed_sound p (Sealed captured pages image) = refl

flipped_sound : (p : Plain) (phase : Phase) → is_refusal (save_flipped p phase).reply ≡ false
flipped_sound p Idle = refl
flipped_sound p (Writing captured done pages image) = refl
flipped_sound p (Sealed captured pages image) = refl

change_sound : (p : Plain) (session : ℕ) (st : Statement) → is_refusal (said_changed (view p session).own (view p session).commits (changes (view p session).tables (view p session).rows st)) ≡ false
change_sound p session st = changed_sound (view p session).own (view p session).commits (changes (view p session).tables (view p session).rows st)

effect_sound : (p : Plain) (session : ℕ) (st : Statement) → is_refusal (effect_of p session st).reply ≡ false
effect_sound p session (statements.Create a b) = refl
effect_sound p session (statements.Insert a b) = change_sound p session (statements.Insert a b)
effect_sound p session (statements.Bulk a b) = change_sound p session (statements.Bulk a b)
effect_sound p session (statements.Ask q) = told_sound (view p session).tables (view p session).rows q
effect_sound p session (statements.Update a b c d) = change_sound p session (statements.Update a b c d)
effect_sound p session (statements.Delete a b) = change_sound p session (statements.Delete a b)
effect_sound p session statements.Begin = refl
effect_sound p session statements.Commit = commit_sound p session (open_at p.sessions session)
effect_sound p session statements.Abort = refl
effect_sound p session (statements.MergeL1 a n) = refl
effect_sound p session (statements.MergeBegin a b) = refl
effect_sound p session statements.MergeEnd = end_sound p p.pending
effect_sound p session statements.SaveBegin = refl
effect_sound p session (statements.SaveStep n) = written_sound p n p.phase
effect_sound p session statements.SaveSeal = sealed_sound p p.phase
effect_sound p session statements.SaveFlip = flipped_sound p p.phase
effect_sound p session statements.SaveDrop = refl
effect_sound p session (statements.Shape a) = refl

-- ---- an answer comes to one state

stays_by : (why : Option Refusal) (p : Plain) (session : ℕ) (st : Statement) → (step_by why p session st).reply ≡ replies.Refused refusals.Memory → (step_by why p session st).plain ≡ p
stays_by (Some why) p session st h = refl
stays_by None p session st h = let no : true ≡ false = sym (ap is_refusal h) ∙ effect_sound p session st in cc

stays : (p : Plain) (session : ℕ) (st : Statement) (reply : Reply) → reply ≡ (step p session st).reply → reply ≡ replies.Refused refusals.Memory → (step p session st).plain ≡ p
stays p session st reply e f = stays_by (refusal (view p session) st) p session st (sym e ∙ f)

one_may : (p : Plain) (session : ℕ) (st : Statement) (reply : Reply) (q r : Plain) → MayAnswer p session st reply q → MayAnswer p session st reply r → q ≡ r
one_may p session st reply q r (Steps e f) (Steps g h) = f ∙ sym h
one_may p session st reply q r (Steps e f) (LacksMemory m g h) = f ∙ stays p session st reply e g ∙ sym h
one_may p session st reply q r (LacksMemory m e f) (Steps g h) = f ∙ sym (h ∙ stays p session st reply g e)
one_may p session st reply q r (LacksMemory m e f) (LacksMemory n g h) = f ∙ sym h

abbrev first_reply : List Answer → Reply
first_reply [] = replies.Done
first_reply (a ∷ more) = a.reply

one_line : (p : Plain) (line : Parsed) (here : List Answer) (q r : Plain) → AnswersLine p line here q → AnswersLine p line here r → q ≡ r
one_line p Comment here q r a b = a.1 ∙ sym b.1
one_line p Stranger here q r a b = a.1 ∙ sym b.1
one_line p (Bad session) here q r a b = a.1 ∙ sym b.1
one_line p (Good session st) here q r a b =
    let same : b.reply ≡ a.reply = ap first_reply (sym b.is ∙ a.is) in one_may p session st a.reply q r a.may (subst (λ (reply : Reply). MayAnswer p session st reply r) same b.may)

-- the answers to a line are as many, whatever stands behind them
record Parted (here here' rest rest' : List Answer) : Type 0 where
  pub front : here ≡ here'
  pub back : rest ≡ rest'

part_none : (here here' rest rest' : List Answer) → here ≡ [] → here' ≡ [] → here ++ rest ≡ here' ++ rest' → Parted here here' rest rest'
part_none here here' rest rest' e f g = record { front = e ∙ sym f; back = ap (λ xs. xs ++ rest) (sym e) ∙ g ∙ ap (λ xs. xs ++ rest') f }

abbrev rest_of : List Answer → List Answer
rest_of [] = []
rest_of (a ∷ more) = more

abbrev front_of : List Answer → List Answer
front_of [] = []
front_of (a ∷ more) = a ∷ []

part_one : (here here' rest rest' : List Answer) (a b : Answer) → here ≡ a ∷ [] → here' ≡ b ∷ [] → here ++ rest ≡ here' ++ rest' → Parted here here' rest rest'
part_one here here' rest rest' a b e f g =
    let both : a ∷ rest ≡ b ∷ rest' = ap (λ xs. xs ++ rest) (sym e) ∙ g ∙ ap (λ xs. xs ++ rest') f in
    record { front = e ∙ ap front_of both ∙ sym f; back = ap rest_of both }

parted : (p q : Plain) (line : Parsed) (here here' rest rest' : List Answer) (r s : Plain) → AnswersLine p line here r → AnswersLine q line here' s → here ++ rest ≡ here' ++ rest' → Parted here here' rest rest'
parted p q Comment here here' rest rest' r s a b e = part_none here here' rest rest' a.0 b.0 e
parted p q Stranger here here' rest rest' r s a b e = part_one here here' rest rest' _ _ a.0 b.0 e
parted p q (Bad session) here here' rest rest' r s a b e = part_one here here' rest rest' _ _ a.0 b.0 e
parted p q (Good session st) here here' rest rest' r s a b e = part_one here here' rest rest' _ _ a.is b.is e

one_state : (p : Plain) (lines : List Parsed) (answers : List Answer) (q r : Plain) → Answers p lines answers q → Answers p lines answers r → q ≡ r
one_state p [] answers q r a b = a.1 ∙ sym b.1
one_state p (line ∷ lines) answers q r a b =
    let s = parted p p line a.0 b.0 a.1 b.1 a.2 b.2 a.4 b.4 (sym a.3 ∙ b.3) in
    let mid : a.2 ≡ b.2 = one_line p line a.0 a.2 b.2 a.4 (subst (λ (here : List Answer). AnswersLine p line here b.2) (sym s.front) b.4) in
    one_state a.2 lines a.1 q r a.5 (subst (λ (m : Plain). Answers m lines a.1 r) (sym mid) (subst (λ (rest : List Answer). Answers b.2 lines rest r) (sym s.back) b.5))

answers_told : (p : Plain) (lines : List Parsed) (answers : List Answer) (lengths : List ℕ) (q : Plain) → Tells p lines answers lengths q → Answers p lines answers q
answers_told p [] answers lengths q t = (t.0, t.2)
answers_told p (line ∷ lines) answers lengths q t = (t.0, t.1, t.4, t.5, t.7.0, answers_told t.4 lines t.1 t.3 q t.8)

no_both : {A : Type 0} (b : Bool) → b ≡ true → b ≡ false → A
no_both true h k = cc
no_both false h k = cc

-- a store that is up runs from the state to which its answers come
pub running_at : (p : Plain) (disk : View) (lines : List Parsed) (answers : List Answer) (acks : List Ack) (was : View) (old : Logged) → old.down ≡ false → Course p disk lines answers acks was old → (q : Plain) → Answers p lines answers q → Runs old was q
running_at p disk lines answers acks was old up (Goes r runs tells none holding) q a =
    let same : r ≡ q = one_state p lines answers r q (answers_told p lines answers (lengths_of acks) r tells) a in
    subst (λ (s : Plain). Runs old was s) same runs
running_at p disk lines answers acks was old up (Failed journal r down told rose holding) q a = no_both old.down down up

-- ---- a turn more

pub asks_more : (l1 : ℕ) (last : Begun) (p : Plain) (book : List Turn) (t : Turn) → Asks l1 last p book → ((q : Plain) → Answers p (lines_in book) (answers_in book) q → IsAsked l1 (begun_in last book) q t.asked) → IsTaken t.asked t.reply → Asks l1 last p (book ++ t ∷ [])
asks_more l1 last p [] t asks given taken = (given p (refl, refl), taken, λ q a. tt)
asks_more l1 last p (u ∷ book) t asks given taken = (
  asks.0,
  asks.1,
  λ q a. asks_more l1 (begun_by last u.asked u.reply u.journal) q book t (asks.2 q a) (λ r answers. given r (answer_of u ∷ [], answers_in book, q, refl, a, answers)) taken,
)

pub begun_more : (last : Begun) (book : List Turn) (t : Turn) → begun_in last (book ++ t ∷ []) ≡ begun_by (begun_in last book) t.asked t.reply t.journal
begun_more last [] t = refl
begun_more last (u ∷ book) t = begun_more (begun_by last u.asked u.reply u.journal) book t

-- ---- the book of strangers

line_asked : (l1 : ℕ) (last : Begun) (p : Plain) (who : Option ℕ) (asked : Asked) → who ≡ None → IsStores who asked → IsAsked l1 last p asked
line_asked l1 last p who (Line bytes) e s = tt
line_asked l1 last p who (Store st) e s = let no : ◌≡◌ {A = Option ℕ} None (Some 0) = sym e ∙ s.0 in cc

line_taken : (who : Option ℕ) (asked : Asked) (reply : Reply) → who ≡ None → IsStores who asked → IsTaken asked reply
line_taken who (Line bytes) reply e s = tt
line_taken who (Store st) reply e s = let no : ◌≡◌ {A = Option ℕ} None (Some 0) = sym e ∙ s.0 in cc

line_begun : (last : Begun) (who : Option ℕ) (asked : Asked) (reply : Reply) (journal : ℕ) → who ≡ None → IsStores who asked → begun_by last asked reply journal ≡ last
line_begun last who (Line bytes) reply journal e s = refl
line_begun last who (Store st) reply journal e s = let no : ◌≡◌ {A = Option ℕ} None (Some 0) = sym e ∙ s.0 in cc

pub asks_none : (l1 : ℕ) (last : Begun) (p : Plain) (book : List Turn) (n m : ℕ) → All (IsRefused n m) book → Asks l1 last p book
asks_none l1 last p [] n m h = tt
asks_none l1 last p (t ∷ book) n m h =
    let first : IsRefused n m t = All-head (IsRefused n m) t book h in
    (line_asked l1 last p t.session t.asked first.nobody first.stores, line_taken t.session t.asked t.reply first.nobody first.stores, λ q a. asks_none l1 (begun_by last t.asked t.reply t.journal) q book n m (All-tail (IsRefused n m) t book h))

pub begun_none : (last : Begun) (book : List Turn) (n m : ℕ) → All (IsRefused n m) book → begun_in last book ≡ last
begun_none last [] n m h = refl
begun_none last (t ∷ book) n m h =
    let first : IsRefused n m t = All-head (IsRefused n m) t book h in
    ap (λ (l : Begun). begun_in l book) (line_begun last t.session t.asked t.reply t.journal first.nobody first.stores) ∙ begun_none last book n m (All-tail (IsRefused n m) t book h)

-- ---- the first table that is full

module _ (test : TableStages → Bool) where
  or_len : (b : Bool) (xs : Stages) → ℕ
  or_len b xs = cond (not b) (1 + position_or_len test xs) 0

  first_at : (xs : Stages) (n : ℕ) → n < length xs → ((k : ℕ) → k < n → test (stages_at xs k) ≡ false) → test (stages_at xs n) ≡ true → position_or_len test xs ≡ n
  unfolding or_len
  first_at [] n lt before at = absurd (omega (arith, lt))
  first_at (x ∷ xs) zero lt before at = ap (λ (b : Bool). or_len b xs) at
  first_at (x ∷ xs) (suc n) lt before at =
      let rest = first_at xs n (omega (arith, lt)) (λ k h. before (suc k) (omega (arith, h))) at in
      ap (λ (b : Bool). or_len b xs) (before zero (omega arith)) ∙ omega (arith, rest)

  none_at : (xs : Stages) → ((k : ℕ) → k < length xs → test (stages_at xs k) ≡ false) → position_or_len test xs ≡ length xs
  unfolding or_len
  none_at [] before = refl
  none_at (x ∷ xs) before =
      let rest = none_at xs (λ k h. before (suc k) (omega (arith, h))) in
      ap (λ (b : Bool). or_len b xs) (before zero (omega arith)) ∙ omega (arith, rest)

  pub found_at : (xs : Stages) (n : ℕ) → n < length xs → ((k : ℕ) → k < n → test (stages_at xs k) ≡ false) → test (stages_at xs n) ≡ true → position test xs ≡ Some n
  found_at xs n lt before at =
      let is = first_at xs n lt before at in
      ap (λ (m : ℕ). cond (ltb m (length xs)) (Some m) None) is ∙ ap (λ (b : Bool). cond b (Some n) None) (lt-ltb n (length xs) lt)

  pub found_none : (xs : Stages) → ((k : ℕ) → k < length xs → test (stages_at xs k) ≡ false) → position test xs ≡ None
  found_none xs before = ap (λ (m : ℕ). cond (ltb m (length xs)) (Some m) None) (none_at xs before) ∙ ap (λ (b : Bool). cond b (Some (length xs)) None) (no_lt (length xs))
    where
      no_lt : (n : ℕ) → ltb n n ≡ false
      no_lt n = grind arith
