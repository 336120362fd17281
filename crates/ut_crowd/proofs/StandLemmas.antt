-- What a turn more keeps of a hall.
use base.Fml.{GName}
use Rattle.std.proofs.Common.{inl, ℕ, ◌≡◌, ◌≤◌, Bool, true, false, List, [], ◌∷◌, ◌++◌, Option, None, Some, refl, ap, ◌∙◌, sym, subst, arith, append-nil}
use Rattle.std.specs.Prelude.{map, IsTrue}
use Rattle.ut_outside.specs.Disk.{View, Image, IsTold}
use Rattle.ut_outside.specs.declared.ack.Ack.{Ack}
use Rattle.ut_plain.specs.declared.statement.Parsed.{Parsed}
use Rattle.ut_plain.specs.declared.statement.Parsed.TheVariants.{Good}
use Rattle.ut_plain.specs.declared.statement.Statement.{Statement}
use Rattle.ut_plain.specs.declared.statement.Statement.TheVariants as statements
use Rattle.ut_plain.specs.declared.reply.Reply.{Reply}
use Rattle.ut_plain.specs.Journal.{journal_len}
use Rattle.ut_plain.specs.Spelled.{is_spelled}
use Rattle.ut_plain.specs.Plain.{Plain}
use Rattle.ut_plain.specs.Transcript.{Answer}
use Rattle.ut_merge.specs.Jobs.{JobValue}
use Rattle.ut_store.specs.Standing.{is_of_store}
use Rattle.ut_script.specs.Grammar.{parsed}
use Rattle.ut_engine.specs.Logged.{Logged}
use Rattle.ut_engine.specs.Runs.{Runs}
use Rattle.ut_durable.specs.Journals.{HoldsPrefix}
use Rattle.ut_course.specs.Coming.{Comes, asks_merge, is_of_merge, length_after}
use Rattle.ut_course.specs.Course.{Course, Goes, Failed}
use Rattle.ut_course.proofs.KeepLemmas.{OnlyNow, CountsNow, runs_whole, goes_nowhere}
use Rattle.ut_course.proofs.CourseLemmas.{course_more}
use Rattle.ut_course.proofs.SessionLemmas.{line_asks}
use Rattle.ut_crowd.specs.declared.book.Asked.{Asked}
use Rattle.ut_crowd.specs.declared.book.Asked.TheVariants.{Line, Store}
use Rattle.ut_crowd.specs.declared.book.Begun.{Begun}
use Rattle.ut_crowd.specs.declared.book.Turn.{Turn}
use Rattle.ut_crowd.specs.Ground.{Ground}
use Rattle.ut_crowd.specs.Book.{said, lines_in, answer_of, answers_in, ack_of, acks_in, strangers, lines_of_session}
use Rattle.ut_crowd.specs.Queues.{Takes, TakesNone, left_of}
use Rattle.ut_crowd.specs.Sorting.{Sorted}
use Rattle.ut_crowd.specs.Asking.{StoreAsks, IsAsked, IsTaken, Asks, begun_by, begun_first, begun_in}
use Rattle.ut_crowd.specs.Standing.{IsHeld, StandsOn, Starts}
use Rattle.ut_crowd.specs.Dating.{WasLeft, AreInOrder, AreTimely}
use Rattle.ut_crowd.proofs.DatingLemmas.{SeenStays, left_now, order_turn, strangers_in_order, strangers_timely, timely_turn}
use Rattle.ut_crowd.proofs.AskingLemmas.{running_at, asks_more, begun_more, asks_none, begun_none}
use Rattle.ut_crowd.proofs.SortLemmas.{by_nobodys, refused_tell, refused_kept}
use Rattle.ut_crowd.proofs.TextLaws.{store_line_read}
use Rattle.ut_crowd.proofs.WeaveLemmas.{weaves_more, weaves_same, weaves_stored}

map_more : {A B : Type 0} (f : A → B) (xs : List A) (x : A) → map f (xs ++ x ∷ []) ≡ map f xs ++ f x ∷ []
map_more f [] x = refl
map_more f (y ∷ ys) x = ap (λ l. f y ∷ l) (map_more f ys x)

-- the turn of a reply that was told just now
abbrev pub turn_now : ℕ → Asked → Turn → Logged → Logged → View → Type 0
turn_now session asked t old new now =
    (t.session ≡ Some session) × (t.asked ≡ asked) × (t.journal ≡ length_after t.reply old.store.counts.entries new.store.counts.entries) × (t.moment ≡ now.moment)

-- ---- the course of a book with one turn more

module _ (p : Plain) (disk : View) (book : List Turn) (was : View) (old : Logged) (t : Turn) (session : ℕ) (asked : Asked) (now : View) (new : Logged) where
  course_by : (lines : List Parsed) (answers : List Answer) (acks : List Ack) → lines_in (book ++ t ∷ []) ≡ lines → answers_in (book ++ t ∷ []) ≡ answers → acks_in (book ++ t ∷ []) ≡ acks
      → Course p disk lines answers acks now new → Course p disk (lines_in (book ++ t ∷ [])) (answers_in (book ++ t ∷ [])) (acks_in (book ++ t ∷ [])) now new
  course_by lines answers acks e f g course =
      subst (λ (ls : List Parsed). Course p disk ls (answers_in (book ++ t ∷ [])) (acks_in (book ++ t ∷ [])) now new) (sym e)
      (subst (λ (xs : List Answer). Course p disk lines xs (acks_in (book ++ t ∷ [])) now new) (sym f)
      (subst (λ (ks : List Ack). Course p disk lines answers ks now new) (sym g) course))

  course_turn : OnlyNow now → CountsNow now → now.told ≡ was.told → disk.faults ≤ was.faults → turn_now session asked t old new now → old.down ≡ false → Comes old was (said asked) (Some session) t.reply new now
      → Course p disk (lines_in book) (answers_in book) (acks_in book) was old → Course p disk (lines_in (book ++ t ∷ [])) (answers_in (book ++ t ∷ [])) (acks_in (book ++ t ∷ [])) now new
  course_turn only counts same le turn up comes course =
      let n = length_after t.reply old.store.counts.entries new.store.counts.entries in course_by
      (lines_in book ++ said asked ∷ [])
      (answers_in book ++ record { session = Some session; reply = t.reply } ∷ [])
      (acks_in book ++ record { journal = n; moment = now.moment } ∷ [])
      (map_more (λ (u : Turn). said u.asked) book t ∙ ap (λ (a : Asked). lines_in book ++ said a ∷ []) turn.1)
      (map_more answer_of book t ∙ ap (λ (o : Option ℕ). answers_in book ++ record { session = o; reply = t.reply } ∷ []) turn.0)
      (map_more ack_of book t ∙ ap (λ (k : ℕ). acks_in book ++ record { journal = k; moment = t.moment } ∷ []) turn.2 ∙ ap (λ (m : ℕ). acks_in book ++ record { journal = n; moment = m } ∷ []) turn.3)
      (course_more p disk (lines_in book) (answers_in book) (acks_in book) was old (said asked) (Some session) t.reply now new only counts same le up comes course)

-- ---- the job

no_both : {A : Type 0} (b : Bool) → b ≡ true → b ≡ false → A
no_both true h k = cc
no_both false h k = cc

running : (p : Plain) (disk : View) (lines : List Parsed) (answers : List Answer) (acks : List Ack) (was : View) (old : Logged) → old.down ≡ false → Course p disk lines answers acks was old → (q : Plain) × Runs old was q
running p disk lines answers acks was old up (Goes q runs tells none holding) = (q, runs)
running p disk lines answers acks was old up (Failed journal q down told rose holding) = no_both old.down down up

held_more : (g : Ground) (queues : List (List (List ℕ))) (book : List Turn) (name : GName) (was now : View) (old new : Logged) (job : Option JobValue) (l1 : ℕ) (last : Begun) (line : Parsed) (who : Option ℕ) (t : Turn) → asks_merge line ≡ false → old.down ≡ false
    → Comes old was line who t.reply new now → StandsOn g queues book name was old job l1 last → IsHeld job new
held_more g queues book name was now old new None l1 last line who t none up comes s = tt
held_more g queues book name was now old new (Some job) l1 last line who t none up comes s =
    let p = s.some in
    let q = running p.0 g.disk (lines_in book) (answers_in book) (acks_in book) was old up (s.course p.0 p.1) in
    comes.job q.0 q.1 none ∙ s.held

-- ---- one turn more

-- a turn that was answered just now, by a journal of so many entries before
abbrev pub turn_with : (session : ℕ) → Asked → (before : ℕ) → Reply → Logged → View → Turn
turn_with session asked before reply new now = record { session = Some session; asked = asked; reply = reply; journal = length_after reply before new.store.counts.entries; moment = now.moment }

reply_is : (session : ℕ) (asked : Asked) (before : ℕ) (reply : Reply) (t : Turn) (new : Logged) (now : View) → t ≡ turn_with session asked before reply new now → t.reply ≡ reply
reply_is session asked before reply t new now e = ap (λ (u : Turn). u.reply) e

turn_is : (session : ℕ) (asked : Asked) (before : ℕ) (reply : Reply) (t : Turn) (old new : Logged) (now : View) → t ≡ turn_with session asked before reply new now → before ≡ old.store.counts.entries → turn_now session asked t old new now
turn_is session asked before reply t old new now e f = (
  ap (λ (u : Turn). u.session) e,
  ap (λ (u : Turn). u.asked) e,
  ap (λ (u : Turn). u.journal) e ∙ ap (λ (n : ℕ). length_after reply n new.store.counts.entries) f ∙ ap (λ (r : Reply). length_after r old.store.counts.entries new.store.counts.entries) (sym (reply_is session asked before reply t new now e)),
  ap (λ (u : Turn). u.moment) e,
)

-- what the store asks, and the last savepoint that began, one turn more
module _ (g : Ground) (queues : List (List (List ℕ))) (book : List Turn) (name : GName) (was : View) (old : Logged) (job : Option JobValue) (l1 : ℕ) (last : Begun) (t : Turn) (asked : Asked) (is : t.asked ≡ asked) (s : StandsOn g queues book name was old job l1 last) where
  asks_on : old.down ≡ false → ((q : Plain) → Runs old was q → IsAsked l1 last q asked) → IsTaken asked t.reply → (p : Plain) → g.from p → Asks g.l1 (begun_first p) p (book ++ t ∷ [])
  asks_on up may taken p from =
      asks_more g.l1 (begun_first p) p book t (s.asks p from)
      (λ q a.
      let runs = running_at p g.disk (lines_in book) (answers_in book) (acks_in book) was old up (s.course p from) q a in
      subst (λ (x : Asked). IsAsked g.l1 (begun_in (begun_first p) book) q x) (sym is)
      (subst (λ (b : Begun). IsAsked g.l1 b q asked) (s.last_is p from) (subst (λ (n : ℕ). IsAsked n last q asked) s.l1_is (may q runs))))
      (subst (λ (x : Asked). IsTaken x t.reply) (sym is) taken)

  last_on : (last' : Begun) → last' ≡ begun_by last asked t.reply t.journal → (p : Plain) → g.from p → last' ≡ begun_in (begun_first p) (book ++ t ∷ [])
  last_on last' e p from =
      e ∙ ap (λ (b : Begun). begun_by b asked t.reply t.journal) (s.last_is p from)
      ∙ ap (λ (x : Asked). begun_by (begun_in (begun_first p) book) x t.reply t.journal) (sym is)
      ∙ sym (begun_more (begun_first p) book t)

-- the moments ascend, one turn more
ordered_on : (g : Ground) (queues : List (List (List ℕ))) (book : List Turn) (name : GName) (was now : View) (old new : Logged) (job : Option JobValue) (l1 : ℕ) (last : Begun) (session : ℕ) (asked : Asked) (line : Parsed) (t : Turn) → turn_now session asked t old new now → old.down ≡ false
    → Comes old was line (Some session) t.reply new now → StandsOn g queues book name was old job l1 last → IsTold g.disk → AreInOrder (book ++ t ∷ [])
ordered_on g queues book name was now old new job l1 last session asked line t turn up comes s told =
    let p = s.some in
    let q = running p.0 g.disk (lines_in book) (answers_in book) (acks_in book) was old up (s.course p.0 p.1) in
    order_turn q.0 line (Some session) was now new t turn.3 (s.told ∙ told) book (comes.each q.0 q.1) (s.timely told) (s.ordered told)

-- no turn's moment is past the next entry of the log, one turn more
timely_on : (g : Ground) (queues : List (List (List ℕ))) (book : List Turn) (name : GName) (was now : View) (old new : Logged) (job : Option JobValue) (l1 : ℕ) (last : Begun) (session : ℕ) (asked : Asked) (line : Parsed) (t : Turn) → turn_now session asked t old new now → CountsNow now → SeenStays now → old.down ≡ false
    → Comes old was line (Some session) t.reply new now → StandsOn g queues book name was old job l1 last → IsTold g.disk → AreTimely now (book ++ t ∷ [])
timely_on g queues book name was now old new job l1 last session asked line t turn counts stays up comes s told =
    let p = s.some in
    let q = running p.0 g.disk (lines_in book) (answers_in book) (acks_in book) was old up (s.course p.0 p.1) in
    let here : IsTold was = s.told ∙ told in
    timely_turn q.0 line session was now old new t turn.3 turn.2 counts stays here (comes.told ∙ here) book (comes.each q.0 q.1) (s.timely told)

-- a line more was answered
stands_more : (g : Ground) (queues left : List (List (List ℕ))) (book : List Turn) (name name' : GName) (was now : View) (old new : Logged) (job : Option JobValue) (l1 : ℕ) (last : Begun) (session : ℕ) (line : List ℕ) (t : Turn) → turn_now session (Line line) t old new now
    → Takes queues session line left → Comes old was (parsed true line) (Some session) t.reply new now → name' ≡ name → old.down ≡ false → OnlyNow now → CountsNow now → SeenStays now
    → StandsOn g queues book name was old job l1 last → StandsOn g left (book ++ t ∷ []) name' now new job l1 last
stands_more g queues left book name name' was now old new job l1 last session line t turn takes comes same up only counts stays s = record {
  weaves = weaves_more g.lines queues left book session line t turn.0 turn.1 takes s.weaves;
  some = s.some;
  course = λ p from. course_turn p g.disk book was old t session (Line line) now new only counts comes.told s.faults turn up comes (s.course p from);
  asks = asks_on g queues book name was old job l1 last t (Line line) turn.1 s up (λ q runs. tt) tt;
  last_is = last_on g queues book name was old job l1 last t (Line line) turn.1 s last refl;
  l1_is = s.l1_is;
  range = s.range;
  ordered = ordered_on g queues book name was now old new job l1 last session (Line line) (parsed true line) t turn up comes s;
  timely = timely_on g queues book name was now old new job l1 last session (Line line) (parsed true line) t turn counts stays up comes s;
  told = comes.told ∙ s.told;
  faults = omega (arith, s.faults, comes.later);
  loan = s.loan ∙ ap Some (sym same);
  held = held_more g queues book name was now old new job l1 last (parsed true line) (Some session) t (line_asks line) up comes s;
}

-- what the book has of a statement of the store is read as that statement
read_as : (old : Logged) (was : View) (st : Statement) (t : Turn) (new : Logged) (now : View) → IsTrue (is_of_store st) → IsTrue (is_spelled st) → Comes old was (Good 0 st) (Some 0) t.reply new now → Comes old was (said (Store st)) (Some 0) t.reply new now
read_as old was st t new now of spelled comes = subst (λ (line : Parsed). Comes old was line (Some 0) t.reply new now) (sym (store_line_read st of spelled)) comes

-- a statement of the store was answered; which job the hall has then
stands_asked : (g : Ground) (queues : List (List (List ℕ))) (book : List Turn) (name name' : GName) (was now : View) (old new : Logged) (job job' : Option JobValue) (l1 : ℕ) (last last' : Begun) (st : Statement) (t : Turn) → IsTrue (is_of_store st) → IsTrue (is_spelled st)
    → ((q : Plain) → Runs old was q → StoreAsks l1 last q st) → IsTaken (Store st) t.reply → last' ≡ begun_by last (Store st) t.reply t.journal → IsHeld job' new
    → turn_now 0 (Store st) t old new now → Comes old was (Good 0 st) (Some 0) t.reply new now → name' ≡ name → old.down ≡ false → OnlyNow now → CountsNow now → SeenStays now
    → StandsOn g queues book name was old job l1 last → StandsOn g queues (book ++ t ∷ []) name' now new job' l1 last'
stands_asked g queues book name name' was now old new job job' l1 last last' st t of spelled may taken last_is held turn comes same up only counts stays s = record {
  weaves = weaves_stored g.lines queues book st t of turn.0 turn.1 s.weaves;
  some = s.some;
  course = λ p from. course_turn p g.disk book was old t 0 (Store st) now new only counts comes.told s.faults turn up (read_as old was st t new now of spelled comes) (s.course p from);
  asks = asks_on g queues book name was old job l1 last t (Store st) turn.1 s up may taken;
  last_is = last_on g queues book name was old job l1 last t (Store st) turn.1 s last' last_is;
  l1_is = s.l1_is;
  range = s.range;
  ordered = ordered_on g queues book name was now old new job l1 last 0 (Store st) (Good 0 st) t turn up comes s;
  timely = timely_on g queues book name was now old new job l1 last 0 (Store st) (Good 0 st) t turn counts stays up comes s;
  told = comes.told ∙ s.told;
  faults = omega (arith, s.faults, comes.later);
  loan = s.loan ∙ ap Some (sym same);
  held = held;
}

-- a statement that neither begins a merge nor ends one is no end
taken_by : (st : Statement) (reply : Reply) → is_of_merge st ≡ false → IsTaken (Store st) reply
taken_by (statements.Create table columns) reply h = tt
taken_by (statements.Insert table values) reply h = tt
taken_by (statements.Bulk table values) reply h = tt
taken_by (statements.Ask query) reply h = tt
taken_by (statements.Update table column value preds) reply h = tt
taken_by (statements.Delete table preds) reply h = tt
taken_by statements.Begin reply h = tt
taken_by statements.Commit reply h = tt
taken_by statements.Abort reply h = tt
taken_by (statements.MergeL1 table n) reply h = tt
taken_by (statements.MergeBegin table kind) reply h = tt
taken_by statements.MergeEnd reply h = cc
taken_by statements.SaveBegin reply h = tt
taken_by (statements.SaveStep n) reply h = tt
taken_by statements.SaveSeal reply h = tt
taken_by statements.SaveFlip reply h = tt
taken_by statements.SaveDrop reply h = tt
taken_by (statements.Shape table) reply h = tt

-- ---- the same, by the turn that the code makes

pub stands_line : (g : Ground) (queues left : List (List (List ℕ))) (book : List Turn) (name name' : GName) (was now : View) (old new : Logged) (job : Option JobValue) (l1 : ℕ) (last : Begun) (session before : ℕ) (line : List ℕ) (reply : Reply) (t : Turn) → t ≡ turn_with session (Line line) before reply new now → before ≡ old.store.counts.entries
    → Takes queues session line left → Comes old was (parsed true line) (Some session) reply new now → name' ≡ name → old.down ≡ false → OnlyNow now → CountsNow now → SeenStays now
    → StandsOn g queues book name was old job l1 last → StandsOn g left (book ++ t ∷ []) name' now new job l1 last
stands_line g queues left book name name' was now old new job l1 last session before line reply t e f takes comes same up only counts stays s = stands_more g queues left book name name' was now old new job l1 last session line t (turn_is session (Line line) before reply t old new now e f) takes
    (subst (λ (r : Reply). Comes old was (parsed true line) (Some session) r new now) (sym (reply_is session (Line line) before reply t new now e)) comes) same up only counts stays s

-- one that neither begins a merge nor ends it
pub stands_said : (g : Ground) (queues : List (List (List ℕ))) (book : List Turn) (name name' : GName) (was now : View) (old new : Logged) (job : Option JobValue) (l1 : ℕ) (last last' : Begun) (before : ℕ) (st : Statement) (reply : Reply) (t : Turn) → t ≡ turn_with 0 (Store st) before reply new now → before ≡ old.store.counts.entries
    → IsTrue (is_of_store st) → IsTrue (is_spelled st) → is_of_merge st ≡ false → ((q : Plain) → Runs old was q → StoreAsks l1 last q st) → last' ≡ begun_by last t.asked t.reply t.journal
    → Comes old was (Good 0 st) (Some 0) reply new now → name' ≡ name → old.down ≡ false → OnlyNow now → CountsNow now → SeenStays now
    → StandsOn g queues book name was old job l1 last → StandsOn g queues (book ++ t ∷ []) name' now new job l1 last'
stands_said g queues book name name' was now old new job l1 last last' before st reply t e f of spelled none may last_is comes same up only counts stays s =
    let turn = turn_is 0 (Store st) before reply t old new now e f in
    let says : Comes old was (Good 0 st) (Some 0) t.reply new now = subst (λ (r : Reply). Comes old was (Good 0 st) (Some 0) r new now) (sym (reply_is 0 (Store st) before reply t new now e)) comes in stands_asked g queues book name name' was now old new job job l1 last last' st t of spelled may (taken_by st t.reply none)
    (last_is ∙ ap (λ (x : Asked). begun_by last x t.reply t.journal) turn.1)
    (held_more g queues book name was now old new job l1 last (Good 0 st) (Some 0) t none up says s)
    turn says same up only counts stays s

-- one that does; the last savepoint that began stays, and behind it the hall has no job
pub stands_jobless : (g : Ground) (queues : List (List (List ℕ))) (book : List Turn) (name name' : GName) (was now : View) (old new : Logged) (job : Option JobValue) (l1 : ℕ) (last : Begun) (before : ℕ) (st : Statement) (reply : Reply) (t : Turn) → t ≡ turn_with 0 (Store st) before reply new now → before ≡ old.store.counts.entries
    → IsTrue (is_of_store st) → IsTrue (is_spelled st) → ((q : Plain) → Runs old was q → StoreAsks l1 last q st) → IsTaken (Store st) reply → last ≡ begun_by last (Store st) t.reply t.journal
    → Comes old was (Good 0 st) (Some 0) reply new now → name' ≡ name → old.down ≡ false → OnlyNow now → CountsNow now → SeenStays now
    → StandsOn g queues book name was old job l1 last → StandsOn g queues (book ++ t ∷ []) name' now new None l1 last
stands_jobless g queues book name name' was now old new job l1 last before st reply t e f of spelled may taken last_is comes same up only counts stays s =
    stands_asked g queues book name name' was now old new job None l1 last last st t of spelled may
    (subst (λ (r : Reply). IsTaken (Store st) r) (sym (reply_is 0 (Store st) before reply t new now e)) taken) last_is tt (turn_is 0 (Store st) before reply t old new now e f)
    (subst (λ (r : Reply). Comes old was (Good 0 st) (Some 0) r new now) (sym (reply_is 0 (Store st) before reply t new now e)) comes) same up only counts stays s

-- there was no line to take
pub stands_same : (g : Ground) (queues left : List (List (List ℕ))) (book : List Turn) (name : GName) (now : View) (store : Logged) (job : Option JobValue) (l1 : ℕ) (last : Begun) (session : ℕ) → TakesNone queues session left → StandsOn g queues book name now store job l1 last → StandsOn g left book name now store job l1 last
stands_same g queues left book name now store job l1 last session none s = record {
  weaves = weaves_same g.lines queues left book session none s.weaves;
  some = s.some;
  course = s.course;
  asks = s.asks;
  last_is = s.last_is;
  l1_is = s.l1_is;
  range = s.range;
  ordered = s.ordered;
  timely = s.timely;
  told = s.told;
  faults = s.faults;
  loan = s.loan;
  held = s.held;
}

-- ---- the beginning

abbrev pub begun_at : ℕ → Begun
begun_at n = record { entries = n; pages = 0 }

pub starts_stand : (g : Ground) (lines : List (List ℕ)) (queues : List (List (List ℕ))) (book : List Turn) (n m : ℕ) (name : GName) (now : View) (store : Logged) (l1 : ℕ) → n ≡ store.store.counts.entries → m ≡ now.moment → OnlyNow now → CountsNow now → SeenStays now → Sorted lines queues book n m
    → Starts g lines name now store l1 → StandsOn g queues book name now store None l1 (begun_at n)
starts_stand g lines queues book n m name now store l1 e f only counts stays sorted s = record {
  weaves = record {
    each = λ k. ap (λ l. l ++ left_of queues k) (by_nobodys k book n m sorted.turns) ∙ sorted.each k ∙ ap (lines_of_session k) (sym s.lines_are);
    first = book;
    rest = [];
    parts = sym (append-nil book);
    nobodys = λ k d lt. (sorted.turns k d lt).nobody;
    all = sorted.all ∙ ap strangers (sym s.lines_are);
    somebodys = λ k d lt. absurd (omega (arith, lt));
    stores = λ k d lt. (sorted.turns k d lt).stores;
  };
  some = s.some;
  course = λ p from. begun p (s.runs p from);
  asks = λ p from. asks_none g.l1 (begun_first p) p book n m sorted.turns;
  last_is = λ p from. ap begun_at (e ∙ (s.runs p from).stands.counts.entries) ∙ sym (begun_none (begun_first p) book n m sorted.turns);
  l1_is = s.l1_is;
  range = s.range;
  ordered = λ told. strangers_in_order book n m sorted.turns;
  timely = λ told.
      let p = s.some in
      let runs = s.runs p.0 p.1 in
      let left = left_now store now p.0 counts stays runs (s.told ∙ told) in
      strangers_timely now book n m f (subst (λ (k : ℕ). WasLeft now k m) (sym (e ∙ runs.stands.counts.entries)) (subst (λ (k : ℕ). WasLeft now (journal_len p.0.journal) k) (sym f) left)) sorted.turns;
  told = s.told;
  faults = let k = s.faults in omega (arith, k);
  loan = s.loan;
  held = tt;
}
  where
    begun : (p : Plain) → Runs store now p → Course p g.disk (lines_in book) (answers_in book) (acks_in book) now store
    begun p runs =
        let entries : n ≡ journal_len p.journal = e ∙ runs.stands.counts.entries in
        Goes p runs (refused_tell p book n m entries sorted.turns) s.faults (λ told.
        let here : IsTold now = s.told ∙ told in
        let whole : (c : Image) → now.crash_states_since now.moment c → HoldsPrefix p.journal (journal_len p.journal) c = λ c left. runs_whole store now p runs here c (only c left) in
        record {
          told = here;
          grows = goes_nowhere p.journal;
          acknowledged = refused_kept now p.journal book n m entries f whole sorted.turns;
          since = record {
            later = let k = s.moment in omega (arith, k);
            each = λ c left. whole c (subst (λ (t : ℕ). now.crash_states_since t c) (sym s.moment) left);
            before = λ t c le left. inl (s.since t c left);
            keeps = λ t c le left. s.keeps t c left;
          };
        })
