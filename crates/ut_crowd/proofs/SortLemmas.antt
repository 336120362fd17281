-- Lines in the queues of their sessions, one line more at a time.
use Rattle.std.proofs.Common.{ℕ, zero, suc, ◌≡◌, ◌≢◌, Bool, true, false, cond, List, [], ◌∷◌, ◌++◌, Option, None, Some, length, refl, ap, ◌∙◌, sym, subst, arith, append_assoc, append-nil}
use Rattle.std.proofs.lemmas.Grind.{common_steps}
use Rattle.std.proofs.lemmas.List.Elements.{All-push, All-head, All-tail}
use Rattle.std.specs.Prelude.{nat_eq, map, All}
use Rattle.ut_outside.specs.Disk.{View, Image}
use Rattle.ut_plain.specs.declared.statement.Parsed.{Parsed}
use Rattle.ut_plain.specs.declared.statement.Parsed.TheVariants.{Comment, Stranger, Bad, Good}
use Rattle.ut_plain.specs.declared.reply.Reply.{Reply}
use Rattle.ut_plain.specs.declared.reply.Reply.TheVariants.{Refused}
use Rattle.ut_plain.specs.declared.reply.Refusal.TheVariants.{Syntax}
use Rattle.ut_plain.specs.Journal.{Journal, journal_len}
use Rattle.ut_plain.specs.Plain.{Plain}
use Rattle.ut_plain.specs.Transcript.{AnswersLine}
use Rattle.ut_script.specs.Grammar.{MayLackMemory, parsed}
use Rattle.ut_durable.specs.Journals.{HoldsPrefix}
use Rattle.ut_course.specs.Telling.{Tells}
use Rattle.ut_course.specs.Keeping.{lengths_of, AreKept}
use Rattle.ut_course.specs.Coming.{is_of, session_in}
use Rattle.ut_crowd.specs.declared.book.Asked.{Asked}
use Rattle.ut_crowd.specs.declared.book.Asked.TheVariants.{Line, Store}
use Rattle.ut_crowd.specs.declared.book.Turn.{Turn}
use Rattle.ut_crowd.specs.declared.sort.Whose.TheVariants as whoses
use Rattle.ut_crowd.specs.Book.{said, lines_in, answer_of, answers_in, acks_in, is_strangers, lines_of_session, line_by, lines_by, strangers}
use Rattle.ut_crowd.specs.Queues.{left_of}
use Rattle.ut_crowd.specs.Sorting.{whose_of, Adds, IsRefused, Sorted}

-- ---- whose a line is

none_session : (l : Parsed) → whose_of l ≡ whoses.Nothing → session_in l ≡ None
none_session Comment h = refl
none_session Stranger h = cc
none_session (Bad n) h = cc
none_session (Good n st) h = cc

none_strangers : (l : Parsed) → whose_of l ≡ whoses.Nothing → is_strangers l ≡ false
none_strangers Comment h = refl
none_strangers Stranger h = cc
none_strangers (Bad n) h = refl
none_strangers (Good n st) h = refl

nobodys_is : (l : Parsed) → whose_of l ≡ whoses.Nobodys → l ≡ Stranger
nobodys_is Comment h = cc
nobodys_is Stranger h = refl
nobodys_is (Bad n) h = cc
nobodys_is (Good n st) h = cc

of_session : (l : Parsed) (n : ℕ) → whose_of l ≡ whoses.Of n → session_in l ≡ Some n
of_session Comment n h = cc
of_session Stranger n h = cc
of_session (Bad m) n h = cc
of_session (Good m st) n h = cc

of_strangers : (l : Parsed) (n : ℕ) → whose_of l ≡ whoses.Of n → is_strangers l ≡ false
of_strangers Comment n h = refl
of_strangers Stranger n h = cc
of_strangers (Bad m) n h = refl
of_strangers (Good m st) n h = refl

pub lacking : (l : Parsed) (n : ℕ) → MayLackMemory n l → whoses.Of n ≡ whose_of l
lacking Comment n h = absurd h
lacking Stranger n h = absurd h
lacking (Bad m) n h = absurd h
lacking (Good m st) n h = ap whoses.Of (sym h.0)

-- ---- a line more

session_more : (s : ℕ) (lines : List (List ℕ)) (line : List ℕ) → lines_of_session s (lines ++ line ∷ []) ≡ lines_of_session s lines ++ cond (is_of s (session_in (parsed true line))) (line ∷ []) []
session_more s [] line = by (is_of s (session_in (parsed true line)))
  where
    by : (b : Bool) → cond b (line ∷ []) [] ≡ [] ++ cond b (line ∷ []) []
    by b = refl
session_more s (l ∷ lines) line = by (is_of s (session_in (parsed true l))) (session_more s lines line)
  where
    by : (b : Bool) → lines_of_session s (lines ++ line ∷ []) ≡ lines_of_session s lines ++ cond (is_of s (session_in (parsed true line))) (line ∷ []) []
        → cond b (l ∷ lines_of_session s (lines ++ line ∷ [])) (lines_of_session s (lines ++ line ∷ [])) ≡ cond b (l ∷ lines_of_session s lines) (lines_of_session s lines) ++ cond (is_of s (session_in (parsed true line))) (line ∷ []) []
    by true e = ap (λ (r : List (List ℕ)). l ∷ r) e
    by false e = e

strangers_more : (lines : List (List ℕ)) (line : List ℕ) → strangers (lines ++ line ∷ []) ≡ strangers lines ++ cond (is_strangers (parsed true line)) (Line line ∷ []) []
strangers_more [] line = refl
strangers_more (l ∷ lines) line = by (is_strangers (parsed true l)) (strangers_more lines line)
  where
    by : (b : Bool) → strangers (lines ++ line ∷ []) ≡ strangers lines ++ cond (is_strangers (parsed true line)) (Line line ∷ []) []
        → cond b (Line l ∷ strangers (lines ++ line ∷ [])) (strangers (lines ++ line ∷ [])) ≡ cond b (Line l ∷ strangers lines) (strangers lines) ++ cond (is_strangers (parsed true line)) (Line line ∷ []) []
    by true e = ap (λ (r : List Asked). Line l ∷ r) e
    by false e = e

session_by : (s : ℕ) (lines : List (List ℕ)) (line : List ℕ) (b : Bool) → is_of s (session_in (parsed true line)) ≡ b → lines_of_session s (lines ++ line ∷ []) ≡ lines_of_session s lines ++ cond b (line ∷ []) []
session_by s lines line b is = session_more s lines line ∙ ap (λ (t : Bool). lines_of_session s lines ++ cond t (line ∷ []) []) is

strangers_by : (lines : List (List ℕ)) (line : List ℕ) (b : Bool) → is_strangers (parsed true line) ≡ b → strangers (lines ++ line ∷ []) ≡ strangers lines ++ cond b (Line line ∷ []) []
strangers_by lines line b is = strangers_more lines line ∙ ap (λ (t : Bool). strangers lines ++ cond t (Line line ∷ []) []) is

map_more : {A B : Type 0} (f : A → B) (xs : List A) (x : A) → map f (xs ++ x ∷ []) ≡ map f xs ++ f x ∷ []
map_more f [] x = refl
map_more f (y ∷ ys) x = ap (λ l. f y ∷ l) (map_more f ys x)

pub sorted_none : (lines : List (List ℕ)) (line : List ℕ) (queues : List (List (List ℕ))) (book : List Turn) (n m : ℕ) → whose_of (parsed true line) ≡ whoses.Nothing → Sorted lines queues book n m → Sorted (lines ++ line ∷ []) queues book n m
sorted_none lines line queues book n m h s = record {
  each = λ k. s.each k ∙ sym (session_by k lines line false (ap (is_of k) (none_session (parsed true line) h)) ∙ append-nil (lines_of_session k lines));
  seats = s.seats;
  all = s.all ∙ sym (strangers_by lines line false (none_strangers (parsed true line) h) ∙ append-nil (strangers lines));
  turns = s.turns;
}

pub sorted_stranger : (lines : List (List ℕ)) (line : List ℕ) (queues : List (List (List ℕ))) (book : List Turn) (n m : ℕ) → whose_of (parsed true line) ≡ whoses.Nobodys → Sorted lines queues book n m
    → Sorted (lines ++ line ∷ []) queues (book ++ record { session = None; asked = Line line; reply = Refused Syntax; journal = n; moment = m } ∷ []) n m
sorted_stranger lines line queues book n m h s =
    let is = nobodys_is (parsed true line) h in
    let t : Turn = record { session = None; asked = Line line; reply = Refused Syntax; journal = n; moment = m } in
    record {
      each = λ k. s.each k ∙ sym (session_by k lines line false (ap (λ (l : Parsed). is_of k (session_in l)) is) ∙ append-nil (lines_of_session k lines));
      seats = s.seats;
      all = map_more (λ (u : Turn). u.asked) book t ∙ ap (λ l. l ++ Line line ∷ []) s.all ∙ sym (strangers_by lines line true (ap is_strangers is));
      turns = All-push (IsRefused n m) book t s.turns (record { stranger = is; nobody = refl; reply = refl; journal = refl; moment = refl; stores = tt });
    }

pub sorted_session : (lines : List (List ℕ)) (line : List ℕ) (queues now : List (List (List ℕ))) (book : List Turn) (n m session : ℕ) → whose_of (parsed true line) ≡ whoses.Of session → Adds queues session line now → length now ≡ length queues → Sorted lines queues book n m → Sorted (lines ++ line ∷ []) now book n m
sorted_session lines line queues now book n m session h adds same s = record {
  each = λ k. by k (nat_eq session k) refl;
  seats = same ∙ s.seats;
  all = s.all ∙ sym (strangers_by lines line false (of_strangers (parsed true line) session h) ∙ append-nil (strangers lines));
  turns = s.turns;
}
  where
    by : (k : ℕ) (b : Bool) → nat_eq session k ≡ b → left_of now k ≡ lines_of_session k (lines ++ line ∷ [])
    by k true is =
        let e : session ≡ k = grind (arith, common_steps, is) in
        subst (λ (j : ℕ). left_of now j ≡ left_of queues j ++ line ∷ []) e adds.last ∙ ap (λ l. l ++ line ∷ []) (s.each k)
        ∙ sym (session_by k lines line true (ap (is_of k) (of_session (parsed true line) session h) ∙ is))
    by k false is =
        let differs : k ≢ session = λ e. absurd (grind (arith, common_steps, e, is)) in
        adds.others k differs ∙ s.each k ∙ sym (session_by k lines line false (ap (is_of k) (of_session (parsed true line) session h) ∙ is) ∙ append-nil (lines_of_session k lines))

pub left_push : (qs : List (List (List ℕ))) → ((s : ℕ) → left_of qs s ≡ []) → (s : ℕ) → left_of (qs ++ [] ∷ []) s ≡ []
left_push [] h zero = refl
left_push [] h (suc s) = refl
left_push (q ∷ qs) h zero = h zero
left_push (q ∷ qs) h (suc s) = left_push qs (λ k. h (suc k)) s

-- ---- the book of strangers

by_nobody : (s : ℕ) (who : Option ℕ) (asked : Asked) → who ≡ None → line_by s who asked ≡ []
by_nobody s who (Line line) e = ap (λ (o : Option ℕ). line_by s o (Line line)) e
by_nobody s who (Store st) e = refl

pub by_nobodys : (s : ℕ) (book : List Turn) (n m : ℕ) → All (IsRefused n m) book → lines_by s book ≡ []
by_nobodys s [] n m h = refl
by_nobodys s (t ∷ book) n m h =
    let first : IsRefused n m t = All-head (IsRefused n m) t book h in
    ap (λ l. l ++ lines_by s book) (by_nobody s t.session t.asked first.nobody) ∙ by_nobodys s book n m (All-tail (IsRefused n m) t book h)

answer_is : (t : Turn) → t.session ≡ None → t.reply ≡ Refused Syntax → answer_of t ∷ [] ≡ record { session = None; reply = Refused Syntax } ∷ []
answer_is t e f = ap (λ (o : Option ℕ). record { session = o; reply = t.reply } ∷ []) e ∙ ap (λ (r : Reply). record { session = None; reply = r } ∷ []) f

pub refused_tell : (p : Plain) (book : List Turn) (n m : ℕ) → n ≡ journal_len p.journal → All (IsRefused n m) book → Tells p (lines_in book) (answers_in book) (lengths_of (acks_in book)) p
refused_tell p [] n m e h = (refl, refl, refl)
refused_tell p (t ∷ book) n m e h =
    let first : IsRefused n m t = All-head (IsRefused n m) t book h in
    let answers : AnswersLine p (said t.asked) (answer_of t ∷ []) p = subst (λ (l : Parsed). AnswersLine p l (answer_of t ∷ []) p) (sym first.stranger) (answer_is t first.nobody first.reply, refl) in
    (answer_of t ∷ [], answers_in book, t.journal ∷ [], lengths_of (acks_in book), p, refl, refl, (answers, ap (λ (k : ℕ). k ∷ []) (first.journal ∙ e)), refused_tell p book n m e (All-tail (IsRefused n m) t book h))

pub refused_kept : (now : View) (j : Journal) (book : List Turn) (n m : ℕ) → n ≡ journal_len j → m ≡ now.moment → ((c : Image) → now.crash_states_since now.moment c → HoldsPrefix j (journal_len j) c) → All (IsRefused n m) book → AreKept now j (acks_in book)
refused_kept now j [] n m e f holds h = tt
refused_kept now j (t ∷ book) n m e f holds h =
    let first : IsRefused n m t = All-head (IsRefused n m) t book h in
    let length : t.journal ≡ journal_len j = first.journal ∙ e in
    let moment : t.moment ≡ now.moment = first.moment ∙ f in (
      record {
        past = omega (arith, moment);
        no_more = omega (arith, length);
        holds = λ c left. subst (λ (k : ℕ). HoldsPrefix j k c) (sym length) (holds c (subst (λ (k : ℕ). now.crash_states_since k c) moment left));
      },
      refused_kept now j book n m e f holds (All-tail (IsRefused n m) t book h),
    )

pub next_done : (done : List (List ℕ)) (line : List ℕ) (now was all : List (List ℕ)) → was ≡ line ∷ now → done ++ was ≡ all → (done ++ line ∷ []) ++ now ≡ all
next_done done line now was all e f = append_assoc done (line ∷ []) now ∙ ap (λ (r : List (List ℕ)). done ++ r) (sym e) ∙ f
