-- What a turn more keeps of a weave.
use Rattle.std.proofs.Common.{ℕ, ◌+◌, ◌≡◌, ◌≢◌, ◌<◌, Bool, true, false, cond, List, [], ◌∷◌, ◌++◌, Option, Some, refl, ap, ◌∙◌, sym, subst, arith, append_assoc, append-nil}
use Rattle.std.proofs.lemmas.Grind.{common_steps}
use Rattle.std.proofs.lemmas.List.Elements.{All-push}
use Rattle.std.specs.Prelude.{nat_eq, IsTrue}
use Rattle.ut_plain.specs.declared.statement.Statement.{Statement}
use Rattle.ut_store.specs.Standing.{is_of_store}
use Rattle.ut_script.specs.Grammar.{parsed}
use Rattle.ut_course.specs.Coming.{is_of, session_in}
use Rattle.ut_crowd.specs.declared.book.Asked.{Asked}
use Rattle.ut_crowd.specs.declared.book.Asked.TheVariants.{Line, Store}
use Rattle.ut_crowd.specs.declared.book.Turn.{Turn}
use Rattle.ut_crowd.specs.Book.{lines_of_session, line_by, lines_by, IsSomebodys, IsStores}
use Rattle.ut_crowd.specs.Queues.{left_of, Takes, TakesNone, HasNone, Weaves, HasAnswered}

own_by : (s : ℕ) (b : Bool) (l : List ℕ) (later before : List (List ℕ)) (line : List ℕ) (after : List (List ℕ)) → is_of s (session_in (parsed true l)) ≡ b → before ++ line ∷ after ≡ cond b (l ∷ later) later
    → ((bs : List (List ℕ)) → bs ++ line ∷ after ≡ later → is_of s (session_in (parsed true line)) ≡ true) → is_of s (session_in (parsed true line)) ≡ true
own_by s true l later [] line after is e f = let here : l ≡ line = cc in subst (λ (x : List ℕ). is_of s (session_in (parsed true x)) ≡ true) here is
own_by s true l later (x ∷ xs) line after is e f = let rest : xs ++ line ∷ after ≡ later = cc in f xs rest
own_by s false l later before line after is e f = f before e

-- a line of a session's is of that session
own_line : (s : ℕ) (lines before : List (List ℕ)) (line : List ℕ) (after : List (List ℕ)) → before ++ line ∷ after ≡ lines_of_session s lines → is_of s (session_in (parsed true line)) ≡ true
own_line s [] [] line after e = cc
own_line s [] (x ∷ xs) line after e = cc
own_line s (l ∷ lines) before line after e = own_by s (is_of s (session_in (parsed true l))) l (lines_of_session s lines) before line after refl e (λ bs k. own_line s lines bs line after k)

by_more : (s : ℕ) (book : List Turn) (t : Turn) → lines_by s (book ++ t ∷ []) ≡ lines_by s book ++ line_by s t.session t.asked
by_more s [] t = append-nil (line_by s t.session t.asked)
by_more s (u ∷ book) t = ap (λ l. line_by s u.session u.asked ++ l) (by_more s book t) ∙ sym (append_assoc (line_by s u.session u.asked) (lines_by s book) (line_by s t.session t.asked))

-- the next line of a session is its own
pub next_own : (lines : List (List ℕ)) (queues now : List (List (List ℕ))) (book : List Turn) (session : ℕ) (line : List ℕ) → Weaves lines queues book → Takes queues session line now → IsTrue (is_of session (session_in (parsed true line)))
next_own lines queues now book session line w takes =
    own_line session lines (lines_by session book) line (left_of now session) (ap (λ l. lines_by session book ++ l) (sym takes.first) ∙ w.each session)

each_by : (s session : ℕ) (b : Bool) (lines : List (List ℕ)) (queues now : List (List (List ℕ))) (line : List ℕ) → nat_eq session s ≡ b → Takes queues session line now
    → (lines ++ cond b (line ∷ []) []) ++ left_of now s ≡ lines ++ left_of queues s
each_by s session true lines queues now line is takes =
    let same : session ≡ s = grind (arith, common_steps, is) in
    append_assoc lines (line ∷ []) (left_of now s) ∙ ap (λ l. lines ++ l) (subst (λ (n : ℕ). line ∷ left_of now n ≡ left_of queues n) same (sym takes.first))
each_by s session false lines queues now line is takes =
    let differs : s ≢ session = λ e. differ s session e is in
    ap (λ l. l ++ left_of now s) (append-nil lines) ∙ ap (λ l. lines ++ l) (takes.others s differs)
  where
    differ : (s session : ℕ) → s ≡ session → nat_eq session s ≡ false → ⊥
    differ s session e is = absurd (grind (arith, common_steps, e, is))

-- a turn of some session was answered, and the lines of each are still as they were
weaves_turn : (lines : List (List ℕ)) (queues now : List (List (List ℕ))) (book : List Turn) (t : Turn) (session : ℕ) → t.session ≡ Some session → IsStores t.session t.asked
    → ((s : ℕ) → lines_by s (book ++ t ∷ []) ++ left_of now s ≡ lines_by s book ++ left_of queues s) → Weaves lines queues book → Weaves lines now (book ++ t ∷ [])
weaves_turn lines queues now book t session who stores each w = record {
  each = λ s. each s ∙ w.each s;
  first = w.first;
  rest = w.rest ++ t ∷ [];
  parts = ap (λ l. l ++ t ∷ []) w.parts ∙ append_assoc w.first w.rest (t ∷ []);
  nobodys = w.nobodys;
  all = w.all;
  somebodys = All-push IsSomebodys w.rest t w.somebodys (session, who);
  stores = All-push (λ (u : Turn). IsStores u.session u.asked) book t w.stores stores;
}

-- a line was answered
pub weaves_more : (lines : List (List ℕ)) (queues now : List (List (List ℕ))) (book : List Turn) (session : ℕ) (line : List ℕ) (t : Turn) → t.session ≡ Some session → t.asked ≡ Line line → Takes queues session line now → Weaves lines queues book → Weaves lines now (book ++ t ∷ [])
weaves_more lines queues now book session line t who asked takes w =
    weaves_turn lines queues now book t session who (subst (λ (a : Asked). IsStores t.session a) (sym asked) tt)
    (λ s.
    ap (λ l. l ++ left_of now s) (by_more s book t ∙ ap (λ l. lines_by s book ++ l) (ap (λ (o : Option ℕ). line_by s o t.asked) who ∙ ap (λ (a : Asked). line_by s (Some session) a) asked))
    ∙ each_by s session (nat_eq session s) (lines_by s book) queues now line refl takes)
    w

-- there was no line to take
pub weaves_same : (lines : List (List ℕ)) (queues now : List (List (List ℕ))) (book : List Turn) (session : ℕ) → TakesNone queues session now → Weaves lines queues book → Weaves lines now book
weaves_same lines queues now book session none w = record {
  each = λ k. ap (λ l. lines_by k book ++ l) (none.same k) ∙ w.each k;
  first = w.first;
  rest = w.rest;
  parts = w.parts;
  nobodys = w.nobodys;
  all = w.all;
  somebodys = w.somebodys;
  stores = w.stores;
}

-- a statement of the store was answered
pub weaves_stored : (lines : List (List ℕ)) (queues : List (List (List ℕ))) (book : List Turn) (st : Statement) (t : Turn) → IsTrue (is_of_store st) → t.session ≡ Some 0 → t.asked ≡ Store st → Weaves lines queues book → Weaves lines queues (book ++ t ∷ [])
weaves_stored lines queues book st t of who asked w = weaves_turn lines queues queues book t 0 who (subst (λ (a : Asked). IsStores t.session a) (sym asked) (who, of))
    (λ s. ap (λ l. l ++ left_of queues s) (by_more s book t ∙ ap (λ l. lines_by s book ++ l) (ap (λ (a : Asked). line_by s t.session a) asked) ∙ append-nil (lines_by s book)))
    w

-- no line is left
pub all_answered : (lines : List (List ℕ)) (queues : List (List (List ℕ))) (book : List Turn) → Weaves lines queues book → HasNone queues → HasAnswered lines book
all_answered lines queues book w none s lt = sym (append-nil (lines_by s book)) ∙ ap (λ l. lines_by s book ++ l) (sym (none s lt)) ∙ w.each s

-- none of the first sessions has a line left, nor has the next
pub below_more : (queues : List (List (List ℕ))) (n : ℕ) → ((s : ℕ) → s < n → left_of queues s ≡ []) → left_of queues n ≡ [] → (s : ℕ) → s < n + 1 → left_of queues s ≡ []
below_more queues n below here s lt = by (nat_eq s n) refl
  where
    by : (b : Bool) → nat_eq s n ≡ b → left_of queues s ≡ []
    by true is = let same : s ≡ n = grind (arith, common_steps, is) in subst (λ (m : ℕ). left_of queues m ≡ []) (sym same) here
    by false is = below s (grind (arith, common_steps, is, lt))
