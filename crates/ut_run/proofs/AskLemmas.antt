-- The replies stand in the sink before the source is asked for more.
use Rattle.std.proofs.Common.{ℕ, zero, suc, ◌+◌, ◌≡◌, ◌≤◌, List, [], ◌∷◌, ◌++◌, length, take, Option, None, Some, refl, sym, ap, ◌∙◌, subst, arith, append_assoc, append-nil}
use Rattle.std.specs.List.{AllByRecursion}
use Rattle.std.proofs.lemmas.List.{length-append, take-append-le}
use Rattle.ut_outside.specs.declared.ask.Ask.{Ask}
use Rattle.ut_outside.specs.declared.ack.Ack.{Ack}
use Rattle.ut_plain.specs.declared.statement.Parsed.{Parsed}
use Rattle.ut_plain.specs.declared.statement.Parsed.TheVariants.{Comment, Stranger, Bad, Good}
use Rattle.ut_plain.specs.Plain.{Plain}
use Rattle.ut_plain.specs.Transcript.{Answer, AnswersLine}
use Rattle.ut_script.specs.Lines.{Reading, ended_lines, IsNeeded, AsksMore, AsksFew}
use Rattle.ut_script.proofs.AskLemmas.{none_ends, ended-append}
use Rattle.ut_run.specs.Script.{IsReading}
use Rattle.ut_course.specs.Telling.{Tells}
use Rattle.ut_run.specs.Writing.{answer_text, texts_of, HasWritten}
use Rattle.ut_run.specs.Asking.{replies_of, joined, IsInTime, AsksInTime}

-- ---- the replies to lines

one_reply : (line : Parsed) (here : List Answer) (a : Answer) (lines : List Parsed) (rest : List Answer) → here ≡ a ∷ [] → ((x : Answer) → replies_of (line ∷ lines) (x ∷ rest) ≡ answer_text x ∷ replies_of lines rest) → replies_of (line ∷ lines) (here ++ rest) ≡ texts_of here ∷ replies_of lines rest
one_reply line here a lines rest is each =
    subst (λ (xs : List Answer). replies_of (line ∷ lines) (xs ++ rest) ≡ texts_of xs ∷ replies_of lines rest) (sym is) (each a ∙ ap (λ (t : List ℕ). t ∷ replies_of lines rest) (sym (append-nil (answer_text a))))

-- the reply to the first line is the text of its answer
first_reply : (p : Plain) (line : Parsed) (here : List Answer) (q : Plain) (lines : List Parsed) (rest : List Answer) → AnswersLine p line here q → replies_of (line ∷ lines) (here ++ rest) ≡ texts_of here ∷ replies_of lines rest
first_reply p Comment here q lines rest a = subst (λ (xs : List Answer). replies_of (Comment ∷ lines) (xs ++ rest) ≡ texts_of xs ∷ replies_of lines rest) (sym a.0) refl
first_reply p Stranger here q lines rest a = one_reply Stranger here _ lines rest a.0 (λ x. refl)
first_reply p (Bad session) here q lines rest a = one_reply (Bad session) here _ lines rest a.0 (λ x. refl)
first_reply p (Good session st) here q lines rest a = one_reply (Good session st) here _ lines rest a.is (λ x. refl)

-- one line more
pub replies_more : (p : Plain) (lines : List Parsed) (answers : List Answer) (lengths : List ℕ) (q : Plain) (line : Parsed) (here : List Answer) → Tells p lines answers lengths q → replies_of (lines ++ line ∷ []) (answers ++ here) ≡ replies_of lines answers ++ replies_of (line ∷ []) here
replies_more p [] answers lengths q line here t = ap (λ (xs : List Answer). replies_of (line ∷ []) (xs ++ here)) t.0
replies_more p (l ∷ lines) answers lengths q line here t =
    ap (λ (xs : List Answer). replies_of (l ∷ (lines ++ line ∷ [])) (xs ++ here)) t.5
    ∙ ap (λ (xs : List Answer). replies_of (l ∷ (lines ++ line ∷ [])) xs) (append_assoc t.0 t.1 here)
    ∙ first_reply p l t.0 t.4 (lines ++ line ∷ []) (t.1 ++ here) t.7.0
    ∙ ap (λ (xs : List (List ℕ)). texts_of t.0 ∷ xs) (replies_more t.4 lines t.1 t.3 q line here t.8)
    ∙ ap (λ (xs : List (List ℕ)). xs ++ replies_of (line ∷ []) here) (sym (first_reply p l t.0 t.4 lines t.1 t.7.0))
    ∙ ap (λ (xs : List Answer). replies_of (l ∷ lines) xs ++ replies_of (line ∷ []) here) (sym t.5)

-- as many as lines
replies_count : (lines : List Parsed) (answers : List Answer) → length (replies_of lines answers) ≡ length lines
replies_count [] answers = refl
replies_count (Comment ∷ lines) answers = ap suc (replies_count lines answers)
replies_count (Stranger ∷ lines) [] = ap suc (replies_count lines [])
replies_count (Stranger ∷ lines) (a ∷ answers) = ap suc (replies_count lines answers)
replies_count (Bad session ∷ lines) [] = ap suc (replies_count lines [])
replies_count (Bad session ∷ lines) (a ∷ answers) = ap suc (replies_count lines answers)
replies_count (Good session st ∷ lines) [] = ap suc (replies_count lines [])
replies_count (Good session st ∷ lines) (a ∷ answers) = ap suc (replies_count lines answers)

texts_append : (xs ys : List Answer) → texts_of (xs ++ ys) ≡ texts_of xs ++ texts_of ys
texts_append [] ys = refl
texts_append (x ∷ xs) ys = ap (λ t. answer_text x ++ t) (texts_append xs ys) ∙ sym (append_assoc (answer_text x) (texts_of xs) (texts_of ys))

-- their texts are those of the answers
replies_texts : (p : Plain) (lines : List Parsed) (answers : List Answer) (lengths : List ℕ) (q : Plain) → Tells p lines answers lengths q → joined (replies_of lines answers) ≡ texts_of answers
replies_texts p [] answers lengths q t = ap texts_of (sym t.0)
replies_texts p (l ∷ lines) answers lengths q t =
    ap (λ (xs : List Answer). joined (replies_of (l ∷ lines) xs)) t.5 ∙ ap joined (first_reply p l t.0 t.4 lines t.1 t.7.0)
    ∙ ap (λ (xs : List ℕ). texts_of t.0 ++ xs) (replies_texts t.4 lines t.1 t.3 q t.8) ∙ sym (texts_append t.0 t.1) ∙ ap texts_of (sym t.5)

joined_front : (n : ℕ) (texts : List (List ℕ)) → length (joined (take n texts)) ≤ length (joined texts)
joined_front zero [] = omega arith
joined_front zero (t ∷ texts) = omega arith
joined_front (suc n) [] = omega arith
joined_front (suc n) (t ∷ texts) = let more = joined_front n texts in omega (arith, more, length-append t (joined (take n texts)), length-append t (joined texts))

-- ---- a call

-- what was asked before stays in time
still_in_time : (input before : List ℕ) (replies : List (List ℕ)) (more : List (List ℕ)) (ask : Ask) → IsInTime input before replies ask → IsInTime input before (replies ++ more) ask
still_in_time input before replies more ask h = record {
  given = h.given;
  after = h.after;
  parts = h.parts;
  left = h.left;
  answered = omega (arith, h.answered, length-append replies more);
  written = subst (λ (texts : List (List ℕ)). length before + length (joined texts) ≤ ask.taken) (sym (take-append-le (ended_lines h.given) replies more h.answered)) h.written;
}

all_in_time : (input before : List ℕ) (replies more : List (List ℕ)) (asks : List Ask) → AllByRecursion (IsInTime input before replies) asks → AllByRecursion (IsInTime input before (replies ++ more)) asks
all_in_time input before replies more [] h = tt
all_in_time input before replies more (ask ∷ asks) h = (still_in_time input before replies more ask h.0, all_in_time input before replies more asks h.1)

-- the lines are answered one more
pub in_time_more : (source sink : Option (List ℕ)) (asks : Option (List Ask)) (replies : List (List ℕ)) (more : List (List ℕ)) (now : Option (List Ask)) → AsksInTime source sink asks replies now → AsksInTime source sink asks (replies ++ more) now
in_time_more None sink asks replies more now h = tt
in_time_more (Some input) None asks replies more now h = tt
in_time_more (Some input) (Some before) None replies more now h = tt
in_time_more (Some input) (Some before) (Some asks) replies more now h = record { more = h.more; is = h.is; each = all_in_time input before replies more h.more h.each }

pub in_time_start : (source sink : Option (List ℕ)) (asks : Option (List Ask)) (replies : List (List ℕ)) → AsksInTime source sink asks replies asks
in_time_start None sink asks replies = tt
in_time_start (Some input) None asks replies = tt
in_time_start (Some input) (Some before) None replies = tt
in_time_start (Some input) (Some before) (Some asks) replies = record { more = []; is = ap (λ (xs : List Ask). Some xs) (sym (append-nil asks)); each = tt }

-- a call while no whole line is held comes in time, once all lines that were handed out are answered and written
need_in_time : (input before : List ℕ) (replies : List (List ℕ)) (lines : Reading) (front left taken : List ℕ) (ask : Ask) → input ≡ front ++ (lines.held ++ left) → ended_lines front ≤ length replies → taken ≡ before ++ joined replies
    → IsNeeded lines left taken ask → IsInTime input before replies ask
need_in_time input before replies lines front left taken ask parts ended texts n =
    let given = front ++ (lines.held ++ n.took) in
    let none = none_ends (lines.held ++ n.took) n.no_line in
    record {
      given = given;
      after = n.after;
      parts = parts ∙ ap (λ (xs : List ℕ). front ++ (lines.held ++ xs)) n.parts ∙ ap (λ (xs : List ℕ). front ++ xs) (sym (append_assoc lines.held n.took n.after)) ∙ sym (append_assoc front (lines.held ++ n.took) n.after);
      left = n.left;
      answered = omega (arith, ended, none, ended-append front (lines.held ++ n.took));
      written = omega (arith, joined_front (ended_lines given) replies, n.at_sink, ap (λ (xs : List ℕ). length xs) texts, length-append before (joined replies));
    }

needs_in_time : (input before : List ℕ) (replies : List (List ℕ)) (lines : Reading) (front left taken : List ℕ) (asks : List Ask) → input ≡ front ++ (lines.held ++ left) → ended_lines front ≤ length replies → taken ≡ before ++ joined replies
    → AllByRecursion (IsNeeded lines left taken) asks → AllByRecursion (IsInTime input before replies) asks
needs_in_time input before replies lines front left taken [] parts ended texts n = tt
needs_in_time input before replies lines front left taken (ask ∷ asks) parts ended texts n = (need_in_time input before replies lines front left taken ask parts ended texts n.0, needs_in_time input before replies lines front left taken asks parts ended texts n.1)

both : (P : Ask → Type 0) (xs ys : List Ask) → AllByRecursion P xs → AllByRecursion P ys → AllByRecursion P (xs ++ ys)
both P [] ys p q = q
both P (x ∷ xs) ys p q = (p.0, both P xs ys p.1 q)

-- the calls of the reader
pub in_time_read : (p : Plain) (source sink : Option (List ℕ)) (asks : Option (List Ask)) (script : List (List ℕ)) (parsed : List Parsed) (answers : List Answer) (lengths : List ℕ) (q : Plain) (lines : Reading) (left sunk : Option (List ℕ)) (marks : List ℕ) (acks : List Ack) (mid now : Option (List Ask)) → length parsed ≡ length script
    → IsReading source script lines.held left → Tells p parsed answers lengths q → HasWritten sink answers sunk marks acks → AsksInTime source sink asks (replies_of parsed answers) mid → AsksFew lines left sunk mid now → AsksInTime source sink asks (replies_of parsed answers) now
in_time_read p None sink asks script parsed answers lengths q lines left sunk marks acks mid now len r t w h few = tt
in_time_read p (Some input) None asks script parsed answers lengths q lines left sunk marks acks mid now len r t w h few = tt
in_time_read p (Some input) (Some before) None script parsed answers lengths q lines left sunk marks acks mid now len r t w h few = tt
in_time_read p (Some input) (Some before) (Some asks) script parsed answers lengths q lines left sunk marks acks mid now len r t w h few =
    let replies = replies_of parsed answers in
    let taken = before ++ texts_of answers in
    let asked : AsksMore lines r.after taken (asks ++ h.more) now =
    subst (λ (o : Option (List ℕ)). AsksFew lines o (Some taken) (Some (asks ++ h.more)) now) r.is_left (subst (λ (o : Option (List ℕ)). AsksFew lines left o (Some (asks ++ h.more)) now) w.bytes (subst (λ (o : Option (List Ask)). AsksFew lines left sunk o now) h.is few)) in
    let ended : ended_lines r.front ≤ length replies = omega (arith, r.ended, len, replies_count parsed answers) in
    let texts : taken ≡ before ++ joined replies = ap (λ (xs : List ℕ). before ++ xs) (sym (replies_texts p parsed answers lengths q t)) in
    record {
      more = h.more ++ asked.more;
      is = asked.is ∙ ap (λ (xs : List Ask). Some xs) (append_assoc asks h.more asked.more);
      each = both (IsInTime input before replies) h.more asked.more h.each (needs_in_time input before replies lines r.front r.after taken asked.more r.input_is ended texts asked.needed);
    }
