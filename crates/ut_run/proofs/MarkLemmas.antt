-- The moments of answers.
use Rattle.std.proofs.Common.{ℕ, zero, suc, ◌+◌, ◌≡◌, ◌≤◌, List, [], ◌∷◌, ◌++◌, length, replicate, get_or, slice_get, Option, None, Some, Ok, Err, refl, sym, ap, ◌∙◌, subst, arith, append_assoc, append-nil}
use Rattle.std.proofs.lemmas.List.{length-append, length-replicate}
use Rattle.ut_outside.specs.declared.ack.Ack.{Ack}
use Rattle.ut_outside.specs.declared.faults.Failed as fails
use Rattle.ut_plain.specs.Transcript.{Answer}
use Rattle.ut_reply.specs.Texts.{session_text, reply_body}
use Rattle.ut_run.specs.Writing.{answer_text, texts_of, WroteAll, WroteSome, Writes, AreMarked, AreMarkedBy, WroteAnswers, HasWritten, WroteFront, HasFront}

pub texts-append : (xs ys : List Answer) → texts_of (xs ++ ys) ≡ texts_of xs ++ texts_of ys
texts-append [] ys = refl
texts-append (x ∷ xs) ys = ap (λ t. answer_text x ++ t) (texts-append xs ys) ∙ sym (append_assoc (answer_text x) (texts_of xs) (texts_of ys))

texts-one : (xs : List Answer) (a : Answer) → texts_of (xs ++ a ∷ []) ≡ texts_of xs ++ answer_text a
texts-one xs a = texts-append xs (a ∷ []) ∙ ap (λ t. texts_of xs ++ t) (append-nil (answer_text a))

-- a text ends in a line end
has_text : (a : Answer) → 1 ≤ length (answer_text a)
has_text a =
    let is : length (answer_text a) ≡ length ((session_text a.session ++ reply_body a.reply) ++ 10 ∷ []) = refl in
    omega (arith, is, length-append (session_text a.session ++ reply_body a.reply) (10 ∷ []))

get_front : (xs ys : List ℕ) (i x : ℕ) → slice_get xs i ≡ Some x → slice_get (xs ++ ys) i ≡ Some x
get_front [] ys i x h = cc
get_front (y ∷ xs) ys zero x h = h
get_front (y ∷ xs) ys (suc i) x h = get_front xs ys i x h

get_first : (xs : List ℕ) (n m : ℕ) → 1 ≤ n → slice_get (xs ++ replicate n m) (length xs) ≡ Some m
get_first [] zero m h = absurd (omega (arith, h))
get_first [] (suc n) m h = refl
get_first (x ∷ xs) n m h = get_first xs n m h

or_first : (xs : List ℕ) (n m : ℕ) → get_or (xs ++ replicate n m) (length xs) m ≡ m
or_first [] zero m = refl
or_first [] (suc n) m = refl
or_first (x ∷ xs) n m = or_first xs n m

or_got : (xs : List ℕ) (i x d : ℕ) → slice_get xs i ≡ Some x → get_or xs i d ≡ x
or_got [] i x d h = cc
or_got (y ∷ xs) zero x d h = cc
or_got (y ∷ xs) (suc i) x d h = or_got xs i x d h

marked_more : (answers : List Answer) (at : ℕ) (marks more : List ℕ) (acks : List Ack) (a : Answer) (k : Ack) → AreMarked answers at marks acks → slice_get (marks ++ more) (at + length (texts_of answers)) ≡ Some k.moment → AreMarked (answers ++ a ∷ []) at (marks ++ more) (acks ++ k ∷ [])
marked_more [] at marks more acks a k m h =
    let same : at + 0 ≡ at = omega arith in
    subst (λ (ks : List Ack). AreMarked (a ∷ []) at (marks ++ more) (ks ++ k ∷ [])) (sym m) (ap (λ i. slice_get (marks ++ more) i) (sym same) ∙ h, refl)
marked_more (b ∷ answers) at marks more [] a k m h = absurd m
marked_more (b ∷ answers) at marks more (ack ∷ acks) a k m h =
    let e : at + length (answer_text b) + length (texts_of answers) ≡ at + length (answer_text b ++ texts_of answers) = omega (arith, length-append (answer_text b) (texts_of answers)) in
    (get_front marks more at ack.moment m.0, marked_more answers (at + length (answer_text b)) marks more acks a k m.1 (ap (λ i. slice_get (marks ++ more) i) e ∙ h))

marked_last : (answers : List Answer) (at : ℕ) (marks more : List ℕ) (end : ℕ) (acks : List Ack) (a : Answer) (k : Ack) → AreMarked answers at marks acks → k.moment ≡ get_or (marks ++ more) (at + length (texts_of answers)) end → AreMarkedBy (answers ++ a ∷ []) at (marks ++ more) end (acks ++ k ∷ [])
marked_last [] at marks more end acks a k m h =
    let same : at + 0 ≡ at = omega arith in
    subst (λ (ks : List Ack). AreMarkedBy (a ∷ []) at (marks ++ more) end (ks ++ k ∷ [])) (sym m) (h ∙ ap (λ i. get_or (marks ++ more) i end) same, refl)
marked_last (b ∷ answers) at marks more end [] a k m h = absurd m
marked_last (b ∷ answers) at marks more end (ack ∷ acks) a k m h =
    let e : at + length (answer_text b ++ texts_of answers) ≡ at + length (answer_text b) + length (texts_of answers) = omega (arith, length-append (answer_text b) (texts_of answers)) in
    (sym (or_got (marks ++ more) at ack.moment end (get_front marks more at ack.moment m.0)), marked_last answers (at + length (answer_text b)) marks more end acks a k m.1 (h ∙ ap (λ i. get_or (marks ++ more) i end) e))

-- ---- one answer more

more_by : (b : List ℕ) (answers : List Answer) (a : Answer) (held : Option (List ℕ)) (marks : List ℕ) (acks : List Ack) (n m : ℕ) (then : Option (List ℕ)) (marks_then : List ℕ) → WroteAnswers b answers held marks acks
    → WroteAll (b ++ texts_of answers) marks (answer_text a) m then marks_then → WroteAnswers b (answers ++ a ∷ []) then marks_then (acks ++ record { journal = n; moment = m } ∷ [])
more_by b answers a held marks acks n m then marks_then w all =
    let text = answer_text a in
    let bytes : (b ++ texts_of answers) ++ text ≡ b ++ texts_of (answers ++ a ∷ []) = append_assoc b (texts_of answers) text ∙ ap (λ t. b ++ t) (sym (texts-one answers a)) in
    let place : length b + length (texts_of answers) ≡ length marks = omega (arith, length-append b (texts_of answers), w.each_byte) in
    record {
      bytes = all.bytes ∙ ap (λ t. Some t) bytes;
      each_byte = ap (λ (xs : List ℕ). length xs) all.moments ∙ (let e : length (marks ++ replicate (length text) m) ≡ length (b ++ texts_of (answers ++ a ∷ [])) = omega (arith, length-append marks (replicate (length text) m), length-replicate (length text) m, length-append (b ++ texts_of answers) text, w.each_byte, ap (λ (xs : List ℕ). length xs) bytes) in e);
      marked = subst (λ (xs : List ℕ). AreMarked (answers ++ a ∷ []) (length b) xs (acks ++ record { journal = n; moment = m } ∷ [])) (sym all.moments)
          (marked_more answers (length b) marks (replicate (length text) m) acks a (record { journal = n; moment = m }) w.marked (ap (λ i. slice_get (marks ++ replicate (length text) m) i) place ∙ get_first marks (length text) m (has_text a)));
    }

pub written-more : (before : Option (List ℕ)) (answers : List Answer) (a : Answer) (held : Option (List ℕ)) (marks : List ℕ) (acks : List Ack) (n m : ℕ) (then : Option (List ℕ)) (marks_then : List ℕ) → HasWritten before answers held marks acks
    → Writes {T = Unit {0}} {E = fails.Failed} held marks (answer_text a) m (Ok tt) then marks_then → HasWritten before (answers ++ a ∷ []) then marks_then (acks ++ record { journal = n; moment = m } ∷ [])
written-more None answers a held marks acks n m then marks_then w writes = tt
written-more (Some b) answers a held marks acks n m then marks_then w writes =
    more_by b answers a held marks acks n m then marks_then w (subst (λ (o : Option (List ℕ)). Writes {T = Unit {0}} {E = fails.Failed} o marks (answer_text a) m (Ok tt) then marks_then) w.bytes writes)

some_by : (b : List ℕ) (answers : List Answer) (a : Answer) (held : Option (List ℕ)) (marks : List ℕ) (acks : List Ack) (n m : ℕ) (then : Option (List ℕ)) (marks_then : List ℕ) → WroteAnswers b answers held marks acks
    → WroteSome (b ++ texts_of answers) marks (answer_text a) m then marks_then → WroteFront b (answers ++ a ∷ []) m then marks_then (acks ++ record { journal = n; moment = m } ∷ [])
some_by b answers a held marks acks n m then marks_then w some =
    let place : length marks ≡ length b + length (texts_of answers) = omega (arith, length-append b (texts_of answers), w.each_byte) in
    let more = replicate (length some.front) m in
    record {
      given = answers;
      last = a;
      part = some.front;
      rest = some.rest;
      answers_are = refl;
      parts = some.parts;
      bytes = some.wrote.bytes ∙ ap (λ t. Some t) (append_assoc b (texts_of answers) some.front);
      marked = subst (λ (xs : List ℕ). AreMarkedBy (answers ++ a ∷ []) (length b) xs m (acks ++ record { journal = n; moment = m } ∷ [])) (sym some.wrote.moments)
          (marked_last answers (length b) marks more m acks a (record { journal = n; moment = m }) w.marked (sym (or_first marks (length some.front) m) ∙ ap (λ i. get_or (marks ++ more) i m) place));
    }

pub written-some : (before : Option (List ℕ)) (answers : List Answer) (a : Answer) (held : Option (List ℕ)) (marks : List ℕ) (acks : List Ack) (n m : ℕ) (then : Option (List ℕ)) (marks_then : List ℕ) (e : fails.Failed) → HasWritten before answers held marks acks
    → Writes {T = Unit {0}} {E = fails.Failed} held marks (answer_text a) m (Err e) then marks_then → HasFront before (answers ++ a ∷ []) m then marks_then (acks ++ record { journal = n; moment = m } ∷ [])
written-some None answers a held marks acks n m then marks_then e w writes = tt
written-some (Some b) answers a held marks acks n m then marks_then e w writes = some_by b answers a held marks acks n m then marks_then w (subst (λ (o : Option (List ℕ)). Writes {T = Unit {0}} {E = fails.Failed} o marks (answer_text a) m (Err e) then marks_then) w.bytes writes)

pub nothing_written : (before : Option (List ℕ)) (marks : List ℕ) → ((bytes : List ℕ) → before ≡ Some bytes → length marks ≡ length bytes) → HasWritten before [] before marks []
nothing_written None marks h = tt
nothing_written (Some b) marks h = record { bytes = ap (λ t. Some t) (sym (append-nil b)); each_byte = h b refl ∙ ap (λ (xs : List ℕ). length xs) (sym (append-nil b)); marked = refl }
