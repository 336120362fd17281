-- Writing all of a text, piece by piece.
use Rattle.std.proofs.Common.{ℕ, ◌+◌, ◌≡◌, ◌≤◌, List, ◌++◌, length, take, drop, replicate, Option, None, Some, Ok, sym, ap, ◌∙◌, subst, arith, append_assoc}
use Rattle.std.proofs.lemmas.List.{replicate-append-replicate, take-append-drop, length-take-le, length-append}
use Rattle.ut_outside.specs.Streams.{GivesBytes, NotesMoments}
use Rattle.ut_run.specs.Writing.{WritesRest, IsWriting}

more_by : (E : Type 0) (before marks text rest front now : List ℕ) (m count : ℕ) (held : Option (List ℕ)) (then : List ℕ) → text ≡ front ++ rest → now ≡ marks ++ replicate (length front) m → count ≤ length rest
    → GivesBytes {E = E} (Some (before ++ front)) held (Ok count) rest → NotesMoments {E = E} (Some (before ++ front)) now then (Ok count) m → WritesRest before marks text (drop count rest) m held then
more_by E before marks text rest front now m count held then parts was few given noted = record {
  front = front ++ take count rest;
  parts = parts ∙ ap (λ xs. front ++ xs) (sym (take-append-drop count rest)) ∙ sym (append_assoc front (take count rest) (drop count rest));
  wrote = record {
    bytes = given.behind ∙ ap (λ xs. Some xs) (append_assoc before front (take count rest));
    moments = noted ∙ ap (λ xs. xs ++ replicate count m) was ∙ append_assoc marks (replicate (length front) m) (replicate count m)
        ∙ ap (λ xs. marks ++ xs) (replicate-append-replicate (length front) count m)
        ∙ ap (λ n. marks ++ replicate n m) (let e : length front + count ≡ length (front ++ take count rest) = omega (arith, length-append front (take count rest), length-take-le count rest few) in e);
  };
}

pub writing-more : (E : Type 0) (held : Option (List ℕ)) (marks text rest : List ℕ) (m : ℕ) (now : Option (List ℕ)) (marks_now : List ℕ) (count : ℕ) (then : Option (List ℕ)) (marks_then : List ℕ) → count ≤ length rest
    → IsWriting held marks text rest m now marks_now → GivesBytes {E = E} now then (Ok count) rest → NotesMoments {E = E} now marks_now marks_then (Ok count) m → IsWriting held marks text (drop count rest) m then marks_then
writing-more E None marks text rest m now marks_now count then marks_then few w given noted = tt
writing-more E (Some before) marks text rest m now marks_now count then marks_then few w given noted =
    more_by E before marks text rest w.front marks_now m count then marks_then w.parts w.wrote.moments few
    (subst (λ (o : Option (List ℕ)). GivesBytes {E = E} o then (Ok count) rest) w.wrote.bytes given)
    (subst (λ (o : Option (List ℕ)). NotesMoments {E = E} o marks_now marks_then (Ok count) m) w.wrote.bytes noted)
