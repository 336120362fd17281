-- What stands before and behind the first line feed of what is held.
use Rattle.std.proofs.Common.{ℕ, suc, ◌≡◌, ◌+◌, ◌-◌, ◌<◌, ◌≤◌, Bool, true, false, cond, List, [], ◌∷◌, ◌++◌, length, take, drop, get_or, refl, ap, ◌∙◌, sym, subst, arith, append-nil, Option, None, Some}
use Rattle.std.proofs.lemmas.Grind.{common_steps}
use Rattle.std.proofs.lemmas.List.{take-append-drop, drop-take, get_or-take, length-take-le}
use Rattle.std.specs.Prelude.{nat_eq}
use Rattle.memchr.specs.Find.{IsFirstByte, is_byte}
use Rattle.ut_script.specs.Lines.{Reading, has_no_feed}
use Rattle.ut_script.specs.LineSteps.{IsLineEnd, EndsLine, JoinsLine, BreaksLine}
use Rattle.ut_script.proofs.LiteralLemmas.{next_byte}

no_feed_by : (t : Bool) (xs : List ℕ) → (t ≡ true → ⊥) → has_no_feed xs ≡ true → cond t false (has_no_feed xs) ≡ true
no_feed_by true xs h k = absurd (h refl)
no_feed_by false xs h k = k

-- no byte is a line feed
no_feed-each : (xs : List ℕ) → ((k : ℕ) → k < length xs → nat_eq (get_or xs k 0) 10 ≡ true → ⊥) → has_no_feed xs ≡ true
no_feed-each [] h = refl
no_feed-each (b ∷ xs) h = no_feed_by (nat_eq b 10) xs (λ e. h 0 (omega arith) e) (no_feed-each xs (λ k lt e. h (suc k) (omega arith) e))

-- the search for a byte finds the end of a line
pub line_end-is : (bytes : List ℕ) (r : Option ℕ) → IsFirstByte (is_byte 10) bytes r → IsLineEnd bytes r
line_end-is bytes None h = no_feed-each bytes (λ k lt e. h k (omega arith) lt e)
line_end-is bytes (Some n) h =
    let low : n < length bytes = h.0.high in
    let front : has_no_feed (take n bytes) ≡ true = no_feed-each (take n bytes)
    (λ k lt e. (let below : k < n = omega (arith, lt, length-take-le n bytes (omega arith)) in h.0.before k (omega arith) below (subst (λ (b : ℕ). nat_eq b 10 ≡ true) (get_or-take n bytes k 0 below) e))) in
    let feed : get_or bytes n 0 ≡ 10 = grind (arith, common_steps, h.1) in
    (low, front, next_byte bytes n low ∙ ap (λ (b : ℕ). b ∷ drop (n + 1) bytes) feed)

-- what is held, as a part of the block
pub held-part : (at filled : ℕ) (block : List ℕ) → at ≤ filled → drop at (take filled block) ≡ take (filled - at) (drop at block)
held-part at filled block h = let e : filled ≡ at + (filled - at) = omega arith in ap (λ (n : ℕ). drop at (take n block)) e ∙ drop-take at (filled - at) block

-- what a reader holds, as its view says it
pub held_of : (view old : Reading) (at filled : ℕ) (block cells : List ℕ) → view ≡ old → view.held ≡ drop at (take filled block) → cells ≡ block → at ≤ filled → old.held ≡ take (filled - at) (drop at cells)
held_of view old at filled block cells is part same h =
    ap (λ (r : Reading). r.held) (sym is) ∙ part ∙ held-part at filled block h ∙ ap (λ (xs : List ℕ). take (filled - at) (drop at xs)) (sym same)

-- how long its line is
pub line_len : (view old : Reading) (n : ℕ) → view ≡ old → length view.line ≡ n → length old.line ≡ n
line_len view old n is len = ap (λ (r : Reading). length r.line) (sym is) ∙ len

drop_twice : (n m : ℕ) (xs : List ℕ) → drop n (drop m xs) ≡ drop (m + n) xs
drop_twice n m xs = grind (arith, common_steps)

-- what is held once so many bytes and a line feed were taken
pub held-behind : (at filled n : ℕ) (block : List ℕ) → at ≤ filled → drop (at + (n + 1)) (take filled block) ≡ drop (n + 1) (take (filled - at) (drop at block))
held-behind at filled n block h = sym (drop_twice (n + 1) at (take filled block)) ∙ ap (λ (xs : List ℕ). drop (n + 1) xs) (held-part at filled block h)

-- the line is too long up to its line feed
pub breaks_at : (old : Reading) (held : List ℕ) (n : ℕ) → old.held ≡ held → IsLineEnd held (Some n) → 65536 - length old.line < n → length old.line ≤ 65536 → BreaksLine old
breaks_at old held n e is over short =
    let count = length-take-le n held (let lt : n < length held = is.0 in omega arith) in
    record { piece = take n held; rest = drop n held; no_feed = is.1; parts = e ∙ sym (take-append-drop n held); long = omega (arith, count) }

-- the line is too long with all that is held
pub breaks_whole : (old : Reading) (held : List ℕ) → old.held ≡ held → has_no_feed held ≡ true → 65536 - length old.line < length held → length old.line ≤ 65536 → BreaksLine old
breaks_whole old held e is over short = record { piece = held; rest = []; no_feed = is; parts = e ∙ sym (append-nil held); long = omega arith }

-- the line ends at a line feed
pub ends_at : (old new : Reading) (held : List ℕ) (n : ℕ) → old.held ≡ held → IsLineEnd held (Some n) → new.held ≡ drop (n + 1) held → new.line ≡ old.line ++ take n held → EndsLine old new
ends_at old new held n e is behind line =
    record {
      piece = take n held;
      no_feed = is.1;
      parts = e ∙ sym (take-append-drop n held) ∙ ap (λ (xs : List ℕ). take n held ++ xs) is.2 ∙ ap (λ (xs : List ℕ). take n held ++ 10 ∷ xs) (sym behind);
      line = line;
    }

-- all that is held joins the line
pub joins_all : (old new : Reading) (held : List ℕ) → old.held ≡ held → has_no_feed held ≡ true → new.held ≡ [] → new.line ≡ old.line ++ held → JoinsLine old new
joins_all old new held e is none line = record { no_feed = ap has_no_feed e ∙ is; held = none; line = line ∙ ap (λ (xs : List ℕ). old.line ++ xs) (sym e) }

-- nothing is held behind the last byte
pub held-none : (filled : ℕ) (block : List ℕ) → drop filled (take filled block) ≡ []
held-none filled block = grind (arith, common_steps)
