-- Bytes with each quote doubled, put run by run.
use Rattle.std.proofs.Common.{ℕ, ◌≡◌, ◌+◌, ◌-◌, ◌*◌, ◌≤◌, ◌<◌, ◌++◌, ◌∷◌, [], List, length, drop, take, get_or, cond, min, sym, ap, ◌∙◌, arith}
use Rattle.std.proofs.lemmas.Bool.{ne_eqb}
use Rattle.std.proofs.lemmas.List.{append_assoc, at_drop_more, length-take}
use Rattle.ut_reply.specs.Texts.{quoted}
use Rattle.ut_reply.proofs.RunLemmas.{run_is, run_more, run_none}

-- a quote is doubled
quote_doubled : (bytes : List ℕ) (i : ℕ) → i < length bytes → get_or bytes i 0 ≡ 39 → quoted (drop i bytes) ≡ 39 ∷ 39 ∷ quoted (drop (i + 1) bytes)
quote_doubled bytes i below is = at_drop_more (λ them. quoted them) bytes i 0 below ∙ ap (λ b. quoted (b ∷ drop (i + 1) bytes)) is

-- another byte is not
byte_kept : (bytes : List ℕ) (i : ℕ) → i < length bytes → (get_or bytes i 0 ≡ 39 → ⊥) → quoted (drop i bytes) ≡ get_or bytes i 0 ∷ quoted (drop (i + 1) bytes)
byte_kept bytes i below other =
    let b = get_or bytes i 0 in
    let rest = quoted (drop (i + 1) bytes) in
    at_drop_more (λ them. quoted them) bytes i 0 below ∙ ap (λ is. cond is (39 ∷ 39 ∷ rest) (b ∷ rest)) (ne_eqb b 39 other)

-- the run up to a quote, that quote once more, and then an empty run
pub quote_comes : (before out out_run out_quote bytes : List ℕ) (start next i : ℕ) → start ≤ i → i < length bytes → get_or bytes i 0 ≡ 39
    → out ++ drop start (take i bytes) ++ quoted (drop i bytes) ≡ before ++ quoted bytes → out_run ≡ out ++ take (i + 1 - start) (drop start bytes) → out_quote ≡ out_run ++ (39 ∷ []) → next ≡ i + 1
    → out_quote ++ drop next (take (i + 1) bytes) ++ quoted (drop (i + 1) bytes) ≡ before ++ quoted bytes
quote_comes before out out_run out_quote bytes start next i up below quote so_far ran put from =
    let q : List ℕ = 39 ∷ [] in
    let run = drop start (take i bytes) in
    let rest = quoted (drop (i + 1) bytes) in
    let longer : take (i + 1 - start) (drop start bytes) ≡ run ++ q = run_is bytes start (i + 1) (omega arith) ∙ run_more bytes start i up below ∙ ap (λ b. run ++ (b ∷ [])) quote in
    let both : out_quote ≡ out ++ (run ++ q) ++ q = put ∙ ap (λ them. them ++ q) (ran ∙ ap (λ them. out ++ them) longer) in
    let none : drop next (take (i + 1) bytes) ≡ [] = ap (λ n. drop n (take (i + 1) bytes)) from ∙ run_none bytes (i + 1) (omega arith) in
    ap (λ them. them ++ drop next (take (i + 1) bytes) ++ rest) both
    ∙ ap (λ them. out ++ (run ++ q) ++ q ++ them ++ rest) none
    ∙ append_assoc (out ++ (run ++ q) ++ q) [] rest
    ∙ append_assoc (out ++ (run ++ q)) q rest
    ∙ append_assoc out (run ++ q) (q ++ rest)
    ∙ ap (λ them. out ++ them) (append_assoc run q (q ++ rest))
    ∙ sym (append_assoc out run (q ++ (q ++ rest)))
    ∙ ap (λ them. out ++ run ++ them) (sym (quote_doubled bytes i below quote))
    ∙ so_far

-- a run that goes on
pub byte_comes : (before out after bytes : List ℕ) (start next i : ℕ) → start ≤ i → i < length bytes → (get_or bytes i 0 ≡ 39 → ⊥)
    → out ++ drop start (take i bytes) ++ quoted (drop i bytes) ≡ before ++ quoted bytes → after ≡ out → next ≡ start
    → after ++ drop next (take (i + 1) bytes) ++ quoted (drop (i + 1) bytes) ≡ before ++ quoted bytes
byte_comes before out after bytes start next i up below other so_far same from =
    let b : List ℕ = get_or bytes i 0 ∷ [] in
    let run = drop start (take i bytes) in
    let rest = quoted (drop (i + 1) bytes) in
    ap (λ them. them ++ drop next (take (i + 1) bytes) ++ rest) same
    ∙ ap (λ n. out ++ drop n (take (i + 1) bytes) ++ rest) from
    ∙ ap (λ them. out ++ them ++ rest) (run_more bytes start i up below)
    ∙ append_assoc out (run ++ b) rest
    ∙ ap (λ them. out ++ them) (append_assoc run b rest)
    ∙ sym (append_assoc out run (b ++ rest))
    ∙ ap (λ them. out ++ run ++ them) (sym (byte_kept bytes i below other))
    ∙ so_far

-- a run is no longer than it is taken
pub run_short : (n : ℕ) (bytes : List ℕ) → length (take n bytes) ≤ n
run_short n bytes = let long : length (take n bytes) ≡ min n (length bytes) = length-take n bytes in omega (arith, long)

-- how long the bytes are behind a quote
pub quote_fits : (before out out_run out_quote run start next i : ℕ) → start ≤ i → out ≤ before + 2 * start → out_run ≡ out + run → run ≤ i + 1 - start → out_quote ≡ out_run + 1 → next ≡ i + 1
    → out_quote ≤ before + 2 * next
quote_fits before out out_run out_quote run start next i up fits ran short put from = omega arith

-- how long they are in a run
pub byte_fits : (before out after start next : ℕ) → out ≤ before + 2 * start → after ≡ out → next ≡ start → after ≤ before + 2 * next
byte_fits before out after start next fits same from = omega arith

-- where the next run begins
pub quote_ends : (next i : ℕ) → next ≡ i + 1 → next ≤ i + 1
quote_ends next i from = omega arith

pub byte_ends : (start next i : ℕ) → start ≤ i → next ≡ start → next ≤ i + 1
byte_ends start next i up from = omega arith

-- there is no less room
pub no_less : (before out more after : ℕ) → before ≤ out → out ≤ more → after ≡ more → before ≤ after
no_less before out more after first second same = omega arith

pub at_most_itself : (n : ℕ) → n ≤ n
at_most_itself n = omega arith
