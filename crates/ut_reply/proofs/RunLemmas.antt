-- Runs of bytes.
use Rattle.std.proofs.Common.{ℕ, ◌≡◌, ◌+◌, ◌-◌, ◌≤◌, ◌<◌, ◌++◌, ◌∷◌, [], List, length, drop, take, get_or, sym, ap, ◌∙◌, arith}
use Rattle.std.proofs.lemmas.List.{take_more, length-take-le, drop-append-le, drop-take, drop_all}

-- the run from one place to another
pub run_is : (bytes : List ℕ) (start end : ℕ) → start ≤ end → take (end - start) (drop start bytes) ≡ drop start (take end bytes)
run_is bytes start end before =
    let whole : start + (end - start) ≡ end = omega arith in
    sym (drop-take start (end - start) bytes) ∙ ap (λ n. drop start (take n bytes)) whole

-- a run that is one byte longer
pub run_more : (bytes : List ℕ) (start i : ℕ) → start ≤ i → i < length bytes → drop start (take (i + 1) bytes) ≡ drop start (take i bytes) ++ get_or bytes i 0 ∷ []
run_more bytes start i before within =
    let long : length (take i bytes) ≡ i = length-take-le i bytes (omega arith) in
    ap (λ run. drop start run) (take_more bytes i 0 within) ∙ drop-append-le start (take i bytes) (get_or bytes i 0 ∷ []) (omega arith)

-- a run that begins at its end
pub run_none : (bytes : List ℕ) (i : ℕ) → i ≤ length bytes → drop i (take i bytes) ≡ []
run_none bytes i within = let long : length (take i bytes) ≡ i = length-take-le i bytes within in drop_all i (take i bytes) (omega arith)
