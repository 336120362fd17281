-- Bytes that are fed stand behind those that were there.
use Rattle.std.proofs.Common.{◌≡◌, ℕ, List, ◌++◌, drop, sym, ◌∙◌, ap}

pub fed_whole : (at : ℕ) (old piece new : List ℕ) → at ≡ 0 → new ≡ old ++ piece → drop at new ≡ drop at old ++ piece
fed_whole at old piece new start is = ap (λ n. drop n new) start ∙ is ∙ ap (λ n. drop n old ++ piece) (sym start)

pub fed_rest : (at : ℕ) (old rest piece new : List ℕ) → rest ≡ drop at old → new ≡ rest ++ piece → drop 0 new ≡ drop at old ++ piece
fed_rest at old rest piece new front is = is ∙ ap (λ (l : List ℕ). l ++ piece) front
