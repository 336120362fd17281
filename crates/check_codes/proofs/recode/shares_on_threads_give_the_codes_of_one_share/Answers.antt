use Rattle.std.proofs.Common.{ℕ, zero, suc, ◌<◌, [], ◌∷◌, get_or, Some, None, sym, subst, arith}
use Rattle.ut_bits.specs.Bits.{AllBelow}
use Rattle.ut_bits.proofs.BitLemmas.{AllBelow-at}
use Rattle.ut_recode.specs.Recode.{IsBelow}
use Rattle.check_codes.proofs.recode.shares_on_threads_give_the_codes_of_one_share.Goals as goal

has-entry : (code : ℕ) → code < 3 → (code < 4) × IsBelow 10 (get_or (Some 5 ∷ Some 3 ∷ Some 9 ∷ None ∷ []) code None)
has-entry zero h = (omega arith, omega arith)
has-entry (suc zero) h = (omega arith, omega arith)
has-entry (suc (suc zero)) h = (omega arith, omega arith)
has-entry (suc (suc (suc code))) h = absurd (omega (arith, h))

pub recode-requires-clause-entries : goal.recode-requires-clause-entries
recode-requires-clause-entries g c κs = λ i lt. has-entry _ (AllBelow-at 3 c.as_slice.result.now i (subst (λ l. AllBelow 3 l) (sym c.as_slice.ensures.value) c.in_ok-codes.ensures) lt)
