use Rattle.std.proofs.Common.{◌≡◌, ◌∙◌, ◌++◌, true, false, ℕ, List, drop, sym, ap, subst}
use Rattle.std.proofs.lemmas.List.{take-append-drop}
use Rattle.ut_bits.proofs.BitLemmas.{take-rest}
use Rattle.ut_prefix.specs.Spelling.{dict_bytes}
use Rattle.ut_main.specs.Reading.{MayBeOwn}
use Rattle.ut_main.proofs.UniqueLemmas.{dict-one}
use Rattle.ut_main.proofs.own.own_from.Goals as goal

pub returns-then-may_be_own-clause-some : goal.returns-then-may_be_own-clause-some
returns-then-may_be_own-clause-some g c =
    let bytes = c.args.bytes.now in
    let spells = rw c.in-Some.is at c.in_ok-dict.ensures.some in
    let rest = ap (λ (l : List ℕ). dict_bytes c.in-Some.dict ++ l) (sym (take-rest c.in-Some.size bytes)) in (
      c.may_be_own.ensures.own.0 c.if-may_be_own.true,
      sym (take-append-drop c.in-Some.size bytes) ∙ ap (λ (l : List ℕ). l ++ drop c.in-Some.size bytes) spells.same ∙ rest,
    )

pub returns-in-Some-clause-none : goal.returns-in-Some-clause-none
returns-in-Some-clause-none g c = λ keys rest may is.
    let bytes = c.args.bytes.now in
    let spells = rw c.in-Some.is at c.in_ok-dict.ensures.some in
    let read : dict_bytes c.in-Some.dict ++ drop c.in-Some.size bytes ≡ dict_bytes keys ++ rest =
    ap (λ (l : List ℕ). l ++ drop c.in-Some.size bytes) (sym spells.same) ∙ take-append-drop c.in-Some.size bytes ∙ is in
    let one = dict-one c.in-Some.dict keys (drop c.in-Some.size bytes) rest c.may_be_own.ensures.dictionary may.dictionary read in
    let good = c.may_be_own.ensures.own.1 (subst (MayBeOwn c.args.rows c.args.kind c.args.chain.now) (sym one.0) may) in
    let clash : true ≡ false = sym good ∙ c.if-may_be_own.false in
    cc
