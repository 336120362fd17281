use Rattle.std.proofs.Common.{◌≡◌, ◌∙◌, ◌<◌, [], ◌∷◌, ℕ, List, length, get_or, sym, ap, subst, arith}
use borrow.Author.Tests.{eqb-true}
use Rattle.ut_prefix.specs.Chain.{end_to_end}
use Rattle.ut_main.specs.Columns.{Chain}
use Rattle.ut_main.specs.Parts.{dicts_behind}
use Rattle.ut_main.specs.Reading.{MayBeColumn}
use Rattle.ut_main.specs.Spelling.{kind_at}
use Rattle.ut_main.proofs.KindLemmas.{kind-at}
use Rattle.ut_main.proofs.StandLemmas.{read-more, read-all}
use Rattle.ut_main.proofs.bytes.columns_from.Goals as goal

pub loop-j-preserved : goal.loop-j-preserved
loop-j-preserved g c =
    let main = c.args.earlier.now in
    let few = c.requires.few in
    let lt : c.loop-j.j < main.width = omega (arith, c.loop-j-test.true, c.width-j-end.ensures) in
    let found = rw c.in-Some.is at c.in_ok-column.ensures.some in
    let kind = kind-at c.args.columns.now c.loop-j.j c.index-columns-j.result (omega (arith, lt, c.requires.width)) in
    let chain = c.in_ok-chain.ensures.dicts in
    let may : MayBeColumn c.args.rows (kind_at c.loop-j.j c.args.columns.now) (get_or (dicts_behind main) c.loop-j.j []) c.in-Some.column =
    subst (λ (b : Chain). MayBeColumn c.args.rows (kind_at c.loop-j.j c.args.columns.now) b c.in-Some.column) chain (subst (λ k. MayBeColumn c.args.rows k c.in_ok-chain.chain c.in-Some.column) kind found.0) in
    let size = ap (λ (b : Chain). length (end_to_end b)) chain in
    let keys = c.in_ok-chain.ensures.few in
    read-more c.args.columns.now main c.args.rows c.args.bytes.now c.loop-j.j c.loop-j.read.items c.loop-j.rest.now c.requires.width c.loop-j.invariant c.in-Some.column c.in-Some.later.now c.push.new.self.items
    lt (omega (arith, few)) (omega (arith, few, size, keys)) may found.1 c.in_ok-push.ensures.items

empty : (xs : List ℕ) → length xs ≡ 0 → xs ≡ []
empty [] e = let h : (let l : List ℕ = [] in l) ≡ [] = cc in h
empty (x ∷ xs) e = absurd (omega (arith, e))

pub returns-then-is_empty-clause-some : goal.returns-then-is_empty-clause-some
returns-then-is_empty-clause-some g c =
    let main = c.args.earlier.now in
    let none = empty c.loop-j.rest.now (eqb-true (length c.loop-j.rest.now) 0 (sym c.is_empty.ensures ∙ c.if-is_empty.true)) in
    read-all c.args.columns.now main c.args.rows c.args.bytes.now c.loop-j.j c.loop-j.read.items c.loop-j.rest.now c.requires.width c.loop-j.invariant
    (omega (arith, c.loop-j-test.false, c.width-j-end.ensures)) (omega (arith, c.loop-j.auto.j-end, c.width-j-end.ensures)) none
