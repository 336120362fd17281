use Rattle.std.proofs.Common.{◌≡◌, ◌-◌, ◌++◌, ℕ, List, length, sym, ◌∙◌, ap, subst, arith, length-append}
use Rattle.std.specs.Prelude.{Contains}
use Rattle.std.proofs.lemmas.List.{take-append-drop}
use Rattle.ut_pages.specs.Free.{AreFree}
use Rattle.ut_savepoint.proofs.PlanLemmas.{pages_all}
use Rattle.ut_savepoint.proofs.planning.plan.Goals as goal

pub returns-in_default-clause-none : goal.returns-in_default-clause-none
returns-in_default-clause-none c = λ d captures.
    let all = pages_all c.args.tables.now d c.as_slice-2.result.now c.in_ok-own.own captures (c.as_slice-2.ensures ∙ c.in_ok-parts.ensures) c.in_ok-own.ensures in
    let many = c.in_default.ensures in
    omega (arith, all, many)

pub returns-in_default-2-clause-none : goal.returns-in_default-2-clause-none
returns-in_default-2-clause-none c = λ d captures.
    let all = pages_all c.args.tables.now d c.as_slice-2.result.now c.in_ok-own.own captures (c.as_slice-2.ensures ∙ c.in_ok-parts.ensures) c.in_ok-own.ensures in
    let none = rw c.in_default-2.is at c.in_ok-pages.ensures.none in
    omega (arith, all, none, c.in-Some.ensures.1)

pub returns-clause-planned : goal.returns-clause-planned
returns-clause-planned c = λ d captures.
    let reached : List ℕ = c.args.files.now.reached in
    let pages : List ℕ = c.in-Some-2.pages.items in
    let first : List ℕ = c.split_at.result.0.now in
    let own : List ℕ = c.split_at.result.1.now in
    let free = rw c.in-Some-2.is at c.in_ok-pages.ensures.free in
    let len = rw c.in-Some-2.is at c.in_ok-pages.ensures.len in
    let some = rw c.in-Some-2.is at c.in_ok-pages.ensures.some in
    let split : pages ≡ first ++ own =
    sym c.deref.ensures.value ∙ sym (take-append-drop (c.len.result - c.in_ok-own.own) c.deref.result.now) ∙ (λ i. sym c.split_at.ensures.front i ++ sym c.split_at.ensures.back i) in
    let long : length pages ≡ length (first ++ own) = ap (λ (l : List ℕ). length l) split in
    c.in_ok-savepoint.ensures reached d (subst (AreFree (Contains reached) 3) split free) (omega (arith, some, len, long, length-append first own)) captures
