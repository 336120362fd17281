use Rattle.std.proofs.Common.{◌≡◌, ◌<◌, ℕ, List, [], ◌∷◌, ◌++◌, take, drop, length, get_or, sym, ◌∙◌, ap, subst, arith}
use Rattle.std.proofs.lemmas.List.{get_or-take}
use Rattle.std.proofs.lemmas.Bool.Decides.{nat_tests}
use Rattle.ut_durable.specs.Plans.{first_of}
use Rattle.ut_savepoint.specs.declared.cut.PageWrite.{PageWrite}
use Rattle.ut_savepoint.specs.Writes.{planned_in}
use Rattle.ut_savepoint.proofs.CutLemmas.{CutSoFar, cut_more}
use Rattle.ut_savepoint.proofs.cut.cut.Goals as goal

pub loop-left-preserved : goal.loop-left-preserved
loop-left-preserved c =
    let left : List ℕ = c.loop-left.left.now in
    let rest : List ℕ = c.loop-left.rest.now in
    let write : PageWrite = record { page = get_or c.split_at.result.0.now 0 0; next = c.first_of.result; bytes = c.in_ok-bytes.bytes } in
    let some : 0 < length left = grind (arith, nat_tests) in
    let page : write.page ≡ get_or left 0 0 = ap (λ (l : List ℕ). get_or l 0 0) c.split_at.ensures.front ∙ get_or-take 1 left 0 0 (omega arith) in
    let next : write.next ≡ first_of (drop 1 left) = c.first_of.ensures ∙ ap first_of c.split_at.ensures.back in
    let payload : write.bytes.items ≡ take c.min-len.result rest = c.in_ok-bytes.ensures.items ∙ c.split_at-in-loop-left.ensures.front in
    let done = cut_more (planned_in c.args.out.now.items) c.loop-left.out.items write c.args.pages.now c.args.bytes.now left rest c.min-len.result c.loop-left.invariant (omega (arith, some)) c.min-len.ensures page next payload in
    subst (λ (l : List PageWrite). CutSoFar (planned_in c.args.out.now.items) (planned_in l) c.args.pages.now c.args.bytes.now c.split_at.result.1.now c.split_at-in-loop-left.result.1.now) (sym c.in_ok-push.ensures.items)
    (subst (λ (l : List ℕ). CutSoFar (planned_in c.args.out.now.items) (planned_in (c.loop-left.out.items ++ write ∷ [])) c.args.pages.now c.args.bytes.now l c.split_at-in-loop-left.result.1.now) (sym c.split_at.ensures.back)
    (subst (λ (l : List ℕ). CutSoFar (planned_in c.args.out.now.items) (planned_in (c.loop-left.out.items ++ write ∷ [])) c.args.pages.now c.args.bytes.now (drop 1 left) l) (sym c.split_at-in-loop-left.ensures.back) done))
