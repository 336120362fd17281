use Rattle.std.proofs.Common.{◌∙◌, ◌+◌, ◌<◌, ◌≤◌, ◌++◌, [], ◌∷◌, List, ℕ, false, not, ◌&&◌, length, get_or, sym, ap, subst, arith}
use Rattle.std.proofs.lemmas.List.{length-append, take_all}
use Rattle.ut_own.specs.Own.{holds}
use Rattle.ut_prefix.specs.Chain.{chain_steps, end_to_end}
use Rattle.ut_merge.specs.Uniting.{new_flags, AreFound, IsFound}
use Rattle.ut_merge.proofs.SeekLemmas.{found-more, new_flags-more, steps_in_all, steps_so_far}
use Rattle.ut_merge.proofs.seeking.seek.Goals as goal

pub loop-code-preserved : goal.loop-code-preserved
loop-code-preserved g c =
    let stay = end_to_end c.args.chain.now in
    let keys = c.args.closed.now in
    let flags = c.args.used.now in
    let i = c.loop-code.code in
    let lt : i < length keys = omega (arith, c.loop-code-test.true, c.len-code-end.ensures) in
    let is_new = c.look-seen.ensures.new ∙ ap (λ (k : List ℕ). get_or flags i false && not (holds stay k)) c.bytes.ensures.key in
    let seen = subst (λ (k : List ℕ). IsFound stay k (get_or flags i false) c.look-seen.result.code) c.bytes.ensures.key c.look-seen.ensures.found in (
      c.in_ok-push.ensures.items ∙ (λ k. c.loop-code.invariant.0 k ++ is_new k ∷ []) ∙ sym (new_flags-more stay keys flags i lt c.requires.flags),
      ap length c.in_ok-push-2.ensures.items ∙ length-append c.loop-code.found.items (c.look-seen.result.code ∷ []) ∙ ap (λ n. n + 1) c.loop-code.invariant.1,
      found-more stay keys flags c.loop-code.found.items c.push-in-loop-code.new.self.items i c.look-seen.result.code lt c.loop-code.invariant.1 c.loop-code.invariant.2 seen c.in_ok-push-2.ensures.items,
      steps_so_far (chain_steps c.args.chain.now) i c.args.steps.now c.loop-code.steps c.look-seen.new.steps c.loop-code.invariant.3 c.look-seen.ensures.cost,
    )

pub returns-clause-new : goal.returns-clause-new
returns-clause-new g c =
    let keys = c.args.closed.now in
    let flags = c.args.used.now in
    let all : length keys ≤ c.loop-code.code = omega (arith, c.len-code-end.ensures, c.loop-code-test.false) in
    let all_flags : length flags ≤ c.loop-code.code = omega (arith, all, c.requires.flags) in
    c.loop-code.invariant.0 ∙ (λ i. new_flags (end_to_end c.args.chain.now) (take_all c.loop-code.code keys all i) (take_all c.loop-code.code flags all_flags i))

pub returns-clause-count : goal.returns-clause-count
returns-clause-count g c = omega (arith, c.loop-code.invariant.1, c.len-code-end.ensures, c.loop-code.auto.code-end, c.loop-code-test.false)

pub returns-clause-found : goal.returns-clause-found
returns-clause-found g c =
    let keys = c.args.closed.now in
    let all : length keys ≤ c.loop-code.code = omega (arith, c.len-code-end.ensures, c.loop-code-test.false) in
    subst (λ (l : List (List ℕ)). AreFound (end_to_end c.args.chain.now) l c.args.used.now c.loop-code.found.items) (take_all c.loop-code.code keys all) c.loop-code.invariant.2

pub returns-clause-cost : goal.returns-clause-cost
returns-clause-cost g c =
    steps_in_all (chain_steps c.args.chain.now) c.loop-code.code (length c.args.closed.now) c.args.steps.now c.loop-code.steps (omega (arith, c.len-code-end.ensures, c.loop-code.auto.code-end)) c.loop-code.invariant.3
