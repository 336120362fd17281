use Rattle.std.proofs.Common.{◌-◌, length, take, ap, ◌∙◌, arith}
use Rattle.std.proofs.lemmas.Result.{IfOk-weaker}
use Rattle.ut_plain.specs.State.{empty_state}
use Rattle.ut_plain.specs.Journal.{after_all, state_at}
use Rattle.check_rows.specs.Known.{IsKnown}
use Rattle.check_oracle.specs.Store.{plain_of}
use Rattle.check_oracle.proofs.SightLemmas.{base_len, known_at}
use Rattle.check_oracle.proofs.sight.state_at.Goals as goal

pub overflow_sub-behind : goal.overflow_sub-behind
overflow_sub-behind c = let since = c.requires.since in omega (arith, since, base_len c.args.held.now.first.items, c.len.ensures)

pub split_at-requires : goal.split_at-requires
split_at-requires c = let until = c.requires.until in omega (arith, until, base_len c.args.held.now.first.items, c.len.ensures, ap length c.as_slice.ensures.value)

pub state_after-requires : goal.state_after-requires
state_after-requires c =
    let short = c.requires.plain.short in
    let until = c.requires.until in
    omega (arith, short, until, base_len c.args.held.now.first.items, c.len.ensures, ap length c.as_slice-2.ensures.value, c.split_at.ensures.front_len)

pub returns : goal.returns
returns c =
    let j = (plain_of c.args.held.now).journal in
    let before = c.split_at.ensures.front ∙ ap (take (c.args.count - c.len.result)) c.as_slice.ensures.value in
    IfOk-weaker c.state_after.result (λ known. IsKnown known (after_all (after_all empty_state c.as_slice-2.result.now) c.split_at.result.0.now)) (λ known. IsKnown known (state_at j c.args.count))
    (λ known k. known_at c.args.held.now.first.items c.args.held.now.entries.items _ _ c.args.count (c.args.count - c.len.result) known (omega (arith, c.len.ensures)) c.as_slice-2.ensures.value before k) c.state_after.ensures.state
