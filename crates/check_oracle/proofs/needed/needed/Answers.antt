use Rattle.std.proofs.Common.{◌≡◌, ◌<◌, length, get_or, Some, arith, ap, ◌∙◌}
use Rattle.std.proofs.lemmas.Grind.{common_steps}
use Rattle.ut_plain.specs.Journal.{current}
use Rattle.ut_plain.specs.Plain.{open_at}
use Rattle.check_oracle.specs.Store.{plain_of}
use Rattle.check_oracle.proofs.SightLemmas.{base_len, known_now}
use Rattle.check_oracle.proofs.NeededLemmas.{ids_of, needed-first, open_read}
use Rattle.check_oracle.proofs.needed.needed.Goals as goal

pub state_after-requires : goal.state_after-requires
state_after-requires c = let short = c.requires.short in omega (arith, short, base_len c.args.held.now.first.items, ap length c.as_slice.ensures.value, ap length c.as_slice-2.ensures.value)

pub loop-transaction-init : goal.loop-transaction-init
loop-transaction-init c =
    let known = known_now c.args.held.now.first.items c.args.held.now.entries.items _ _ c.in_ok-now.now c.as_slice.ensures.value c.as_slice-2.ensures.value c.in_ok-now.ensures.state in
    let added : c.add_ids.new.ids.items ≡ ids_of c.in_ok-now.now.rows.items = grind (arith, common_steps) in
    needed-first (current (plain_of c.args.held.now).journal) c.in_ok-now.now.rows.items c.add_ids.new.ids.items known.rows added

pub add_needed-requires-clause-since : goal.add_needed-requires-clause-since
add_needed-requires-clause-since c =
    let i = c.loop-transaction.transaction-index in
    let below : i < length c.args.held.now.sessions.items = grind (arith, common_steps) in
    let read : c.transaction-item.result ≡ get_or c.args.held.now.sessions.items i c.transaction-item.result = grind (arith, common_steps) in
    let own : open_at c.args.held.now.sessions.items i ≡ Some c.in-Some.own = open_read c.args.held.now.sessions.items i c.transaction-item.result (omega (arith, below)) read ∙ c.in-Some.is in
    let is = c.requires.running i c.in-Some.own own in
    let since = is.since in
    let opened = c.requires.opened in
    omega (arith, since, opened.0)

pub add_needed-requires-clause-until : goal.add_needed-requires-clause-until
add_needed-requires-clause-until c =
    let i = c.loop-transaction.transaction-index in
    let below : i < length c.args.held.now.sessions.items = grind (arith, common_steps) in
    let read : c.transaction-item.result ≡ get_or c.args.held.now.sessions.items i c.transaction-item.result = grind (arith, common_steps) in
    let own : open_at c.args.held.now.sessions.items i ≡ Some c.in-Some.own = open_read c.args.held.now.sessions.items i c.transaction-item.result (omega (arith, below)) read ∙ c.in-Some.is in
    let is = c.requires.running i c.in-Some.own own in
    let until = is.until in
    omega (arith, until)
