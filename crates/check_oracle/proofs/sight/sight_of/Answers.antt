use Rattle.std.proofs.Common.{◌≡◌, ◌≤◌, refl, arith, sym, ap, length, ◌∙◌, Some}
use Rattle.ut_plain.specs.Journal.{journal_len}
use Rattle.ut_plain.specs.Plain.{open_at}
use Rattle.check_oracle.specs.Store.{plain_of}
use Rattle.check_oracle.proofs.SightLemmas.{base_len, known_now, sight_is}
use Rattle.check_oracle.proofs.sight.sight_of.Goals as goal

pub state_after-requires : goal.state_after-requires
state_after-requires c = let short = c.requires.plain.short in omega (arith, short, base_len c.args.held.now.first.items, ap length c.as_slice.ensures.value, ap length c.as_slice-2.ensures.value)

pub seen_inside-requires-clause-since : goal.seen_inside-requires-clause-since
seen_inside-requires-clause-since c =
    let own : open_at c.args.held.now.sessions.items c.args.session ≡ Some c.in-Some.own = sym c.own.ensures ∙ c.in-Some.is in
    let is = c.requires.plain.running c.args.session c.in-Some.own own in
    let since = is.since in
    let opened = c.requires.plain.opened in
    omega (arith, since, opened.0)

pub seen_inside-requires-clause-until : goal.seen_inside-requires-clause-until
seen_inside-requires-clause-until c =
    let own : open_at c.args.held.now.sessions.items c.args.session ≡ Some c.in-Some.own = sym c.own.ensures ∙ c.in-Some.is in
    let is = c.requires.plain.running c.args.session c.in-Some.own own in
    let until = is.until in
    omega (arith, until)

pub returns-in-None : goal.returns-in-None
returns-in-None c =
    let first = c.as_slice.ensures.value in
    let behind = c.as_slice-2.ensures.value in
    let known = known_now c.args.held.now.first.items c.args.held.now.entries.items _ _ c.in_ok-now.now first behind c.in_ok-now.ensures.state in
    let commits : c.in_ok-now.now.commits ≤ journal_len (plain_of c.args.held.now).journal = omega (arith, c.in_ok-now.ensures.commits, ap length first, ap length behind, base_len c.args.held.now.first.items) in
    let merges : c.in_ok-now.now.merges ≤ journal_len (plain_of c.args.held.now).journal = omega (arith, c.in_ok-now.ensures.merges, ap length first, ap length behind, base_len c.args.held.now.first.items) in
    sight_is (plain_of c.args.held.now) c.args.session c.in_ok-now.now c.in_ok-now.now _ c.requires.plain (sym c.own.ensures ∙ c.in-None.is) known commits merges refl refl refl known.rows

pub returns-in_ok-sight-in-Some : goal.returns-in_ok-sight-in-Some
returns-in_ok-sight-in-Some c =
    let first = c.as_slice.ensures.value in
    let behind = c.as_slice-2.ensures.value in
    let known = known_now c.args.held.now.first.items c.args.held.now.entries.items _ _ c.in_ok-now.now first behind c.in_ok-now.ensures.state in
    let commits : c.in_ok-now.now.commits ≤ journal_len (plain_of c.args.held.now).journal = omega (arith, c.in_ok-now.ensures.commits, ap length first, ap length behind, base_len c.args.held.now.first.items) in
    let merges : c.in_ok-now.now.merges ≤ journal_len (plain_of c.args.held.now).journal = omega (arith, c.in_ok-now.ensures.merges, ap length first, ap length behind, base_len c.args.held.now.first.items) in
    let rows = c.in_ok-sight-in-Some.ensures.rows in
    sight_is (plain_of c.args.held.now) c.args.session c.in_ok-now.now c.in_ok-sight-in-Some.sight (Some c.in-Some.own) c.requires.plain (sym c.own.ensures ∙ c.in-Some.is) known commits merges c.in_ok-sight-in-Some.ensures.tables c.in_ok-sight-in-Some.ensures.commits c.in_ok-sight-in-Some.ensures.merges rows
