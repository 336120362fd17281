use Rattle.std.proofs.Common.{nat_le, length, refl, sym, ap, ◌∙◌, subst, arith}
use Rattle.std.specs.FinMap as finmap
use Rattle.ut_plain.specs.State.{empty_state}
use Rattle.ut_plain.specs.Journal.{Journal, after_all, state_at, since}
use Rattle.ut_plain.specs.Stages.{all_places}
use Rattle.ut_plain.specs.Reached.{MayOpen}
use Rattle.check_oracle.specs.Store.{plain_of, selected_of}
use Rattle.check_oracle.proofs.SightLemmas.{base_len}
use Rattle.check_oracle.proofs.ReplayLemmas.{parted_there, since_may, few_rows, rows_are}
use Rattle.check_oracle.proofs.OracleLemmas.{limited}
use Rattle.check_oracle.proofs.reopen.reopened.Goals as goal

pub state_at-requires-clause-since : goal.state_at-requires-clause-since
state_at-requires-clause-since c = c.requires.image.since

pub state_at-requires-clause-until : goal.state_at-requires-clause-until
state_at-requires-clause-until c = c.requires.image.until

pub overflow_sub-image : goal.overflow_sub-image
overflow_sub-image c = let since = c.requires.image.since in omega (arith, since, base_len c.args.held.now.first.items, c.len.ensures)

pub split_at-requires : goal.split_at-requires
split_at-requires c = let until = c.requires.image.until in omega (arith, until, base_len c.args.held.now.first.items, c.len.ensures, ap length c.as_slice-2.ensures.value)

pub opened-requires-clause-may : goal.opened-requires-clause-may
opened-requires-clause-may c =
    let held = c.args.held.now in
    let p = plain_of held in
    let s = selected_of c.args.image.now in
    let fits = c.has_at_most.ensures ∙ ap (λ stages. nat_le (all_places stages) c.len-rows.result) c.as_slice.ensures in
    let few = few_rows c.in_ok-base.base (state_at p.journal s.length) s.directory.stages c.len-rows.result c.has_at_most.result c.in_ok-base.ensures (omega (arith, c.len-rows.ensures)) fits c.if-not-has_at_most.false in
    let journal = parted_there held.first.items held.entries.items c.as_slice-2.result.now c.in_ok-first.first.items c.in_ok-more.more.items c.append.new.self.items c.split_at.result.1.now p s s.length c.len.result refl c.requires.image refl (omega (arith, c.len.ensures)) c.as_slice-2.ensures.value
    (c.in_ok-first.ensures ∙ c.as_slice-3.ensures.value) c.in_ok-append.ensures.items (c.in_ok-more.ensures ∙ c.split_at.ensures.front) c.split_at.ensures.back in
    subst (MayOpen s.directory.stages) (sym journal) (since_may p s c.requires.plain c.requires.image few)

pub opened-requires-clause-rows : goal.opened-requires-clause-rows
opened-requires-clause-rows c =
    let held = c.args.held.now in
    let p = plain_of held in
    let s = selected_of c.args.image.now in
    let journal = parted_there held.first.items held.entries.items c.as_slice-2.result.now c.in_ok-first.first.items c.in_ok-more.more.items c.append.new.self.items c.split_at.result.1.now p s s.length c.len.result refl c.requires.image refl (omega (arith, c.len.ensures)) c.as_slice-2.ensures.value
    (c.in_ok-first.ensures ∙ c.as_slice-3.ensures.value) c.in_ok-append.ensures.items (c.in_ok-more.ensures ∙ c.split_at.ensures.front) c.split_at.ensures.back in
    rows_are c.in_ok-base.base (state_at p.journal s.length) c.len-rows.result c.in_ok-base.ensures (omega (arith, c.len-rows.ensures)) ∙ ap (λ (j : Journal). finmap.len j.base.rows) (sym journal)

pub returns-clause-opens : goal.returns-clause-opens
returns-clause-opens c =
    let held = c.args.held.now in
    let p = plain_of held in
    let s = selected_of c.args.image.now in
    let j : Journal = record { base = after_all empty_state c.append.new.self.items; entries = c.split_at.result.1.now } in
    let journal = parted_there held.first.items held.entries.items c.as_slice-2.result.now c.in_ok-first.first.items c.in_ok-more.more.items c.append.new.self.items c.split_at.result.1.now p s s.length c.len.result refl c.requires.image refl (omega (arith, c.len.ensures)) c.as_slice-2.ensures.value
    (c.in_ok-first.ensures ∙ c.as_slice-3.ensures.value) c.in_ok-append.ensures.items (c.in_ok-more.ensures ∙ c.split_at.ensures.front) c.split_at.ensures.back in
    limited (plain_of c.in_ok-next.next) s.directory.stages j (since p.journal s.length) held.root_pages c.args.rows_limit c.in_ok-next.ensures journal

pub returns-clause-may : goal.returns-clause-may
returns-clause-may c =
    let p = plain_of c.args.held.now in
    let s = selected_of c.args.image.now in
    let fits = c.has_at_most.ensures ∙ ap (λ stages. nat_le (all_places stages) c.len-rows.result) c.as_slice.ensures in
    let few = few_rows c.in_ok-base.base (state_at p.journal s.length) s.directory.stages c.len-rows.result c.has_at_most.result c.in_ok-base.ensures (omega (arith, c.len-rows.ensures)) fits c.if-not-has_at_most.false in
    since_may p s c.requires.plain c.requires.image few
