use Rattle.std.proofs.Common.{◌≡◌, ◌+◌, [], max, ap, ◌∙◌, arith}
use Rattle.ut_plain.specs.State.{empty_state}
use Rattle.ut_plain.specs.Journal.{after_all}
use Rattle.ut_plain.specs.Plain.{no_savepoint}
use Rattle.ut_plain.specs.Restart.{replayed}
use Rattle.ut_plain.proofs.OpenedLaws.{IsPlain-opened}
use Rattle.check_oracle.proofs.SightLemmas.{base_len}
use Rattle.check_oracle.proofs.ReplayLemmas.{opened_is}
use Rattle.check_oracle.proofs.reopen.opened.Goals as goal

pub overflow_cast-result : goal.overflow_cast-result
overflow_cast-result c = let short = c.requires.may.short in omega (arith, short, c.len.ensures, base_len c.args.first.items)

pub overflow_cast-result-2 : goal.overflow_cast-result-2
overflow_cast-result-2 c =
    let es = c.args.behind.now in
    let load = c.args.rows + c.load_of.result + 1 in
    let next : c.max.result ≡ max (after_all (after_all empty_state c.args.first.items) es).next load = c.max.ensures ∙ ap (λ n. max n load) (c.next_of-next.ensures ∙ ap (λ first. (after_all (after_all empty_state first) es).next) c.as_slice-2.ensures.value) in
    let plain = IsPlain-opened (record { stages = c.args.image.now.stages; image_pages = no_savepoint.image_pages; root_pages = 0 }) (record { base = after_all empty_state c.args.first.items; entries = es }) 0 c.requires.may (omega arith) in
    let last = plain.last in
    omega (arith, next, last, c.load_of.ensures, c.requires.rows)

pub returns : goal.returns
returns c =
    let es = c.args.behind.now in
    let load = c.args.rows + c.load_of.result + 1 in
    let next : c.max.result ≡ max (after_all (after_all empty_state c.args.first.items) es).next load = c.max.ensures ∙ ap (λ n. max n load) (c.next_of-next.ensures ∙ ap (λ first. (after_all (after_all empty_state first) es).next) c.as_slice-2.ensures.value) in
    opened_is c.args.first.items c.in_ok-entries.entries.items es _ c.max.result load c.args.rows 0 (record { tables = []; stages = [] }) c.in_ok-sessions.sessions.items c.in_ok-stages.stages.items c.args.image.now.stages c.in_ok-entries.ensures (omega (arith, c.len.ensures)) c.in_ok-sessions.ensures next
    (omega (arith, c.load_of.ensures)) c.requires.rows (c.in_ok-stages.ensures ∙ ap (λ stages. replayed stages es) c.as_slice.ensures)
