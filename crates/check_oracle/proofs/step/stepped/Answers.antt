use Rattle.std.proofs.Common.{◌≡◌, ◌∙◌, ap, sym, Some, None}
use Rattle.std.specs.Option.{is_some}
use Rattle.ut_plain.specs.Journal.{current}
use Rattle.ut_plain.specs.Plain.{open_at}
use Rattle.check_oracle.specs.Store.{plain_of, directory_of, early}
use Rattle.check_oracle.proofs.StepLemmas.{gives_early}
use Rattle.check_oracle.proofs.step.stepped.Goals as goal

pub returns-in-Some : goal.returns-in-Some
returns-in-Some c =
    let p = plain_of c.args.held.now in
    let tables = c.as_slice.ensures.value ∙ c.in_ok-sight.ensures.tables in
    let open_now : c.is_some-is_open.result ≡ is_some (open_at c.args.held.now.sessions.items c.args.session) = c.is_some-is_open.ensures ∙ ap is_some c.own.ensures in
    let is = c.early.ensures c.args.held.now.captured.length (directory_of c.args.held.now.captured) in
    let why : early (current p.journal).tables (is_some (open_at p.sessions c.args.session)) p.pending p.phase c.args.st.now ≡ Some c.in-Some.why = sym (sym c.in-Some.is ∙ is ∙ (λ i. early (tables i) (open_now i) p.pending p.phase c.args.st.now)) in
    gives_early p c.args.session c.args.st.now c.in-Some.why c.in_ok-out-in-Some.out.reply (plain_of c.in_ok-out-in-Some.out.held) why c.in_ok-out-in-Some.ensures

pub allowed-requires-clause-allowed : goal.allowed-requires-clause-allowed
allowed-requires-clause-allowed c =
    let p = plain_of c.args.held.now in
    let tables = c.as_slice.ensures.value ∙ c.in_ok-sight.ensures.tables in
    let open_now : c.is_some-is_open.result ≡ is_some (open_at c.args.held.now.sessions.items c.args.session) = c.is_some-is_open.ensures ∙ ap is_some c.own.ensures in
    let is = c.early.ensures c.args.held.now.captured.length (directory_of c.args.held.now.captured) in
    let clear : early (current p.journal).tables (is_some (open_at p.sessions c.args.session)) p.pending p.phase c.args.st.now ≡ None = sym (sym c.in-None.is ∙ is ∙ (λ i. early (tables i) (open_now i) p.pending p.phase c.args.st.now)) in
    record { plain = c.requires.plain; seat = c.requires.seat; sees = c.in_ok-sight.ensures; clear = clear }
