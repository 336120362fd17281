use Rattle.std.proofs.Common.{◌≡◌, Some, true, refl, sym, ◌∙◌, arith}
use Rattle.std.proofs.lemmas.Result.{IfOk-weaker}
use Rattle.ut_plain.specs.declared.statement.Statement.TheVariants.{Commit}
use Rattle.ut_plain.specs.Journal.{journal_len}
use Rattle.ut_plain.specs.Plain.{open_at}
use Rattle.ut_plain.specs.View.{view}
use Rattle.ut_plain.specs.Limits.{has_commit_room}
use Rattle.ut_plain.specs.Step.{step, committed_by}
use Rattle.check_oracle.specs.Store.{plain_of, Gives}
use Rattle.check_oracle.proofs.StepLemmas.{commit_room, commit_nothing, gives_commit}
use Rattle.check_oracle.proofs.session.commit.Goals.{else-len-gt0-via-then-len-gt0+else-not-has_journal_room, else-len-gt0-via-else-len-gt0}
use Rattle.check_oracle.proofs.session.commit.Goals as goal

pub returns-else-len-gt0 : goal.returns-else-len-gt0
returns-else-len-gt0 c =
    let p = plain_of c.args.held.now in
    let own = c.in-Some.own in
    let is : open_at p.sessions c.args.session ≡ Some own = sym c.own.ensures ∙ c.in-Some.is in
    let room : has_commit_room (view p c.args.session) own.ops ≡ true = elim c.else-len-gt0.branch [
      | else-len-gt0-via-then-len-gt0+else-not-has_journal_room w ↦ commit_room (view p c.args.session) own.ops (journal_len p.journal) refl (sym w.has_journal_room.ensures ∙ w.if-not-has_journal_room.false)
      | else-len-gt0-via-else-len-gt0 w ↦ commit_nothing (view p c.args.session) own.ops (omega (arith, c.len.ensures, w.if-len-gt0.false))
    ] in
    IfOk-weaker c.committed_by.result (λ out. Gives (committed_by p c.args.session own.ops) out.reply (plain_of out.held)) (λ out. Gives (step p c.args.session Commit) out.reply (plain_of out.held))
    (λ out g. gives_commit p c.args.sight.now c.args.session own out.reply (plain_of out.held) c.requires is room g) c.committed_by.ensures
