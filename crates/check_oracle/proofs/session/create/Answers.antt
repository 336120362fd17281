use Rattle.std.proofs.Common.{◌≡◌, ◌≤◌, ℕ, Bool, false, ◌&&◌, nat_lt, List, length, None, sym, ap, ◌∙◌, arith}
use Rattle.std.proofs.lemmas.Result.{IfOk-weaker}
use Rattle.std.proofs.lemmas.Bool.{le-ltb}
use Rattle.std.proofs.Math.Bool.{and-false}
use Rattle.ut_value.specs.declared.value.Column.{Column}
use Rattle.ut_plain.specs.declared.statement.Statement.TheVariants.{Create}
use Rattle.ut_plain.specs.declared.reply.Reply.{Reply}
use Rattle.ut_plain.specs.declared.reply.Refusal.TheVariants as refusals
use Rattle.ut_plain.specs.Journal.{journal_len, current}
use Rattle.ut_plain.specs.Plain.{Plain}
use Rattle.ut_plain.specs.Refusals.{unless, or_else}
use Rattle.ut_plain.specs.Step.{step, step_by}
use Rattle.check_rows.specs.declared.known.Known.{Known}
use Rattle.check_oracle.specs.Store.{plain_of, refuses, Allowed, Gives}
use Rattle.check_oracle.proofs.StepLemmas.{gives_by, late_step}
use Rattle.check_oracle.proofs.session.create.Goals.{then-len-ge-MAX_TABLES-via-then-len-ge-MAX_TABLES, then-len-ge-MAX_TABLES-via-else-len-ge-MAX_TABLES+then-not-has_journal_room}
use Rattle.check_oracle.proofs.session.create.Goals as goal

many_tables : (n : ℕ) (room : Bool) → 256 ≤ n → (nat_lt n 256 && room) ≡ false
many_tables n room h = ap (λ few. few && room) (le-ltb n 256 h)

no_room : (few room : Bool) → room ≡ false → (few && room) ≡ false
no_room few room e = ap (λ room. few && room) e ∙ and-false few

create_full : (p : Plain) (sight : Known) (session : ℕ) (name : List ℕ) (columns : List Column) (reply : Reply) (q : Plain) → Allowed p sight session (Create name columns) → (nat_lt (length (current p.journal).tables) 256 && nat_lt (journal_len p.journal) 1073741823) ≡ false
    → Gives (refuses p refusals.Full) reply q → Gives (step p session (Create name columns)) reply q
create_full p sight session name columns reply q h none g =
    gives_by p session (Create name columns) (refuses p refusals.Full) reply q (late_step p sight session (Create name columns) h ∙ ap (λ b. step_by (or_else (unless b refusals.Full) None) p session (Create name columns)) none) g

pub returns-then-len-ge-MAX_TABLES : goal.returns-then-len-ge-MAX_TABLES
returns-then-len-ge-MAX_TABLES c =
    let p = plain_of c.args.held.now in
    let name = c.args.table.now in
    let columns = c.args.columns.now in
    let tables = ap length c.requires.sees.tables in
    let none : (nat_lt (length (current p.journal).tables) 256 && nat_lt (journal_len p.journal) 1073741823) ≡ false = elim c.then-len-ge-MAX_TABLES.branch [
      | then-len-ge-MAX_TABLES-via-then-len-ge-MAX_TABLES w ↦ many_tables (length (current p.journal).tables) (nat_lt (journal_len p.journal) 1073741823) (omega (arith, w.if-len-ge-MAX_TABLES.true, c.len.ensures, tables))
      | then-len-ge-MAX_TABLES-via-else-len-ge-MAX_TABLES+then-not-has_journal_room w ↦ no_room (nat_lt (length (current p.journal).tables) 256) (nat_lt (journal_len p.journal) 1073741823) (sym w.has_journal_room.ensures ∙ w.if-not-has_journal_room.true)
    ] in
    IfOk-weaker c.refused.result (λ out. Gives (refuses p refusals.Full) out.reply (plain_of out.held)) (λ out. Gives (step p c.args.session (Create name columns)) out.reply (plain_of out.held))
    (λ out g. create_full p c.args.sight.now c.args.session name columns out.reply (plain_of out.held) c.requires none g) c.refused.ensures
