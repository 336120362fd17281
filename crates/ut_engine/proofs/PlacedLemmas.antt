-- What the places of a store hold stays with each statement.
use Rattle.std.proofs.Common.{◌≡◌, ℕ, List, sym, subst, IsTrue}
use Rattle.std.specs.List.{AllZip}
use Rattle.ut_plain.specs.declared.statement.Statement.{Statement}
use Rattle.ut_plain.specs.declared.reply.Reply.{Reply}
use Rattle.ut_plain.specs.Journal.{Journal, current}
use Rattle.ut_plain.specs.Capture.{Directory}
use Rattle.ut_plain.specs.Plain.{Plain, opened_store}
use Rattle.ut_plain.specs.Reached.{IsPlain, MayOpen}
use Rattle.ut_plain.specs.Spelled.{is_spelled}
use Rattle.ut_plain.specs.Step.{MayAnswer, Steps, LacksMemory}
use Rattle.ut_durable.specs.Laws.{HaveRows}
use Rattle.ut_durable.specs.Rules.{IsDirectory}
use Rattle.ut_placed.specs.Placed.{HasRows, HaveRowsOf}
use Rattle.ut_placed.proofs.StepLaws.{HasRows-step, HasRows-opened, directory_holds, parts_have}
use Rattle.ut_plain.specs.declared.table.Table.{Table}
use Rattle.ut_engine.specs.Runs.{opening_of}

pub opened_rows : (d : Directory) (next commits : ℕ) (j : Journal) (pages limit : ℕ) → IsDirectory next commits d → j.base.tables ≡ d.tables → MayOpen d.stages j → HasRows (opened_store (opening_of d pages) j limit)
opened_rows d next commits j pages limit rules tables may =
    HasRows-opened (opening_of d pages) j limit may (subst (λ (ts : List Table). HaveRowsOf ts d.stages) (sym tables) (directory_holds next commits d rules))

pub answer_rows : (p : Plain) (session : ℕ) (st : Statement) (reply : Reply) (q : Plain) → IsPlain p → IsTrue (is_spelled st) → HasRows p → MayAnswer p session st reply q → HasRows q
answer_rows p session st reply q plain spelled rows (Steps r s) = subst HasRows (sym s) (HasRows-step p session st plain spelled rows)
answer_rows p session st reply q plain spelled rows (LacksMemory m r s) = subst HasRows (sym s) rows

-- the parts of each table hold its rows
pub placed_rows : (p : Plain) → IsPlain p → HasRows p → AllZip HaveRows (current p.journal).tables p.stages
placed_rows p plain rows = parts_have p plain rows
