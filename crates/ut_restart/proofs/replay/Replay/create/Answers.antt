use Rattle.std.proofs.Common.{◌≡◌, arith, IsTrue, ◌<◌, length, ◌++◌, ◌∷◌, [], ap, ◌∙◌}
use Rattle.std.proofs.lemmas.Grind.{common_steps}
use Rattle.std.proofs.lemmas.List.{map-append}
use Rattle.std.specs.Option.{is_none}
use Rattle.ut_plain.specs.Tables.{place_of}
use Rattle.ut_staged.specs.Staged.{Staged, no_rows}
use Rattle.ut_table.specs.Contents.{TableValue}
use Rattle.ut_restart.specs.Standing.{shown}
use Rattle.ut_restart.proofs.EntryLemmas.{created}
use Rattle.ut_restart.proofs.replay.Replay.create.Goals as goal

pub returns-clause-ok : goal.returns-clause-ok
returns-clause-ok c =
    let few : length c.args.self.now.tables.items < 256 = grind (arith, common_steps) in
    let new : IsTrue (is_none (place_of c.args.self.now.tables.items c.args.name)) = grind (arith, common_steps) in
    let is : c.push_reserved.new.self.items ≡ c.args.self.now.tables.items ++ (record { name = c.args.name; columns = c.args.columns }) ∷ [] = grind (arith, common_steps) in
    let pushed : c.push_reserved-2.new.self.items ≡ c.args.self.now.rows.stages.items ++ c.in_ok-stages.stages ∷ [] = grind (arith, common_steps) in
    let empty : c.in_ok-stages.stages.stages ≡ no_rows c.args.columns = grind (arith, common_steps) in
    let staged : shown c.push_reserved-2.new.self.items ≡ shown c.args.self.now.rows.stages.items ++ no_rows c.args.columns ∷ [] =
    ap shown pushed ∙ map-append (λ (t : TableValue). t.stages) c.args.self.now.rows.stages.items (c.in_ok-stages.stages ∷ []) ∙ ap (λ (s : Staged). shown c.args.self.now.rows.stages.items ++ s ∷ []) empty in
    created c.args.self.now c.push_reserved.new.self c.push_reserved-2.new.self (record { name = c.args.name; columns = c.args.columns }) c.requires.sound is staged new few c.requires.narrow
