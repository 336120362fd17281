use Rattle.std.proofs.Common.{ℕ, ap, List, [], ◌∷◌, None}
use Rattle.std.proofs.lemmas.Result.{IfOk-weaker}
use Rattle.ut_plain.specs.declared.table.Stored.{Stored}
use Rattle.ut_plain.specs.State.{State}
use Rattle.ut_stamps.specs.declared.fates.Fate.{Fate}
use Rattle.ut_look.specs.Look.{Sight}
use Rattle.ut_query.specs.Look.{Sees}
use Rattle.ut_shot.specs.Shot.{IsShot, IsShotOf}
use Rattle.check_tables.proofs.OneRowLemmas.{can-look-there, shot-there}
use Rattle.check_tables.proofs.shot.shot_of_one.Goals as goal

pub take-shot-requires : goal.take-shot-requires
take-shot-requires g c =
    let with-fates : List Fate → Sight = λ f. record { tables = c.in_ok-head.head ∷ []; staged = c.in_ok-table.table.stages ∷ []; fates = f; snapshot = 0; own = None } in
    can-look-there c.in_ok-head.head c.in_ok-table.table.stages c.in_ok-columns.columns (with-fates c.in_ok-fates.fates) c.in_ok-columns.ensures c.in_ok-head.ensures c.in_ok-table.ensures (ap with-fates c.in_ok-fates.ensures)

pub returns : goal.returns
returns g c =
    let with-fates : List Fate → Sight = λ f. record { tables = c.in_ok-head.head ∷ []; staged = c.in_ok-table.table.stages ∷ []; fates = f; snapshot = 0; own = None } in
    let look : Sight = with-fates c.in_ok-fates.fates in
    IfOk-weaker c.take-shot.result (λ shot. (seen : List (ℕ × Stored)) → Sees look seen → IsShot c.args.query.now look.tables seen shot) (λ shot. (s : State) × IsShotOf c.args.query.now s shot)
    (λ shot taken. shot-there c.in_ok-head.head c.in_ok-table.table.stages c.in_ok-columns.columns look c.args.query.now shot c.in_ok-columns.ensures c.in_ok-head.ensures c.in_ok-table.ensures (ap with-fates c.in_ok-fates.ensures) taken)
    c.take-shot.ensures
