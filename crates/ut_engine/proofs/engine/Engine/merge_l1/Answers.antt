use Rattle.std.proofs.Common.{◌≡◌, ℕ, false, is_some, Result, IfOk, refl, sym, ◌∙◌, ap, subst, arith, IsTrue}
use Rattle.ut_plain.specs.declared.reply.Reply.{Reply}
use Rattle.ut_plain.specs.declared.reply.Reply.TheVariants as replies
use Rattle.ut_plain.specs.declared.reply.Refusal.TheVariants as refusals
use Rattle.ut_plain.specs.declared.statement.Statement.TheVariants as statements
use Rattle.ut_plain.specs.Names.{has_table}
use Rattle.ut_plain.specs.Plain.{Plain}
use Rattle.ut_engine.specs.declared.error.L1Error.{L1Error}
use Rattle.ut_engine.specs.Lent.{Lent}
use Rattle.ut_engine.specs.Runs.{Runs}
use Rattle.ut_engine.specs.Serves.{Serves}
use Rattle.ut_engine.specs.Staging.{merge_reply}
use Rattle.ut_engine.proofs.LentLemmas.{goes_on}
use Rattle.ut_engine.proofs.RunsLemmas.{runs_stand}
use Rattle.ut_engine.proofs.ServedLemmas.{asked_l1, below, serves_told, serves_refused, unknown, spelled_l1}
use Rattle.ut_engine.proofs.engine.Engine.merge_l1.Goals as goal
use Rattle.ut_engine.proofs.engine.Engine.merge_l1.Goals.{in-Ok, in-Err}

-- there is no such table
pub returns-in_default-clause-serves : goal.returns-in_default-clause-serves
returns-in_default-clause-serves g c =
    subst (λ (e : Lent g.row.D.Denot). Serves e.store (g.D.Disk.view e.disk) 0 (statements.MergeL1 c.args.table.now c.args.n) (replies.Refused refusals.Name) e.store (g.D.Disk.view e.disk)) c.self.view_is
    (serves_refused c.self.inside.store (g.D.Disk.view c.self.inside.disk.now) 0 (omega arith) (statements.MergeL1 c.args.table.now c.args.n) refl (spelled_l1 c.args.table.now c.args.n c.place_of.ensures.rule c.requires.some c.requires.few) (c.self.invariant (subst (λ (e : Lent g.row.D.Denot). e.store.down ≡ false) (sym c.self.view_is) c.requires.up)) refusals.Name (g.met.D.Disk.only_now c.self.inside.disk.now)
    (unknown c.self.inside.store.store c.args.table.now (statements.MergeL1 c.args.table.now c.args.n) refl refl (sym c.in_default.ensures.place)))

pub merge_l1-requires-clause-stands : goal.merge_l1-requires-clause-stands
merge_l1-requires-clause-stands g c = runs_stand _ _ (c.self.invariant (subst (λ (e : Lent g.row.D.Denot). e.store.down ≡ false) (sym c.self.view_is) c.requires.up))

pub merge_l1-requires-clause-there : goal.merge_l1-requires-clause-there
merge_l1-requires-clause-there g c = below c.self.inside.store.store.rows.tables c.args.table.now c.in-Some.table (sym c.in-Some.ensures.place)

pub returns-in_default-clause-unknown : goal.returns-in_default-clause-unknown
returns-in_default-clause-unknown g c is =
    subst (λ (e : Lent g.row.D.Denot). has_table e.store.store.rows.tables c.args.table.now ≡ false) c.self.view_is (ap is_some (sym c.in_default.ensures.place))

pub invariant_of-self : goal.invariant_of-self
invariant_of-self g c =
    let v = g.D.Disk.view c.self.inside.disk.now in
    let new = record c.self.inside.store { store = c.merge_l1.new.self } in
    let ran = c.self.invariant (subst (λ (e : Lent g.row.D.Denot). e.store.down ≡ false) (sym c.self.view_is) c.requires.up) in
    let asked = asked_l1 c.self.inside.store.store c.args.table.now c.args.n c.in-Some.table (spelled_l1 c.args.table.now c.args.n c.place_of.ensures.rule c.requires.some c.requires.few) (sym c.in-Some.ensures.place) in
    let on : (reply : Reply) → Serves c.self.inside.store v 0 (statements.MergeL1 c.args.table.now c.args.n) reply new v → new.down ≡ false → (p : Plain) × Runs new v p =
    λ reply serves. goes_on c.self.inside.store new v v 0 (statements.MergeL1 c.args.table.now c.args.n) reply ran.0 ran.1 serves in
    elim c.match-merge_l1.branch [
      | in-Ok x ↦ on (replies.Moved x.in-Ok.moved) (serves_told c.self.inside.store v 0 (omega arith) (statements.MergeL1 c.args.table.now c.args.n) refl (spelled_l1 c.args.table.now c.args.n c.place_of.ensures.rule c.requires.some c.requires.few) ran c.merge_l1.new.self (replies.Moved x.in-Ok.moved) (g.met.D.Disk.only_now c.self.inside.disk.now) refl refl ((x.in-Ok.ensures 0 (omega arith)).each (statements.MergeL1 c.args.table.now c.args.n) asked))
      | in-Err x ↦ on (replies.Refused refusals.Memory) (serves_told c.self.inside.store v 0 (omega arith) (statements.MergeL1 c.args.table.now c.args.n) refl (spelled_l1 c.args.table.now c.args.n c.place_of.ensures.rule c.requires.some c.requires.few) ran c.merge_l1.new.self (replies.Refused refusals.Memory) (g.met.D.Disk.only_now c.self.inside.disk.now) refl refl ((x.in-Err.ensures 0 (omega arith)).each (statements.MergeL1 c.args.table.now c.args.n) asked))
    ]

pub returns-clause-serves : goal.returns-clause-serves
returns-clause-serves g c =
    let v = g.D.Disk.view c.self.inside.disk.now in
    let new = record c.self.inside.store { store = c.merge_l1.new.self } in
    let ran = c.self.invariant (subst (λ (e : Lent g.row.D.Denot). e.store.down ≡ false) (sym c.self.view_is) c.requires.up) in
    let asked = asked_l1 c.self.inside.store.store c.args.table.now c.args.n c.in-Some.table (spelled_l1 c.args.table.now c.args.n c.place_of.ensures.rule c.requires.some c.requires.few) (sym c.in-Some.ensures.place) in
    let said : (reply : Reply) → merge_reply c.match-merge_l1.result ≡ reply → Serves c.self.inside.store v 0 (statements.MergeL1 c.args.table.now c.args.n) reply new v → Serves c.args.self.now.store (g.D.Disk.view c.args.self.now.disk) 0 (statements.MergeL1 c.args.table.now c.args.n) (merge_reply c.match-merge_l1.result) new v =
    λ reply is serves. subst (λ (e : Lent g.row.D.Denot). Serves e.store (g.D.Disk.view e.disk) 0 (statements.MergeL1 c.args.table.now c.args.n) (merge_reply c.match-merge_l1.result) new v) c.self.view_is
    (subst (λ (r : Reply). Serves c.self.inside.store v 0 (statements.MergeL1 c.args.table.now c.args.n) r new v) (sym is) serves) in
    elim c.match-merge_l1.branch [
      | in-Ok x ↦ said (replies.Moved x.in-Ok.moved) (ap merge_reply x.result-is) (serves_told c.self.inside.store v 0 (omega arith) (statements.MergeL1 c.args.table.now c.args.n) refl (spelled_l1 c.args.table.now c.args.n c.place_of.ensures.rule c.requires.some c.requires.few) ran c.merge_l1.new.self (replies.Moved x.in-Ok.moved) (g.met.D.Disk.only_now c.self.inside.disk.now) refl refl ((x.in-Ok.ensures 0 (omega arith)).each (statements.MergeL1 c.args.table.now c.args.n) asked))
      | in-Err x ↦ said (replies.Refused refusals.Memory) (ap merge_reply x.result-is) (serves_told c.self.inside.store v 0 (omega arith) (statements.MergeL1 c.args.table.now c.args.n) refl (spelled_l1 c.args.table.now c.args.n c.place_of.ensures.rule c.requires.some c.requires.few) ran c.merge_l1.new.self (replies.Refused refusals.Memory) (g.met.D.Disk.only_now c.self.inside.disk.now) refl refl ((x.in-Err.ensures 0 (omega arith)).each (statements.MergeL1 c.args.table.now c.args.n) asked))
    ]

pub returns-clause-there : goal.returns-clause-there
returns-clause-there g c =
    let there = subst (λ (e : Lent g.row.D.Denot). IsTrue (has_table e.store.store.rows.tables c.args.table.now)) c.self.view_is (ap is_some (sym c.in-Some.ensures.place)) in
    elim c.match-merge_l1.branch [
      | in-Ok x ↦ subst (λ (r : Result ℕ L1Error). IfOk r (λ _. IsTrue (has_table c.args.self.now.store.store.rows.tables c.args.table.now))) (sym x.result-is) there
      | in-Err x ↦ subst (λ (r : Result ℕ L1Error). IfOk r (λ _. IsTrue (has_table c.args.self.now.store.store.rows.tables c.args.table.now))) (sym x.result-is) tt
    ]

pub returns-clause-unknown : goal.returns-clause-unknown
returns-clause-unknown g c is =
    elim c.match-merge_l1.branch [
      | in-Ok x ↦ absurd (let other = sym x.result-is ∙ is in cc)
      | in-Err x ↦ absurd (let other = sym x.result-is ∙ is in cc)
    ]

pub returns-clause-up : goal.returns-clause-up
returns-clause-up g c = subst (λ (e : Lent g.row.D.Denot). e.store.down ≡ false) (sym c.self.view_is) c.requires.up
