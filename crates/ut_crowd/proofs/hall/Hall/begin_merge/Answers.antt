use Rattle.std.proofs.Common.{◌≡◌, ◌+◌, Bool, false, List, ℕ, [], ◌∷◌, ◌++◌, None, Some, Option, refl, sym, subst, ap, ◌∙◌}
use Rattle.std.specs.Prelude.{IsTrue}
use Rattle.ut_value.specs.Text.{is_name}
use Rattle.ut_value.specs.declared.entry.MergeKind.{MergeKind}
use Rattle.ut_plain.specs.declared.statement.Statement.TheVariants as statements
use Rattle.ut_plain.specs.Plain.{Plain}
use Rattle.ut_merge.specs.Jobs.{JobValue}
use Rattle.ut_engine.specs.Runs.{Runs}
use Rattle.ut_crowd.specs.declared.book.Turn.{Turn}
use Rattle.ut_engine.specs.Lent.{Lent}
use Rattle.ut_crew.specs.declared.role.Kept.{Kept}
use Rattle.ut_crowd.specs.Asking.{Merges, kind_of_merge, merge_due}
use Rattle.ut_crowd.specs.Keepers.{AsksOnce, IsMergeDue, kept_after}
use Rattle.ut_crowd.specs.Standing.{StandsOn}
use Rattle.ut_crowd.proofs.KeeperLemmas.{asks_once, begin_due, begin_is_due, begin_lost, shared_once}
use Rattle.ut_crowd.proofs.StandLemmas.{stands_jobless}
use Rattle.ut_crowd.proofs.hall.Hall.begin_merge.Goals as goal

pub share-requires-clause-stands : goal.share-requires-clause-stands
share-requires-clause-stands g c =
    let old = c.args.self.now.engine.store in
    let new = c.begin-reply.new.engine.store in
    let was = g.D.Disk.view c.args.self.now.engine.disk in
    let now = g.D.Disk.view c.begin-reply.new.engine.disk in
    let l1 = c.args.self.now.l1 in
    let last = c.args.self.now.last in
    let n = old.store.counts.merges + 1 in
    let t : Turn = c.turn_of-turn.result in
    let table : List ℕ = c.in-Ok.table in
    let kind : MergeKind = c.kind_after-kind.result in
    let kind_is : kind ≡ kind_of_merge n = c.kind_after-kind.ensures ∙ ap (λ (m : ℕ). kind_of_merge (m + 1)) c.merges.ensures in
    let due : (p : Plain) → Runs old was p → merge_due l1 p ≡ Some (statements.MergeBegin table kind) = λ p runs.
    begin_due l1 old was c.args.place c.table_name.result.now c.table_name.ensures.plain n c.requires.due p runs
    ∙ ap (λ (name : List ℕ). Some (statements.MergeBegin name (kind_of_merge n))) (sym c.in-Ok.ensures.copy)
    ∙ ap (λ (k : MergeKind). Some (statements.MergeBegin table k)) (sym kind_is) in
    let spelled : IsTrue (is_name table) = subst (λ (name : List ℕ). IsTrue (is_name name)) (sym c.in-Ok.ensures.copy) c.copied.ensures.rule in
    subst (λ (job : Option JobValue). StandsOn g.O.Opening.ground c.args.self.now.queues.items c.push_reserved.new.self.items c.begin-reply.new.engine.loan now new job l1 last) (sym c.requires.none)
    (subst (λ (book : List Turn). StandsOn g.O.Opening.ground c.args.self.now.queues.items book c.begin-reply.new.engine.loan now new None l1 last) (sym (c.push_reserved.ensures.items ∙ ap (λ (b : List Turn). b ++ t ∷ []) c.reserve.ensures.items))
    (stands_jobless g.O.Opening.ground c.args.self.now.queues.items c.args.self.now.book.items c.args.self.now.engine.loan c.begin-reply.new.engine.loan was now old new c.args.self.now.job l1 last c.journal_len-before.result (statements.MergeBegin table kind) c.begin-reply.result.0 t
    c.turn_of-turn.ensures c.journal_len-before.ensures refl spelled (λ p runs. Merges (due p runs)) tt refl c.begin-reply.ensures.comes c.begin-reply.ensures.loan c.requires.up (g.met.D.Disk.only_now c.begin-reply.new.engine.disk) (g.met.D.Disk.counts_now c.begin-reply.new.engine.disk) (g.met.D.Disk.seen_stays c.begin-reply.new.engine.disk) c.requires.stands))

pub returns-in_default-clause-kept : goal.returns-in_default-clause-kept
returns-in_default-clause-kept g c =
    let self = c.args.self.now in
    begin_lost self.l1 self.engine.store (g.D.Disk.view self.engine.disk) c.args.place c.table_name.result.now c.table_name.ensures.plain (self.engine.store.store.counts.merges + 1) self.save_waits self.engine.store.down self.book.items self.book.items c.requires.now c.requires.due

pub returns-then-is_err-clause-kept : goal.returns-then-is_err-clause-kept
returns-then-is_err-clause-kept g c =
    let self = c.args.self.now in
    begin_lost self.l1 self.engine.store (g.D.Disk.view self.engine.disk) c.args.place c.table_name.result.now c.table_name.ensures.plain (self.engine.store.store.counts.merges + 1) self.save_waits self.engine.store.down self.book.items c.reserve.new.self.items c.requires.now c.requires.due

pub returns-clause-kept : goal.returns-clause-kept
returns-clause-kept g c =
    let old = c.args.self.now.engine.store in
    let was = g.D.Disk.view c.args.self.now.engine.disk in
    let l1 = c.args.self.now.l1 in
    let waited = c.args.self.now.save_waits in
    let n = old.store.counts.merges + 1 in
    let down = c.begin-reply.new.engine.store.down in
    let reply = c.begin-reply.result.0 in
    let t : Turn = c.turn_of-turn.result in
    let table : List ℕ = c.in-Ok.table in
    let kind : MergeKind = c.kind_after-kind.result in
    let stopped = c.args.self.now.stopped in
    let book = c.args.self.now.book.items in
    let after = c.push_reserved.new.self.items in
    let given = c.kept_after-kept.result in
    let kind_is : kind ≡ kind_of_merge n = c.kind_after-kind.ensures ∙ ap (λ (m : ℕ). kind_of_merge (m + 1)) c.merges.ensures in
    let due : IsMergeDue l1 waited old was (Some (statements.MergeBegin table kind)) =
    subst (λ (k : MergeKind). IsMergeDue l1 waited old was (Some (statements.MergeBegin table k))) (sym kind_is)
    (subst (λ (name : List ℕ). IsMergeDue l1 waited old was (Some (statements.MergeBegin name (kind_of_merge n)))) (sym c.in-Ok.ensures.copy)
    (begin_is_due l1 old was c.args.place c.table_name.result.now c.table_name.ensures.plain n waited c.requires.now c.requires.due)) in
    let kept : given ≡ kept_after reply down = c.kept_after-kept.ensures ∙ ap (λ (b : Bool). kept_after reply b) c.down.ensures in
    let once : AsksOnce (statements.MergeBegin table kind) false stopped down book after given =
    subst (λ (k : Kept). AsksOnce (statements.MergeBegin table kind) false stopped down book after k) (sym kept)
    (asks_once (statements.MergeBegin table kind) stopped down book after t reply
    (c.push_reserved.ensures.items ∙ ap (λ (b : List Turn). b ++ t ∷ []) c.reserve.ensures.items)
    (ap (λ (u : Turn). u.session) c.turn_of-turn.ensures) (ap (λ (u : Turn). u.asked) c.turn_of-turn.ensures) (ap (λ (u : Turn). u.reply) c.turn_of-turn.ensures) c.requires.going) in
    let new = c.share.new.self in
    let shared : AsksOnce (statements.MergeBegin table kind) false new.stopped down book after c.share.result.0 = shared_once (statements.MergeBegin table kind) false stopped new.stopped down book after given c.share.result.0 c.share.ensures.kept once in (
      statements.MergeBegin table kind,
      due,
      subst (λ (b : List Turn). AsksOnce (statements.MergeBegin table kind) false new.stopped new.engine.store.down book b c.share.result.0) (sym c.share.ensures.book)
          (subst (λ (e : Lent g.row.D.Denot). AsksOnce (statements.MergeBegin table kind) false new.stopped e.store.down book after c.share.result.0) (sym c.share.ensures.engine) shared),
      c.share.ensures.some,
    )
