use Rattle.std.proofs.Common.{◌≡◌, List, [], ◌∷◌, ◌++◌, Option, None, refl, sym, subst, ap, ◌∙◌}
use Rattle.ut_plain.specs.declared.statement.Statement.TheVariants as statements
use Rattle.ut_merge.specs.Jobs.{JobValue}
use Rattle.ut_crowd.specs.declared.book.Turn.{Turn}
use Rattle.ut_crew.specs.declared.role.Kept.{Kept}
use Rattle.ut_crowd.specs.Keepers.{EndsJob, ended}
use Rattle.ut_crowd.specs.Standing.{IsHeld, StandsOn}
use Rattle.ut_crowd.proofs.KeeperLemmas.{ends_job, may_end}
use Rattle.ut_crowd.proofs.StandLemmas.{stands_jobless}
use Rattle.ut_crowd.proofs.hall.Hall.end_job.Goals as goal

pub returns-clause-stands : goal.returns-clause-stands
returns-clause-stands g c =
    let old = c.args.self.now.engine.store in
    let new = c.end_pending-reply.new.engine.store in
    let was = g.D.Disk.view c.args.self.now.engine.disk in
    let now = g.D.Disk.view c.end_pending-reply.new.engine.disk in
    let t : Turn = c.turn_of-turn.result in
    subst (λ (book : List Turn). StandsOn g.O.Opening.ground c.args.self.now.queues.items book c.end_pending-reply.new.engine.loan now new None c.args.self.now.l1 c.args.self.now.last) (sym (c.push_reserved.ensures.items ∙ ap (λ (b : List Turn). b ++ t ∷ []) c.reserve.ensures.items))
    (stands_jobless g.O.Opening.ground c.args.self.now.queues.items c.args.self.now.book.items c.args.self.now.engine.loan c.end_pending-reply.new.engine.loan was now old new c.args.self.now.job c.args.self.now.l1 c.args.self.now.last c.journal_len-before.result statements.MergeEnd c.end_pending-reply.result t
    c.turn_of-turn.ensures c.journal_len-before.ensures refl refl (may_end c.args.self.now.l1 c.args.self.now.last old was c.args.built (subst (λ (j : Option JobValue). IsHeld j old) c.requires.job c.requires.stands.held)) c.end_pending-reply.ensures.taken refl c.end_pending-reply.ensures.comes c.end_pending-reply.ensures.loan (sym c.down.ensures ∙ c.if-down.false) (g.met.D.Disk.only_now c.end_pending-reply.new.engine.disk) (g.met.D.Disk.counts_now c.end_pending-reply.new.engine.disk) (g.met.D.Disk.seen_stays c.end_pending-reply.new.engine.disk) c.requires.stands)

pub returns-clause-ends : goal.returns-clause-ends
returns-clause-ends g c =
    let down = c.end_pending-reply.new.engine.store.down in
    let stopped = c.args.self.now.stopped in
    let book = c.args.self.now.book.items in
    let t : Turn = c.turn_of-turn.result in
    let is : c.ended.result ≡ ended down = c.ended.ensures ∙ ap ended c.down-2.ensures in
    subst (λ (k : Kept). EndsJob stopped down book c.push_reserved.new.self.items None k) (sym is)
    (ends_job stopped down book c.push_reserved.new.self.items t c.end_pending-reply.result
    (c.push_reserved.ensures.items ∙ ap (λ (b : List Turn). b ++ t ∷ []) c.reserve.ensures.items)
    (ap (λ (u : Turn). u.session) c.turn_of-turn.ensures) (ap (λ (u : Turn). u.asked) c.turn_of-turn.ensures) (ap (λ (u : Turn). u.reply) c.turn_of-turn.ensures) c.end_pending-reply.ensures.taken c.if-self.false)
