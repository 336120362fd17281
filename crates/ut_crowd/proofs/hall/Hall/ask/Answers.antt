use Rattle.std.proofs.Common.{◌≡◌, Bool, false, List, [], ◌∷◌, ◌++◌, sym, subst, ap, ◌∙◌}
use Rattle.ut_crew.specs.declared.role.Kept.{Kept}
use Rattle.ut_crowd.specs.declared.book.Turn.{Turn}
use Rattle.ut_crowd.specs.Keepers.{AsksOnce, kept_after}
use Rattle.ut_crowd.specs.Standing.{StandsOn}
use Rattle.ut_crowd.proofs.KeeperLemmas.{asks_once}
use Rattle.ut_crowd.proofs.StandLemmas.{stands_said}
use Rattle.ut_crowd.proofs.hall.Hall.ask.Goals as goal

pub returns-clause-stands : goal.returns-clause-stands
returns-clause-stands g c =
    let old = c.args.self.now.engine.store in
    let new = c.answer_statement-reply.new.engine.store in
    let was = g.D.Disk.view c.args.self.now.engine.disk in
    let now = g.D.Disk.view c.answer_statement-reply.new.engine.disk in
    let t : Turn = c.turn_of-turn.result in
    subst (λ (book : List Turn). StandsOn g.O.Opening.ground c.args.self.now.queues.items book c.answer_statement-reply.new.engine.loan now new c.args.self.now.job c.args.self.now.l1 c.begun_by-self.result) (sym (c.push_reserved.ensures.items ∙ ap (λ (b : List Turn). b ++ t ∷ []) c.reserve.ensures.items))
    (stands_said g.O.Opening.ground c.args.self.now.queues.items c.args.self.now.book.items c.args.self.now.engine.loan c.answer_statement-reply.new.engine.loan was now old new c.args.self.now.job c.args.self.now.l1 c.args.self.now.last c.begun_by-self.result c.journal_len-before.result c.args.st c.answer_statement-reply.result t
    c.turn_of-turn.ensures c.journal_len-before.ensures c.requires.stores c.requires.spelled c.requires.no_merge c.requires.may c.begun_by-self.ensures c.answer_statement-reply.ensures.comes c.answer_statement-reply.ensures.loan c.requires.up (g.met.D.Disk.only_now c.answer_statement-reply.new.engine.disk) (g.met.D.Disk.counts_now c.answer_statement-reply.new.engine.disk) (g.met.D.Disk.seen_stays c.answer_statement-reply.new.engine.disk) c.requires.stands)

pub returns-clause-kept : goal.returns-clause-kept
returns-clause-kept g c =
    let down = c.answer_statement-reply.new.engine.store.down in
    let reply = c.answer_statement-reply.result in
    let t : Turn = c.turn_of-turn.result in
    let stopped = c.args.self.now.stopped in
    let book = c.args.self.now.book.items in
    let kept : c.kept_after-kept.result ≡ kept_after reply down = c.kept_after-kept.ensures ∙ ap (λ (b : Bool). kept_after reply b) c.down.ensures in
    subst (λ (k : Kept). AsksOnce c.args.st false stopped down book c.push_reserved.new.self.items k) (sym kept)
    (asks_once c.args.st stopped down book c.push_reserved.new.self.items t reply
    (c.push_reserved.ensures.items ∙ ap (λ (b : List Turn). b ++ t ∷ []) c.reserve.ensures.items)
    (ap (λ (u : Turn). u.session) c.turn_of-turn.ensures) (ap (λ (u : Turn). u.asked) c.turn_of-turn.ensures) (ap (λ (u : Turn). u.reply) c.turn_of-turn.ensures) c.requires.going)
