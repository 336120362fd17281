use Rattle.std.proofs.Common.{ℕ, true, List, [], ◌∷◌, ◌++◌, Some, sym, subst, ap, ◌∙◌}
use Rattle.std.specs.Prelude.{IsTrue}
use Rattle.ut_script.specs.Grammar.{parsed}
use Rattle.ut_course.specs.Coming.{is_of, session_in, Comes}
use Rattle.ut_crowd.specs.declared.book.Turn.{Turn}
use Rattle.ut_crowd.specs.Standing.{StandsOn}
use Rattle.ut_crowd.proofs.WeaveLemmas.{next_own}
use Rattle.ut_crowd.proofs.StandLemmas.{stands_same, stands_line}
use Rattle.ut_crowd.proofs.hall.Hall.advance.Goals as goal

pub returns-in_default-clause-stands : goal.returns-in_default-clause-stands
returns-in_default-clause-stands g c =
    subst (λ (book : List Turn). StandsOn g.O.Opening.ground c.take_line.new.queues.items book c.args.self.now.engine.loan (g.D.Disk.view c.args.self.now.engine.disk) c.args.self.now.engine.store c.args.self.now.job c.args.self.now.l1 c.args.self.now.last) (sym c.reserve.ensures.items)
    (stands_same g.O.Opening.ground c.args.self.now.queues.items c.take_line.new.queues.items c.args.self.now.book.items _ _ _ _ _ _ c.args.session c.in_default.ensures c.requires.stands)

pub answer_line-reply-requires-clause-own : goal.answer_line-reply-requires-clause-own
answer_line-reply-requires-clause-own g c =
    subst (λ (line : List ℕ). IsTrue (is_of c.args.session (session_in (parsed true line)))) (sym c.as_slice.ensures)
    (next_own g.O.Opening.ground.lines _ _ _ c.args.session c.in-Some.line c.requires.stands.weaves c.in-Some.ensures)

pub returns-clause-stands : goal.returns-clause-stands
returns-clause-stands g c =
    let old = c.args.self.now.engine.store in
    let new = c.answer_line-reply.new.engine.store in
    let was = g.D.Disk.view c.args.self.now.engine.disk in
    let now = g.D.Disk.view c.answer_line-reply.new.engine.disk in
    let reply = c.answer_line-reply.result in
    let line : List ℕ = c.in-Some.line in
    let t : Turn = c.turn_of-turn.result in
    let comes : Comes old was (parsed true line) (Some c.args.session) reply new now = subst (λ (l : List ℕ). Comes old was (parsed true l) (Some c.args.session) reply new now) c.as_slice.ensures c.answer_line-reply.ensures.comes in
    subst (λ (book : List Turn). StandsOn g.O.Opening.ground c.take_line.new.queues.items book c.answer_line-reply.new.engine.loan now new c.args.self.now.job c.args.self.now.l1 c.args.self.now.last) (sym (c.push_reserved.ensures.items ∙ ap (λ (b : List Turn). b ++ t ∷ []) c.reserve.ensures.items))
    (stands_line g.O.Opening.ground c.args.self.now.queues.items c.take_line.new.queues.items c.args.self.now.book.items c.args.self.now.engine.loan c.answer_line-reply.new.engine.loan was now old new c.args.self.now.job c.args.self.now.l1 c.args.self.now.last c.args.session c.journal_len-before.result line reply t
    c.turn_of-turn.ensures c.journal_len-before.ensures c.in-Some.ensures comes c.answer_line-reply.ensures.loan (sym c.down.ensures ∙ c.if-down.false) (g.met.D.Disk.only_now c.answer_line-reply.new.engine.disk) (g.met.D.Disk.counts_now c.answer_line-reply.new.engine.disk) (g.met.D.Disk.seen_stays c.answer_line-reply.new.engine.disk) c.requires.stands)
