use Rattle.std.proofs.Common.{rules, ◌≡◌, length, List, [], ◌∷◌, ◌++◌, sym, ap, ◌∙◌, append_assoc}
use Rattle.ut_gate.specs.Passes.{Carried}
use Rattle.ut_gate.specs.Steps.{IsLast}
use Rattle.atomic_table.specs.Table.{Me}
use Rattle.ut_gate.specs.declared.view.Home.{Home}
use Rattle.ut_gate.specs.declared.view.View.{View}
use Rattle.ut_gate.proofs.Joins.{joins}
use Rattle.ut_gate.proofs.Ends.{last_at}
use Rattle.ut_gate.proofs.Gathers.{all_mid, gathers_first, gathers_more, closes_seen, closes_apart, nil_of}
use Rattle.ut_gate.proofs.gate.Gate.close.Goals as goal

pub join_seat-requires : goal.join_seat-requires
join_seat-requires g c =
    let taken = c.loop-pass.invariant.2.0 in
    let is : c.args.passes ≡ c.pop.new.self ++ c.in-Some.pass ∷ taken = c.loop-pass.invariant.2.1 ∙ (ap (λ (l : List (Carried g.row.E-Entry.Denot g.row.E-Job.Denot)). l ++ taken) c.in-Some.ensures ∙ append_assoc c.pop.new.self (c.in-Some.pass ∷ []) taken) in
    let gate : c.in-Some.pass.gate ≡ c.args.self = all_mid (λ (p : Carried g.row.E-Entry.Denot g.row.E-Job.Denot). p.gate ≡ c.args.self) c.args.passes c.pop.new.self c.in-Some.pass taken is c.requires.own in (
      search rules,
      ap (λ (p : Carried g.row.E-Entry.Denot g.row.E-Job.Denot). p.gate) c.into_seat.ensures.same ∙ gate ∙ sym c.self.view_is,
      search rules,
      search rules,
      joins g.E.Held.book g.E.Held.job (g.E.Held.stands_on g.E.Held.ground) _ _ _ _ c.loop-pass.invariant.2.2.away c.into_seat.ensures.away.0,
    )

pub loop-pass-init : goal.loop-pass-init
loop-pass-init g c =
    let is : c.args.passes ≡ c.take_last.new.self ++ c.take_last.result ∷ [] = c.take_last.ensures in
    let gate : c.take_last.result.gate ≡ c.args.self = all_mid (λ (p : Carried g.row.E-Entry.Denot g.row.E-Job.Denot). p.gate ≡ c.args.self) c.args.passes c.take_last.new.self c.take_last.result [] is c.requires.own in (
      (ap (λ (p : Carried g.row.E-Entry.Denot g.row.E-Job.Denot). p.gate) c.into_seat-seat.ensures.same ∙ gate ∙ sym c.self.view_is, c.self.invariant.0, c.self.invariant.1),
      c.into_seat-seat.ensures.away.1,
      (c.take_last.result ∷ [], is, gathers_first _ _ _ c.take_last.result c.into_seat-seat.result _ c.into_seat-seat.ensures.same c.into_seat-seat.ensures.away),
    )

pub loop-pass-preserved : goal.loop-pass-preserved
loop-pass-preserved g c =
    let taken = c.loop-pass.invariant.2.0 in
    let is : c.args.passes ≡ c.pop.new.self ++ c.in-Some.pass ∷ taken = c.loop-pass.invariant.2.1 ∙ (ap (λ (l : List (Carried g.row.E-Entry.Denot g.row.E-Job.Denot)). l ++ taken) c.in-Some.ensures ∙ append_assoc c.pop.new.self (c.in-Some.pass ∷ []) taken) in (
      search rules,
      search rules,
      (c.in-Some.pass ∷ taken, is, gathers_more _ _ _ taken c.loop-pass.seat.me.0 c.join_seat.new.seat.me.0 c.in-Some.pass c.into_seat.result c.in-Some.pass.job c.loop-pass.invariant.2.2 c.into_seat.ensures.same (ap (λ (z : Me (Home g.row.E.Denot) (View g.row.E-Entry.Denot g.row.E-Job.Denot)). z.0) c.join_seat.ensures.2)),
    )

pub returns-clause-ground : goal.returns-clause-ground
returns-clause-ground g c = c.end.ensures.ground

pub returns-clause-seen : goal.returns-clause-seen
returns-clause-seen g c =
    let zero : length c.loop-pass.rest ≡ 0 = search rules in
    let is : c.args.passes ≡ c.loop-pass.invariant.2.0 = c.loop-pass.invariant.2.1 ∙ ap (λ (l : List (Carried g.row.E-Entry.Denot g.row.E-Job.Denot)). l ++ c.loop-pass.invariant.2.0) (nil_of c.loop-pass.rest zero) in
    let last : IsLast g.E.Held.book (g.E.Held.stands_on g.E.Held.ground) c.loop-pass.seat.me.0 c.end.result = last_at _ _ _ _ _ c.enter.new.seat.me c.end.result c.enter.ensures.turn.1.is c.end.ensures in
    closes_seen _ _ _ g.E.Held.book (g.E.Held.stands_on g.E.Held.ground) c.args.passes c.loop-pass.invariant.2.0 c.loop-pass.seat.me.0 c.end.result is c.loop-pass.invariant.2.2 last

pub returns-clause-apart : goal.returns-clause-apart
returns-clause-apart g c =
    let zero : length c.loop-pass.rest ≡ 0 = search rules in
    let is : c.args.passes ≡ c.loop-pass.invariant.2.0 = c.loop-pass.invariant.2.1 ∙ ap (λ (l : List (Carried g.row.E-Entry.Denot g.row.E-Job.Denot)). l ++ c.loop-pass.invariant.2.0) (nil_of c.loop-pass.rest zero) in
    let last : IsLast g.E.Held.book (g.E.Held.stands_on g.E.Held.ground) c.loop-pass.seat.me.0 c.end.result = last_at _ _ _ _ _ c.enter.new.seat.me c.end.result c.enter.ensures.turn.1.is c.end.ensures in
    closes_apart _ _ _ g.E.Held.book (g.E.Held.stands_on g.E.Held.ground) c.args.passes c.loop-pass.invariant.2.0 c.loop-pass.seat.me.0 c.end.result is c.loop-pass.invariant.2.2 last
