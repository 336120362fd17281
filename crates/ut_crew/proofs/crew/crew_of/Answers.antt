use Rattle.std.proofs.Common.{rules, ◌≡◌, ◌∙◌, refl, ap, ◌∷◌, Some, [], length, length-append, arith}
use Rattle.std.proofs.lemmas.List.{nil_from_length}
use Rattle.std.proofs.lemmas.List.Elements.{All-pop, All-push, All-same}
use Rattle.ut_gate.specs.Passes.{Carried}
use Rattle.ut_crew.specs.declared.member.Member.{Member}
use Rattle.ut_crew.specs.declared.role.Role.{Role}
use Rattle.ut_crew.specs.Starting.{left_of}
use Rattle.ut_crew.proofs.Parts.{one_given, all_given, all_parts}
use Rattle.ut_crew.proofs.crew.crew_of.Goals.{in_default, in-Some+in_default-next}
use Rattle.ut_crew.proofs.crew.crew_of.Goals as goal

pub loop-pass-init : goal.loop-pass-init
loop-pass-init g c =
    let Q : Member g.row.E.Denot g.row.A.Denot g.row.M.Denot g.row.S.Denot g.row.E-Job.Denot g.row.E-Entry.Denot → Type 0 = λ m. m.pass.gate ≡ c.args.gate.now in
    let all = all_parts c.args.saver c.args.merger c.args.sessions.items in
    let enough = c.requires.enough in
    let room = c.requires.room in
    let none = c.requires.members in (
      c.requires.own,
      All-same Q c.args.members.items [] none (λ k d below. search (rules)),
      search rules,
      search rules,
      search rules,
      search rules,
    )

pub loop-pass-preserved : goal.loop-pass-preserved
loop-pass-preserved g c =
    let gate = c.args.gate.now in
    let P : Carried g.row.E-Entry.Denot g.row.E-Job.Denot → Type 0 = λ p. p.gate ≡ gate in
    let Q : Member g.row.E.Denot g.row.A.Denot g.row.M.Denot g.row.S.Denot g.row.E-Job.Denot g.row.E-Entry.Denot → Type 0 = λ m. m.pass.gate ≡ gate in
    let part : Member g.row.E.Denot g.row.A.Denot g.row.M.Denot g.row.S.Denot g.row.E-Job.Denot g.row.E-Entry.Denot → Role g.row.A.Denot g.row.M.Denot g.row.S.Denot = λ m. m.role in
    let split = All-pop P c.loop-pass.passes c.pop.new.self (Some c.in-Some.pass) c.in-Some.ensures c.loop-pass.invariant.0 in
    let fewer = ap (λ ps. length ps) c.in-Some.ensures ∙ length-append c.pop.new.self (c.in-Some.pass ∷ []) in
    let given = c.in-Some-next.ensures.given in
    let less = ap (λ rs. length rs) given in
    let b = c.push_reserved.ensures.len in
    let d = c.push_reserved.ensures.capacity in
    let i = c.loop-pass.invariant.2 in
    let j = c.loop-pass.invariant.3 in
    let k = c.loop-pass.invariant.4 in (
      split.0,
      All-same Q c.push_reserved.new.self.items _ c.push_reserved.ensures.items (All-push Q c.loop-pass.members.items _ c.loop-pass.invariant.1 split.1),
      omega arith,
      omega arith,
      omega arith,
      one_given part c.loop-pass.members.items c.push_reserved.new.self.items _ _ _ _ c.push_reserved.ensures.items given c.loop-pass.invariant.5,
    )

pub returns-clause-len : goal.returns-clause-len
returns-clause-len g c =
    let left = left_of c.loop-pass.parts.saver c.loop-pass.parts.merger c.loop-pass.parts.sessions.items in
    let same = c.loop-pass.invariant.2 in
    let all = c.loop-pass.invariant.4 in
    elim c.match-pop.branch [
      | in_default w ↦ let none : length c.loop-pass.passes ≡ 0 = search (rules, w.in_default.ensures) in omega arith
      | in-Some+in_default-next w ↦ let none : length left ≡ 0 = ap (λ rs. length rs) w.in_default-next.ensures.none in omega arith
    ]

pub returns-clause-parts : goal.returns-clause-parts
returns-clause-parts g c =
    let part : Member g.row.E.Denot g.row.A.Denot g.row.M.Denot g.row.S.Denot g.row.E-Job.Denot g.row.E-Entry.Denot → Role g.row.A.Denot g.row.M.Denot g.row.S.Denot = λ m. m.role in
    let left = left_of c.loop-pass.parts.saver c.loop-pass.parts.merger c.loop-pass.parts.sessions.items in
    let same = c.loop-pass.invariant.2 in
    elim c.match-pop.branch [
      | in_default w ↦
          let none : length c.loop-pass.passes ≡ 0 = search (rules, w.in_default.ensures) in
          all_given part c.loop-pass.members.items left _ (nil_from_length left (omega arith)) c.loop-pass.invariant.5
      | in-Some+in_default-next w ↦ all_given part c.loop-pass.members.items left _ w.in_default-next.ensures.none c.loop-pass.invariant.5
    ]
