use Rattle.std.proofs.Common.{rules, ◌≡◌, ℕ, ◌+◌, ◌-◌, Option, List, [], ◌∷◌, ◌++◌, replicate, suc, ap, ◌∙◌, arith}
use Rattle.atomic_table.specs.Table.{Me}
use Rattle.ut_gate.specs.declared.view.Home.{Home}
use Rattle.ut_gate.specs.declared.view.View.{View}
use Rattle.ut_gate.specs.Tells.{cut_left}
use Rattle.ut_gate.specs.Passes.{Carried, fresh}
use Rattle.ut_gate.proofs.Splits.{splits_new}
use Rattle.ut_gate.proofs.Gathers.{replicate_more, fresh_is}
use Rattle.ut_gate.proofs.gate.deal.Goals as goal

pub split_seat-other-requires : goal.split_seat-other-requires
split_seat-other-requires g c = let inv = c.loop-i.invariant.2 in let sum = inv.3 in let at = inv.4 in (
  search rules,
  search rules,
  splits_new g.E.Held.book g.E.Held.job (g.E.Held.stands_on g.E.Held.ground) c.loop-i.seat.id inv.1 c.loop-i.seat.me inv.2 (omega arith),
)

pub loop-i-preserved : goal.loop-i-preserved
loop-i-preserved g c =
    let Mine : Type 0 = Me (Home g.row.E.Denot) (View g.row.E-Entry.Denot g.row.E-Job.Denot) in
    let inv = c.loop-i.invariant.2 in
    let sum = inv.3 in
    let at = inv.4 in
    let gate = c.args.line.now.table_id in
    let one_more : suc inv.0 ≡ inv.0 + 1 = omega arith in
    let other = c.split_seat-other.result in
    let seen : other.me.0.seen ≡ [] = ap (λ (z : Mine). z.0.seen) c.split_seat-other.ensures.4 ∙ ap (λ (z : Mine). z.0.seen) inv.2 in
    let own : other.me.0.own ≡ [] = ap (λ (z : Mine). z.0.own) c.split_seat-other.ensures.4 in
    let new : c.of.result ≡ fresh gate = c.of.ensures ∙ fresh_is _ _ _ other gate (search rules) seen own in (
      search rules,
      search rules,
      (
        inv.0 + 1,
        inv.1 - 1,
        c.split_seat-other.ensures.2 ∙ ap (λ (z : Mine). let w : Mine = (cut_left z.0, z.1) in w) inv.2,
        omega arith,
        omega arith,
        c.push_reserved.ensures.items
            ∙ ap (λ (l : List (Carried g.row.E-Entry.Denot g.row.E-Job.Denot)). l ++ c.of.result ∷ []) inv.5
            ∙ ap (λ (p : Carried g.row.E-Entry.Denot g.row.E-Job.Denot). replicate inv.0 (fresh gate) ++ p ∷ []) new
            ∙ replicate_more inv.0 (fresh gate)
            ∙ ap (λ (n : ℕ). replicate n (fresh gate)) one_more,
      ),
    )

pub returns : goal.returns
returns g c =
    let Mine : Type 0 = Me (Home g.row.E.Denot) (View g.row.E-Entry.Denot g.row.E-Job.Denot) in
    let inv = c.loop-i.invariant.2 in
    let at = inv.4 in
    let gate = c.args.line.now.table_id in
    let seen : c.loop-i.seat.me.0.seen ≡ [] = ap (λ (z : Mine). z.0.seen) inv.2 in
    let own : c.loop-i.seat.me.0.own ≡ [] = ap (λ (z : Mine). z.0.own) inv.2 in
    let new : c.of-2.result ≡ fresh gate = c.of-2.ensures ∙ fresh_is _ _ _ c.loop-i.seat gate c.loop-i.invariant.0.0 seen own in
    let far = c.loop-i-test.false in
    let auto = c.loop-i.auto.i-end c.requires.seats.0 in
    let count : suc inv.0 ≡ c.args.seats = omega arith in
    c.push_reserved-2.ensures.items
    ∙ ap (λ (l : List (Carried g.row.E-Entry.Denot g.row.E-Job.Denot)). l ++ c.of-2.result ∷ []) inv.5
    ∙ ap (λ (p : Carried g.row.E-Entry.Denot g.row.E-Job.Denot). replicate inv.0 (fresh gate) ++ p ∷ []) new
    ∙ replicate_more inv.0 (fresh gate)
    ∙ ap (λ (n : ℕ). replicate n (fresh gate)) count
