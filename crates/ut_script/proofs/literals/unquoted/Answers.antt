use Rattle.std.proofs.Common.{ℕ, List, ◌≡◌, ◌+◌, ◌++◌, false, nat_eq, ap, ◌∙◌, drop, get_or, arith, Option}
use Rattle.std.proofs.lemmas.Grind.{common_steps}
use Rattle.std.specs.Prelude.{is_some}
use Rattle.std.specs.Option.{option_map}
use Rattle.ut_script.specs.Literals.{unquoted}
use Rattle.ut_script.proofs.LiteralLemmas.{unquoted-next, unquoted-plain, unquoted-doubled, unquoted-opened}
use Rattle.ut_script.proofs.literals.unquoted.Goals as goal

pub loop-b-preserved-then-b-ne-QUOTE : goal.loop-b-preserved-then-b-ne-QUOTE
loop-b-preserved-then-b-ne-QUOTE c =
    let i = c.loop-b.b-index in
    let bytes = c.args.bytes.now in
    let b = get_or bytes i 0 in
    let front = c.loop-b.text.items in
    let other : nat_eq b 39 ≡ false = grind (arith, common_steps, c.if-b-ne-QUOTE.true) in
    let whole = unquoted-next front bytes i c.loop-b.pending _ (omega arith) c.loop-b.invariant.rest in
    record {
      rest = ap (λ (t : List ℕ). option_map (λ x. t ++ x) (unquoted c.loop-b.pending (drop (i + 1) bytes))) c.push_reserved.ensures.items
          ∙ unquoted-plain front b (drop (i + 1) bytes) c.loop-b.pending other (ap (λ (o : Option (List ℕ)). is_some o) whole ∙ c.requires)
          ∙ whole;
      len = omega arith;
      room = c.push_reserved.ensures.capacity ∙ c.loop-b.invariant.room;
    }

pub loop-b-preserved-then-pending : goal.loop-b-preserved-then-pending
loop-b-preserved-then-pending c =
    let i = c.loop-b.b-index in
    let bytes = c.args.bytes.now in
    let whole = unquoted-next c.loop-b.text.items bytes i c.loop-b.pending _ (omega arith) c.loop-b.invariant.rest in
    record {
      rest = ap (λ (t : List ℕ). option_map (λ x. t ++ x) (unquoted false (drop (i + 1) bytes))) c.push_reserved-then-pending.ensures.items
          ∙ unquoted-doubled c.loop-b.text.items (get_or bytes i 0) (drop (i + 1) bytes) c.loop-b.pending c.if-pending.true (omega (arith, c.if-b-ne-QUOTE.false))
          ∙ whole;
      len = omega arith;
      room = c.push_reserved-then-pending.ensures.capacity ∙ c.loop-b.invariant.room;
    }

pub loop-b-preserved : goal.loop-b-preserved
loop-b-preserved c =
    let bytes = c.args.bytes.now in
    let whole = unquoted-next c.loop-b.text.items bytes c.loop-b.b-index c.loop-b.pending _ (omega arith) c.loop-b.invariant.rest in
    record {
      rest = unquoted-opened c.loop-b.text.items (get_or bytes c.loop-b.b-index 0) (drop (c.loop-b.b-index + 1) bytes) c.loop-b.pending c.if-pending.false (omega (arith, c.if-b-ne-QUOTE.false)) ∙ whole;
      len = omega arith;
      room = c.loop-b.invariant.room;
    }
