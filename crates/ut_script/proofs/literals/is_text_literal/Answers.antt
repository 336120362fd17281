use Rattle.std.proofs.Common.{ℕ, Bool, ◌&&◌, List, ◌≡◌, ◌+◌, [], false, nat_eq, ap, ◌∙◌, sym, drop, get_or, arith}
use Rattle.std.proofs.lemmas.Grind.{common_steps}
use Rattle.std.specs.Prelude.{nat_le}
use Rattle.std.specs.Option.{option_map}
use Rattle.ut_script.specs.Literals.{unquoted}
use Rattle.ut_script.proofs.LiteralLemmas.{fits, fits-plain, fits-doubled, fits-behind, fits-never, fits-done, fits-not, next_byte}
use Rattle.ut_script.proofs.literals.is_text_literal.Goals as goal

pub loop-b-preserved-then-b-ne-QUOTE : goal.loop-b-preserved-then-b-ne-QUOTE
loop-b-preserved-then-b-ne-QUOTE c =
    let i = c.loop-b.b-index in
    let bytes = c.args.bytes.now in
    let b = get_or bytes i 0 in
    let n = c.loop-b.count in
    let other : nat_eq b 39 ≡ false = grind (arith, common_steps, c.if-b-ne-QUOTE.true) in
    let whole = ap (λ (xs : List ℕ). option_map (fits n) (unquoted c.loop-b.pending xs)) (sym (next_byte bytes i (omega arith))) ∙ c.loop-b.invariant.rest in
    record {
      rest = fits-plain n b (drop (i + 1) bytes) c.loop-b.pending c.if-pending.false other (sym c.is_text_byte.ensures ∙ c.if-not-is_text_byte.false) ∙ whole;
      few = omega arith;
    }

pub loop-b-preserved-then-pending-2 : goal.loop-b-preserved-then-pending-2
loop-b-preserved-then-pending-2 c =
    let i = c.loop-b.b-index in
    let bytes = c.args.bytes.now in
    let b = get_or bytes i 0 in
    let n = c.loop-b.count in
    let quote : b ≡ 39 = omega (arith, c.if-b-ne-QUOTE.false) in
    let whole = ap (λ (xs : List ℕ). option_map (fits n) (unquoted c.loop-b.pending xs)) (sym (next_byte bytes i (omega arith))) ∙ c.loop-b.invariant.rest in
    record {
      rest = fits-doubled n b (drop (i + 1) bytes) c.loop-b.pending c.if-pending-2.true quote ∙ whole;
      few = omega arith;
    }

pub returns-then-pending : goal.returns-then-pending
returns-then-pending c =
    let i = c.loop-b.b-index in
    let bytes = c.args.bytes.now in
    let b = get_or bytes i 0 in
    let n = c.loop-b.count in
    let other : nat_eq b 39 ≡ false = grind (arith, common_steps, c.if-b-ne-QUOTE.true) in
    fits-not _ _ bytes (fits-behind n b (drop (i + 1) bytes) c.loop-b.pending c.if-pending.true other)
    (ap (λ (xs : List ℕ). option_map (fits n) (unquoted c.loop-b.pending xs)) (sym (next_byte bytes i (omega arith)))) c.loop-b.invariant.rest

pub returns-then-not-is_text_byte : goal.returns-then-not-is_text_byte
returns-then-not-is_text_byte c =
    let i = c.loop-b.b-index in
    let bytes = c.args.bytes.now in
    let b = get_or bytes i 0 in
    let n = c.loop-b.count in
    let other : nat_eq b 39 ≡ false = grind (arith, common_steps, c.if-b-ne-QUOTE.true) in
    fits-not _ _ bytes (fits-never n b (drop (i + 1) bytes) c.loop-b.pending c.if-pending.false other (sym c.is_text_byte.ensures ∙ c.if-not-is_text_byte.true))
    (ap (λ (xs : List ℕ). option_map (fits n) (unquoted c.loop-b.pending xs)) (sym (next_byte bytes i (omega arith)))) c.loop-b.invariant.rest

pub returns-then-pending-3 : goal.returns-then-pending-3
returns-then-pending-3 c =
    let bytes = c.args.bytes.now in
    let n = c.loop-b.count in
    let none : drop c.loop-b.b-index bytes ≡ [] = grind (arith, common_steps) in
    ap (λ (t : Bool). t && nat_le n 255) (sym c.if-pending-3.true) ∙ fits-done n c.loop-b.pending _ bytes none c.loop-b.invariant.rest

pub returns-else-pending-3 : goal.returns-else-pending-3
returns-else-pending-3 c =
    let bytes = c.args.bytes.now in
    let n = c.loop-b.count in
    let none : drop c.loop-b.b-index bytes ≡ [] = grind (arith, common_steps) in
    c.if-pending-3.false ∙ ap (λ (t : Bool). t && nat_le n 255) (sym c.if-pending-3.false) ∙ fits-done n c.loop-b.pending _ bytes none c.loop-b.invariant.rest
