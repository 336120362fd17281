use Rattle.std.proofs.Common.{◌∙◌, ◌≡◌, ◌+◌, ◌≤◌, false, ap, sym, List, ℕ, ◌++◌, arith, length}
use Rattle.std.specs.Option.{option_map}
use Rattle.ut_script.specs.Words.{words_of}
use Rattle.ut_script.specs.Statements.{names_before, is_where}
use Rattle.ut_script.proofs.StatementLemmas.{names-next, names-room}
use Rattle.ut_script.proofs.select.read_names.Goals as goal

pub push_reserved-requires : goal.push_reserved-requires
push_reserved-requires c =
    let front = c.loop-word.names.items in
    let other : is_where c.in-Some.word.now ≡ false = sym c.is_where.ensures ∙ c.if-is_where.false in
    let room : length front + 1 ≤ c.args.count = names-room front c.in-Some.word.now c.in_ok-read_name.field-0 (words_of c.in-Some.behind.now) _ c.args.count c.requires other c.in_ok-read_name.ensures.says
    (ap (λ (ws : List (List ℕ)). option_map (λ l. front ++ l) (names_before ws)) (sym c.in-Some.ensures.found) ∙ c.loop-word.invariant.rest) in
    omega (arith, room, c.loop-word.names.ok.0)

pub loop-word-preserved : goal.loop-word-preserved
loop-word-preserved c =
    let front = c.loop-word.names.items in
    let other : is_where c.in-Some.word.now ≡ false = sym c.is_where.ensures ∙ c.if-is_where.false in
    record {
      rest = ap (λ (ns : List (List ℕ)). option_map (λ l. ns ++ l) (names_before (words_of c.in-Some.behind.now))) c.push_reserved.ensures.items
          ∙ names-next front c.in-Some.word.now c.in_ok-read_name.field-0 (words_of c.in-Some.behind.now) other c.in_ok-read_name.ensures.says
          ∙ ap (λ (ws : List (List ℕ)). option_map (λ l. front ++ l) (names_before ws)) (sym c.in-Some.ensures.found)
          ∙ c.loop-word.invariant.rest;
      room = c.push_reserved.ensures.capacity ∙ c.loop-word.invariant.room;
    }
