use Rattle.std.proofs.Common.{◌≡◌, ◌∙◌, ◌+◌, ◌<◌, ◌≤◌, ◌^◌, ◌++◌, [], ◌∷◌, List, ℕ, length, get_or, subst, sym, ap, arith}
use Rattle.std.specs.Arc.{arc_value}
use Rattle.ut_l2.specs.KeyRows.{cells_at}
use Rattle.ut_own.specs.Own.{own_dict}
use Rattle.ut_prefix.specs.Chain.{end_to_end, LacksAll}
use Rattle.ut_main.specs.Parts.{MainValue, shared_parts, rows_in}
use Rattle.ut_main.proofs.OwnLemmas.{own-lacks}
use Rattle.ut_main.proofs.MainLemmas.{main-wide, main-own, part-met, dicts-few, dicts-more}
use Rattle.ut_main.proofs.parts.Main.dicts.Goals as goal

pub dict-requires : goal.dict-requires
dict-requires c =
    let main = c.args.self.now in
    let n = c.loop-part.part-index in
    let part = part-met c.self.inside.parts.items c.as_slice-parts.result.now c.self.inside.width n main c.part-item.result c.deref.result.now c.as_slice-parts.ensures.value c.self.view_is (omega (arith, c.loop-part-test.true)) c.part-item.is c.deref.ensures in
    subst (λ m. c.args.column < m) (sym (main-wide c.self.inside.width (shared_parts c.self.inside.parts.items) c.self.invariant main c.self.view_is n part.within c.deref.result.now part.at)) c.requires

pub push-requires-clause-apart : goal.push-requires-clause-apart
push-requires-clause-apart c =
    let main = c.args.self.now in
    let n = c.loop-part.part-index in
    let part = part-met c.self.inside.parts.items c.as_slice-parts.result.now c.self.inside.width n main c.part-item.result c.deref.result.now c.as_slice-parts.ensures.value c.self.view_is (omega (arith, c.loop-part-test.true)) c.part-item.is c.deref.ensures in
    let own : arc_value c.in_ok-try_clone.field-0 ≡ own_dict (end_to_end c.loop-part.chain) (cells_at c.args.column (get_or main.parts n [])) =
    c.in_ok-try_clone.ensures ∙ c.dict.ensures ∙ main-own c.self.inside.width (shared_parts c.self.inside.parts.items) c.self.invariant main c.self.view_is n part.within c.deref.result.now part.at c.args.column c.loop-part.chain c.loop-part.invariant.is in
    subst (LacksAll c.loop-part.chain) (sym own) (own-lacks c.loop-part.chain (cells_at c.args.column (get_or main.parts n [])))

pub push-requires-clause-few : goal.push-requires-clause-few
push-requires-clause-few c =
    let main = c.args.self.now in
    let n = c.loop-part.part-index in
    let part = part-met c.self.inside.parts.items c.as_slice-parts.result.now c.self.inside.width n main c.part-item.result c.deref.result.now c.as_slice-parts.ensures.value c.self.view_is (omega (arith, c.loop-part-test.true)) c.part-item.is c.deref.ensures in
    let own : arc_value c.in_ok-try_clone.field-0 ≡ own_dict (end_to_end c.loop-part.chain) (cells_at c.args.column (get_or main.parts n [])) =
    c.in_ok-try_clone.ensures ∙ c.dict.ensures ∙ main-own c.self.inside.width (shared_parts c.self.inside.parts.items) c.self.invariant main c.self.view_is n part.within c.deref.result.now part.at c.args.column c.loop-part.chain c.loop-part.invariant.is in
    let rows : rows_in main ≤ 2147483647 = subst (λ (m : MainValue). rows_in m ≤ 2147483647) c.self.view_is c.self.invariant.rows in
    subst (λ (d : List (List ℕ)). length (end_to_end c.loop-part.chain) + length d < 2 ^ 31) (sym own) (dicts-few main c.args.column n c.loop-part.chain c.requires part.within c.loop-part.invariant rows)

pub loop-part-preserved : goal.loop-part-preserved
loop-part-preserved c =
    let main = c.args.self.now in
    let n = c.loop-part.part-index in
    let part = part-met c.self.inside.parts.items c.as_slice-parts.result.now c.self.inside.width n main c.part-item.result c.deref.result.now c.as_slice-parts.ensures.value c.self.view_is (omega (arith, c.loop-part-test.true)) c.part-item.is c.deref.ensures in
    let own : arc_value c.in_ok-try_clone.field-0 ≡ own_dict (end_to_end c.loop-part.chain) (cells_at c.args.column (get_or main.parts n [])) =
    c.in_ok-try_clone.ensures ∙ c.dict.ensures ∙ main-own c.self.inside.width (shared_parts c.self.inside.parts.items) c.self.invariant main c.self.view_is n part.within c.deref.result.now part.at c.args.column c.loop-part.chain c.loop-part.invariant.is in
    dicts-more main c.args.column n c.loop-part.chain c.requires part.within c.loop-part.invariant c.push.new.self (c.in_ok-push.ensures.ok ∙ ap (λ (d : List (List ℕ)). c.loop-part.chain ++ d ∷ []) own)
