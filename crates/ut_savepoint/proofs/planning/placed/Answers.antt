use Rattle.std.proofs.Common.{◌≡◌, List, ℕ, get_or, length, refl, sym, ◌∙◌, ap, arith}
use Rattle.ut_durable.specs.Bytes.{pages_for}
use Rattle.ut_savepoint.specs.Planning.{pages_of, directory_of}
use Rattle.ut_savepoint.proofs.PageLemmas.{fills_pages}
use Rattle.ut_savepoint.proofs.SpellLemmas.{directory_long}
use Rattle.ut_savepoint.proofs.PlanLemmas.{fit_all, placed_is, plans_on}
use Rattle.ut_savepoint.proofs.planning.placed.Goals as goal

pub add-requires : goal.add-requires
add-requires c =
    let bytes : c.deref.result.now ≡ directory_of c.args.first.now c.args.tables.now = c.deref.ensures.value ∙ c.in_ok-directory.ensures in
    fills_pages c.args.own.now c.deref.result.now (c.requires.own ∙ ap pages_for (sym (directory_long c.args.first.now c.args.tables.now) ∙ ap (λ (l : List ℕ). length l) (sym bytes)))

pub returns : goal.returns
returns c =
    let bytes : c.deref.result.now ≡ directory_of c.args.first.now c.args.tables.now = c.deref.ensures.value ∙ c.in_ok-directory.ensures in
    let long : c.len.result ≡ length c.deref.result.now = omega (arith, c.len.ensures, c.deref.ensures.len) in
    let is = placed_is c.args.root c.args.tables.now c.args.parts.now c.args.first.now c.args.own.now c.deref.result.now c.len.result (get_or c.args.own.now 0 0) c.new-savepoint.result c.add_parts.new.savepoint c.add.new.self c.requires.spelled bytes long refl
    c.new-savepoint.ensures c.in_ok-add_parts.ensures c.in_ok-add.ensures in
    plans_on c.args.root c.args.tables.now c.args.first.now c.args.own.now c.add.new.self (c.requires.parts ∙ ap pages_of c.requires.spelled) c.requires.own (fit_all c.args.first.now c.type_inv.first, fit_all c.args.own.now c.type_inv.own) is
