use Rattle.std.proofs.Common.{◌≡◌, ◌∙◌, length, map, sym, ap, subst, arith}
use Rattle.std.proofs.lemmas.List.{length-map}
use Rattle.std.specs.List.{flat_map}
use Rattle.ut_l2.specs.KeyRows.{KeyRow}
use Rattle.ut_main.specs.Parts.{PartValue}
use Rattle.ut_main.specs.Reading.{MayBeIds, MayBeColumns}
use Rattle.ut_main.specs.Spelling.{part_bytes, column_bytes, columns_of, MayStand}
use Rattle.ut_main.proofs.StandLemmas.{part-stands, part-spelled, stands-ids, stands-columns, ids-one}
use Rattle.ut_main.proofs.bytes.counted_part.Goals as goal

pub returns-in-Some-2-clause-some : goal.returns-in-Some-2-clause-some
returns-in-Some-2-clause-some g c =
    let main = c.args.earlier.now in
    let ids = c.in-Some.ids.items in
    let read = c.in-Some-2.read.items in
    let found = rw c.in-Some.is at c.in_ok-ids.ensures.some in
    let cols = rw c.in-Some-2.is at c.in_ok-read.ensures.some in
    let heads = subst (λ n. MayBeIds n c.in-Some.ids.items) c.rows.ensures.rows found.0 in
    let count : c.len-rows.result ≡ length c.in-Some.ids.items = omega (arith, c.len-rows.ensures, c.in-Some.ids.ok.0) in
    let columns = subst (λ n. MayBeColumns c.args.columns.now main n c.in-Some-2.read.items) count cols.0 in (
      subst (MayStand c.args.columns.now main) (sym c.of.ensures) (part-stands c.args.columns.now main ids read c.requires.width heads columns),
      part-spelled c.args.columns.now main ids read c.requires.width heads columns c.args.bytes.now c.in-Some.rest.now found.1 cols.1 ∙ ap (λ (p : PartValue). part_bytes p) (sym c.of.ensures),
    )

pub returns-clause-none : goal.returns-clause-none
returns-clause-none g c = λ part may is.
    let main = c.args.earlier.now in
    let ids = map (λ (r : KeyRow). r.id) part.rows in
    let found = rw c.in-Some.is at c.in_ok-ids.ensures.some in
    let heads = stands-ids c.args.columns.now main part c.requires.width may in
    let few = found.0.few in
    let less = heads.few in
    let one = ids-one c.in-Some.ids.items ids c.in-Some.rest.now (flat_map column_bytes (columns_of part)) (omega (arith, few)) (omega (arith, less)) found.0.ids heads.ids (sym found.1 ∙ is) in
    let count : c.len-rows.result ≡ length c.in-Some.ids.items = omega (arith, c.len-rows.ensures, c.in-Some.ids.ok.0) in
    let size : length part.rows ≡ c.len-rows.result = sym (count ∙ ap length one.0 ∙ length-map part.rows (λ (r : KeyRow). r.id)) in
    let columns = subst (λ n. MayBeColumns c.args.columns.now main n (columns_of part)) size (stands-columns c.args.columns.now main part c.requires.width may) in
    let none = rw c.in-None.is at c.in_ok-read.ensures.none in
    none (columns_of part) columns one.1
