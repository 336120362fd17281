use Rattle.std.proofs.Common.{◌≡◌, ◌∙◌, length, sym, ap, subst}
use Rattle.std.proofs.lemmas.List.{length-map}
use Rattle.ut_main.specs.Columns.{ColumnValue}
use Rattle.ut_main.specs.Parts.{PartValue, part_value, AreWide}
use Rattle.ut_main.proofs.PartLemmas.{part-length, part-wide}
use Rattle.ut_main.proofs.part.Part.len.Goals as goal

pub returns-clause-len : goal.returns-clause-len
returns-clause-len c =
    ap length c.as_slice.ensures.value ∙ sym (part-length c.self.inside.ids.items c.self.inside.columns.items c.self.invariant) ∙ ap (λ (p : PartValue). length p.rows) c.self.view_is

pub returns-clause-wide : goal.returns-clause-wide
returns-clause-wide c =
    let p = part_value c.self.inside.ids.items c.self.inside.columns.items in
    let size : length c.self.inside.columns.items ≡ length p.before = sym (length-map c.self.inside.columns.items (λ (x : ColumnValue). x.before)) in
    let wide = part-wide c.self.inside.ids.items c.self.inside.columns.items c.self.invariant in
    subst (λ (q : PartValue). AreWide (length q.before) q.rows) c.self.view_is (subst (λ n. AreWide n p.rows) size wide)
