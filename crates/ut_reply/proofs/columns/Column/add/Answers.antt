use Rattle.std.proofs.Common.{ℕ, ◌≡◌, ◌-◌, ◌++◌, ◌∷◌, ◌<◌, Option, length, take, drop, ap, sym, subst, ◌∙◌}
use Rattle.std.proofs.lemmas.List.{length-map}
use Rattle.std.specs.Prelude.{IfSome}
use Rattle.ut_rows.specs.Columns.{value_in, values_at}
use Rattle.ut_reply.specs.Columns.{Led, AreTexts, cell_text}
use Rattle.ut_reply.specs.declared.columns.Texts.{Texts}
use Rattle.ut_reply.specs.Texts.{value_text}
use Rattle.ut_reply.proofs.TextsLemmas.{text_taken}
use Rattle.ut_reply.proofs.columns.Column.add.Goals as goal

pub returns-in-Some-clause-text : goal.returns-in-Some-clause-text
returns-in-Some-clause-text c =
    let lead = c.self.inside.lead in
    let values = c.self.inside.values.now in
    let places = c.self.inside.places.now in
    let bytes = c.in-Some.texts.bytes.items in
    let bounds = c.in-Some.texts.bounds.items in
    let row = c.args.row in
    let start = c.index.result.now in
    let end = c.index-in-Some.result.now in
    let are : AreTexts lead values bytes bounds = subst (λ (it : Option Texts). IfSome it (λ t. AreTexts lead values t.bytes.items t.bounds.items)) c.in-Some.is c.self.invariant.made in
    let seen : row < length (values_at values places) = subst (λ (it : Led). row < length it.values) (sym c.self.view_is) c.requires.within in
    let below : row < length places = subst (λ (n : ℕ). row < n) (length-map places (value_in values)) seen in
    let text : take (end - start) (drop start bytes) ≡ lead ∷ value_text (value_in (values_at values places) row) =
    text_taken lead values places bytes bounds row start end are c.self.invariant.within below c.index.ensures c.index-in-Some.ensures in
    c.add.ensures.text ∙ ap (λ it. c.args.out.now.items ++ take (end - start) (drop start it)) c.deref.ensures.value ∙ ap (λ run. c.args.out.now.items ++ run) text ∙ ap (λ it. c.args.out.now.items ++ cell_text row it) c.self.view_is
