use Rattle.std.proofs.Common.{◌∙◌, sym, ap, arith}
use Rattle.ut_unsorted.specs.FirstSeen.{key_eq}
use Rattle.ut_l2.specs.Places.{places_where}
use Rattle.ut_l2.proofs.ColumnLemmas.{few, places-of, no-places}
use Rattle.ut_l2.proofs.column.Column.places.Goals as goal

pub code-requires : goal.code-requires
code-requires c = let f = few c.self.inside.dict c.self.inside.codes.items c.self.inside.postings c.self.invariant in omega (arith, c.self.invariant.count)

pub returns-in-Some : goal.returns-in-Some
returns-in-Some c = c.places.ensures ∙ places-of c.self.inside.dict c.self.inside.codes.items c.self.inside.postings c.self.invariant c.args.key.now c.in-Some.code (sym c.in-Some.ensures) ∙ ap (places_where (key_eq c.args.key.now)) c.self.view_is

pub returns-in-None : goal.returns-in-None
returns-in-None c = no-places c.self.inside.dict c.self.inside.codes.items c.self.inside.postings c.self.invariant c.args.key.now (sym c.in-None.ensures) ∙ ap (places_where (key_eq c.args.key.now)) c.self.view_is
