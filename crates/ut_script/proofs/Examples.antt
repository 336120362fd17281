-- What some lines say and how some replies read, by computing the definitions.
use Rattle.std.proofs.Common.{◌≡◌, true, false, [], ◌∷◌, Some, refl, pos, negsuc}
use Rattle.std.specs.Prelude.{codes, ◌++◌}
use Rattle.ut_key.specs.declared.comparison.Cmp.TheVariants as ops
use Rattle.ut_value.specs.declared.value.Kind.TheVariants as kinds
use Rattle.ut_value.specs.declared.value.Value.TheVariants as values
use Rattle.ut_plain.specs.declared.statement.Query.TheVariants as queries
use Rattle.ut_plain.specs.declared.statement.Statement.TheVariants as statements
use Rattle.ut_plain.specs.declared.statement.Parsed.TheVariants.{Comment, Stranger, Bad, Good}
use Rattle.ut_script.specs.Literals.{text_of, int_of, value_of, column_of}
use Rattle.ut_script.specs.Conditions.{operator_of, comparison_of, conditions_of}
use Rattle.ut_script.specs.Grammar.{parsed}
use Rattle.ut_script.specs.Lines.{lines_of}

comment : parsed false (codes "# 1 begin") ≡ Comment
comment = refl

begin : parsed false (codes "  16   begin ") ≡ Good 16 statements.Begin
begin = refl

merge_end : parsed false (codes "0 merge end") ≡ Good 0 statements.MergeEnd
merge_end = refl

create : parsed false (codes "1 create T k:int v:text")
    ≡ Good 1 (statements.Create (codes "T") (record { name = codes "k"; kind = kinds.Int } ∷ record { name = codes "v"; kind = kinds.Text } ∷ []))
unfolding column_of
create = refl

select : parsed false (codes "1 select T k where v < 'j' and k <> -1")
    ≡ Good 1 (statements.Ask (queries.Select (codes "T") (Some (codes "k" ∷ []))
    (record { column = codes "v"; op = ops.Lt; value = values.Text (codes "j") } ∷ record { column = codes "k"; op = ops.Ne; value = values.Int (negsuc 0) } ∷ [])))
unfolding value_of text_of int_of operator_of comparison_of conditions_of
select = refl

lines : lines_of (codes "a" ++ 10 ∷ 10 ∷ codes "b") ≡ codes "a" ∷ [] ∷ codes "b" ∷ []
lines = refl
