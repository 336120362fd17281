-- Rows whose values stand in one list.
use Rattle.std.proofs.Common.{zero, suc, List, [], ◌∷◌, ◌++◌, IsTrue, All, subst, arith}
use Rattle.std.specs.List.{list_all, flat_map}
use Rattle.std.proofs.lemmas.List.Folds.{list_all-append}
use Rattle.ut_value.specs.declared.value.Row.{Row}
use Rattle.ut_value.specs.declared.value.Value.{Value}
use Rattle.ut_value.specs.KeyBytes.{is_value}
use Rattle.ut_plain.proofs.BoolLemmas.{and_left, and_right}

keeps_front : (vs ws : List Value) → IsTrue (list_all is_value (vs ++ ws)) → IsTrue (list_all is_value vs)
keeps_front vs ws h = and_left (list_all is_value vs) (list_all is_value ws) (subst IsTrue (list_all-append is_value vs ws) h)

keeps_back : (vs ws : List Value) → IsTrue (list_all is_value (vs ++ ws)) → IsTrue (list_all is_value ws)
keeps_back vs ws h = and_right (list_all is_value vs) (list_all is_value ws) (subst IsTrue (list_all-append is_value vs ws) h)

-- where all values keep their rule, those of each row do
pub flat-kept : (rows : List Row) → IsTrue (list_all is_value (flat_map (λ (r : Row). r.values) rows)) → All (λ (r : Row). IsTrue (list_all is_value r.values)) rows
flat-kept [] h k d lt = absurd (omega (arith, lt))
flat-kept (r ∷ rs) h zero d lt = keeps_front r.values (flat_map (λ (q : Row). q.values) rs) h
flat-kept (r ∷ rs) h (suc k) d lt = flat-kept rs (keeps_back r.values (flat_map (λ (q : Row). q.values) rs) h) k d (omega (arith, lt))
