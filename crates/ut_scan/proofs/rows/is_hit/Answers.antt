use Rattle.std.proofs.Common.{◌≡◌, ◌∙◌, ◌&&◌, false, length, get_or, ap, sym, subst, arith, rules, IfSome, FitsSigned, w64}
use Rattle.std.proofs.lemmas.Int.{to_z-of_z}
use Rattle.ut_key.specs.declared.comparison.Cmp.TheVariants.{Eq}
use Rattle.ut_key.specs.Keys.{meets}
use Rattle.ut_value.specs.KeyBytes.{int_key, key_of}
use Rattle.ut_stamps.specs.Stamps.{sees}
use Rattle.ut_scan.specs.Seeks.{IsSought}
use Rattle.ut_scan.proofs.SoughtLemmas.{other-out}
use Rattle.ut_scan.proofs.rows.is_hit.Goals as goal

pub bounds-values-from : goal.bounds-values-from
bounds-values-from c =
    let sought = subst (λ o. IfSome o (IsSought c.args.preds.now)) c.in-Some.is c.requires.sought in
    let within = sought.column (length c.args.row.now.values) c.requires.columns in
    omega (arith, within, c.from.ensures, ap length c.as_slice-values.ensures)

pub returns : goal.returns
returns c =
    let row = c.args.row.now in
    let v = c.index-values-from.result in
    let s = c.in-Some.sought in
    let sought = subst (λ o. IfSome o (IsSought c.args.preds.now)) c.in-Some.is c.requires.sought in
    let at : c.index-values-from.result ≡ get_or c.args.row.now.values c.in-Some.sought.column c.index-values-from.result =
    c.index-values-from.is ∙ ap (λ l. get_or l c.from.result v) c.as_slice-values.ensures ∙ ap (λ k. get_or row.values k v) c.from.ensures in
    let fits : FitsSigned w64 c.in-Some.sought.number = search rules in
    let other : meets Eq (int_key c.in-Some.sought.number) (key_of c.index-values-from.result) ≡ false =
    subst (λ x. meets Eq (int_key x) (key_of v) ≡ false) (to_z-of_z w64 s.number fits) (c.is_other.ensures c.if-is_other.true) in
    ap (λ b. b && sees c.args.snapshot.now.fates.now c.args.snapshot.now.at c.args.snapshot.now.own c.args.stamp.now)
    (sym (other-out c.args.preds.now row s v sought (sought.column (length row.values) c.requires.columns) at other))
