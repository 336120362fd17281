use Rattle.std.proofs.Common.{◌≡◌, ℕ, ◌^◌, ◌<◌, ◌++◌, eqb, not, Bool, true, false, if◌then◌else◌, [], ◌∷◌, length, take, get_or, ap, sym, subst, ◌∙◌, arith, refl, eq-eqb}
use Rattle.std.specs.Int.{from_bool}
use Rattle.std.proofs.lemmas.List.{take_all, length-take-le}
use Rattle.std.proofs.lemmas.Bool.{ne_eqb}
use Rattle.ut_bits.specs.Bits.{AllBelow}
use Rattle.ut_bits.proofs.BitLemmas.{AllBelow-at}
use Rattle.ut_sparse.specs.Frequent.{IsMostFrequent}
use Rattle.ut_sparse.specs.Sparse.{marks_of, others_of, merged, AreSparse}
use Rattle.ut_sparse.proofs.SparseLemmas.{take-next, marks_of-append, others_of-same, others_of-other, length-marks_of, length-others_of, AllBelow-marks_of, AreSparse-of, merged-of}
use Rattle.ut_sparse.proofs.sparse.Sparse.leaving_out.Goals as goal
use Rattle.ut_sparse.proofs.sparse.Sparse.leaving_out.Goals.{then-code-left_out+in_ok-push-2, else-code-left_out}

mark-of : (b : Bool) → from_bool (not b) ≡ (if b then 0 else 1)
mark-of true = refl
mark-of false = refl

pub push-requires-clause-room : goal.push-requires-clause-room
push-requires-clause-room c =
    let size = ap (λ l. length l) c.loop-code.invariant.marks ∙ length-marks_of c.args.left_out.code (take c.loop-code.code-index c.args.codes.now) ∙ length-take-le c.loop-code.code-index c.args.codes.now (omega arith) in
    omega (arith, size, c.requires.count, c.loop-code-test.true)

pub push-requires-then-code-left_out-clause-below : goal.push-requires-then-code-left_out-clause-below
push-requires-then-code-left_out-clause-below c =
    subst (λ (w : ℕ). get_or c.args.codes.now c.loop-code.code-index 0 < 2 ^ w) (sym c.loop-code.invariant.width) (AllBelow-at _ c.args.codes.now c.loop-code.code-index c.requires.below c.loop-code-test.true)

pub push-requires-then-code-left_out-clause-room : goal.push-requires-then-code-left_out-clause-room
push-requires-then-code-left_out-clause-room c =
    let size = ap (λ l. length l) c.loop-code.invariant.others in
    let few = length-others_of c.args.left_out.code (take c.loop-code.code-index c.args.codes.now) in
    omega (arith, size, few, length-take-le c.loop-code.code-index c.args.codes.now (omega arith), c.requires.count, c.loop-code-test.true)

pub loop-code-preserved : goal.loop-code-preserved
loop-code-preserved c =
    let inv = c.loop-code.invariant in
    let left = c.args.left_out.code in
    let code = get_or c.args.codes.now c.loop-code.code-index 0 in
    let before = take c.loop-code.code-index c.args.codes.now in
    let next = take-next c.args.codes.now c.loop-code.code-index c.loop-code-test.true in
    let mark : c.from.result ≡ (if eqb code left then 0 else 1) = c.from.ensures ∙ mark-of (eqb code left) in
    record {
      one = c.in_ok-push.ensures.width ∙ inv.one;
      width = elim c.if-code-left_out.branch [
        | then-code-left_out+in_ok-push-2 w ↦ ap (λ v. v.width) w.others-is ∙ w.in_ok-push-2.ensures.width ∙ inv.width
        | else-code-left_out w ↦ ap (λ v. v.width) w.others-is ∙ inv.width
      ];
      marks = c.in_ok-push.ensures.ok ∙ ap (λ l. l ++ c.from.result ∷ []) inv.marks ∙ ap (λ (n : ℕ). marks_of left before ++ n ∷ []) mark ∙ sym (marks_of-append left before code) ∙ ap (λ l. marks_of left l) (sym next);
      others = elim c.if-code-left_out.branch [
        | then-code-left_out+in_ok-push-2 w ↦ ap (λ v. v.codes) w.others-is ∙ w.in_ok-push-2.ensures.ok ∙ ap (λ l. l ++ code ∷ []) inv.others ∙ sym (others_of-other left before code (ne_eqb code left w.if-code-left_out.true)) ∙ ap (λ l. others_of left l) (sym next)
        | else-code-left_out w ↦ ap (λ v. v.codes) w.others-is ∙ inv.others ∙ sym (others_of-same left before code (eq-eqb code left w.if-code-left_out.false)) ∙ ap (λ l. others_of left l) (sym next)
      ];
    }

pub ranks_of-requires-clause-bits : goal.ranks_of-requires-clause-bits
ranks_of-requires-clause-bits c =
    subst (λ l. AllBelow 2 l) (sym (c.in_ok-marks-2.ensures.codes ∙ c.loop-code.invariant.marks)) (AllBelow-marks_of c.args.left_out.code (take c.loop-code.code-index c.args.codes.now))

pub invariant_of-result : goal.invariant_of-result
invariant_of-result c =
    let left = c.args.left_out.code in
    let all : take c.loop-code.code-index c.args.codes.now ≡ c.args.codes.now = take_all c.loop-code.code-index c.args.codes.now (omega arith) in
    let marks : c.in_ok-marks-2.marks.codes ≡ marks_of left c.args.codes.now = c.in_ok-marks-2.ensures.codes ∙ c.loop-code.invariant.marks ∙ ap (λ l. marks_of left l) all in
    let others : c.in_ok-others-2.others.codes ≡ others_of left c.args.codes.now = c.in_ok-others-2.ensures.codes ∙ c.loop-code.invariant.others ∙ ap (λ l. others_of left l) all in
    let whole : merged left c.in_ok-marks-2.marks.codes c.in_ok-others-2.others.codes ≡ c.args.codes.now = ap (λ l. merged left l c.in_ok-others-2.others.codes) marks ∙ ap (λ l. merged left (marks_of left c.args.codes.now) l) others ∙ merged-of left c.args.codes.now in (
      c.in_ok-marks-2.ensures.width ∙ c.loop-code.invariant.one,
      omega (arith, ap (λ l. length l) marks, length-marks_of left c.args.codes.now, c.requires.count),
      subst (λ l. AreSparse left l c.in_ok-others-2.others.codes) (sym marks) (subst (λ l. AreSparse left (marks_of left c.args.codes.now) l) (sym others) (AreSparse-of left c.args.codes.now)),
      c.in_ok-ranks.ensures,
      subst (λ l. IsMostFrequent l left) (sym whole) c.requires.most,
    )

pub returns : goal.returns
returns c =
    let left = c.args.left_out.code in
    let all : take c.loop-code.code-index c.args.codes.now ≡ c.args.codes.now = take_all c.loop-code.code-index c.args.codes.now (omega arith) in
    let marks : c.in_ok-marks-2.marks.codes ≡ marks_of left c.args.codes.now = c.in_ok-marks-2.ensures.codes ∙ c.loop-code.invariant.marks ∙ ap (λ l. marks_of left l) all in
    let others : c.in_ok-others-2.others.codes ≡ others_of left c.args.codes.now = c.in_ok-others-2.ensures.codes ∙ c.loop-code.invariant.others ∙ ap (λ l. others_of left l) all in
    record {
      width = c.in_ok-others-2.ensures.width ∙ c.loop-code.invariant.width;
      codes = ap (λ l. merged left l c.in_ok-others-2.others.codes) marks ∙ ap (λ l. merged left (marks_of left c.args.codes.now) l) others ∙ merged-of left c.args.codes.now;
    }
