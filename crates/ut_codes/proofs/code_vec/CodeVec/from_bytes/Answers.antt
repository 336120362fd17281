use Rattle.std.proofs.Common.{◌≡◌, ℕ, ◌-◌, ◌<◌, ◌++◌, eqb, true, false, [], ◌∷◌, List, length, take, drop, sym, ap, subst, ◌∙◌, arith}
use borrow.Author.Tests.{eqb-true}
use Rattle.ut_bits.specs.Bits.{AllBelow}
use Rattle.ut_bits.proofs.BitLemmas.{take-rest}
use Rattle.ut_codes.specs.Sizes.{code_width}
use Rattle.ut_codes.specs.Forms.{form_of, bytes_in}
use Rattle.ut_codes.specs.Shapes.{coded_in, form_in}
use Rattle.ut_codes.proofs.SizeLemmas.{AllBelow-width}
use Rattle.ut_codes.proofs.FormLemmas.{bytes_in-one, byte_of-one, code_bytes-front, code_bytes-read, take-drop}
use Rattle.ut_codes.proofs.code_vec.CodeVec.from_bytes.Goals as goal

pub returns-then-is_empty-clause-none : goal.returns-then-is_empty-clause-none
returns-then-is_empty-clause-none c = λ codes rest rows below is.
    let front = code_bytes-front codes rest c.args.bytes.now c.args.reach is in
    let none = eqb-true _ _ (sym c.is_empty.ensures ∙ c.if-is_empty.true) in
    omega (arith, front.0, none)

pub returns-in_default-clause-none : goal.returns-in_default-clause-none
returns-in_default-clause-none c = λ codes rest rows below is.
    let front = code_bytes-front codes rest c.args.bytes.now c.args.reach is in
    let none = rw c.in_default.is at c.in_ok-shape.ensures.none in
    let width = c.width_of-width.ensures.width in
    none (form_of codes c.args.reach) codes rest (sym front.1) rows (AllBelow-width c.args.reach c.width_of-width.result codes below c.width_of-width.ensures.least.0)
    (take-rest 1 c.args.bytes.now ∙ front.2 ∙ ap (λ (w : ℕ). bytes_in (form_of codes c.args.reach) w codes ++ rest) (sym width))

pub returns-then-not-branch-clause-none : goal.returns-then-not-branch-clause-none
returns-then-not-branch-clause-none c = λ codes rest rows below is.
    let front = code_bytes-front codes rest c.args.bytes.now c.args.reach is in
    let width = c.width_of-width.ensures.width in
    let form = rw c.in-Some.is at c.in_ok-shape.ensures.form in
    let size = rw c.in-Some.is at c.in_ok-shape.ensures.rows in
    let small = rw c.in-Some.is at c.in_ok-shape.ensures.below in
    let spelled = rw c.in-Some.is at c.in_ok-shape.ensures.spelled in
    let same : form_in c.in-Some.shape ≡ form_of codes c.args.reach = byte_of-one _ _ (form ∙ front.1) in
    let behind = take-rest 1 c.args.bytes.now in
    let one : (coded_in c.in-Some.shape).codes ≡ codes =
    bytes_in-one (form_in c.in-Some.shape) c.width_of-width.result (coded_in c.in-Some.shape).codes codes rest _ (take (length c.args.bytes.now - 1) (drop 1 c.args.bytes.now)) c.width_of-width.ensures.small small
    (AllBelow-width c.args.reach c.width_of-width.result codes below c.width_of-width.ensures.least.0) (size ∙ sym rows) (omega (arith, size, c.requires))
    (take-drop c.in-Some.count (take (length c.args.bytes.now - 1) (drop 1 c.args.bytes.now)) ∙ ap (λ (l : List ℕ). l ++ drop c.in-Some.count (take (length c.args.bytes.now - 1) (drop 1 c.args.bytes.now))) spelled)
    (behind ∙ front.2 ∙ ap (λ f. bytes_in f (code_width c.args.reach) codes ++ rest) (sym same) ∙ ap (λ (w : ℕ). bytes_in (form_in c.in-Some.shape) w codes ++ rest) (sym width)) in
    let good : c.in_ok-is_least.field-0 ≡ true = c.in_ok-is_least.ensures.1 (subst (λ (l : List ℕ). AllBelow c.args.reach l) (sym one) below, ap (λ l. form_of l c.args.reach) one ∙ sym same) in
    let bad = c.if-not-branch.true in
    let clash : true ≡ false = sym good ∙ bad in
    cc

some : (bytes : List ℕ) → eqb (length bytes) 0 ≡ false → 0 < length bytes
some [] h = absurd (let e : true ≡ false = h in cc)
some (b ∷ bs) h = omega arith

pub returns-clause-spelled : goal.returns-clause-spelled
returns-clause-spelled c =
    let width = c.width_of-width.ensures.width in
    let form = rw c.in-Some.is at c.in_ok-shape.ensures.form in
    let spelled = rw c.in-Some.is at c.in_ok-shape.ensures.spelled in
    let behind = take-rest 1 c.args.bytes.now in
    let least = c.in_ok-is_least.ensures.0 c.if-not-branch.false in
    code_bytes-read (coded_in c.in-Some.shape).codes c.args.bytes.now c.args.reach c.in-Some.count (form_in c.in-Some.shape) (some c.args.bytes.now (sym c.is_empty.ensures ∙ c.if-is_empty.false)) (sym form)
    (ap (λ (l : List ℕ). take c.in-Some.count l) (sym behind) ∙ spelled ∙ ap (λ (w : ℕ). bytes_in (form_in c.in-Some.shape) w (coded_in c.in-Some.shape).codes) width) least.1
