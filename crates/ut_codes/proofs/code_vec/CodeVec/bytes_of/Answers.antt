use Rattle.std.proofs.Common.{ℕ, ◌++◌, ◌∷◌, ap, sym, ◌∙◌, append_assoc}
use Rattle.ut_codes.specs.Sizes.{code_width}
use Rattle.ut_codes.specs.Forms.{code_bytes, byte_of, bytes_in}
use Rattle.ut_codes.specs.Shapes.{coded_in, form_in}
use Rattle.ut_codes.proofs.code_vec.CodeVec.bytes_of.Goals as goal

pub returns-clause-ok : goal.returns-clause-ok
unfolding code_bytes
returns-clause-ok c =
    let codes = (coded_in c.self.inside.shape).codes in
    let chosen = c.self.invariant in
    c.in_ok-cut_at_error.ensures.ok ∙ (rw (← c.in_ok-cut_at_error.ensures.same) at c.append_form.ensures.ok) ∙ ap (λ l. l ++ bytes_in (form_in c.self.inside.shape) (coded_in c.self.inside.shape).width codes) c.in_ok-push.ensures.items ∙ append_assoc c.args.out.now.items _ _
    ∙ ap (λ l. c.args.out.now.items ++ l) (ap (λ (n : ℕ). n ∷ bytes_in (form_in c.self.inside.shape) (coded_in c.self.inside.shape).width codes) c.form_byte.ensures
    ∙ ap (λ (w : ℕ). byte_of (form_in c.self.inside.shape) ∷ bytes_in (form_in c.self.inside.shape) w codes) chosen.width
    ∙ ap (λ f. byte_of f ∷ bytes_in f (code_width c.self.inside.reach) codes) (sym chosen.form)
    ∙ ap (λ v. code_bytes v.codes v.reach) c.self.view_is)
