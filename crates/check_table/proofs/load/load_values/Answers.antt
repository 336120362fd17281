use Rattle.std.proofs.Common.{◌≡◌, ◌+◌, ◌∙◌, [], ◌∷◌, take, drop, refl, sym, ap, subst, append_assoc, arith}
use Rattle.ut_staged.specs.Staged.{begun_row, entered_l2}
use Rattle.ut_table.specs.Numbered.{IsAtRest}
use Rattle.ut_table.proofs.NumberedLemmas.{rest-entered_l2}
use Rattle.check_table.proofs.load.load_values.Goals as goal

pub returns : goal.returns
returns g c =
    let s = c.args.table.now.stages in
    let id = c.args.first_id in
    let one = begun_row 0 (record { id = id; values = take 2 c.args.values.now }) in
    let two = begun_row 0 (record { id = id + 1; values = take 2 (drop 2 c.args.values.now) }) in
    let both = ap (λ l. record s { l2 = l }) (sym (append_assoc s.l2 (one ∷ []) (two ∷ []))) in
    let next : id + 1 + 1 ≡ id + 2 = omega arith in
    subst (λ k. IsAtRest k c.load_values.new.self.stages) next
    (rest-entered_l2 two (entered_l2 (one ∷ []) s) c.load_values.new.self.stages (c.in_ok-load_values.ensures.ok ∙ both)
    (rest-entered_l2 one s (entered_l2 (one ∷ []) s) refl c.requires.rest))
