use Rattle.std.proofs.Common.{◌≡◌, not, nat_eq, filter, sym, ap, ◌∙◌, rules}
use Rattle.std.proofs.lemmas.Fn.{filter_same}
use Rattle.check_rows.specs.Listed.{listed}
use Rattle.check_rows.proofs.rows.apply.Goals as goal

pub returns-in-Delete : goal.returns-in-Delete
returns-in-Delete c =
    let kept : c.retain.new.self.items ≡ filter (λ e. not (nat_eq e.0 c.in-Delete.id)) c.args.rows.now.items = filter_same _ _ _ (λ x b f k. search rules) _ _ c.retain.ensures.filtered in
    kept ∙ sym (ap (listed c.args.rows.now.items) c.in-Delete.is)
