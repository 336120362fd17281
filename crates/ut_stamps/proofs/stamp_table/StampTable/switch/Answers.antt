use Rattle.std.proofs.Common.{◌≡◌, ◌∙◌, ◌++◌, [], ◌∷◌, None, take, ap}
use Rattle.ut_stamps.specs.StampLists.{StampLists}
use Rattle.ut_stamps.proofs.stamp_table.StampTable.switch.Goals as goal

pub returns : goal.returns
returns c =
    let arr = c.self.inside.parts.items in
    let parts : c.push_reserved.new.self.items ≡ take c.args.stay c.args.self.now.parts ++ c.args.stamps.items ∷ [] =
    c.push_reserved.ensures.items ∙ ap (λ l. l ++ c.of.result ∷ []) (c.truncate.ensures.items ∙ ap (λ n. take n arr) c.from.ensures)
    ∙ (λ i. take c.args.stay (ap (λ (t : StampLists). t.parts) c.self.view_is i) ++ c.of.ensures i ∷ []) in
    λ i. record { l1 = (c.self.view_is i).l1; l2 = (c.self.view_is i).l2; closed = None; parts = parts i }
