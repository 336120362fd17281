use Rattle.std.proofs.Common.{◌∙◌, ◌-◌, sym, ap, take, length}
use Rattle.ut_unsorted.specs.Posted.{places_at}
use Rattle.ut_unsorted.proofs.PostingLemmas.{shorter, same_others}
use Rattle.ut_unsorted.proofs.postings.Postings.forget.Goals as goal

pub returns-clause-cut : goal.returns-clause-cut
returns-clause-cut c =
    let places = places_at c.args.self.now c.args.code in
    shorter c.self.inside.lists.items c.args.self.now c.args.code c.index_mut.result.now c.pop-last.new.self c.self.view_is c.index_mut.ensures.value
    (take (length places - 1) places) c.requires (λ is. c.pop-last.ensures.rest ∙ ap (λ l. take (length l - 1) l) (sym is))

pub returns-clause-others : goal.returns-clause-others
returns-clause-others c = same_others c.self.inside.lists.items c.args.self.now c.args.code c.index_mut.result.now c.pop-last.new.self c.self.view_is c.index_mut.ensures.value
