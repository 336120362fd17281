use Rattle.ut_unsorted.proofs.PostingLemmas.{added, less_room, same_others}
use Rattle.ut_unsorted.proofs.postings.Postings.add.Goals as goal

pub returns-clause-added : goal.returns-clause-added
returns-clause-added c = added c.self.inside.lists.items c.args.self.now c.args.code c.index_mut.result.now c.push_reserved.new.self c.self.view_is c.index_mut.ensures.value c.args.place c.requires c.push_reserved.ensures.items

pub returns-clause-others : goal.returns-clause-others
returns-clause-others c = same_others c.self.inside.lists.items c.args.self.now c.args.code c.index_mut.result.now c.push_reserved.new.self c.self.view_is c.index_mut.ensures.value

pub returns-clause-room : goal.returns-clause-room
returns-clause-room c = less_room c.self.inside.lists.items c.args.self.now c.args.code c.index_mut.result.now c.push_reserved.new.self c.self.view_is c.index_mut.ensures.value c.args.place c.requires c.push_reserved.ensures.items c.push_reserved.ensures.capacity
