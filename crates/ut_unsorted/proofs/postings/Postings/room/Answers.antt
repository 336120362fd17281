use Rattle.std.proofs.Common.{◌∙◌, ap, map, length, ◌<◌, arith, rules}
use Rattle.ut_unsorted.specs.Posted.{places_at, posting_of}
use Rattle.ut_unsorted.proofs.PostingLemmas.{one_more, same_places, room_enough}
use Rattle.ut_unsorted.proofs.postings.Postings.room.Goals as goal

pub loop-self-init : goal.loop-self-init
loop-self-init c = λ k. ap (λ q. places_at q k) c.self.view_is

pub loop-self-preserved : goal.loop-self-preserved
loop-self-preserved c = λ k. ap (λ xs. places_at (map posting_of xs) k) c.in_ok-push.ensures.items ∙ one_more c.loop-self.self-inside.lists.items c.new.result k c.new.ensures.items ∙ c.loop-self.invariant k

pub returns-clause-places : goal.returns-clause-places
returns-clause-places c = λ k. same_places c.loop-self.self-inside.lists.items c.args.code k c.index_mut.result.now c.reserve.new.self (c.reserve.ensures.items ∙ ap (λ v. v.items) c.index_mut.ensures.value) ∙ c.loop-self.invariant k

pub returns-clause-room : goal.returns-clause-room
returns-clause-room c = let lt : c.args.code < length c.loop-self.self-inside.lists.items = omega arith in let a = room_enough c.loop-self.self-inside.lists.items c.args.code c.args.n c.reserve.new.self lt in search (rules, a)
