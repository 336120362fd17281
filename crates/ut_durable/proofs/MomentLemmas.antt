-- What a crash leaves at each moment of a call on files that are a store's.
use Rattle.std.proofs.Common.{[], ◌∷◌}
use Rattle.ut_outside.specs.Disk.{View}
use Rattle.ut_outside.proofs.RunLemmas.{weaker}
use Rattle.ut_plain.specs.Journal.{journal_len, appended}
use Rattle.ut_durable.specs.Journals.{HoldsPrefix}
use Rattle.ut_durable.specs.Files.{Rests, HasSelected}
use Rattle.ut_durable.specs.Moments.{Leaves, AppendLeaves, StayLeaves, SwitchLeaves, FlipLeaves, PrefixOfMore, PrefixOfFewer}
use Rattle.ut_durable.proofs.RestLemmas as rest
use Rattle.ut_durable.proofs.GroupLemmas.{both, more_group}

pub append_leaves : {D : Type 0} (view : D → View) → AppendLeaves view
append_leaves {D} view j e payload f selected d saving phase v0 v1 p spells is next may stored told =
    let more = more_group p j (e ∷ []) is next selected d stored.image in
    both (view v0) (view v1) (HoldsPrefix (appended j e) (journal_len j)) (HasSelected f.slot f.reached selected d) (Leaves (appended j e) (journal_len j) f selected d) (λ c holds root. record { holds = holds; root = root })
    (may.journal j selected d e spells stored.image more stored.rests told) (may.root j selected d e spells stored.rests told)

pub stay_leaves : {D : Type 0} (view : D → View) → StayLeaves view
stay_leaves {D} view j f selected d saving phase v0 v1 stays stored told = weaker (view v0) (view v1) (Rests j f.slot f.reached selected d f.log) (Leaves j (journal_len j) f selected d)
    (λ c rests. record { holds = rest.rests_all j f.slot f.reached selected d f.log c stored.image rests; root = record { stands = rests.stands; image = rests.image } }) (stays.any_moment j selected d stored.rests told)

pub switch_leaves : {D : Type 0} (view : D → View) → SwitchLeaves view
switch_leaves {D} view j f selected d saving phase v0 v1 straight may stored told =
    both (view v0) (view v1) (HoldsPrefix j (journal_len j)) (HasSelected f.slot f.reached selected d) (Leaves j (journal_len j) f selected d) (λ c holds root. record { holds = holds; root = root })
    (may.journal j selected d stored.image straight stored.rests told) (may.root j selected d stored.rests told)

pub flip_leaves : {D : Type 0} (view : D → View) → FlipLeaves view
flip_leaves {D} view j f selected d s b q c v0 v1 may stored told = let w = stored.under_way in may j selected s.root d c stored.image w.image stored.rests w.ready told

pub prefix_of_more : PrefixOfMore
prefix_of_more j e least c has = rest.prefix_more j e least c has

pub prefix_of_fewer : PrefixOfFewer
prefix_of_fewer j least n c le has = rest.prefix_fewer j least n c le has
