use Rattle.std.proofs.Common.{◌≡◌, ◌++◌, ◌∷◌, [], ap, ◌∙◌, length, List, ℕ}
use Rattle.ut_key.proofs.ArenaLemmas.{push_keys, push_ends}
use Rattle.ut_key.proofs.key_list.KeyList.push.Goals as goal

ends_are : (c : goal.In-Ok) → c.push.new.self.items ≡ c.self.inside.ends.items ++ length c.extend_from_slice.new.self.items ∷ []
ends_are c = c.in-Ok.ensures.items ∙ ap (λ (l : List ℕ). c.self.inside.ends.items ++ length l ∷ []) c.as_slice.ensures.value

pub invariant_of-self-in-Ok : goal.invariant_of-self-in-Ok
invariant_of-self-in-Ok c =
    push_ends c.self.inside.ends.items c.self.inside.bytes.items c.args.key.now c.push.new.self.items c.extend_from_slice.new.self.items c.self.invariant c.in_ok-extend_from_slice.ensures.items (ends_are c) c.requires

pub returns-in-Ok-clause-ok : goal.returns-in-Ok-clause-ok
returns-in-Ok-clause-ok c =
    push_keys c.self.inside.ends.items c.self.inside.bytes.items c.args.key.now c.push.new.self.items c.extend_from_slice.new.self.items c.self.invariant c.in_ok-extend_from_slice.ensures.items (ends_are c)
    ∙ ap (λ l. l ++ c.args.key.now ∷ []) c.self.view_is
