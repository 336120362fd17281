use Rattle.std.proofs.Common.{sym, ◌∙◌, ap, length, subst, ◌<◌, ◌^◌, ℕ}
use Rattle.ut_key.specs.Keys.{IsAscending, AreShort}
use Rattle.ut_prefix.proofs.LayoutLemmas.{length-keys_of, AreShort-keys_of}
use Rattle.ut_prefix.proofs.dict.PrefixDict.len.Goals as goal

pub returns-clause-len : goal.returns-clause-len
returns-clause-len c = sym (length-keys_of c.self.inside.starts.items c.self.inside.len c.self.inside.bytes.items c.self.invariant.laid.count) ∙ ap (λ l. length l) c.self.view_is

pub returns-clause-dictionary : goal.returns-clause-dictionary
returns-clause-dictionary c = record {
  ascending = subst (λ l. IsAscending l) c.self.view_is c.self.invariant.laid.ascending;
  short = subst (λ l. AreShort l) c.self.view_is (AreShort-keys_of c.self.inside.starts.items c.self.inside.len c.self.inside.bytes.items c.self.invariant.laid.blocks);
  few = subst (λ (n : ℕ). n < 2 ^ 31) (sym (length-keys_of c.self.inside.starts.items c.self.inside.len c.self.inside.bytes.items c.self.invariant.laid.count) ∙ ap (λ l. length l) c.self.view_is) c.self.invariant.laid.size;
}
