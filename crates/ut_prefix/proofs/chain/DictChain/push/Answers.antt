use Rattle.std.proofs.Common.{◌≡◌, ◌++◌, ◌∷◌, [], length, length-append, arith, sym, ap, ◌∙◌, subst}
use Rattle.std.specs.List.{Contains}
use Rattle.std.specs.Arc.{arc_value}
use Rattle.std.proofs.lemmas.List.{map-append}
use Rattle.ut_prefix.specs.Chain.{shared_dicts, end_to_end, IsChain}
use Rattle.ut_prefix.proofs.ChainLemmas.{IsChain-push, end_to_end-push}
use Rattle.ut_prefix.proofs.chain.DictChain.push.Goals as goal

pub invariant_of-self-2 : goal.invariant_of-self-2
invariant_of-self-2 c =
    let chain = shared_dicts c.self.inside.dicts.items in
    let added : shared_dicts c.push.new.self.items ≡ chain ++ c.args.dict.value ∷ [] = ap (λ l. shared_dicts l) c.in_ok-push.ensures.items ∙ map-append (λ dict. arc_value dict) c.self.inside.dicts.items (c.args.dict ∷ []) in
    let whole = end_to_end-push chain c.args.dict.value in
    let seen = ap (λ l. length (end_to_end l)) c.self.view_is in (
      subst (λ l. IsChain l) (sym added)
          (IsChain-push chain c.args.dict.value c.self.invariant.0 (λ key in_dict in_chain. c.requires.apart key in_dict (subst (λ l. Contains (end_to_end l) key) c.self.view_is in_chain)) (omega (arith, seen, c.requires.few))),
      omega (arith, ap (λ l. length (end_to_end l)) added, ap (λ l. length l) whole, length-append (end_to_end chain) c.args.dict.value, c.self.invariant.1, c.len.ensures.len, ap (λ l. length l) c.deref.ensures),
    )
