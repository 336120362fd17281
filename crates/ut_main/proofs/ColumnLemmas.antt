-- What a column keeps tells its chain and its codes.
use Rattle.std.proofs.Common.{◌≡◌, ℕ, ◌<◌, List, [], ◌∷◌, ◌++◌, length, map, get_or, sym, ◌∙◌, ap, subst}
use Rattle.ut_bits.specs.Bits.{AllBelow}
use Rattle.ut_bits.proofs.BitLemmas.{AllBelow-at}
use Rattle.ut_codes.specs.Reached.{Reached}
use Rattle.ut_own.specs.Own.{own_dict, cells_of}
use Rattle.ut_prefix.specs.Chain.{end_to_end}
use Rattle.ut_main.specs.Columns.{Chain, chain_of, place_of, vector_of, earlier, IsColumn}
use Rattle.ut_main.proofs.KeyLemmas.{places-codes}

module _ (dict : List (List ℕ)) (chain : Chain) (v : Reached) (h : IsColumn dict chain v) where
  pub column-chain : chain ≡ chain_of (earlier chain) (cells_of (end_to_end chain) v.codes)
  column-chain =
      h.last ∙ ap (λ (d : List (List ℕ)). earlier chain ++ d ∷ []) (h.behind.own ∙ ap (λ (c : Chain). own_dict (end_to_end (earlier chain)) (cells_of (end_to_end c) v.codes)) (sym h.last))

  pub column-reach : v.reach ≡ length (end_to_end chain)
  column-reach = h.behind.reach ∙ ap (λ (c : Chain). length (end_to_end c)) (sym h.last)

  pub column-below : AllBelow (length (end_to_end chain)) v.codes
  column-below = subst (λ n. AllBelow n v.codes) column-reach h.behind.below

  pub column-code : (i : ℕ) → i < length v.codes → get_or v.codes i 0 < length (end_to_end chain)
  column-code i lt = AllBelow-at (length (end_to_end chain)) v.codes i column-below lt

  pub column-vector : v ≡ vector_of (earlier chain) (cells_of (end_to_end chain) v.codes)
  column-vector =
      let reach = column-reach ∙ ap (λ (c : Chain). length (end_to_end c)) column-chain in
      let codes = sym (places-codes (end_to_end chain) v.codes h.distinct column-below) ∙ ap (λ (c : Chain). map (place_of (end_to_end c)) (cells_of (end_to_end chain) v.codes)) column-chain in
      λ i. record { reach = reach i; codes = codes i }
