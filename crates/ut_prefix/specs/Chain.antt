-- Dictionaries laid end to end, and ranges of their codes.
use Rattle.std.specs.Prelude.{◌≡◌, ℕ, ◌+◌, ◌*◌, ◌<◌, ◌^◌, Bool, ◌&&◌, nat_lt, nat_le, List, [], ◌∷◌, length, map, take, drop, get_or}
use Rattle.std.specs.Arc.{arc_value}
use Rattle.std.specs.List.{list_any, flat_map, Contains, sum_by}
use Rattle.std.specs.declared.sync.Arc.{Arc}
use Rattle.ut_key.specs.declared.comparison.Cmp.{Cmp}
use Rattle.ut_key.specs.declared.comparison.Cmp.TheVariants.{Eq, Ne, Lt, Le, Gt, Ge}
use Rattle.ut_key.specs.Keys.{meets}
use Rattle.ut_prefix.specs.Lookup.{search_steps}

-- the dictionaries that are shared
abbrev pub shared_dicts : {Z : Type 0} → List (Arc (List (List ℕ)) Z) → List (List (List ℕ))
shared_dicts dicts = map (λ dict. arc_value dict) dicts

-- the keys of dictionaries, laid end to end; a code is a place among them
abbrev pub end_to_end : List (List (List ℕ)) → List (List ℕ)
end_to_end chain = flat_map (λ keys. keys) chain

-- none of the keys stands in a chain
abbrev pub LacksAll : List (List (List ℕ)) → List (List ℕ) → Type 0
LacksAll chain keys = (key : List ℕ) → Contains keys key → ¬ Contains (end_to_end chain) key

-- no key stands in two dictionaries
abbrev pub AreApart : List (List (List ℕ)) → Type 0
AreApart chain = (c d : ℕ) (key : List ℕ) → c < d → d < length chain → Contains (get_or chain c []) key → ¬ Contains (get_or chain d []) key

-- dictionaries that may be laid end to end
pub record IsChain (chain : List (List (List ℕ))) : Type 0 where
  pub few : length (end_to_end chain) < 2 ^ 31
  pub apart : AreApart chain

-- the most steps of a search in all of them
abbrev pub chain_steps : List (List (List ℕ)) → ℕ
chain_steps chain = sum_by search_steps chain

-- whether one of the ranges holds a code
abbrev pub is_in : List (ℕ × ℕ) → ℕ → Bool
is_in ranges code = list_any (λ range. nat_le range.0 code && nat_lt code range.1) ranges

-- whether there is such a code and its key meets a comparison
abbrev pub code_meets : Cmp → List ℕ → List (List ℕ) → ℕ → Bool
code_meets op key keys code = nat_lt code (length keys) && meets op key (get_or keys code [])

-- how many ranges a comparison gives for a dictionary
abbrev pub ranges_each : Cmp → ℕ
ranges_each Eq = 1
ranges_each Ne = 2
ranges_each Lt = 1
ranges_each Le = 1
ranges_each Gt = 1
ranges_each Ge = 1

-- ranges came behind the old ones, so many a dictionary, that hold exactly the codes whose key meets the comparison
pub record AddsRanges (op : Cmp) (key : List ℕ) (chain : List (List (List ℕ))) (old new : List (ℕ × ℕ)) : Type 0 where
  pub kept : take (length old) new ≡ old
  pub exact : (code : ℕ) → is_in (drop (length old) new) code ≡ code_meets op key (end_to_end chain) code
  pub count : length new ≡ length old + ranges_each op * length chain

-- the ranges of the codes from start up to end whose key meets a comparison, where the keys are equal from below up to above
abbrev pub ranges_between : Cmp → ℕ → ℕ → ℕ → ℕ → List (ℕ × ℕ)
ranges_between Eq start below above end = (below, above) ∷ []
ranges_between Ne start below above end = (start, below) ∷ (above, end) ∷ []
ranges_between Lt start below above end = (start, below) ∷ []
ranges_between Le start below above end = (start, above) ∷ []
ranges_between Gt start below above end = (above, end) ∷ []
ranges_between Ge start below above end = (below, end) ∷ []
