-- Where a key stands among ascending keys, and how many comparisons it takes to find that.
use Rattle.std.specs.Prelude.{◌≡◌, ℕ, zero, suc, ◌+◌, ◌/◌, ◌<◌, ◌≤◌, nat_eq, if◌then◌else◌, List, [], length, get_or}
use Rattle.std.specs.List.{count_by}
use Rattle.std.specs.Ordering.{is_lt}
use Rattle.std.specs.declared.cmp.Ordering.TheVariants.{Less, Greater}
use Rattle.ut_key.specs.Keys.{key_cmp}

-- the first n keys are below a key
abbrev pub AreBelow : List (List ℕ) → ℕ → List ℕ → Type 0
AreBelow keys n key = (i : ℕ) → i < n → key_cmp (get_or keys i []) key ≡ Less

-- the keys from one place on, up to and without another, are above a key
abbrev pub AreAbove : List (List ℕ) → ℕ → ℕ → List ℕ → Type 0
AreAbove keys from to key = (i : ℕ) → from ≤ i → i < to → key_cmp (get_or keys i []) key ≡ Greater

-- the keys before one place are below the key, those from another on are above it, and the one between is it
pub record IsSplit (keys : List (List ℕ)) (key : List ℕ) (below above : ℕ) : Type 0 where
  pub ordered : below ≤ above
  pub near : above ≤ below + 1
  pub within : above ≤ length keys
  pub less : AreBelow keys below key
  pub same : (i : ℕ) → below ≤ i → i < above → get_or keys i [] ≡ key
  pub greater : AreAbove keys above (length keys) key

-- how many of the keys are below a key
abbrev pub count_below : List (List ℕ) → List ℕ → ℕ
count_below keys key = count_by (λ other. is_lt (key_cmp other key)) keys

-- how many binary digits a number has, at most so many
abbrev pub digits_within : ℕ → ℕ → ℕ
digits_within zero n = 0
digits_within (suc most) n = if nat_eq n 0 then 0 else suc (digits_within most (n / 2))

-- how many binary digits a number has; 0 has none
abbrev pub binary_digits : ℕ → ℕ
binary_digits n = digits_within n n

-- the most steps of a search: the binary digits of the number of blocks, and 16
abbrev pub search_steps : List (List ℕ) → ℕ
search_steps keys = binary_digits ((length keys + 15) / 16) + 16
