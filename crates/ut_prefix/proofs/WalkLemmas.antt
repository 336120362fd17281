-- One walk over the keys of a block, and over the blocks.
use Rattle.std.proofs.Common.{◌≡◌, ℕ, zero, suc, ◌+◌, ◌/◌, List, [], ◌∷◌, ◌++◌, length, drop, refl, sym, ◌∙◌, ap}
use Rattle.std.proofs.lemmas.List.{append_assoc, append-nil}
use Rattle.ut_prefix.specs.Reading.{next_key, after_key, first_key, after_first, decoded, block_keys, keys_of, AreBlocks}

-- the first of the keys that can be read from here goes to those that were read
pub read_first : (n : ℕ) (done : List (List ℕ)) (key bytes : List ℕ) → (done ++ key ∷ []) ++ drop 1 (decoded n key bytes) ≡ done ++ decoded n key bytes
read_first n done key bytes = append_assoc done (key ∷ []) (drop 1 (decoded n key bytes)) ∙ ap (λ l. done ++ l) (by n)
  where
    by : (n : ℕ) → key ∷ drop 1 (decoded n key bytes) ≡ decoded n key bytes
    by zero = refl
    by (suc n) = refl

pub read_more : (n m : ℕ) (done all : List (List ℕ)) (key bytes next rest : List ℕ) → n ≡ suc m → next ≡ next_key key bytes → rest ≡ after_key bytes → done ++ drop 1 (decoded n key bytes) ≡ all
    → (done ++ next ∷ []) ++ drop 1 (decoded m next rest) ≡ all
read_more n m done all key bytes next rest e key_is rest_is h =
    read_first m done next rest ∙ (λ i. done ++ decoded m (key_is i) (rest_is i)) ∙ ap (λ k. done ++ drop 1 (decoded k key bytes)) (sym e) ∙ h

pub read_start : (count m : ℕ) (done : List (List ℕ)) (block key rest : List ℕ) → count ≡ suc m → key ≡ first_key block → rest ≡ after_first block
    → (done ++ key ∷ []) ++ drop 1 (decoded m key rest) ≡ done ++ block_keys count block
read_start count m done block key rest e key_is rest_is =
    read_first m done key rest ∙ (λ i. done ++ decoded m (key_is i) (rest_is i)) ∙ ap (λ k. done ++ block_keys k block) (sym e)

pub read_end : (n : ℕ) (done all : List (List ℕ)) (key bytes : List ℕ) → n ≡ 0 → done ++ drop 1 (decoded n key bytes) ≡ all → done ≡ all
read_end n done all key bytes e h = sym (append-nil done) ∙ ap (λ k. done ++ drop 1 (decoded k key bytes)) (sym e) ∙ h

-- the keys of the first i blocks were read, and so many are left
pub record IsWalked (starts : List ℕ) (i left : ℕ) (bytes : List ℕ) (done all : List (List ℕ)) : Type 0 where
  pub count : length (drop i starts) ≡ (left + 15) / 16
  pub blocks : AreBlocks (drop i starts) left bytes
  pub rest : done ++ keys_of (drop i starts) left bytes ≡ all
