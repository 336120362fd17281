use Rattle.std.proofs.Common.{◌≡◌, ◌<◌, ℕ, zero, suc, ◌+◌, Bool, true, false, ◌&&◌, nat_eq, nat_lt, List, [], ◌∷◌, length, get_or, refl, sym, ◌∙◌, ap, arith}
use Rattle.std.proofs.lemmas.Bool.{lt-ltb}
use Rattle.std.specs.List.{list_all}
use Rattle.ut_main.specs.Spelling.{is_key}
use Rattle.ut_main.proofs.own.is_key.Goals as goal

and_true : (a b : Bool) → b ≡ true → a ≡ (a && b)
and_true a b is = last a ∙ ap (λ (c : Bool). a && c) (sym is)
  where
    last : (x : Bool) → x ≡ (x && true)
    last true = refl
    last false = refl

all_bytes : (bs : List ℕ) → ((i : ℕ) → i < length bs → get_or bs i 0 < 256) → list_all (λ b. nat_lt b 256) bs ≡ true
all_bytes [] small = refl
all_bytes (b ∷ bs) small = λ i. lt-ltb b 256 (small zero (omega arith)) i && all_bytes bs (λ k lt. small (suc k) (omega (arith, lt))) i

pub returns-in-Int : goal.returns-in-Int
returns-in-Int c = and_true (nat_eq (length c.args.bytes.now) 8) _ (all_bytes c.args.bytes.now (λ i lt. omega (arith, c.type_inv.bytes i))) ∙ ap (λ k. is_key k c.args.bytes.now) (sym c.in-Int.is)
