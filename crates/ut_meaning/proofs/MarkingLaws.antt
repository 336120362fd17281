-- A delete that is replayed marks each place that holds its row, which is the one that isn't dead: marking a dead place again changes nothing.
use Rattle.std.proofs.Common.{◌≡◌, ℕ, Bool, true, false, if◌then◌else◌, List, [], ◌∷◌, ◌++◌, length, map, flat_map, Option, None, Some, unwrap_or, nat_eq, refl, sym, ap, ◌∙◌}
use Rattle.std.specs.Option.{option_map}
use Rattle.std.proofs.lemmas.Bool.{eqb-true, eq-eqb}
use Rattle.std.proofs.lemmas.List.{length-map}
use Rattle.std.proofs.lemmas.List.Elements.{All-head, All-tail}
use Rattle.ut_plain.specs.declared.stage.Placed.{Placed}
use Rattle.ut_plain.specs.declared.stage.TableStages.{TableStages}
use Rattle.ut_plain.specs.Restart.{buried, with_dead}
use Rattle.ut_meaning.specs.Marking.{HoldNoLive, KeepsShape, MarksNone, MarksOne, places_in}

-- ---- all places, one behind the other

map-append : {X Y : Type 0} (f : X → Y) (xs ys : List X) → map f (xs ++ ys) ≡ map f xs ++ map f ys
map-append f [] ys = refl
map-append f (x ∷ xs) ys = ap (λ l. f x ∷ l) (map-append f xs ys)

map-parts : (f : Placed → Placed) (parts : List (List Placed)) → map f (flat_map (λ (part : List Placed). part) parts) ≡ flat_map (λ (part : List Placed). part) (map (map f) parts)
map-parts f [] = refl
map-parts f (part ∷ parts) = map-append f part (flat_map (λ (p : List Placed). p) parts) ∙ ap (λ l. map f part ++ l) (map-parts f parts)

map-closed : (f : Placed → Placed) (closed : Option (List Placed)) → map f (unwrap_or closed []) ≡ unwrap_or (option_map (map f) closed) []
map-closed f None = refl
map-closed f (Some places) = refl

places-dead : (id : ℕ) (t : TableStages) → map (buried id) (places_in t) ≡ places_in (with_dead id t)
places-dead id t =
    map-append (buried id) t.l1 (t.l2 ++ (unwrap_or t.closed [] ++ flat_map (λ (part : List Placed). part) t.parts))
    ∙ ap (λ l. map (buried id) t.l1 ++ l) (map-append (buried id) t.l2 (unwrap_or t.closed [] ++ flat_map (λ (part : List Placed). part) t.parts)
    ∙ ap (λ l. map (buried id) t.l2 ++ l) (map-append (buried id) (unwrap_or t.closed []) (flat_map (λ (part : List Placed). part) t.parts)
    ∙ (λ i. map-closed (buried id) t.closed i ++ map-parts (buried id) t.parts i)))

-- ---- a place

dead-stays : (id : ℕ) (place : Placed) → (place.id ≡ id → place.dead ≡ true) → buried id place ≡ place
dead-stays id place dead = by (nat_eq place.id id) refl
  where
    by : (b : Bool) → nat_eq place.id id ≡ b → (if b then record place { dead = true } else place) ≡ place
    by true e = λ i. record place { dead = sym (dead (eqb-true place.id id e)) i }
    by false e = refl

live-marked : (id : ℕ) (place : Placed) → place.id ≡ id → buried id place ≡ record place { dead = true }
live-marked id place at = ap (λ b. if b then record place { dead = true } else place) (eq-eqb place.id id at)

first-stays : (id : ℕ) (place : Placed) (places : List Placed) → HoldNoLive id (place ∷ places) → buried id place ≡ place
first-stays id place places none = dead-stays id place (All-head (λ (p : Placed). p.id ≡ id → p.dead ≡ true) place places none)

none-later : (id : ℕ) (place : Placed) (places : List Placed) → HoldNoLive id (place ∷ places) → HoldNoLive id places
none-later id place places none = All-tail (λ (p : Placed). p.id ≡ id → p.dead ≡ true) place places none

all-stay : (id : ℕ) (places : List Placed) → HoldNoLive id places → map (buried id) places ≡ places
all-stay id [] none = refl
all-stay id (place ∷ places) none = λ i. first-stays id place places none i ∷ all-stay id places (none-later id place places none) i

one-marked : (id : ℕ) (front back : List Placed) (place : Placed) → place.id ≡ id → HoldNoLive id (front ++ back)
    → map (buried id) (front ++ place ∷ back) ≡ front ++ record place { dead = true } ∷ back
one-marked id [] back place at none = λ i. live-marked id place at i ∷ all-stay id back none i
one-marked id (p ∷ front) back place at none = λ i. first-stays id p (front ++ back) none i ∷ one-marked id front back place at (none-later id p (front ++ back) none) i

-- ---- all of a table

pub marks-one : MarksOne
marks-one id t front back place all at live none = sym (places-dead id t) ∙ ap (map (buried id)) all ∙ one-marked id front back place at none

pub marks-none : MarksNone
marks-none id t none = sym (places-dead id t) ∙ all-stay id (places_in t) none

closed-length : (f : Placed → Placed) (closed : Option (List Placed)) → option_map length (option_map (map f) closed) ≡ option_map length closed
closed-length f None = refl
closed-length f (Some places) = ap Some (length-map places f)

parts-lengths : (f : Placed → Placed) (parts : List (List Placed)) → map length (map (map f) parts) ≡ map length parts
parts-lengths f [] = refl
parts-lengths f (part ∷ parts) = λ i. length-map part f i ∷ parts-lengths f parts i

pub keeps-shape : KeepsShape
keeps-shape id t = (
  λ i. record {
    l1 = length-map t.l1 (buried id) i;
    l2 = length-map t.l2 (buried id) i;
    closed = closed-length (buried id) t.closed i;
    parts = parts-lengths (buried id) t.parts i;
  },
  refl,
)
