-- Members in the order in which they are made, started and joined.
use Rattle.std.proofs.Common.{ℕ, ◌≡◌, ◌+◌, ◌∙◌, sym, subst, ap, List, [], ◌∷◌, ◌++◌, length, Some, arith}
use Rattle.std.specs.Prelude.{All, get_or, map, reverse}
use Rattle.std.proofs.lemmas.List.{append-nil, append_assoc, length-map, length-reverse, map-append, reverse-append}
use Rattle.std.proofs.lemmas.List.Elements.{All-nil, All-cons, All-head, All-tail, All-map, All-push, All-same}
use Rattle.std.proofs.lemmas.List.Sorted.{All-permutation, IsPermutation-reverse, IsPermutation-sym}
use mathlib.Core.List.{IsPrefix}
use Rattle.ut_gate.specs.Passes.{Carried}
use Rattle.ut_crew.specs.declared.role.Role.{Role}
use Rattle.ut_crew.specs.declared.role.Role.TheVariants.{Session}
use Rattle.ut_crew.specs.Leaving.{GoesOn}
use Rattle.ut_crew.specs.Starting.{left_of}

-- the last of the rest becomes the last of those that are through
pub next_one : {A R : Type 0} (of : A → R) (rs : List R) (rest : List A) (x : A)
    → (rs ++ of x ∷ []) ++ map of (reverse rest) ≡ rs ++ map of (reverse (rest ++ x ∷ []))
next_one of rs rest x =
    append_assoc rs (of x ∷ []) (map of (reverse rest)) ∙ sym (ap (λ l. rs ++ map of l) (reverse-append rest (x ∷ [])))

-- and so with what it is then
pub next_part : {X R A : Type 0} (part : X → R) (of : A → R) (ms : List X) (m : X) (rest : List A) (x : A) → part m ≡ of x
    → map part (ms ++ m ∷ []) ++ map of (reverse rest) ≡ map part ms ++ map of (reverse (rest ++ x ∷ []))
next_part part of ms m rest x is =
    ap (λ l. l ++ map of (reverse rest)) (map-append part ms (m ∷ []) ∙ ap (λ r. map part ms ++ r ∷ []) is)
    ∙ next_one of (map part ms) rest x

-- one part more is given out
pub one_given : {X R : Type 0} (part : X → R) (ms ms' : List X) (m : X) (left left' all : List R)
    → ms' ≡ ms ++ m ∷ [] → left ≡ part m ∷ left' → map part ms ++ left ≡ all → map part ms' ++ left' ≡ all
one_given part ms ms' m left left' all pushed given so_far =
    ap (λ l. map part l ++ left') pushed
    ∙ ap (λ l. l ++ left') (map-append part ms (m ∷ []))
    ∙ append_assoc (map part ms) (part m ∷ []) left'
    ∙ sym (ap (λ l. map part ms ++ l) given)
    ∙ so_far

-- and where none is left, all are
pub all_given : {X R : Type 0} (part : X → R) (ms : List X) (left all : List R) → left ≡ [] → map part ms ++ left ≡ all → map part ms ≡ all
all_given part ms left all none so_far = sym (append-nil (map part ms)) ∙ sym (ap (λ l. map part ms ++ l) none) ∙ so_far

-- as many as there are sessions, and the keepers
pub all_parts : {A M K : Type 0} (saver : K) (merger : M) (sessions : List A) → length (left_of (Some saver) (Some merger) sessions) ≡ length sessions + 2
all_parts {A = A} {M = M} {K = K} saver merger sessions = omega (arith, length-map {B = Role A M K} (reverse sessions) Session, length-reverse sessions)

-- one more is through, and has what the others have
pub one_more : {X R A : Type 0} (Q : X → Type 0) (part : X → R) (of : A → R) (all : List R) (ms ms' : List X) (m : X) (rest rest' : List A) (x : A)
    → ms' ≡ ms ++ m ∷ [] → rest ≡ rest' ++ x ∷ [] → part m ≡ of x → Q m → All Q ms → map part ms ++ map of (reverse rest) ≡ all
    → All Q ms' × (map part ms' ++ map of (reverse rest') ≡ all)
one_more Q part of all ms ms' m rest rest' x pushed popped is q each so_far = (
  All-same Q ms' (ms ++ m ∷ []) pushed (All-push Q ms m each q),
  ap (λ l. map part l ++ map of (reverse rest')) pushed
      ∙ next_part part of ms m rest' x is
      ∙ sym (ap (λ l. map part ms ++ map of (reverse l)) popped)
      ∙ so_far,
)

-- what all images have, all have
all_images : {X Y : Type 0} (P : X → Type 0) (f : Y → X) (ys : List Y) → All P (map f ys) → All (λ y. P (f y)) ys
all_images P f [] h = All-nil (λ y. P (f y))
all_images P f (y ∷ ys) h = All-cons (λ z. P (f z)) y ys (All-head P (f y) (map f ys) h) (all_images P f ys (All-tail P (f y) (map f ys) h))

pub all_reversed : {X : Type 0} (P : X → Type 0) (xs : List X) → All P xs → All P (reverse xs)
all_reversed P xs = All-permutation P xs (reverse xs) (IsPermutation-reverse xs)

all_forward : {X : Type 0} (P : X → Type 0) (xs : List X) → All P (reverse xs) → All P xs
all_forward P xs = All-permutation P (reverse xs) xs (IsPermutation-sym xs (reverse xs) (IsPermutation-reverse xs))

-- what the passes of those that came back all have
pub passes_own : {X J D : Type 0} (own : Carried X J → Type 0) (left : D → Type 0) (pass : D → Carried X J) (done : List D)
    → All (λ d. own (pass d) × left d) done → All own (map pass (reverse done))
passes_own own left pass done h = All-map own pass (reverse done) (all_reversed (λ d. own (pass d)) done (λ k d lt. (h k d lt).0))

-- who had a part left, and the book has what its pass saw
pub each_back : {X J R D A : Type 0} (own : Carried X J → Type 0) (left : R → Carried X J → Type 0) (book : List X) (part : D → R) (pass : D → Carried X J) (role : A → R) (done : List D) (members : List A)
    → map part done ≡ map role (reverse members) → All (λ d. own (pass d) × left (part d) (pass d)) done → All (λ p. IsPrefix p.seen book) (map pass (reverse done))
    → All (λ r. (q : Carried X J) × left r q × IsPrefix q.seen book) (map role members)
each_back {X} {J} {R} own left book part pass role done members parts each seen =
    let P : R → Type 0 = λ r. (q : Carried X J) × left r q × IsPrefix q.seen book in
    let saw = all_forward (λ d. IsPrefix (pass d).seen book) done (all_images (λ p. IsPrefix p.seen book) pass (reverse done) seen) in
    let backs = All-map P part done (λ k d lt. (pass (get_or done k d), (each k d lt).1, saw k d lt)) in
    All-map P role members (all_forward (λ m. P (role m)) members (all_images P role (reverse members) (All-same P (map role (reverse members)) (map part done) (sym parts) backs)))

-- of all parts to those of the sessions and of the keepers
pub by_part : {R A : Type 0} (P : R → Type 0) (session : A → R) (m s : R) (sessions : List A) (roles : List R) → roles ≡ s ∷ m ∷ map session (reverse sessions)
    → All P roles → All (λ a. P (session a)) sessions × P m × P s
by_part P session m s sessions roles is h =
    let all = All-same P (s ∷ m ∷ map session (reverse sessions)) roles (sym is) h in
    let rest = All-tail P s (m ∷ map session (reverse sessions)) all in (
      all_forward (λ a. P (session a)) sessions (all_images P session (reverse sessions) (All-tail P m (map session (reverse sessions)) rest)),
      All-head P m (map session (reverse sessions)) rest,
      All-head P s (m ∷ map session (reverse sessions)) all,
    )

-- turns are the same where the act and the pass are
pub goes_same : {X J A W : Type 0} (turn : A → A → Carried X J → Carried X J → W → Type 0) (over : W) (n : ℕ) (a b b' : A) (p q : Carried X J) → b' ≡ b → q ≡ p → GoesOn turn over n a b p → GoesOn turn over n a b' q
goes_same turn over n a b b' p q e f h = subst (λ x. GoesOn turn over n a x q) (sym e) (subst (λ y. GoesOn turn over n a b y) (sym f) h)
