-- Laws of chains of changes.
use Rattle.std.proofs.Common.{◌≡◌, ℕ, ◌≤◌, List, length, Result, Ok, Err, refl, sym, ◌∙◌, ap, subst, arith}
use Rattle.std.specs.Prelude.{IsOk, IsErr, IsTrue, OnOk, OnErr}
use Rattle.ut_outside.specs.declared.disk.Which.{Which}
use Rattle.ut_outside.specs.declared.faults.Failed.{Failed}
use Rattle.ut_outside.specs.Disk.{Image, View, IsTold, OnFile, Changes, Syncs, TornWrite, content, overlaid}
use Rattle.ut_outside.specs.Faults.{Rose}
use Rattle.ut_outside.specs.Run.{Always, LeavesOnly, ComesFrom}
use Rattle.ut_outside.specs.Chains.{Settles, Reached}
use Rattle.ut_outside.proofs.RunLemmas.{started, goes_on, joined, weaker, others_same, others_then, on_ok_then}

on_ok_any : {T E A : Type 0} (r : Result T E) → A → OnOk r A
on_ok_any (Ok x) a = a
on_ok_any (Err e) a = tt

later_rose : {T : Type 0} (r : Result T Failed) (a b c : ℕ) → a ≤ b → (IsErr r → Rose b c) → OnErr r (Rose a c)
later_rose (Ok x) a b c le rose = tt
later_rose (Err e) a b c le rose = let up = rose refl in omega (arith, le, up)

stays_too : {T : Type 0} (r : Result T Failed) (a b c : ℕ) → b ≡ a → (IsOk r → c ≡ b) → OnOk r (c ≡ a)
stays_too (Ok x) a b c first then = then refl ∙ first
stays_too (Err e) a b c first then = tt

-- ---- a change and the sync behind it

module _ (file : Which) (Partly : List ℕ → List ℕ → Type 0) (change : List ℕ → List ℕ) (same : (s : List ℕ) → Partly s s)
    (v0 v1 : View) (only : (c : Image) → v0.crash_states_since v0.moment c → v0.crash_states c) {T : Type 0} (r1 : Result T Failed) (w : Changes file Partly (λ old new. new ≡ change old) v0 v1 r1) where
  abbrev P : Image → Type 0
  P = ComesFrom v0 file Partly

  partly : (c : Image) → v1.crash_states c → P c
  partly c left = let d = w.crash c left in (d.0, d.1, d.2.1, d.2.0)

  changing : LeavesOnly v0 v1 P
  changing = goes_on v0 v0 v1 P r1 (started v0 P (λ c left. (c, only c left, others_same file c, same (content file c)))) w.counts partly

  -- it was done
  module _ (ok : IsOk r1) (done : IsTold v0 → OnFile file (λ old new. new ≡ change old) v0.seen v1.seen) {U : Type 0} (v2 : View) (r2 : Result U Failed) (s : Syncs file v1 v2 r2) where
    pub settles : Settles file Partly change v0 v2 r2
    settles = record {
      told = s.counts.told ∙ w.counts.told;
      any_moment = goes_on v0 v1 v2 P r2 changing s.counts (λ c left. partly c (s.crash c left));
      durable = λ told.
          let told1 : IsTold v1 = subst IsTrue (sym w.counts.told) told in
          on_ok_then r2 ((c : Image) → v2.crash_states c → IsTold v1 → content file c ≡ content file v1.seen) (Always v2 (ComesFrom v0 file (λ a x. Partly a x × (x ≡ change (content file v0.seen))))) s.durable
          (λ all c left. let d = w.crash c (s.crash c left) in (d.0, d.1, d.2.1, (d.2.0, all c left told1 ∙ (done told).0)));
      seen = λ told. on_ok_any r2 (subst (λ (i : Image). OnFile file (λ old new. new ≡ change old) v0.seen i) (sym s.seen) (done told));
      calls = on_ok_any r2 (omega (arith, w.counts.moment, s.counts.moment));
      cause = record {
        later = omega (arith, w.counts.no_fewer, s.counts.no_fewer);
        failed = later_rose r2 v0.faults v1.faults v2.faults w.counts.no_fewer s.counts.cause;
        still = stays_too r2 v0.faults v1.faults v2.faults (w.counts.still ok) s.counts.still;
      };
    }

-- ---- the first change of a chain

module _ (file : Which) (P : Image → Type 0) (Step Partly : List ℕ → List ℕ → Type 0) (change : List ℕ → List ℕ) (v0 v1 : View) {T : Type 0} (r : Result T Failed) (call : Settles file Partly change v0 v1 r)
    (goes : (d c : List ℕ) → Partly d c → Step d c) (allowed : (c : Image) → ComesFrom v0 file Step c → P c) where
  pub first_leaves : LeavesOnly v0 v1 P
  first_leaves = weaker v0 v1 (ComesFrom v0 file Partly) P (λ c from. allowed c (from.0, from.1, from.2, goes (content file from.0) (content file c) from.3)) call.any_moment

  pub first_reached : IsTold v0 → Always v1 (ComesFrom v0 file (λ d c. Partly d c × (c ≡ change (content file v0.seen)))) → OnFile file (λ d c. c ≡ change d) v0.seen v1.seen → Reached file P Step (change (content file v0.seen)) v0 v1
  first_reached told each seen = record {
    told = subst IsTrue (sym call.told) told;
    any_moment = first_leaves;
    each = λ c left. let from = each c left in (from.0, from.1, from.2, (goes (content file from.0) (content file c) from.3.0, from.3.1));
    seen = seen;
  }

-- ---- one more

module _ (file : Which) (P : Image → Type 0) (Step : List ℕ → List ℕ → Type 0) (bytes : List ℕ) (v0 v : View) (so_far : Reached file P Step bytes v0 v)
    (Step' Partly : List ℕ → List ℕ → Type 0) (change : List ℕ → List ℕ) (v' : View) {T : Type 0} (r : Result T Failed) (call : Settles file Partly change v v' r)
    (goes : (first d c : List ℕ) → Step first d → d ≡ bytes → Partly d c → Step' first c) (allowed : (c : Image) → ComesFrom v0 file Step' c → P c) where
  further : (c : Image) → ComesFrom v file Partly c → ComesFrom v0 file Step' c
  further c from =
      let was = so_far.each from.0 from.1 in
      (was.0, was.1, others_then file was.0 from.0 c was.2 from.2, goes (content file was.0) (content file from.0) (content file c) was.3.0 was.3.1 from.3)

  pub next_leaves : LeavesOnly v0 v' P
  next_leaves = joined v0 v v' P so_far.any_moment (weaker v v' (ComesFrom v file Partly) P (λ c from. allowed c (further c from)) call.any_moment)

  pub next_reached : Always v' (ComesFrom v file (λ d c. Partly d c × (c ≡ change (content file v.seen)))) → OnFile file (λ d c. c ≡ change d) v.seen v'.seen → Reached file P Step' (change bytes) v0 v'
  next_reached each seen = record {
    told = subst IsTrue (sym call.told) so_far.told;
    any_moment = next_leaves;
    each = λ c left.
        let from = each c left in
        let step = further c (from.0, from.1, from.2, from.3.0) in
        (step.0, step.1, step.2, (step.3, from.3.1 ∙ ap change so_far.seen.0));
    seen = (seen.0 ∙ ap change so_far.seen.0, others_then file v0.seen v.seen v'.seen so_far.seen.1 seen.1);
  }

-- a write by another name of its place and bytes
pub settled_as : {T : Type 0} (file : Which) (at at' : ℕ) (b b' : List ℕ) (old new : View) (result : Result T Failed) → at ≡ at' → b ≡ b' → Settles file (TornWrite (length (content file old.seen)) at (length b)) (overlaid at b) old new result
    → Settles file (TornWrite (length (content file old.seen)) at' (length b')) (overlaid at' b') old new result
settled_as file at at' b b' old new result same same' w =
    subst (λ (n : ℕ). Settles file (TornWrite (length (content file old.seen)) n (length b')) (overlaid n b') old new result) same
    (subst (λ (l : List ℕ). Settles file (TornWrite (length (content file old.seen)) at (length l)) (overlaid at l) old new result) same' w)
