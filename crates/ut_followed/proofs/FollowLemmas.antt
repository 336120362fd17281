-- A store that follows stays one that is reached.
use Rattle.std.proofs.Common.{◌≡◌, ℕ, zero, suc, ◌+◌, ◌≤◌, nat_le, List, [], ◌∷◌, ◌++◌, length, map, Option, None, Some, refl, sym, ap, ◌∙◌, subst, arith, IsTrue, leb-true, append_assoc}
use Rattle.std.specs.Option.{option_map, unwrap_or}
use Rattle.std.specs.List.{sum_by}
use Rattle.std.proofs.lemmas.List.{length-map, append-nil}
use Rattle.std.proofs.lemmas.List.Sums.{sum_by-cons}
use Rattle.ut_value.specs.declared.entry.Entry.{Entry}
use Rattle.ut_value.specs.declared.entry.Entry.TheVariants as entries
use Rattle.ut_plain.specs.declared.transaction.OpenTransaction.{OpenTransaction}
use Rattle.ut_plain.specs.declared.stage.Placed.{Placed}
use Rattle.ut_plain.specs.declared.stage.PendingMerge.{PendingMerge}
use Rattle.ut_plain.specs.declared.stage.TableStages.{TableStages}
use Rattle.ut_plain.specs.Rows.{Rows}
use Rattle.ut_plain.specs.State.{State, can}
use Rattle.ut_plain.specs.Journal.{Journal, journal_len, current, appended, IsJournal}
use Rattle.ut_plain.specs.Stages.{Stages, places_of, all_places, stages_at}
use Rattle.ut_plain.specs.Plain.{Sessions, open_at, open_inserts, inserts_open}
use Rattle.ut_plain.specs.Reached.{IsMain, IsAtRest, AreMerges}
use Rattle.ut_plain.proofs.BoolLemmas.{and_left, and_right}
use Rattle.ut_plain.proofs.JournalLaws.{current-appended, journal_len-appended, IsJournal-appended, load_of-appended}
use Rattle.ut_plain.proofs.OpenedLaws.{staged_after, placed_after, fine_entry}
use Rattle.ut_plain.proofs.SaveLaws.{IsUnderWay-appended}
use Rattle.ut_plain.proofs.StateLaws.{IsState-current}
use Rattle.ut_followed.specs.Followed.{swept, swept_table, swept_stages, most, followed, FollowedIsPlain, FollowedGrows, FollowedStaysAPrefix}

-- ---- places that nobody has

same_closed : (f : Placed → Placed) (o : Option (List Placed)) → length (unwrap_or (option_map (map f) o) []) ≡ length (unwrap_or o [])
same_closed f None = refl
same_closed f (Some places) = length-map places f

same_sizes : (f : Placed → Placed) (parts : List (List Placed)) → sum_by length (map (map f) parts) ≡ sum_by length parts
same_sizes f [] = refl
same_sizes f (x ∷ xs) = sum_by-cons length (map f x) (map (map f) xs) ∙ (λ i. length-map x f i + same_sizes f xs i) ∙ sym (sum_by-cons length x xs)

places_of-swept : (rows : Rows) (t : TableStages) → places_of (swept_table rows t) ≡ places_of t
places_of-swept rows t = omega (arith, length-map t.l1 (swept rows), length-map t.l2 (swept rows), same_closed (swept rows) t.closed)

all_places-swept : (rows : Rows) (stages : Stages) → all_places (swept_stages rows stages) ≡ all_places stages
all_places-swept rows [] = refl
all_places-swept rows (t ∷ ts) = sum_by-cons places_of (swept_table rows t) (swept_stages rows ts) ∙ (λ i. places_of-swept rows t i + all_places-swept rows ts i) ∙ sym (sum_by-cons places_of t ts)

stages_at-swept : (rows : Rows) (stages : Stages) (n : ℕ) → stages_at (swept_stages rows stages) n ≡ swept_table rows (stages_at stages n)
stages_at-swept rows [] n = refl
stages_at-swept rows (t ∷ ts) zero = refl
stages_at-swept rows (t ∷ ts) (suc n) = stages_at-swept rows ts n

main-marked : (f : Placed → Placed) (t u : TableStages) → u.parts ≡ map (map f) t.parts → u.closed ≡ option_map (map f) t.closed → IsMain t → IsMain u
main-marked f t u parts closed m = record {
  parts = let few = m.parts in omega (arith, few, length-map t.parts (map f), ap length parts);
  few = let few = m.few in omega (arith, few, same_sizes f t.parts, same_closed f t.closed, ap (sum_by length) parts, ap (λ (o : Option (List Placed)). length (unwrap_or o [])) closed);
}

swept-main : (rows : Rows) (stages : Stages) (n : ℕ) → IsMain (stages_at stages n) → IsMain (stages_at (swept_stages rows stages) n)
swept-main rows stages n m = subst IsMain (sym (stages_at-swept rows stages n)) (main-marked (swept rows) (stages_at stages n) (swept_table rows (stages_at stages n)) refl refl m)

swept-rest : (rows : Rows) (stages : Stages) (n : ℕ) → IsAtRest (stages_at stages n) → IsAtRest (stages_at (swept_stages rows stages) n)
swept-rest rows stages n r = subst IsAtRest (sym (stages_at-swept rows stages n)) (record { closed = ap (option_map (map (swept rows))) r.closed; keep = r.keep })

-- ---- nobody has a transaction

nothing_open : (sessions : Sessions) → ((session : ℕ) → open_at sessions session ≡ None) → inserts_open sessions ≡ 0
nothing_open [] alone = refl
nothing_open (x ∷ xs) alone = sum_by-cons open_inserts x xs ∙ (λ i. open_inserts (alone 0 i) + nothing_open xs (λ s. alone (suc s)) i)

nobody : {A : Type 0} (sessions : Sessions) (session : ℕ) (t : OpenTransaction) → ((s : ℕ) → open_at sessions s ≡ None) → open_at sessions session ≡ Some t → A
nobody sessions session t alone is = let none : None ≡ Some t = sym (alone session) ∙ is in cc

-- ---- the store behind an entry

pub followed-plain : FollowedIsPlain
followed-plain p e h c may =
    let j : Journal = appended p.journal e in
    let rows = (current p.journal).rows in
    let fits : IsTrue (can (current p.journal) e) = and_left (can (current p.journal) e) (nat_le (most p e) 2147483648) may in
    let few : most p e ≤ 2147483648 = leb-true (most p e) 2147483648 (and_right (can (current p.journal) e) (nat_le (most p e) 2147483648) may) in
    let journal : IsJournal j = IsJournal-appended p.journal e h.journal fits in
    let longer = journal_len-appended p.journal e in
    let now = current-appended p.journal e in
    let loaded = load_of-appended p.journal e in
    let state = IsState-current j h.base journal in
    let alone = c.alone in
    let rest : (n : ℕ) → IsAtRest (stages_at p.stages n) = subst (λ (o : Option PendingMerge). AreMerges o p.stages (current p.journal).merges (journal_len p.journal)) c.idle h.merges in
    let both : (n : ℕ) → IsMain (stages_at (followed p e).stages n) × IsAtRest (stages_at (followed p e).stages n) = λ n. fine_entry (swept_stages rows p.stages) e n (swept-main rows p.stages n (h.mains n)) (swept-rest rows p.stages n (rest n)) in
    record {
      base = h.base;
      journal = journal;
      short = let room = c.room in omega (arith, longer, room);
      opened = (let within : p.journal.base.length ≤ journal_len p.journal = omega arith in omega (arith, within), omega (arith, longer));
      limit = h.limit;
      next = omega arith;
      last = let last = h.last in let next : (current j).next ≤ 2147483649 = state.next.1 in omega (arith, last, next, few);
      load = let none = nothing_open p.sessions alone in omega (arith, loaded, none);
      seats = h.seats;
      running = λ session t o. nobody p.sessions session t alone o;
      apart = λ a b t u n x y id d. nobody p.sessions a t alone x;
      staged = staged_after (swept_stages rows p.stages) (current p.journal) e (length-map p.stages (swept_table rows) ∙ h.staged) ∙ ap (λ (s : State). length s.tables) (sym now);
      places = let before = all_places-swept rows p.stages in let more = placed_after (swept_stages rows p.stages) e in omega (arith, before, more);
      mains = λ n. (both n).0;
      merges = subst (λ (o : Option PendingMerge). AreMerges o (followed p e).stages (current j).merges (journal_len j)) (sym c.idle) (λ n. (both n).1);
      saving = IsUnderWay-appended p.journal e p.phase h.saving;
    }

-- ---- entries in order

pub followed-grows : FollowedGrows
followed-grows p [] h f = record { base = refl; entries = sym (append-nil p.journal.entries); reached = h }
followed-grows p (e ∷ es) h f =
    let more = followed-grows (followed p e) es (followed-plain p e h f.0 f.1) f.2 in
    record { base = more.base; entries = more.entries ∙ append_assoc p.journal.entries (e ∷ []) es; reached = more.reached }

pub followed-prefix : FollowedStaysAPrefix
followed-prefix p whole es rest h base are f =
    let g = followed-grows p es h f in
    record { base = g.base ∙ base; more = rest; are = are ∙ sym (append_assoc p.journal.entries es rest) ∙ ap (λ (l : List Entry). l ++ rest) (sym g.entries) }
