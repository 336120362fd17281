-- The state of a store that is opened with an image and with the entries behind it.
use Rattle.std.proofs.Common.{◌≡◌, ℕ, ◌+◌, ◌-◌, ◌≤◌, max, nat_le, Bool, true, List, ◌++◌, length, take, drop, None, refl, sym, ap, ◌∙◌, subst, arith, leb-true}
use Rattle.std.specs.List.{sum_by}
use Rattle.std.specs.FinMap as finmap
use Rattle.ut_value.specs.declared.entry.Entry.{Entry}
use Rattle.ut_plain.specs.declared.stage.Progress.TheVariants as steps
use Rattle.ut_plain.specs.State.{State, empty_state, entry_inserts}
use Rattle.ut_plain.specs.Capture.{Directory}
use Rattle.ut_plain.specs.Journal.{Journal, after_all, current, journal_len, state_at, since, part, load_of}
use Rattle.ut_plain.specs.Stages.{Stages, all_places}
use Rattle.ut_plain.specs.Restart.{replayed}
use Rattle.ut_plain.specs.Progress.{phase_of}
use Rattle.ut_plain.specs.Plain.{no_savepoint, Plain, Sessions, no_sessions, opened_store}
use Rattle.ut_plain.specs.Reached.{IsPlain, MayOpen}
use Rattle.ut_plain.proofs.ListLemmas.{take_whole}
use Rattle.ut_plain.proofs.JournalLaws.{after_all-append}
use Rattle.ut_plain.proofs.PartLaws.{may_open_part, since-length}
use Rattle.check_rows.specs.declared.known.Known.{Known}
use Rattle.check_rows.specs.Known.{IsKnown}
use Rattle.check_oracle.specs.Store.{Selected, IsSelected}
use Rattle.check_oracle.proofs.SightLemmas.{base_len}

pub opened_is : (first copy es : List Entry) (opening next load rows at : ℕ) (image : Directory) (sessions : Sessions) (stages captured : Stages) → copy ≡ es → opening ≡ length first + length es → sessions ≡ no_sessions
    → next ≡ max (after_all (after_all empty_state first) es).next load → load ≡ rows + sum_by entry_inserts es + 1 → rows ≡ finmap.len (after_all empty_state first).rows → stages ≡ replayed captured es
    → record { journal = record { base = after_all empty_state first; entries = copy }; opening = opening; sessions = sessions; next_id = next; rows_limit = 0; pending = None; phase = phase_of steps.Idle at image; image_pages = no_savepoint.image_pages; root_pages = 0; stages = stages }
    ≡ opened_store (record { stages = captured; image_pages = no_savepoint.image_pages; root_pages = 0 }) (record { base = after_all empty_state first; entries = es }) 0
opened_is first copy es opening next load rows at image sessions stages captured c o s n l r t =
    let j : Journal = record { base = after_all empty_state first; entries = es } in
    let whole : opening ≡ journal_len j = omega (arith, o, base_len first) in
    let all : load ≡ load_of j + 1 = omega (arith, l, r) in
    let given : next ≡ max (current j).next (load_of j + 1) = n ∙ ap (max (current j).next) all in
    λ i. record (opened_store (record { stages = captured; image_pages = no_savepoint.image_pages; root_pages = 0 }) j 0) { journal = record { base = after_all empty_state first; entries = c i }; opening = whole i; sessions = s i; next_id = given i; stages = t i }

-- ---- the journal behind an image

-- how many of the entries behind the base an image has
pub record IsCut (first es : List Entry) (n at : ℕ) : Type 0 where
  pub is : at ≡ n - length first
  pub within : at ≤ length es

pub cut_is : (first es : List Entry) (p : Plain) (s : Selected) (n : ℕ) → p.journal ≡ record { base = after_all empty_state first; entries = es } → IsSelected s p → s.length ≡ n → IsCut first es n (n - length first)
cut_is first es p s n e h is = record { is = refl; within = let until = h.until in omega (arith, until, is, ap journal_len e, base_len first) }

-- the journal of the entries that were parted there
pub parted : (first es more one rest : List Entry) (n at : ℕ) → IsCut first es n at → one ≡ first ++ more → more ≡ take at es → rest ≡ drop at es
    → record { base = after_all empty_state one; entries = rest } ≡ since (record { base = after_all empty_state first; entries = es }) n
parted first es more one rest n at h o m r =
    let k : at ≡ n - (after_all empty_state first).length = omega (arith, h.is, base_len first) in
    let base : after_all empty_state one ≡ after_all (after_all empty_state first) (take (n - (after_all empty_state first).length) es) =
    ap (after_all empty_state) o ∙ after_all-append empty_state first more ∙ ap (after_all (after_all empty_state first)) (m ∙ ap (λ k. take k es) k) in
    λ i. record { base = base i; entries = (r ∙ ap (λ k. drop k es) k) i }

-- and so where they were read from slices
pub parted_there : (first es slice start more one rest : List Entry) (p : Plain) (s : Selected) (n len : ℕ) → p.journal ≡ record { base = after_all empty_state first; entries = es } → IsSelected s p → s.length ≡ n → len ≡ length first → slice ≡ es → start ≡ first
    → one ≡ start ++ more → more ≡ take (n - len) slice → rest ≡ drop (n - len) slice → record { base = after_all empty_state one; entries = rest } ≡ since (record { base = after_all empty_state first; entries = es }) n
parted_there first es slice start more one rest p s n len e h is l whole begins o m r =
    let cut = subst (λ k. IsCut first es n (n - k)) (sym l) (cut_is first es p s n e h is) in
    parted first es more one rest n (n - len) cut (o ∙ ap (λ x. x ++ more) begins) (m ∙ ap (take (n - len)) whole) (r ∙ ap (drop (n - len)) whole)

-- a journal behind an image can be opened with it
pub since_may : (p : Plain) (s : Selected) → IsPlain p → IsSelected s p → all_places s.directory.stages ≤ finmap.len (state_at p.journal s.length).rows → MayOpen s.directory.stages (since p.journal s.length)
since_may p s h i few =
    let j = p.journal in
    let may = may_open_part p s.directory s.length (journal_len j) h i.since i.until (omega arith) i.captured i.tables few in
    let long = since-length j s.length i.since i.until in
    let whole : part j s.length (journal_len j) ≡ since j s.length = ap (λ es. record { base = state_at j s.length; entries = es }) (take_whole (journal_len j - (state_at j s.length).length) (since j s.length).entries (omega (arith, long))) in
    subst (MayOpen s.directory.stages) whole may

-- no more rows than were counted
pub few_rows : (k : Known) (s : State) (stages : Stages) (rows : ℕ) (fits : Bool) → IsKnown k s → rows ≡ length k.rows.items → fits ≡ nat_le (all_places stages) rows → fits ≡ true → all_places stages ≤ finmap.len s.rows
few_rows k s stages rows fits known count is fit =
    let le = leb-true (all_places stages) rows (sym is ∙ fit) in
    omega (arith, le, count, ap length known.rows, finmap.len-entries s.rows)

pub rows_are : (k : Known) (s : State) (rows : ℕ) → IsKnown k s → rows ≡ length k.rows.items → rows ≡ finmap.len s.rows
rows_are k s rows known count = omega (arith, count, ap length known.rows, finmap.len-entries s.rows)
