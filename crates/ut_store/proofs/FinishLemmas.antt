-- What a statement's operations are answered, from the limits to the end.
use Rattle.std.proofs.Common.{ℕ, zero, suc, ◌+◌, ◌<◌, ◌≤◌, ◌≡◌, ◌≢◌, ◌↔◌, Bool, true, false, ◌&&◌, ◌||◌, List, [], ◌∷◌, ◌++◌, length, map, is_some, None, Some, refl, sym, ap, ◌∙◌, subst, arith, IsTrue, nat_eq, nat_le, nat_lt, ltb-true, true≢false, slice_set}
use Rattle.std.specs.Option.{option_map}
use Rattle.std.proofs.lemmas.List.Sums.{sum_by-append}
use Rattle.ut_value.specs.declared.entry.Op.{Op}
use Rattle.ut_value.specs.declared.entry.Entry.TheVariants.{Txn}
use Rattle.ut_value.specs.Spelling.{op_len, ops_len, entry_len}
use Rattle.ut_value.proofs.SpellingLengths.{entry_length}
use Rattle.ut_plain.specs.declared.statement.Statement.{Statement}
use Rattle.ut_plain.specs.declared.statement.Statement.TheVariants as statements
use Rattle.ut_plain.specs.declared.reply.Reply.TheVariants as replies
use Rattle.ut_plain.specs.declared.reply.Refusal.TheVariants as refusals
use Rattle.ut_plain.specs.Rows.{inserts_of}
use Rattle.ut_plain.specs.Stages.{all_places}
use Rattle.ut_plain.specs.Plain.{Plain, open_at}
use Rattle.ut_plain.specs.View.{view, own_ops}
use Rattle.ut_plain.specs.Limits.{has_room, has_ops_room}
use Rattle.ut_plain.specs.Refusals.{unless, or_else, conflict}
use Rattle.ut_plain.specs.Step.{LacksMemory, may_lack_memory}
use Rattle.ut_plain.proofs.BoolLemmas.{and_right}
use Rattle.ut_plain.proofs.JournalLaws.{length-current}
use Rattle.ut_plain.proofs.StateLaws.{IsState-current}
use Rattle.ut_plain.proofs.SeenLemmas.{own_is}
use Rattle.ut_plain.proofs.PassedLemmas.{Passed, passed, HasRoom, room_is}
use Rattle.ut_stamps.specs.Stamps.{fate_at}
use Rattle.ut_stamps.specs.declared.fates.Fate.TheVariants.{Running}
use Rattle.ut_stamps.specs.declared.place.Place.{Place}
use Rattle.ut_exact.specs.Places.{dead_number}
use Rattle.ut_staged.specs.Staged.{Staged, stages_of}
use Rattle.ut_staged.proofs.TableLemmas.{count-within}
use Rattle.ut_txn.specs.declared.opened.Opened.{Opened}
use Rattle.ut_txn.specs.Seats.{opened_at, payload_at}
use Rattle.ut_plain.specs.declared.reply.Refusal.{Refusal}
use Rattle.ut_store.specs.declared.response.Response.{Response}
use Rattle.ut_store.specs.declared.response.Response.TheVariants.{Answered, Append}
use Rattle.ut_store.specs.declared.counts.Counts.{Counts}
use Rattle.ut_tables.specs.Rows.{Rows}
use Rattle.ut_store.specs.Held.{Held}
use Rattle.ut_store.specs.Stands.{StandsFor}
use Rattle.ut_store.specs.Hits.{first_taken_of}
use Rattle.ut_store.specs.Answers.{Answers, Same}
use Rattle.ut_store.specs.Allowed.{IsRefused}
use Rattle.ut_store.specs.Standing.{changes_rows}
use Rattle.ut_store.specs.Changes.{has_room_for, late_refusal, CanDo, CanAppend, DoneInside, DoneAlone, Stays, MayChange, AreReady, IsWork}
use Rattle.ut_store.proofs.ReadLemmas.{reads, SameSession, Closed, Open, same_session}
use Rattle.ut_store.proofs.SeatLemmas.{stands-same}
use Rattle.ut_store.proofs.EarlyLemmas.{refusal-is, no_save_changes}
use Rattle.ut_store.proofs.StandsLemmas.{no_memory, refused, itself_same, IsOpenOn, By, open_on, number_is, not_dead}
use Rattle.ut_store.proofs.ChangeLemmas.{Makes, changed_inside, changed_alone, changed_nothing}

-- ---- limits, from what is read

own_len : (e : Held) (p : Plain) (session : ℕ) → session < 17 → StandsFor e p → length (payload_at e.seats session) ≡ ops_len (own_ops (open_at p.sessions session)) + 5
own_len e p session small s = ap length (reads e p session small s).bytes ∙ entry_length (Txn (own_ops (open_at p.sessions session)))

pub bytes-are : (e : Held) (p : Plain) (session : ℕ) (os : List Op) → session < 17 → StandsFor e p → entry_len (Txn (own_ops (open_at p.sessions session) ++ os)) ≡ length (payload_at e.seats session) + ops_len os
bytes-are e p session os small s = let own = own_len e p session small s in let both = sum_by-append op_len (own_ops (open_at p.sessions session)) os in omega (arith, own, both)

pub room-is : (e : Held) (p : Plain) (session : ℕ) (os : List Op) → session < 17 → StandsFor e p → has_ops_room (view p session) os ≡ has_room_for e session os
room-is e p session [] small s = refl
room-is e p session (op ∷ os) small s =
    let r = reads e p session small s in
    let bytes = bytes-are e p session (op ∷ os) small s in
    λ i. (nat_eq (inserts_of (op ∷ os)) 0 || nat_le (r.next_id i + inserts_of (op ∷ os)) (r.rows_limit i + 1)) && nat_le (bytes i) 1073741824 && (r.is_open i || nat_lt (r.entries i) 1073741823)

-- ---- one statement

module _ (e : Held) (session : ℕ) (st : Statement) (n : ℕ) (hits : List (ℕ × Place)) (os : List Op) (rows : ℕ) (after : ℕ → Staged → Staged) (m : MayChange e session st) (w : IsWork e session st n hits os rows after) where
  same_room : (p : Plain) (s : StandsFor e p) → has_room (view p session) st ≡ has_room_for e session os
  same_room p s = w.limits (view p session) ∙ ap (has_ops_room (view p session)) (w.operations p s) ∙ room-is e p session os m.seat s

  pub late-is : IsRefused e session st (late_refusal e session n hits os)
  late-is = record {
    is = λ p s.
        refusal-is e p session st m.seat (no_save_changes st m.kind) s
        ∙ ap (λ a. or_else a (or_else (unless (has_room (view p session) st) refusals.Full) (option_map refusals.Conflict (conflict (view p session) st)))) m.early
        ∙ (λ i. or_else (unless (same_room p s i) refusals.Full) (option_map refusals.Conflict (w.clash p s i)));
  }

  -- ---- it is not refused

  module _ (late : late_refusal e session n hits os ≡ None) where
    pub refused_not : IsRefused e session st None
    refused_not = record { is = λ p s. late-is.is p s ∙ late }

    tests : (p : Plain) → StandsFor e p → Passed (view p session) st
    tests p s = passed (view p session) st (refused_not.is p s)

    pub free : first_taken_of e session n hits ≡ None
    free = let s = m.stands in sym (w.clash s.plain s.stands) ∙ (tests s.plain s.stands).clear

    pub roomy : has_room_for e session os ≡ true
    roomy = let s = m.stands in sym (same_room s.plain s.stands) ∙ (tests s.plain s.stands).room

    room : (p : Plain) → StandsFor e p → HasRoom p session os
    room p s = room_is p session os s.plain (own_is p session s.plain) (room-is e p session os m.seat s ∙ roomy)

-- ---- what is done

-- a store is what its parts are
held_is : (new : Held) {rows : Rows} {counts : Counts} → new.rows ≡ rows → new.counts ≡ counts → record { rows = rows; seats = new.seats; counts = counts; frame = new.frame } ≡ new
held_is new rows counts = λ i. record { rows = sym rows i; seats = new.seats; counts = sym counts i; frame = new.frame }

-- ---- what may be done

module _ (e : Held) (session : ℕ) (st : Statement) (n : ℕ) (hits : List (ℕ × Place)) (os : List Op) (rows : ℕ) (after : ℕ → Staged → Staged) (m : MayChange e session st) (w : IsWork e session st n hits os rows after) (late : late_refusal e session n hits os ≡ None) where
  the_room : HasRoom m.stands.plain session os
  the_room = room e session st n hits os rows after m w late m.stands.plain m.stands.stands

  pub size_fits : length (payload_at e.seats session) + ops_len os ≤ 1073741824
  size_fits = let b = the_room.bytes in let is = bytes-are e m.stands.plain session os m.seat m.stands.stands in omega (arith, b, is)

  pub ids_fit : e.counts.next_id + inserts_of os ≤ 2147483649
  ids_fit = let ids = the_room.ids in let next = m.stands.stands.counts.next_id in omega (arith, ids, next)

  pub can_do : AreReady e n hits os → CanDo e n hits os
  can_do r =
      let s = m.stands.stands in
      let count = count-within e.rows.staged n r.table r.at in
      let places = s.plain.places in
      let stages : all_places m.stands.plain.stages ≡ all_places (map stages_of e.rows.staged) = ap all_places s.rows.stages in
      let ids = the_room.ids in
      let own = own_len e m.stands.plain session m.seat s in
      let size = size_fits in
      record {
        table = r.table;
        at = r.at;
        write = record { fits = r.fits; few = omega (arith, count, places, stages, ids); there = r.there; enough = r.enough };
        rule = r.rule;
        short = omega (arith, size, own);
        ids = ids_fit;
      }

  pub can_append : opened_at e.seats session ≡ None → 0 < length os → CanAppend e
  can_append closed some = record { entries = by os some (roomy e session st n hits os rows after m w late); commits = few }
    where
      by : (os : List Op) → 0 < length os → has_room_for e session os ≡ true → e.counts.entries < 1073741823
      by [] k h = absurd (omega arith)
      by (op ∷ rest) k h = ltb-true e.counts.entries 1073741823 (ap (λ o. is_some o || nat_lt e.counts.entries 1073741823) (sym closed) ∙ and_right _ _ h)

      few : e.counts.commits ≤ e.counts.entries
      few =
          let s = m.stands.stands in
          let j = m.stands.plain.journal in
          let state = IsState-current j s.plain.base s.plain.journal in
          let counts = state.counts in
          let long = length-current j in
          omega (arith, counts, long, s.counts.commits, s.counts.entries)

  makes : Makes e session st os rows
  makes = record { changes_rows = w.changes_rows; operations = w.operations; count = w.count }

  -- in a transaction
  pub answers_inside : (new : Held) (o : Opened) → AreReady e n hits os → opened_at e.seats session ≡ Some o → DoneInside e new session o n os after → Answers e session st (Answered (replies.Changed rows None)) new
  answers_inside new o r is d =
      let s = m.stands.stands in
      let staged = slice_set e.rows.staged n (after o.number r.table) in
      subst (λ (x : Held). Answers e session st (Answered (replies.Changed rows None)) x)
      (held_is new (d.rows r.table r.at) d.counts)
      (changed_inside e staged new.seats new.frame session st o os rows m.inside m.seat m.spelled (refused_not e session st n hits os rows after m w late) is makes
      (λ p s. w.fits_inside o p s (free e session st n hits os rows after m w late) is) (w.staging o.number r.table r.at (alive (open_on e m.stands.plain session o is s.seats))) d.bytes d.seats)
    where
      alive : IsOpenOn e m.stands.plain session o → o.number ≢ dead_number
      alive (By t own look) same =
          let s = m.stands.stands in
          let runs : fate_at e.rows.fates o.number ≡ Running = ap (fate_at e.rows.fates) (sym (number_is e.seats session o is)) ∙ (s.rows.transactions.own session t own).running in
          not_dead e.rows.fates o.number runs s.rows.dead (sym same)

closed_on : (e : Held) (p : Plain) (session : ℕ) → opened_at e.seats session ≡ None → StandsFor e p → open_at p.sessions session ≡ None
closed_on e p session closed s = by (same_session e p session s.seats)
  where
    nothing : (o : Opened) → None ≡ Some o → ⊥
    nothing o g = cc

    by : SameSession e p session (open_at p.sessions session) → open_at p.sessions session ≡ None
    by (Closed own seat) = own
    by (Open t o own seat same) = absurd (nothing o (sym closed ∙ seat))

-- alone
pub answers_alone : (e new : Held) (session : ℕ) (st : Statement) (n : ℕ) (hits : List (ℕ × Place)) (os : List Op) (rows commit : ℕ) (after : ℕ → Staged → Staged) → MayChange e session st → AreReady e n hits os → IsWork e session st n hits os rows after
    → late_refusal e session n hits os ≡ None → opened_at e.seats session ≡ None → 0 < length os → DoneAlone e new n os after → commit ≡ new.counts.commits → Answers e session st (Append (replies.Changed rows (Some commit))) new
answers_alone e new session st n hits [] rows commit after m r w late closed some d is = absurd (omega arith)
answers_alone e new session st n hits (op ∷ rest) zero commit after m r w late closed some d is = let none = w.some op rest refl in absurd (omega arith)
answers_alone e new session st n hits (op ∷ rest) (suc rows) commit after m r w late closed some d is =
    let started = m.stands.stands.rows.started in
    let alive : length e.rows.fates ≢ dead_number = λ same. absurd (omega (arith, started, same)) in
    subst (λ (c : ℕ). Answers e session st (Append (replies.Changed (suc rows) (Some c))) new) (ap (λ (k : Counts). k.commits) (sym d.counts) ∙ sym is)
    (done alive)
  where
    done : length e.rows.fates ≢ dead_number → Answers e session st (Append (replies.Changed (suc rows) (Some (e.counts.commits + 1)))) new
    done alive =
        let staged = slice_set e.rows.staged n (after (length e.rows.fates) r.table) in
        subst (λ (x : Held). Answers e session st (Append (replies.Changed (suc rows) (Some (e.counts.commits + 1)))) x)
        (held_is new (d.rows r.table r.at) d.counts)
        (changed_alone e staged new.seats new.frame session st op rest rows m.seat m.spelled (refused_not e session st n hits (op ∷ rest) (suc rows) after m w late) (λ p s. closed_on e p session closed s)
        (record { changes_rows = w.changes_rows; operations = w.operations; count = w.count })
        (λ p s. w.fits_alone p s (free e session st n hits (op ∷ rest) (suc rows) after m w late) closed) (w.staging (length e.rows.fates) r.table r.at alive) d.frame d.seats)

-- nothing
pub answers_nothing : (e : Held) (session : ℕ) (st : Statement) (n : ℕ) (hits : List (ℕ × Place)) (os : List Op) (rows : ℕ) (after : ℕ → Staged → Staged) → MayChange e session st → IsWork e session st n hits os rows after
    → late_refusal e session n hits os ≡ None → opened_at e.seats session ≡ None → os ≡ [] → Answers e session st (Answered (replies.Changed 0 None)) e
answers_nothing e session st n hits os rows after m w late closed none =
    changed_nothing e e session st m.seat m.spelled (refused_not e session st n hits os rows after m w late)
    (record { changes_rows = w.changes_rows; operations = λ p s. w.operations p s ∙ none; count = λ p s. w.count p s ∙ w.none none }) closed (λ p s. closed_on e p session closed s) (λ p s. s)

-- ---- refusals

pub may_lack : (st : Statement) → IsTrue (changes_rows st) → IsTrue (may_lack_memory st)
may_lack (statements.Insert name values) h = refl
may_lack (statements.Bulk name values) h = refl
may_lack (statements.Update name column value preds) h = refl
may_lack (statements.Delete name preds) h = refl
may_lack _ h = cc

pub answers_memory : (e new : Held) (session : ℕ) (st : Statement) (response : Response) → IsTrue (changes_rows st) → response ≡ Answered (replies.Refused refusals.Memory) → Same e new → Answers e session st response new
answers_memory e new session st response kind is same = subst (λ t. Answers e session st t new) (sym is) (no_memory e new session st (may_lack st kind) same)

-- the same of a store that stands for what it stood for
pub answers_stays : (e new : Held) (session : ℕ) (st : Statement) (response : Response) → IsTrue (changes_rows st) → response ≡ Answered (replies.Refused refusals.Memory) → Stays e new → Answers e session st response new
answers_stays e new session st response kind is stays = subst (λ t. Answers e session st t new) (sym is)
    (record { each = λ p s. record { after = p; may = LacksMemory (may_lack st kind) refl refl; stands = stays.each p s; logs = refl } })

pub same_stays : (e new : Held) → Same e new → Stays e new
same_stays e new same = record { each = λ p s. stands-same e new p same s }

pub answers_refused : (e : Held) (session : ℕ) (st : Statement) (n : ℕ) (hits : List (ℕ × Place)) (os : List Op) (rows : ℕ) (after : ℕ → Staged → Staged) (why : Refusal) → MayChange e session st → IsWork e session st n hits os rows after
    → late_refusal e session n hits os ≡ Some why → Answers e session st (Answered (replies.Refused why)) e
answers_refused e session st n hits os rows after why m w late = refused e e session st why (record { is = λ p s. (late-is e session st n hits os rows after m w).is p s ∙ late }) (itself_same e)

-- ---- some are left

pub some_of : {X : Type 0} (xs : List X) (none : Bool) → (IsTrue none ↔ xs ≡ []) → none ≡ false → 0 < length xs
some_of [] none is h = absurd (true≢false (sym (is.1 refl) ∙ h))
some_of (x ∷ xs) none is h = omega arith
