-- What the calls of a merge into main answer, from what their steps promise.
use Rattle.std.proofs.Common.{ℕ, ◌+◌, ◌<◌, ◌≤◌, ◌≡◌, ◌&&◌, Bool, true, false, cond, List, [], ◌∷◌, length, map, Option, None, Some, refl, sym, ap, ◌∙◌, subst, arith, IsTrue, nat_lt, slice_get}
use Rattle.std.proofs.lemmas.Bool.{and_parts, eq-eqb, le-ltb, lt-ltb, ltb-true}
use Rattle.std.proofs.lemmas.List.{length-map}
use Rattle.std.proofs.lemmas.List.Sums.{sum_by-cons}
use Rattle.std.specs.List.{sum_by}
use Rattle.std.specs.Option.{option_map, option_and_then}
use Rattle.ut_value.specs.declared.entry.MergeKind.{MergeKind}
use Rattle.ut_value.specs.declared.entry.Entry.TheVariants as entries
use Rattle.ut_value.specs.Spelling.{spelling}
use Rattle.ut_plain.specs.declared.stage.PendingMerge.{PendingMerge}
use Rattle.ut_plain.specs.declared.statement.Statement.TheVariants.{MergeBegin, MergeEnd}
use Rattle.ut_plain.specs.declared.reply.Reply.TheVariants as replies
use Rattle.ut_plain.specs.declared.reply.Refusal.TheVariants as refusals
use Rattle.ut_plain.specs.Limits.{has_room}
use Rattle.ut_plain.specs.Merges.{has_part_room, has_places}
use Rattle.ut_plain.specs.Plain.{Plain}
use Rattle.ut_plain.specs.Spelled.{is_spelled}
use Rattle.ut_plain.specs.Stages.{Stages, stages_at}
use Rattle.ut_plain.specs.Tables.{place_in}
use Rattle.ut_plain.specs.View.{view}
use Rattle.ut_exact.specs.Places.{StagedRow}
use Rattle.ut_merge.specs.Jobs.{JobValue}
use Rattle.ut_tables.specs.Rows.{Rows}
use Rattle.ut_tables.specs.Merging as merges
use Rattle.ut_tables.specs.Merging.{Switched}
use Rattle.ut_table.specs.Pending as tables
use Rattle.ut_staged.specs.Staged.{Staged, placed_of, stages_of}
use Rattle.ut_staged.proofs.ListLemmas.{none_some, some_same, get-within, get-map}
use Rattle.ut_staged.proofs.TableLemmas.{stages-here}
use Rattle.ut_store.specs.declared.response.Response.TheVariants.{Answered, Append}
use Rattle.ut_store.specs.Held.{Held}
use Rattle.ut_tables.specs.Standing.{merge_at}
use Rattle.ut_store.specs.Stands.{StandsFor}
use Rattle.ut_store.specs.Standing.{Stands}
use Rattle.ut_store.specs.Early.{early_refusal}
use Rattle.ut_store.specs.Answers.{Answers}
use Rattle.ut_store.specs.Merging.{merge_begun, has_room_to_merge, MayMerge}
use Rattle.ut_store.specs.Jobs.{pending_job}
use Rattle.ut_store.proofs.EarlyLemmas.{allowed, full, may_end}
use Rattle.ut_store.proofs.NumberLemmas.{are_small}
use Rattle.ut_store.proofs.NamedLemmas.{staged_count, place-is}
use Rattle.ut_store.proofs.StandsLemmas.{refused, itself_same}
use Rattle.ut_store.proofs.MergeBeginLemmas.{kept_ids, merge_begins}
use Rattle.ut_store.proofs.MergeEndLemmas.{merge_ends}
use Rattle.ut_plain.specs.Tables.{place_of}

-- ---- room

sum_placed : (lists : List (List StagedRow)) → sum_by length (map (map placed_of) lists) ≡ sum_by length lists
sum_placed [] = refl
sum_placed (rows ∷ lists) =
    let rest = sum_placed lists in
    omega (arith, rest, length-map rows placed_of, sum_by-cons length rows lists, sum_by-cons length (map placed_of rows) (map (map placed_of) lists))

and_again : (a b c : Bool) → (a && b) && c ≡ a && (b && c)
and_again true b c = refl
and_again false b c = refl

-- the plain store's test is that of the stages
room-is : (e : Held) (session : ℕ) (name : List ℕ) (kind : MergeKind) (n : ℕ) (s : Staged) (room : Bool) → slice_get e.rows.staged n ≡ Some s → ((p : Plain) → StandsFor e p → place_in (view p session).tables name ≡ n) → has_room_to_merge e s kind ≡ room
    → (p : Plain) → StandsFor e p → has_room (view p session) (MergeBegin name kind) ≡ room
room-is e session name kind n s room is place test p st =
    let here : stages_at p.stages (place_in (view p session).tables name) ≡ stages_of s = ap (stages_at p.stages) (place p st) ∙ ap (λ (x : Stages). stages_at x n) st.rows.stages ∙ stages-here e.rows.staged n s is in
    let places : has_places (stages_of s) ≡ nat_lt (sum_by length s.parts + length s.l2) 2147483648 = λ i. nat_lt (sum_placed s.parts i + length-map s.l2 placed_of i) 2147483648 in
    (λ i. nat_lt (sym st.counts.entries i) 1073741823 && has_places (here i) && has_part_room kind (length (here i).parts))
    ∙ (λ i. nat_lt e.counts.entries 1073741823 && places i && has_part_room kind (length-map s.parts (map placed_of) i))
    ∙ and_again (nat_lt e.counts.entries 1073741823) (nat_lt (sum_by length s.parts + length s.l2) 2147483648) (has_part_room kind (length s.parts)) ∙ test

-- whether there are places left for the rows that a merge builds
abbrev has_places_left : Staged → Bool
has_places_left s = nat_lt (sum_by length s.parts + length s.l2) 2147483648

pub may_merge : (e : Held) (n : ℕ) (s : Staged) (kind : MergeKind) → Stands e → e.counts.pending ≡ None → slice_get e.rows.staged n ≡ Some s → has_room_to_merge e s kind ≡ true → MayMerge e n kind
may_merge e n s kind st idle is test =
    let tests = and_parts (nat_lt e.counts.entries 1073741823) (has_places_left s && has_part_room kind (length s.parts)) test in
    let room = and_parts (has_places_left s) (has_part_room kind (length s.parts)) tests.1 in
    let few = ltb-true (sum_by length s.parts + length s.l2) 2147483648 room.0 in
    record {
      table = s;
      at = is;
      idle = st.stands.rows.merging n s.merge (get-map (λ (x : Staged). x.merge) e.rows.staged n s is) ∙ ap (λ o. merge_at o n) idle;
      few = omega (arith, few);
      room = room.1;
      own_ids = kept_ids e st.plain st.stands idle n s kind is;
    }

-- its numbers don't wrap
pub merge_small : (e : Held) (n : ℕ) (s : Staged) (kind : MergeKind) → Stands e → slice_get e.rows.staged n ≡ Some s → has_room_to_merge e s kind ≡ true → (n < 65536) × (e.counts.entries < 1073741823) × (e.counts.merges < 1073741823)
merge_small e n s kind st is test =
    let small = are_small e st in
    let merges = small.merges in
    let few_tables = small.tables in
    let short = ltb-true e.counts.entries 1073741823 (and_parts (nat_lt e.counts.entries 1073741823) (has_places_left s && has_part_room kind (length s.parts)) test).0 in
    (omega (arith, get-within e.rows.staged n s is, staged_count e st, few_tables), short, omega (arith, merges, short))

-- both limits, as they are read
pub room_both : (inside e : Held) (s : Staged) (kind : MergeKind) → inside ≡ e → inside.counts.entries < 1073741823 → merges.has_room_to_merge s kind ≡ true → has_room_to_merge e s kind ≡ true
room_both inside e s kind same short room = ap (λ (x : Held). nat_lt x.counts.entries 1073741823 && merges.has_room_to_merge s kind) (sym same) ∙ (λ i. lt-ltb inside.counts.entries 1073741823 short i && room i)

pub no_entries : (inside e : Held) (s : Staged) (kind : MergeKind) → inside ≡ e → 1073741823 ≤ inside.counts.entries → has_room_to_merge e s kind ≡ false
no_entries inside e s kind same long = ap (λ (x : Held). nat_lt x.counts.entries 1073741823 && merges.has_room_to_merge s kind) (sym same) ∙ ap (λ b. b && merges.has_room_to_merge s kind) (le-ltb inside.counts.entries 1073741823 long)

pub no_places : (e : Held) (s : Staged) (kind : MergeKind) → merges.has_room_to_merge s kind ≡ false → has_room_to_merge e s kind ≡ false
no_places e s kind none = ap (λ b. nat_lt e.counts.entries 1073741823 && b) none ∙ and_false (nat_lt e.counts.entries 1073741823)
  where
    and_false : (b : Bool) → b && false ≡ false
    and_false true = refl
    and_false false = refl

pub merge_full : (e : Held) (session : ℕ) (name : List ℕ) (kind : MergeKind) (n : ℕ) (s : Staged) → session < 17 → early_refusal e session (MergeBegin name kind) ≡ None → place_of e.rows.tables name ≡ Some n → slice_get e.rows.staged n ≡ Some s → has_room_to_merge e s kind ≡ false
    → Answers e session (MergeBegin name kind) (Answered (replies.Refused refusals.Full)) e
merge_full e session name kind n s small early at is test =
    refused e e session (MergeBegin name kind) refusals.Full (full e session (MergeBegin name kind) small refl early (room-is e session name kind n s false is (place-is e session name n at) test)) (itself_same e)

pub merge_begun_now : (e new : Held) (session : ℕ) (name : List ℕ) (kind : MergeKind) (n : ℕ) (s : Staged) → session < 17 → IsTrue (is_spelled (MergeBegin name kind)) → early_refusal e session (MergeBegin name kind) ≡ None → e.counts.pending ≡ None
    → place_of e.rows.tables name ≡ Some n → slice_get e.rows.staged n ≡ Some s → has_room_to_merge e s kind ≡ true → new ≡ merge_begun e n kind s → Answers e session (MergeBegin name kind) (Append (replies.Merge new.counts.merges)) new
merge_begun_now e new session name kind n s small spelled early idle at is test same =
    subst (λ (x : Held). Answers e session (MergeBegin name kind) (Append (replies.Merge x.counts.merges)) x) (sym same)
    (merge_begins e session name kind n s spelled (allowed e session (MergeBegin name kind) small refl early (room-is e session name kind n s true is (place-is e session name n at) test) (λ p st. refl)) is idle (place-is e session name n at))

-- ---- the pending merge

-- the table of the pending merge, whose job is the store's
pub record IsMergedTable (e : Held) (m : PendingMerge) (job : JobValue) : Type 0 where
  pub table : Staged
  pub at : slice_get e.rows.staged m.table ≡ Some table
  pub has : tables.pending_job table ≡ Some job
  pub head : job.head ≡ m

pub merged_table : (e : Held) (m : PendingMerge) (job : JobValue) → Stands e → e.counts.pending ≡ Some m → pending_job e ≡ Some job → IsMergedTable e m job
merged_table e m job st is has = by (slice_get e.rows.staged m.table) refl (ap (λ (o : Option PendingMerge). option_and_then (λ (x : PendingMerge). option_and_then tables.pending_job (slice_get e.rows.staged x.table)) o) (sym is) ∙ has)
  where
    heads : (s : Staged) (o : Option PendingMerge) → s.merge ≡ o → o ≡ Some m → tables.pending_job s ≡ Some job → job.head ≡ m
    heads s None merge same job_is = absurd (none_some m same)
    heads s (Some x) merge same job_is =
        ap (λ (v : JobValue). v.head) (sym (some_same (tables.job_of s x) job (ap (option_map (tables.job_of s)) (sym merge) ∙ job_is))) ∙ some_same x m same

    by : (o : Option Staged) → slice_get e.rows.staged m.table ≡ o → option_and_then tables.pending_job o ≡ Some job → IsMergedTable e m job
    by None at job_is = absurd (none_some job job_is)
    by (Some s) at job_is = record {
      table = s;
      at = at;
      has = job_is;
      head = heads s s.merge refl
          (st.stands.rows.merging m.table s.merge (get-map (λ (x : Staged). x.merge) e.rows.staged m.table s at) ∙ ap (λ o. merge_at o m.table) is ∙ ap (λ b. cond b (Some m) None) (eq-eqb m.table m.table refl)) job_is;
    }

pub merge_ended_now : (e : Held) (rows : Rows) (m : PendingMerge) (session : ℕ) (frame : List ℕ) → session < 17 → e.counts.pending ≡ Some m → Switched e.rows m.table m.kind rows → frame ≡ spelling (entries.Ended m.number)
    → Answers e session MergeEnd (Append (replies.Merge m.number)) (record e { rows = rows; counts = record e.counts { entries = e.counts.entries + 1; pending = None }; frame = frame })
merge_ended_now e rows m session frame small is switch spells =
    subst (λ (x : Held). Answers e session MergeEnd (Append (replies.Merge m.number)) x)
    (λ i. record e { rows = sym switch.rows i; counts = record e.counts { entries = e.counts.entries + 1; pending = None }; frame = sym spells i })
    (merge_ends e session m switch.table switch.olds (allowed e session MergeEnd small refl (may_end e session m is) (λ p st. refl) (λ p st. refl)) is switch.at switch.arranged)
