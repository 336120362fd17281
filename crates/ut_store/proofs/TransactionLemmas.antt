-- What begin, abort and commit answer, from what their steps promise of the parts.
use Rattle.std.proofs.Common.{ℕ, ◌+◌, ◌<◌, ◌≤◌, ◌≡◌, ◌≢◌, Bool, true, false, List, [], ◌∷◌, ◌++◌, length, Option, None, Some, refl, sym, ap, ◌∙◌, subst, IsTrue, slice_set, nat_lt, is_some}
use Rattle.std.proofs.lemmas.Bool.{lt-ltb, le-ltb}
use Rattle.std.specs.Option.{option_map}
use Rattle.ut_value.specs.declared.entry.Op.{Op}
use Rattle.ut_value.specs.declared.entry.Entry.TheVariants as entries
use Rattle.ut_value.specs.Spelling.{spelling}
use Rattle.ut_plain.specs.declared.statement.Statement.TheVariants.{Begin, Commit, Abort}
use Rattle.ut_plain.specs.declared.reply.Reply.TheVariants as replies
use Rattle.ut_plain.specs.declared.reply.Refusal.TheVariants as refusals
use Rattle.ut_plain.specs.declared.reply.Refusal.{Refusal}
use Rattle.ut_plain.specs.Refusals.{state_why, or_else}
use Rattle.ut_plain.specs.Limits.{has_room, has_commit_room}
use Rattle.ut_plain.specs.Plain.{Plain, open_at}
use Rattle.ut_plain.specs.View.{view, own_ops}
use Rattle.ut_stamps.specs.declared.fates.Fate.TheVariants.{Running, Committed, Aborted}
use Rattle.ut_stamps.specs.Stamps.{fate_at, is_running}
use Rattle.ut_txn.specs.declared.opened.Opened.{Opened}
use Rattle.ut_txn.specs.Seats.{Seat, opened_at, payload_at, SeatSet}
use Rattle.ut_txn.proofs.OwnLemmas.{own_some}
use Rattle.ut_store.specs.declared.response.Response.TheVariants.{Answered, Append}
use Rattle.ut_tables.specs.Rows.{Rows}
use Rattle.ut_store.specs.Held.{Held}
use Rattle.ut_store.specs.Stands.{StandsFor}
use Rattle.ut_store.specs.Standing.{Stands}
use Rattle.ut_store.specs.Early.{early_refusal}
use Rattle.ut_store.specs.Answers.{Answers, Same}
use Rattle.ut_store.specs.Ending.{Forgotten}
use Rattle.ut_store.proofs.EarlyLemmas.{allowed, full}
use Rattle.ut_store.proofs.StandsLemmas.{began, gave_up, committed_nothing, refused, itself_same, open_on, IsOpenOn, By, number_is, no_payload}
use Rattle.ut_store.proofs.ChangeLemmas.{committed_something}

-- ---- whether the session is in a transaction

pub closed_before : (e : Held) (session : ℕ) → early_refusal e session Begin ≡ None → opened_at e.seats session ≡ None
closed_before e session h = by (opened_at e.seats session) (in_front (option_map refusals.State (state_why (is_some (opened_at e.seats session)) Begin)) _ h)
  where
    in_front : (a b : Option Refusal) → or_else a b ≡ None → a ≡ None
    in_front None b e2 = refl
    in_front (Some why) b e2 = cc

    by : (o : Option Opened) → option_map refusals.State (state_why (is_some o) Begin) ≡ None → o ≡ None
    by None h = refl
    by (Some o) h = cc

-- the transaction of a session runs
pub runs : (e : Held) (session : ℕ) (o : Opened) → Stands e → opened_at e.seats session ≡ Some o → IsTrue (is_running (fate_at e.rows.fates o.number))
runs e session o st is = by (open_on e st.plain session o is st.stands.seats)
  where
    by : IsOpenOn e st.plain session o → IsTrue (is_running (fate_at e.rows.fates o.number))
    by (By t own look) = ap is_running (ap (fate_at e.rows.fates) (sym (number_is e.seats session o is)) ∙ (st.stands.rows.transactions.own session t own).running)

-- ---- begin

pub same_rows : (e : Held) (rows : Rows) → rows ≡ e.rows → Same e (record e { rows = rows })
same_rows e rows same = record { rows = same; seats = (itself_same e).seats; counts = refl }

pub began_now : (e : Held) (rows : Rows) (seats : List Seat) (session number : ℕ) → 0 < session → session < 17 → early_refusal e session Begin ≡ None
    → rows ≡ record e.rows { fates = e.rows.fates ++ Running ∷ [] } → number ≡ length e.rows.fates → SeatSet e.seats seats session (Some (record { snapshot = e.counts.entries; number = number })) (payload_at e.seats session)
    → Answers e session Begin (Answered replies.Done) (record e { rows = rows; seats = seats })
began_now e rows seats session number some small early started numbered set =
    subst (λ (r : Rows). Answers e session Begin (Answered replies.Done) (record e { rows = r; seats = seats })) (sym started)
    (began e seats e.frame session some small (allowed e session Begin small refl early (λ p s. refl) (λ p s. refl)) (closed_before e session early)
    (subst (λ n. SeatSet e.seats seats session (Some (record { snapshot = e.counts.entries; number = n })) (payload_at e.seats session)) numbered set))

-- ---- abort

-- the store behind the end of a transaction of which nothing is kept
forgotten_is : (e : Held) (session : ℕ) (o : Opened) (new : Held) → Forgotten e session o new
    → record e { rows = record e.rows { fates = slice_set e.rows.fates o.number Aborted }; seats = new.seats; frame = new.frame } ≡ new
forgotten_is e session o new f = λ i. record { rows = sym f.rows i; seats = new.seats; counts = sym f.counts i; frame = new.frame }

pub gave_up_now : (e new : Held) (session : ℕ) (o : Opened) → 0 < session → session < 17 → early_refusal e session Abort ≡ None → opened_at e.seats session ≡ Some o
    → Forgotten e session o new → Answers e session Abort (Answered replies.Done) new
gave_up_now e new session o some small early is f =
    subst (λ (x : Held). Answers e session Abort (Answered replies.Done) x) (forgotten_is e session o new f)
    (gave_up e new.seats new.frame session o some small (allowed e session Abort small refl early (λ p s. refl) (λ p s. refl)) is f.seats)

-- ---- commit

-- its bytes are no more than those of a transaction without operations exactly where it has none
own_none : (seats : List Seat) (session : ℕ) (os : List Op) → nat_lt 5 (length (payload_at seats session)) ≡ false → payload_at seats session ≡ spelling (entries.Txn os) → os ≡ []
own_none seats session [] few is = refl
own_none seats session (o ∷ os) few is = absurd (differ (sym few ∙ (own_some (nat_lt 5 (length (payload_at seats session))) (payload_at seats session) (o ∷ os) refl is).1 (λ none. not_none none)))
  where
    differ : false ≡ true → ⊥
    differ h = cc

    not_none : o ∷ os ≡ [] → ⊥
    not_none h = cc

own_there : (seats : List Seat) (session : ℕ) (os : List Op) → nat_lt 5 (length (payload_at seats session)) ≡ true → payload_at seats session ≡ spelling (entries.Txn os) → os ≢ []
own_there seats session os some is = (own_some (nat_lt 5 (length (payload_at seats session))) (payload_at seats session) os refl is).0 some

pub committed_nothing_now : (e new : Held) (session : ℕ) (o : Opened) → 0 < session → session < 17 → Stands e → early_refusal e session Commit ≡ None
    → nat_lt 5 (length (payload_at e.seats session)) ≡ false → opened_at e.seats session ≡ Some o → Forgotten e session o new
    → Answers e session Commit (Answered replies.Done) new
committed_nothing_now e new session o some small st early few is f =
    let bytes : (p : Plain) → StandsFor e p → payload_at e.seats session ≡ spelling (entries.Txn (own_ops (open_at p.sessions session))) = λ p s. s.seats.payloads session small in
    let none : (p : Plain) → StandsFor e p → own_ops (open_at p.sessions session) ≡ [] = λ p s. own_none e.seats session _ few (bytes p s) in
    subst (λ (x : Held). Answers e session Commit (Answered replies.Done) x) (forgotten_is e session o new f)
    (committed_nothing e new.seats new.frame session o some small (allowed e session Commit small refl early (λ p s. ap (has_commit_room (view p session)) (none p s)) (λ p s. refl)) is
    (bytes st.plain st.stands ∙ ap (λ (os : List Op). spelling (entries.Txn os)) (none st.plain st.stands)) (λ os h. own_none e.seats session os few h) f.seats)

-- a transaction of operations has room where the journal has
has_room-some : (p : Plain) (session : ℕ) (room : Bool) (os : List Op) → os ≢ [] → nat_lt (view p session).entries 1073741823 ≡ room → has_commit_room (view p session) os ≡ room
has_room-some p session room [] some is = absurd (some refl)
has_room-some p session room (o ∷ os) some is = is

room_is : (e : Held) (session : ℕ) (room : Bool) → session < 17 → nat_lt 5 (length (payload_at e.seats session)) ≡ true → nat_lt e.counts.entries 1073741823 ≡ room → (p : Plain) → StandsFor e p → has_room (view p session) Commit ≡ room
room_is e session room small some is p s = has_room-some p session room (own_ops (open_at p.sessions session)) (own_there e.seats session _ some (s.seats.payloads session small)) (ap (λ n. nat_lt n 1073741823) (sym s.counts.entries) ∙ is)

pub commit_full : (e : Held) (session : ℕ) → session < 17 → early_refusal e session Commit ≡ None → nat_lt 5 (length (payload_at e.seats session)) ≡ true → 1073741823 ≤ e.counts.entries
    → Answers e session Commit (Answered (replies.Refused refusals.Full)) e
commit_full e session small early some long = refused e e session Commit refusals.Full (full e session Commit small refl early (room_is e session false small some (le-ltb e.counts.entries 1073741823 long))) (itself_same e)

pub committed_something_now : (e : Held) (rows : Rows) (seats : List Seat) (frame : List ℕ) (session : ℕ) (o : Opened) → 0 < session → session < 17 → early_refusal e session Commit ≡ None
    → nat_lt 5 (length (payload_at e.seats session)) ≡ true → e.counts.entries < 1073741823 → opened_at e.seats session ≡ Some o
    → rows ≡ record e.rows { fates = slice_set e.rows.fates o.number (Committed (e.counts.entries + 1)) } → frame ≡ payload_at e.seats session → SeatSet e.seats seats session None no_payload
    → Answers e session Commit (Append (replies.Committed (e.counts.commits + 1))) (record e { rows = rows; seats = seats; counts = record e.counts { commits = e.counts.commits + 1; entries = e.counts.entries + 1 }; frame = frame })
committed_something_now e rows seats frame session o some small early has short is ended bytes set =
    subst (λ (r : Rows). Answers e session Commit (Append (replies.Committed (e.counts.commits + 1))) (record e { rows = r; seats = seats; counts = record e.counts { commits = e.counts.commits + 1; entries = e.counts.entries + 1 }; frame = frame })) (sym ended)
    (committed_something e seats frame session o some small (allowed e session Commit small refl early (room_is e session true small has (lt-ltb e.counts.entries 1073741823 short)) (λ p s. refl)) is
    (λ none. own_there e.seats session [] has none refl) bytes set)
