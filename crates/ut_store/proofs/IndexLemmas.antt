-- A store behind its fields.
use Rattle.std.proofs.Common.{ℕ, ◌+◌, ◌≡◌, List, ◌++◌, Option, Some, refl, ap, ◌∙◌, subst, Result, Ok, Err, OnErr, unwrap_or}
use Rattle.ut_value.specs.declared.entry.Op.{Op}
use Rattle.ut_value.specs.declared.entry.Entry.TheVariants.{Txn}
use Rattle.ut_value.specs.Spelling.{spelling}
use Rattle.ut_plain.specs.Rows.{inserts_of}
use Rattle.ut_staged.specs.Staged.{Staged}
use Rattle.ut_tables.specs.Rows.{Rows}
use Rattle.ut_tables.specs.Changed.{Changed}
use Rattle.ut_txn.specs.declared.opened.Opened.{Opened}
use Rattle.ut_txn.specs.Seats.{Seat, opened_at, payload_at, SeatSet, SeatsStay}
use Rattle.ut_store.specs.Held.{Held}
use Rattle.ut_store.specs.Answers.{Same}
use Rattle.ut_store.specs.Changes.{DoneInside}

pub on_err : {X E : Type 0} (r : Result X E) (P : Type 0) → P → OnErr r P
on_err (Ok x) P h = tt
on_err (Err e) P h = h

pub some_inside : {X : Type 0} (a b : X) → Some a ≡ Some b → a ≡ b
some_inside a b h = ap (λ o. unwrap_or o a) h

-- ---- seats

pub seats_itself : (seats : List Seat) → SeatsStay seats seats
seats_itself seats = record { count = refl; opened = λ s. refl; payloads = λ s. refl }

pub seat_set_behind : (a b c : List Seat) (session : ℕ) (o : Option Opened) (bytes : List ℕ) → SeatsStay a b → opened_at a session ≡ o → SeatSet b c session (opened_at b session) bytes → SeatSet a c session o bytes
seat_set_behind a b c session o bytes stay is set = record {
  count = set.count ∙ stay.count;
  opened = set.opened ∙ stay.opened session ∙ is;
  payload = set.payload;
  others = λ s other. set.others s other ∙ stay.opened s;
  payloads = λ s other. set.payloads s other ∙ stay.payloads s;
}

-- ---- the store as contracts see it

-- there is more room in one table and in the seats
pub same_room : (inside e : Held) (rows : Rows) (seats : List Seat) → inside ≡ e → rows ≡ inside.rows → SeatsStay inside.seats seats → Same e (record inside { rows = rows; seats = seats })
same_room inside e rows seats same kept stay = subst (λ (x : Held). Same x (record inside { rows = rows; seats = seats })) same (record { rows = kept; seats = stay; counts = refl })

-- operations were done in the session's transaction
pub done_inside : (inside e : Held) (n : ℕ) (rows : Rows) (session : ℕ) (o : Opened) (os : List Op) (after : ℕ → Staged → Staged) (seats : List Seat) (next_id : ℕ)
    → inside ≡ e → Changed inside.rows n (after o.number) rows → next_id ≡ inside.counts.next_id + inserts_of os
    → ((ps : List Op) → payload_at inside.seats session ≡ spelling (Txn ps) → payload_at seats session ≡ spelling (Txn (ps ++ os))) → SeatSet inside.seats seats session (Some o) (payload_at seats session)
    → DoneInside e (record inside { rows = rows; seats = seats; counts = record inside.counts { next_id = next_id } }) session o n os after
done_inside inside e n rows session o os after seats next_id same changed next bytes set =
    subst (λ (x : Held). DoneInside x (record inside { rows = rows; seats = seats; counts = record inside.counts { next_id = next_id } }) session o n os after) same (record {
      rows = changed;
      bytes = bytes;
      seats = set;
      counts = λ i. record inside.counts { next_id = next i };
    })
