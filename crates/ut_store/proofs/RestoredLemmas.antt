-- A store that was just made stands for the plain state without tables.
use Rattle.std.proofs.Common.{false, ℕ, zero, suc, ◌+◌, ◌≤◌, ◌≡◌, List, [], replicate, max, Option, None, Some, refl, sym, ap, ◌∙◌, subst, arith}
use Rattle.std.specs.Ordering.{nat_cmp}
use Rattle.std.specs.FinMap as finmap
use Rattle.ut_value.specs.declared.entry.Entry.TheVariants.{Txn}
use Rattle.ut_value.specs.Spelling.{spelling}
use Rattle.ut_plain.specs.declared.stage.PendingMerge.{PendingMerge}
use Rattle.ut_plain.specs.declared.table.Stored.{Stored}
use Rattle.ut_plain.specs.Journal.{empty_journal, load_of}
use Rattle.ut_plain.specs.Capture.{Directory}
use Rattle.ut_plain.specs.Plain.{Plain, no_image, no_sessions, open_at, new_store}
use Rattle.ut_plain.specs.View.{own_ops}
use Rattle.ut_plain.proofs.OpenedLaws.{IsPlain-new}
use Rattle.ut_stamps.specs.declared.place.Place.{Place}
use Rattle.ut_stamps.specs.declared.visibility.Stamp.{Stamp}
use Rattle.ut_exact.specs.Gone.{IsGone}
use Rattle.ut_exact.specs.Places.{StagedRow, AreHeld}
use Rattle.ut_exact.proofs.OpenLemmas.{IsExact-opened, AreOpen-opened}
use Rattle.ut_tables.specs.declared.restored.Restored.{Restored}
use Rattle.ut_tables.specs.Rows.{Rows, restored}
use Rattle.ut_tables.specs.Standing.{AreRows, Opens}
use Rattle.ut_txn.specs.Seats.{Seat, AreEmpty, number_at}
use Rattle.ut_store.specs.Stands.{StandsFor, AreSeats, opened_snapshot, snapshot_of}
use Rattle.ut_staged.specs.Tables.{place_at}

all_closed : (n s : ℕ) → open_at (replicate n None) s ≡ None
all_closed zero s = refl
all_closed (suc n) zero = refl
all_closed (suc n) (suc s) = all_closed n s

-- seats that are empty are those of no session
pub seats_of_nobody : (seats : List Seat) → AreEmpty 17 seats → AreSeats seats no_sessions
seats_of_nobody seats empty = record {
  count = empty.count;
  snapshots = λ s. ap opened_snapshot (empty.opened s) ∙ ap snapshot_of (sym (all_closed 17 s));
  payloads = λ s small. empty.payloads s small ∙ ap (λ o. spelling (Txn (own_ops o))) (sym (all_closed 17 s));
  nobody = refl;
}

nothing_at : (n : ℕ) (q : Place) (r : StagedRow) {A : Type 0} → place_at [] n q ≡ Some r → A
nothing_at n q r h = cc

nothing_held : {A : Type 0} {B : Type 0} (x : A) → None ≡ Some x → B
nothing_held x h = cc

no_places : (gone : Stamp → Type 0) → AreHeld (place_at []) gone (λ id. None)
no_places gone = record {
  each = λ n q r h live. nothing_at n q r h;
  only = λ id x h. nothing_held x h;
  once = λ n m p q r s h g live alive same. nothing_at n p r h;
}

nothing_kept : {A : Type 0} → None ≡ Some false → A
nothing_kept h = cc

nothing_merging : {x : Option PendingMerge} {A : Type 0} → None ≡ Some x → A
nothing_merging h = cc

-- the next id of a store without rows
first_id : max 1 (load_of empty_journal + 1) ≡ 1
first_id = ap (λ n. max 1 (n + 0 + 1)) (finmap.len-empty nat_cmp Stored)

-- what a store begins with stands for the plain state without tables
pub opens_new : (x : Restored) (image_pages : Directory → ℕ) (limit : ℕ) → limit ≤ 2147483648 → x.rows.rows ≡ restored [] [] → x.next_id ≡ 1 → x.commits ≡ 0
    → x.merges ≡ 0 → x.entries ≡ 0 → Opens x (new_store (no_image image_pages) limit)
opens_new x image_pages limit small same next commits merges entries = record {
  plain = IsPlain-new image_pages limit small;
  tables = ap (λ (r : Rows). r.tables) same;
  commits = commits;
  merges = merges;
  entries = entries;
  next_id = next ∙ sym first_id;
  idle = refl;
  alone = refl;
  rows = λ numbers. subst (λ (r : Rows). AreRows r x.next_id None numbers (new_store (no_image image_pages) limit)) (sym same) (record {
    held = λ id. None;
    places = no_places (IsGone (restored [] []).fates no_sessions);
    dropped = record { each = λ n g i place at flag. nothing_kept flag };
    free = λ id h. refl;
    exact = IsExact-opened (λ id. None) empty_journal (λ id. finmap.get-empty nat_cmp id) (λ id row h. nothing_held row h);
    transactions = AreOpen-opened (λ id. None) numbers empty_journal 0;
    dead = refl;
    started = omega arith;
    stages = refl;
    columns = refl;
    merging = λ n merge h. nothing_merging h;
  });
}

-- a store that begins so stands for what its rows stand for
pub stands_opened : (x : Restored) (seats : List Seat) (frame : List ℕ) (limit : ℕ) (p : Plain) → AreEmpty 17 seats → Opens x p → p.rows_limit ≡ limit
    → StandsFor (record { rows = x.rows.rows; seats = seats; counts = record { next_id = x.next_id; rows_limit = limit; commits = x.commits; merges = x.merges; entries = x.entries; pending = None }; frame = frame }) p
stands_opened x seats frame limit p empty o same = record {
  plain = o.plain;
  counts = record { tables = o.tables; commits = o.commits; merges = o.merges; entries = o.entries; next_id = o.next_id; rows_limit = sym same; pending = sym o.idle };
  seats = subst (AreSeats seats) (sym o.alone) (seats_of_nobody seats empty);
  rows = o.rows (number_at seats);
}
