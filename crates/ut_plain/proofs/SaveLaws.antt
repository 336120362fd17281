-- A savepoint that begins, goes on or ends takes a state that is reached to one that is.
use Rattle.std.proofs.Common.{ℕ, ◌+◌, ◌≤◌, min, sym, ap, ◌∙◌, arith, IsTrue, leb-true}
use Rattle.std.proofs.lemmas.List.{length-map}
use Rattle.ut_value.specs.declared.entry.Entry.{Entry}
use Rattle.ut_plain.specs.State.{State}
use Rattle.ut_plain.specs.Journal.{Journal, journal_len, current, appended}
use Rattle.ut_plain.specs.Capture.{Directory, captured_table}
use Rattle.ut_plain.specs.Plain.{Plain, Phase, Idle, Writing, Sealed}
use Rattle.ut_plain.specs.View.{view, captured_now}
use Rattle.ut_plain.specs.Limits.{has_page_room}
use Rattle.ut_plain.specs.Step.{save_begun, save_written, save_sealed, save_flipped, save_dropped}
use Rattle.ut_plain.specs.Reached.{IsPlain, IsCaptured, IsSavepoint, IsUnderWay}
use Rattle.ut_plain.proofs.JournalLaws.{journal_len-appended, state_at-appended, state_at-last}
use Rattle.ut_plain.proofs.CapturedLaws.{captured_mains, captured_rest}

-- ---- the journal gets an entry more

savepoint_later : (j : Journal) (e : Entry) (captured done pages : ℕ) (image : Directory) → IsSavepoint j captured done pages image → IsSavepoint (appended j e) captured done pages image
savepoint_later j e captured done pages image h = record {
  since = h.since;
  until = let until = h.until in omega (arith, until, journal_len-appended j e);
  few = h.few;
  numbered = h.numbered;
  tables = h.tables ∙ ap (λ (s : State). s.tables) (sym (state_at-appended j e captured h.until));
  image = h.image;
}

pub IsUnderWay-appended : (j : Journal) (e : Entry) (phase : Phase) → IsUnderWay j phase → IsUnderWay (appended j e) phase
IsUnderWay-appended j e Idle h = h
IsUnderWay-appended j e (Writing captured done pages image) h = savepoint_later j e captured done pages image h
IsUnderWay-appended j e (Sealed captured pages image) h = savepoint_later j e captured pages pages image h

-- ---- each statement

-- no rule of a plain state asks for its measure of images, or for the pages of its root
pub IsPlain-measured : (p : Plain) (image_pages : Directory → ℕ) (phase : Phase) (root_pages : ℕ) → IsPlain p → IsUnderWay p.journal phase → IsPlain (record p { image_pages = image_pages; phase = phase; root_pages = root_pages })
IsPlain-measured p image_pages phase root_pages h saving = record {
  base = h.base;
  journal = h.journal;
  short = h.short;
  opened = h.opened;
  limit = h.limit;
  next = h.next;
  last = h.last;
  load = h.load;
  seats = h.seats;
  running = λ session t o. let is = h.running session t o in record { since = is.since; until = is.until; own = is.own };
  apart = h.apart;
  staged = h.staged;
  places = h.places;
  mains = h.mains;
  merges = h.merges;
  saving = saving;
}

IsPlain-phased : (p : Plain) (phase : Phase) (root_pages : ℕ) → IsPlain p → IsUnderWay p.journal phase → IsPlain (record p { phase = phase; root_pages = root_pages })
IsPlain-phased p = IsPlain-measured p p.image_pages

captured_is : (p : Plain) → IsPlain p → IsCaptured (captured_now p)
captured_is p h = record {
  staged = length-map p.stages (captured_table (current p.journal).rows) ∙ h.staged;
  mains = captured_mains (current p.journal).rows p.stages h.mains;
  rest = captured_rest (current p.journal).rows p.stages;
}

pub save_begun_is : (p : Plain) → IsPlain p → IsTrue (has_page_room (view p 0)) → IsPlain (save_begun p).plain
save_begun_is p h room =
    let image = captured_now p in
    let pages = p.image_pages image in
    let numbered : 3 + pages + p.root_pages ≤ 4294967295 = leb-true (3 + pages + p.root_pages) 4294967295 room in
    IsPlain-phased p (Writing (journal_len p.journal) 0 pages image) p.root_pages h (record {
      since = let opened = h.opened in omega (arith, opened.0, opened.1);
      until = omega arith;
      few = omega arith;
      numbered = omega (arith, numbered);
      tables = ap (λ (s : State). s.tables) (sym (state_at-last p.journal (journal_len p.journal) (omega arith)));
      image = captured_is p h;
    })

pub save_written_is : (p : Plain) (n : ℕ) → IsPlain p → IsPlain (save_written p n p.phase).plain
save_written_is p n h = by p.phase h.saving
  where
    by : (phase : Phase) → IsUnderWay p.journal phase → IsPlain (save_written p n phase).plain
    by Idle s = h
    by (Writing captured done pages image) s = IsPlain-phased p (Writing captured (min pages (done + n)) pages image) p.root_pages h (record {
      since = s.since;
      until = s.until;
      few = omega arith;
      numbered = s.numbered;
      tables = s.tables;
      image = s.image;
    })
    by (Sealed captured pages image) s = h

pub save_sealed_is : (p : Plain) → IsPlain p → IsPlain (save_sealed p p.phase).plain
save_sealed_is p h = by p.phase h.saving
  where
    by : (phase : Phase) → IsUnderWay p.journal phase → IsPlain (save_sealed p phase).plain
    by Idle s = h
    by (Writing captured done pages image) s = IsPlain-phased p (Sealed captured pages image) p.root_pages h (record {
      since = s.since;
      until = s.until;
      few = omega arith;
      numbered = s.numbered;
      tables = s.tables;
      image = s.image;
    })
    by (Sealed captured pages image) s = h

pub save_flipped_is : (p : Plain) → IsPlain p → IsPlain (save_flipped p p.phase).plain
save_flipped_is p h = by p.phase
  where
    by : (phase : Phase) → IsPlain (save_flipped p phase).plain
    by Idle = h
    by (Writing captured done pages image) = h
    by (Sealed captured pages image) = IsPlain-phased p Idle pages h tt

pub save_dropped_is : (p : Plain) → IsPlain p → IsPlain (save_dropped p).plain
save_dropped_is p h = IsPlain-phased p Idle p.root_pages h tt
