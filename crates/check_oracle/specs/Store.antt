-- The plain state that the slow program stands for, and what it answers.
use Rattle.std.specs.Prelude.{ℕ, ◌+◌, ◌<◌, ◌≤◌, ◌≡◌, Bool, List, [], length, Option, None, Some, is_some}
use Rattle.std.specs.Option.{option_map}
use Rattle.std.specs.FinMap as finmap
use Rattle.ut_value.specs.declared.entry.Op.{Op}
use Rattle.ut_value.specs.declared.entry.Entry.{Entry}
use Rattle.ut_plain.specs.declared.table.Table.{Table}
use Rattle.ut_plain.specs.declared.stage.PendingMerge.{PendingMerge}
use Rattle.ut_plain.specs.declared.statement.Statement.{Statement}
use Rattle.ut_plain.specs.declared.statement.Statement.TheVariants.{SaveBegin}
use Rattle.ut_plain.specs.declared.reply.Reply.{Reply}
use Rattle.ut_plain.specs.declared.reply.Reply.TheVariants as replies
use Rattle.ut_plain.specs.declared.reply.Refusal.{Refusal}
use Rattle.ut_plain.specs.declared.reply.Refusal.TheVariants as refusals
use Rattle.ut_plain.specs.Rows.{inserts_of}
use Rattle.ut_plain.specs.State.{empty_state}
use Rattle.ut_plain.specs.Journal.{Journal, after_all, journal_len, current, state_at}
use Rattle.ut_plain.specs.Stages.{Stages, with_inserts}
use Rattle.ut_plain.specs.Capture.{Directory}
use Rattle.ut_plain.specs.Plain.{Plain, Phase, Sealed, Opening, Sessions, open_at, seen}
use Rattle.ut_plain.specs.Progress.{phase_of}
use Rattle.ut_plain.specs.View.{View, view, captured_now}
use Rattle.ut_plain.specs.Names.{names_known}
use Rattle.ut_plain.specs.Kinds.{kinds_fit}
use Rattle.ut_plain.specs.Limits.{has_room, has_ops_room}
use Rattle.ut_plain.specs.Refusals.{state_why, merge_why, save_why, unless, or_else, conflict}
use Rattle.ut_plain.specs.Reached.{IsPlain, IsCaptured}
use Rattle.ut_plain.specs.Step.{Stepped, with_made, said_changed}
use Rattle.check_rows.specs.declared.known.Known.{Known}
use Rattle.check_oracle.specs.declared.held.Held.{Held}
use Rattle.check_oracle.specs.declared.image.Image.{Image}

-- the image that an opening begins with: the directory of the first entries, so many
pub record Selected : Type 0 where
  pub length : ℕ
  pub directory : Directory

-- no image: an opening without one begins with no entry and no table
abbrev pub no_image : Selected
no_image = record { length = 0; directory = record { tables = []; stages = [] } }

-- the directory of an image in memory
abbrev pub directory_of : Image → Directory
directory_of i = record { tables = i.tables; stages = i.stages }

-- an image in memory as one that an opening begins with
abbrev pub selected_of : Image → Selected
selected_of i = record { length = i.length; directory = directory_of i }

-- what the store keeps, as lists
pub record Kept : Type 0 where
  -- the entries that the journal's base holds, and those behind them
  pub first : List Entry
  pub entries : List Entry
  pub opening : ℕ
  pub sessions : Sessions
  pub next_id : ℕ
  pub rows_limit : ℕ
  pub pending : Option PendingMerge
  pub phase : Phase
  pub selected : Selected
  pub root_pages : ℕ
  pub stages : Stages

-- what a store in memory keeps, whose opening began with this image
abbrev pub kept_of : Held → Image → Kept
kept_of h image = record {
  first = h.first.items;
  entries = h.entries.items;
  opening = h.opening;
  sessions = h.sessions.items;
  next_id = h.next_id;
  rows_limit = h.rows_limit;
  pending = h.pending;
  phase = phase_of h.progress h.captured.length (directory_of h.captured);
  selected = selected_of image;
  root_pages = h.root_pages;
  stages = h.stages.items;
}

-- its journal, which begins with the state after the first entries
abbrev pub journal_with : Kept → Journal
journal_with k = record { base = after_all empty_state k.first; entries = k.entries }

-- Its plain state. How many pages the image of a directory takes it doesn't know.
abbrev pub plain_with : (Directory → ℕ) → Kept → Plain
plain_with image_pages k = record {
  journal = journal_with k;
  opening = k.opening;
  sessions = k.sessions;
  next_id = k.next_id;
  rows_limit = k.rows_limit;
  pending = k.pending;
  phase = k.phase;
  image_pages = image_pages;
  root_pages = k.root_pages;
  stages = k.stages;
}

-- the same where each image takes as many pages as was told
abbrev pub plain_of : Held → Plain
plain_of h = plain_with (λ (d : Directory). h.told) (kept_of h (record { length = 0; tables = []; stages = [] }))

-- where a savepoint is to begin, what it captures takes this many pages
abbrev pub Tells : ℕ → Statement → Plain → Type 0
Tells pages st p = st ≡ SaveBegin → p.image_pages (captured_now p) ≡ pages

-- the image that is selected behind a reply: a root is that of a sealed savepoint
abbrev pub selected_behind : Selected → Phase → Reply → Selected
selected_behind s (Sealed captured pages image) (replies.Root n) = record { length = captured; directory = image }
selected_behind s phase reply = s

-- what an opening begins with
abbrev pub opening_with : (Directory → ℕ) → Kept → Opening
opening_with image_pages k = record { stages = k.selected.directory.stages; image_pages = image_pages; root_pages = k.root_pages }

-- an image has the tables of the first entries, those at the base included, and nothing of it is being merged
pub record IsSelected (s : Selected) (p : Plain) : Type 0 where
  pub since : p.journal.base.length ≤ s.length
  pub until : s.length ≤ journal_len p.journal
  pub tables : s.directory.tables ≡ (state_at p.journal s.length).tables
  pub captured : IsCaptured s.directory

-- what holds of the store: its plain state is one that a store reaches, and it has an image to be opened with
pub record IsKept (h : Held) (image : Image) : Type 0 where
  pub plain : IsPlain (plain_of h)
  pub selects : IsSelected (selected_of image) (plain_of h)

-- a reply and a state are those of a step
pub record Gives (does : Stepped) (reply : Reply) (new : Plain) : Type 0 where
  pub answer : reply ≡ does.reply
  pub state : new ≡ does.plain

-- what a session sees was worked out: the tables, the rows by ascending id, and the numbers of commits and of merges
pub record IsSight (sight : Known) (p : Plain) (session : ℕ) : Type 0 where
  pub tables : sight.tables.items ≡ (current p.journal).tables
  pub rows : sight.rows.items ≡ finmap.entries (seen p session)
  pub commits : sight.commits ≡ (current p.journal).commits
  pub merges : sight.merges ≡ (current p.journal).merges
  pub few : length sight.rows.items < 4294967296
  pub counted : sight.commits ≤ 1073741824
  pub merged : sight.merges ≤ 1073741824

-- the refusals that no limit and no conflict is asked for
abbrev pub early : List Table → Bool → Option PendingMerge → Phase → Statement → Option Refusal
early tables is_open pending phase st =
    or_else (unless (names_known tables st) refusals.Name)
    (or_else (unless (kinds_fit tables st) refusals.Kind)
    (or_else (option_map refusals.State (state_why is_open st))
    (or_else (option_map refusals.State (merge_why pending st)) (option_map refusals.State (save_why phase st)))))

-- the other refusals
abbrev pub late : View → Statement → Option Refusal
late v st = or_else (unless (has_room v st) refusals.Full) (option_map refusals.Conflict (conflict v st))

-- a session makes a statement that no early refusal meets
pub record Allowed (p : Plain) (sight : Known) (session : ℕ) (st : Statement) : Type 0 where
  pub plain : IsPlain p
  pub seat : session < 17
  pub sees : IsSight sight p session
  pub clear : early (current p.journal).tables (is_some (open_at p.sessions session)) p.pending p.phase st ≡ None

-- a refusal, and the state as it was
abbrev pub refuses : Plain → Refusal → Stepped
refuses p why = record { reply = replies.Refused why; plain = p }

-- the state with these operations made by a session
abbrev pub changed_by : Plain → ℕ → Bool → List Op → Plain
changed_by p session bulk os = record (with_made p session (open_at p.sessions session) os) {
  next_id = p.next_id + inserts_of os;
  stages = with_inserts bulk p.stages os;
}

-- a change of rows that nothing stands against, or its refusal
abbrev pub change_by : Option Refusal → Plain → ℕ → Bool → List Op → ℕ → Stepped
change_by (Some why) p session bulk os rows = refuses p why
change_by None p session bulk os rows = record {
  reply = said_changed (open_at p.sessions session) (current p.journal).commits rows;
  plain = changed_by p session bulk os;
}

-- what becomes of a change of so many rows by these operations, where this row was taken
abbrev pub change_step : Plain → ℕ → Bool → List Op → ℕ → Option ℕ → Stepped
change_step p session bulk os rows taken =
    change_by (or_else (unless (has_ops_room (view p session) os) refusals.Full) (option_map refusals.Conflict taken))
    p session bulk os rows
