-- The stamps of a table's rows: for each stage a list, with a stamp at the place of each row.
use Rattle.std.specs.Prelude.{◌≡◌, ℕ, ◌+◌, ◌<◌, ◌≤◌, List, [], ◌∷◌, ◌++◌, length, take, drop, replicate, get_or, slice_set, Option, Some, None, option_map, unwrap_or}
use Rattle.ut_stamps.specs.declared.visibility.Stamp.{Stamp}
use Rattle.ut_stamps.specs.declared.place.Place.{Place}
use Rattle.ut_stamps.specs.declared.place.Place.TheVariants.{L1, L2, Closed, Main}
use Rattle.ut_queue.specs.Queued.{Queued}

-- the lists of the stages: those of L1 and of L2 with their room, that of a closed L2, and those of main's parts
pub record StampLists : Type 0 where
  pub l1 : Queued Stamp
  pub l2 : Queued Stamp
  pub closed : Option (List Stamp)
  pub parts : List (List Stamp)

-- what stands past the last stamp
abbrev pub no_stamp : Stamp
no_stamp = record { begin = 0; end = None }

-- the stamps of the closed stage, without their room
abbrev pub items_of : Option (Queued Stamp) → Option (List Stamp)
items_of stamps = option_map (λ (queue : Queued Stamp). queue.items) stamps

-- what the closed stage has, nothing where there is none
abbrev pub if_closed : {X : Type 0} → Option (List X) → List X
if_closed list = unwrap_or list []

-- the stamp at a place
abbrev pub stamp_at : StampLists → Place → Stamp
stamp_at lists (L1 i) = get_or lists.l1.items i no_stamp
stamp_at lists (L2 i) = get_or lists.l2.items i no_stamp
stamp_at lists (Closed i) = get_or (if_closed lists.closed) i no_stamp
stamp_at lists (Main p i) = get_or (get_or lists.parts p []) i no_stamp

-- the place is there
abbrev pub IsPlace : StampLists → Place → Type 0
IsPlace lists (L1 i) = i < length lists.l1.items
IsPlace lists (L2 i) = i < length lists.l2.items
IsPlace lists (Closed i) = i < length (if_closed lists.closed)
IsPlace lists (Main p i) = (p < length lists.parts) × (i < length (get_or lists.parts p []))

-- with another stamp at a place, and all else as it was
abbrev pub with_stamp : StampLists → Place → Stamp → StampLists
with_stamp lists (L1 i) stamp = record lists { l1 = record lists.l1 { items = slice_set lists.l1.items i stamp } }
with_stamp lists (L2 i) stamp = record lists { l2 = record lists.l2 { items = slice_set lists.l2.items i stamp } }
with_stamp lists (Closed i) stamp = record lists { closed = option_map (λ list. slice_set list i stamp) lists.closed }
with_stamp lists (Main p i) stamp = record lists { parts = slice_set lists.parts p (slice_set (get_or lists.parts p []) i stamp) }

-- the stamps stay, and no room is lost
pub record KeepsStamps (old new : StampLists) : Type 0 where
  pub l1 : new.l1.items ≡ old.l1.items
  pub l2 : new.l2.items ≡ old.l2.items
  pub closed : new.closed ≡ old.closed
  pub parts : new.parts ≡ old.parts
  pub l1_room : old.l1.room ≤ new.l1.room
  pub l2_room : old.l2.room ≤ new.l2.room

-- one stamp more, in room that was there
pub record Pushes (old new : Queued Stamp) (stamp : Stamp) : Type 0 where
  pub items : new.items ≡ old.items ++ stamp ∷ []
  pub room : new.room + 1 ≡ old.room

-- the first n stamps of L1 go to the end of L2 as they are
pub record Moves (old new : StampLists) (n : ℕ) : Type 0 where
  pub l1 : new.l1.items ≡ drop n old.l1.items
  pub l2 : new.l2.items ≡ old.l2.items ++ take n old.l1.items
  pub l1_room : old.l1.room ≤ new.l1.room
  pub l2_room : new.l2.room + n ≡ old.l2.room

-- the stamps of so many rows that are held: one for all of them, or a list
abbrev pub held_stamps : Option Stamp → ℕ → List Stamp → List Stamp
held_stamps (Some stamp) n list = replicate n stamp
held_stamps None n list = list

-- where one stamp is held for all rows, no list is written, and there is room for it
abbrev pub IsHeld : Option Stamp → ℕ → List Stamp → ℕ → Type 0
IsHeld (Some stamp) n list room = (list ≡ []) × (n ≤ room)
IsHeld None n list room = length list ≡ n
