-- The texts of replies.
use Rattle.std.specs.Prelude.{ℕ, ◌+◌, ◌*◌, Bool, true, false, nat_eq, if◌then◌else◌, List, [], ◌∷◌, ◌++◌, length, codes, Option, None, Some, decimal, flat_map, sum_by}
use Rattle.std.specs.Fmt.{signed_decimal}
use Rattle.ut_value.specs.declared.value.Value.{Value}
use Rattle.ut_value.specs.declared.value.Value.TheVariants.{Int, Text}
use Rattle.ut_plain.specs.declared.reply.Group.{Group}
use Rattle.ut_plain.specs.declared.reply.Reply.{Reply}
use Rattle.ut_plain.specs.declared.reply.Reply.TheVariants as replies
use Rattle.ut_plain.specs.declared.reply.Refusal.{Refusal}
use Rattle.ut_plain.specs.declared.reply.Refusal.TheVariants as refusals
use Rattle.ut_plain.specs.declared.reply.Shape.{Shape}
use Rattle.ut_plain.specs.declared.reply.Why.{Why}
use Rattle.ut_plain.specs.declared.reply.Why.TheVariants as whys

-- each quote doubled
abbrev pub quoted : List ℕ → List ℕ
quoted [] = []
quoted (b ∷ bytes) = if nat_eq b 39 then 39 ∷ 39 ∷ quoted bytes else b ∷ quoted bytes

-- a number in decimal, or a text in quotes
abbrev pub value_text : Value → List ℕ
value_text (Int n) = signed_decimal n
value_text (Text bytes) = (39 ∷ []) ++ quoted bytes ++ (39 ∷ [])

-- the values behind the first, each behind a space
abbrev pub more_text : List Value → List ℕ
more_text values = flat_map (λ v. 32 ∷ value_text v) values

-- the values of a row, parted by spaces
abbrev pub tuple_text : List Value → List ℕ
tuple_text [] = []
tuple_text (v ∷ vs) = value_text v ++ more_text vs

-- a key and its sum
abbrev pub group_text : Group → List ℕ
group_text g = value_text g.key ++ 32 ∷ signed_decimal g.sum

-- how many rows, and a line each
abbrev pub rows_text : List (List Value) → List ℕ
rows_text tuples = codes "rows " ++ decimal (length tuples) ++ flat_map (λ t. 10 ∷ tuple_text t) tuples

-- how many groups, and a line each
abbrev pub groups_text : List Group → List ℕ
groups_text groups = codes "groups " ++ decimal (length groups) ++ flat_map (λ g. 10 ∷ group_text g) groups

-- the word for a state in which a statement is refused
abbrev pub why_text : Why → List ℕ
why_text whys.TxnOpen = codes "open"
why_text whys.TxnClosed = codes "closed"
why_text (whys.Busy n) = codes "busy " ++ decimal n
why_text whys.Nothing = codes "none"
why_text whys.Saving = codes "saving"
why_text whys.Written = codes "written"
why_text whys.Unwritten = codes "unwritten"
why_text whys.Sealed = codes "sealed"
why_text whys.Unsealed = codes "unsealed"

-- the reason of a refusal
abbrev pub refusal_text : Refusal → List ℕ
refusal_text refusals.Syntax = codes "syntax"
refusal_text refusals.Name = codes "name"
refusal_text refusals.Kind = codes "type"
refusal_text (refusals.State why) = why_text why
refusal_text refusals.Full = codes "full"
refusal_text (refusals.Conflict id) = codes "conflict " ++ decimal id
refusal_text refusals.Memory = codes "memory"

-- rows that were changed, and the commit where the change was one of its own
abbrev pub changed_text : ℕ → Option ℕ → List ℕ
changed_text rows None = codes "ok " ++ decimal rows
changed_text rows (Some n) = codes "ok " ++ decimal rows ++ codes " commit " ++ decimal n

-- a number, or that there is none
abbrev pub number_or_none : Option ℕ → List ℕ
number_or_none None = codes "none"
number_or_none (Some n) = decimal n

-- a value, or that there is none
abbrev pub value_or_none : Option Value → List ℕ
value_or_none None = codes "none"
value_or_none (Some v) = value_text v

-- the rows of each part, or that there is none
abbrev pub parts_text : List ℕ → List ℕ
parts_text [] = codes " none"
parts_text (p ∷ ps) = flat_map (λ n. 32 ∷ decimal n) (p ∷ ps)

-- how many rows stand in each stage
abbrev pub shape_text : Shape → List ℕ
shape_text s =
    codes "shape l1 " ++ decimal s.l1 ++ codes " l2 " ++ decimal s.l2 ++ codes " closed " ++ number_or_none s.closed
    ++ codes " parts" ++ parts_text s.parts

-- what stands behind the session
abbrev pub reply_body : Reply → List ℕ
reply_body replies.Done = codes "ok"
reply_body (replies.Committed n) = codes "ok commit " ++ decimal n
reply_body (replies.Changed rows commit) = changed_text rows commit
reply_body (replies.Rows tuples) = rows_text tuples
reply_body (replies.Groups groups) = groups_text groups
reply_body (replies.Count n) = codes "count " ++ decimal n
reply_body (replies.Sum n) = codes "sum " ++ signed_decimal n
reply_body (replies.Min v) = codes "min " ++ value_or_none v
reply_body (replies.Max v) = codes "max " ++ value_or_none v
reply_body (replies.Moved n) = codes "ok " ++ decimal n
reply_body (replies.Merge n) = codes "ok " ++ decimal n
reply_body (replies.Saving p q) = codes "ok " ++ decimal p ++ codes " of " ++ decimal q
reply_body (replies.Sealed q) = codes "ok sealed " ++ decimal q
reply_body (replies.Root b) = codes "ok root " ++ decimal b
reply_body (replies.Shape s) = shape_text s
reply_body (replies.Refused why) = codes "refused " ++ refusal_text why
reply_body replies.DiskFault = codes "fault disk"

-- the session, or a question mark where the line's session can't be read
abbrev pub session_text : Option ℕ → List ℕ
session_text None = codes "? "
session_text (Some n) = decimal n ++ codes " "

-- the line of a reply, or its lines
abbrev pub reply_text : Option ℕ → Reply → List ℕ
reply_text session reply = session_text session ++ reply_body reply ++ 10 ∷ []

-- whether a reply has no rows, groups, values or parts
abbrev pub is_small : Reply → Bool
is_small (replies.Rows tuples) = nat_eq (length tuples) 0
is_small (replies.Groups groups) = nat_eq (length groups) 0
is_small (replies.Min (Some v)) = false
is_small (replies.Max (Some v)) = false
is_small (replies.Shape s) = nat_eq (length s.parts) 0
is_small _ = true

-- at most so many bytes has the text of a value
abbrev pub value_room : Value → ℕ
value_room (Int n) = 20
value_room (Text bytes) = 2 * length bytes + 2

-- at most so many bytes have the texts of a row's values, each with a space
abbrev pub tuple_room : List Value → ℕ
tuple_room values = sum_by (λ v. value_room v + 1) values

-- at most so many bytes has the text of a value that is there
abbrev pub value_or_none_room : Option Value → ℕ
value_or_none_room None = 0
value_or_none_room (Some v) = value_room v

-- at most so many bytes have the texts of a reply's rows, groups, values and parts
abbrev pub items_room : Reply → ℕ
items_room (replies.Rows tuples) = sum_by (λ t. tuple_room t + 1) tuples
items_room (replies.Groups groups) = sum_by (λ g. value_room g.key + 42) groups
items_room (replies.Min v) = value_or_none_room v
items_room (replies.Max v) = value_or_none_room v
items_room (replies.Shape s) = 11 * length s.parts
items_room _ = 0

-- at most so many bytes has the text of a reply
abbrev pub reply_room : Reply → ℕ
reply_room reply = items_room reply + 96
