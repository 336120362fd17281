-- The text of a book.
use Rattle.std.specs.Prelude.{ℕ, List, [], ◌∷◌, ◌++◌, codes, decimal, flat_map}
use Rattle.ut_value.specs.declared.entry.MergeKind.{MergeKind}
use Rattle.ut_value.specs.declared.entry.MergeKind.TheVariants.{Classic, Resort, Partial, Extend}
use Rattle.ut_plain.specs.declared.statement.Statement.{Statement}
use Rattle.ut_plain.specs.declared.statement.Statement.TheVariants as statements
use Rattle.ut_reply.specs.Texts.{reply_text}
use Rattle.ut_crowd.specs.declared.book.Asked.{Asked}
use Rattle.ut_crowd.specs.declared.book.Asked.TheVariants.{Line, Store}
use Rattle.ut_crowd.specs.declared.book.Turn.{Turn}

-- the word for a kind of merge
abbrev pub kind_text : MergeKind → List ℕ
kind_text Classic = codes "classic"
kind_text Resort = codes "resort"
kind_text Partial = codes "partial"
kind_text Extend = codes "extend"

-- a statement of the store, as a line spells it behind the session; no other is asked by the store
abbrev pub store_text : Statement → List ℕ
store_text (statements.MergeL1 table n) = codes "merge l1 " ++ table ++ 32 ∷ decimal n
store_text (statements.MergeBegin table kind) = codes "merge begin " ++ table ++ 32 ∷ kind_text kind
store_text statements.MergeEnd = codes "merge end"
store_text statements.SaveBegin = codes "save begin"
store_text (statements.SaveStep n) = codes "save step " ++ decimal n
store_text statements.SaveSeal = codes "save seal"
store_text statements.SaveFlip = codes "save flip"
store_text statements.SaveDrop = codes "save drop"
store_text (statements.Shape table) = codes "shape " ++ table
store_text _ = []

-- what was asked: a line as it came, a statement of the store as a line of session 0
abbrev pub asked_text : Asked → List ℕ
asked_text (Line bytes) = bytes
asked_text (Store st) = codes "0 " ++ store_text st

-- what was asked behind an arrow, and the reply
abbrev pub turn_text : Turn → List ℕ
turn_text t = codes "> " ++ asked_text t.asked ++ 10 ∷ reply_text t.session t.reply

-- the text of all turns, in order
abbrev pub book_text : List Turn → List ℕ
book_text book = flat_map turn_text book
