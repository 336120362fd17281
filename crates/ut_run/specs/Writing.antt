-- What is written to a sink, and the moments of its bytes.
use Rattle.std.specs.Prelude.{ℕ, ◌+◌, ◌≡◌, List, [], ◌∷◌, ◌++◌, length, replicate, get_or, slice_get, flat_map, Option, None, Some, Result, MatchResult}
use Rattle.ut_outside.specs.declared.ack.Ack.{Ack}
use Rattle.ut_plain.specs.Transcript.{Answer}
use Rattle.ut_reply.specs.Texts.{reply_text}

-- the text of an answer
abbrev pub answer_text : Answer → List ℕ
answer_text a = reply_text a.session a.reply

-- the texts of answers, one behind the other
abbrev pub texts_of : List Answer → List ℕ
texts_of answers = flat_map answer_text answers

-- all the bytes were written at this moment
pub record WroteAll (before marks text : List ℕ) (moment : ℕ) (held : Option (List ℕ)) (now : List ℕ) : Type 0 where
  pub bytes : held ≡ Some (before ++ text)
  pub moments : now ≡ marks ++ replicate (length text) moment

-- some of the first bytes were
pub record WroteSome (before marks text : List ℕ) (moment : ℕ) (held : Option (List ℕ)) (now : List ℕ) : Type 0 where
  pub front : List ℕ
  pub rest : List ℕ
  pub parts : text ≡ front ++ rest
  pub wrote : WroteAll before marks front moment held now

-- of a sink that tells its bytes: all were written, or where it failed some
abbrev pub Writes : {T E : Type 0} → Option (List ℕ) → List ℕ → List ℕ → ℕ → Result T E → Option (List ℕ) → List ℕ → Type 0
Writes None marks text moment result held now = Unit {0}
Writes (Some before) marks text moment result held now =
    MatchResult result
    (λ _. WroteAll before marks text moment held now)
    (λ _. WroteSome before marks text moment held now)

-- how far a writer is: some of the first bytes are written, and these are left
pub record WritesRest (before marks text rest : List ℕ) (moment : ℕ) (held : Option (List ℕ)) (now : List ℕ) : Type 0 where
  pub front : List ℕ
  pub parts : text ≡ front ++ rest
  pub wrote : WroteAll before marks front moment held now

-- how far a writer is, where the sink tells its bytes
abbrev pub IsWriting : Option (List ℕ) → List ℕ → List ℕ → List ℕ → ℕ → Option (List ℕ) → List ℕ → Type 0
IsWriting None marks text rest moment held now = Unit {0}
IsWriting (Some before) marks text rest moment held now = WritesRest before marks text rest moment held now

-- Each answer has an acknowledgement, whose moment is that of the first byte of its text; the texts stand behind so many bytes.
abbrev pub AreMarked : List Answer → ℕ → List ℕ → List Ack → Type 0
AreMarked [] at marks acks = acks ≡ []
AreMarked (a ∷ answers) at marks [] = ⊥
AreMarked (a ∷ answers) at marks (k ∷ acks) =
    (slice_get marks at ≡ Some k.moment) × AreMarked answers (at + length (answer_text a)) marks acks

-- The same of answers whose last one may not have been begun: then its moment is that at the end.
abbrev pub AreMarkedBy : List Answer → ℕ → List ℕ → ℕ → List Ack → Type 0
AreMarkedBy [] at marks end acks = acks ≡ []
AreMarkedBy (a ∷ answers) at marks end [] = ⊥
AreMarkedBy (a ∷ answers) at marks end (k ∷ acks) =
    (k.moment ≡ get_or marks at end) × AreMarkedBy answers (at + length (answer_text a)) marks end acks

-- the texts of these answers were written, and each has its acknowledgement
pub record WroteAnswers (before : List ℕ) (answers : List Answer) (held : Option (List ℕ)) (marks : List ℕ) (acks : List Ack) : Type 0 where
  pub bytes : held ≡ Some (before ++ texts_of answers)
  pub each_byte : length marks ≡ length (before ++ texts_of answers)
  pub marked : AreMarked answers (length before) marks acks

-- of a sink that tells its bytes
abbrev pub HasWritten : Option (List ℕ) → List Answer → Option (List ℕ) → List ℕ → List Ack → Type 0
HasWritten None answers held marks acks = Unit {0}
HasWritten (Some before) answers held marks acks = WroteAnswers before answers held marks acks

-- The texts of these answers were written, but of the last one a part alone, since the sink failed there;
-- the moments of the acknowledgements.
pub record WroteFront
    (before : List ℕ) (answers : List Answer) (end : ℕ) (held : Option (List ℕ)) (marks : List ℕ)
    (acks : List Ack) : Type 0 where
  pub given : List Answer
  pub last : Answer
  pub part : List ℕ
  pub rest : List ℕ
  pub answers_are : answers ≡ given ++ last ∷ []
  pub parts : answer_text last ≡ part ++ rest
  pub bytes : held ≡ Some (before ++ (texts_of given ++ part))
  pub marked : AreMarkedBy answers (length before) marks end acks

-- of a sink that tells its bytes
abbrev pub HasFront : Option (List ℕ) → List Answer → ℕ → Option (List ℕ) → List ℕ → List Ack → Type 0
HasFront None answers end held marks acks = Unit {0}
HasFront (Some before) answers end held marks acks = WroteFront before answers end held marks acks
