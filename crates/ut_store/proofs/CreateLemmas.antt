-- What create answers, from what its steps promise.
use Rattle.std.proofs.Common.{ℕ, ◌+◌, ◌*◌, ◌<◌, ◌≤◌, ◌≡◌, ◌⊎◌, inl, inr, Bool, true, false, ◌&&◌, List, [], ◌∷◌, ◌++◌, length, None, refl, sym, ap, ◌∙◌, subst, arith, IsTrue, nat_lt, nat_le}
use Rattle.std.proofs.lemmas.Bool.{lt-ltb, le-ltb, leb-true, le-leb}
use Rattle.std.proofs.lemmas.List.Sums.{sum_by-cons}
use Rattle.std.proofs.Math.Nat.{mul-le-mul_left}
use Rattle.std.specs.List.{list_all, sum_by}
use Rattle.ut_value.specs.Text.{is_name}
use Rattle.ut_value.specs.declared.value.Column.{Column}
use Rattle.ut_value.specs.declared.entry.Entry.TheVariants as entries
use Rattle.ut_value.specs.Spelling.{has_spelling, is_count, is_column, are_columns, names_differ, entry_len, column_len}
use Rattle.ut_plain.specs.declared.statement.Statement.TheVariants.{Create}
use Rattle.ut_plain.specs.declared.reply.Reply.TheVariants as replies
use Rattle.ut_plain.specs.declared.reply.Refusal.TheVariants as refusals
use Rattle.ut_plain.specs.Limits.{has_room}
use Rattle.ut_plain.specs.Spelled.{is_spelled}
use Rattle.ut_plain.specs.Plain.{Plain}
use Rattle.ut_plain.specs.View.{view}
use Rattle.ut_plain.specs.Tables.{place_of}
use Rattle.std.specs.Option.{is_none}
use Rattle.ut_plain.proofs.BoolLemmas.{and_left, and_right, and_both}
use Rattle.ut_plain.proofs.StepLaws.{name-short}
use Rattle.ut_staged.specs.Staged.{no_rows}
use Rattle.ut_store.specs.declared.response.Response.TheVariants.{Answered, Append}
use Rattle.ut_store.specs.Held.{Held}
use Rattle.ut_store.specs.Stands.{StandsFor}
use Rattle.ut_store.specs.Early.{early_refusal}
use Rattle.ut_store.specs.Answers.{Answers}
use Rattle.ut_store.specs.Created.{Created}
use Rattle.ut_store.proofs.EarlyLemmas.{allowed, full}
use Rattle.ut_store.proofs.NamedLemmas.{named}
use Rattle.ut_store.proofs.StandsLemmas.{refused, itself_same}
use Rattle.ut_store.proofs.TableLemmas.{made_table}

-- ---- the entry has a spelling

columns_short : (columns : List Column) → IsTrue (list_all is_column columns) → sum_by column_len columns ≤ 34 * length columns
columns_short [] h = omega arith
columns_short (c ∷ cs) h =
    let rest : sum_by column_len cs ≤ 34 * length cs = columns_short cs (and_right (is_column c) _ h) in
    let one = sum_by-cons column_len c cs in
    let short : length c.name ≤ 32 = name-short c.name (and_left (is_column c) _ h) in omega (arith, one)

pub few_columns : (name : List ℕ) (columns : List Column) → IsTrue (is_spelled (Create name columns)) → length columns ≤ 64
few_columns name columns s = leb-true (length columns) 64 (and_right (nat_le 1 (length columns)) _ (and_right (is_name name) _ (and_left (is_name name && is_count 64 (length columns)) (list_all is_column columns) s)))

pub create_spelling : (e : Held) (session : ℕ) (name : List ℕ) (columns : List Column) → IsTrue (is_spelled (Create name columns)) → early_refusal e session (Create name columns) ≡ None → IsTrue (has_spelling (entries.Create name columns))
create_spelling e session name columns s early =
    let front = and_left (is_name name && is_count 64 (length columns)) (list_all is_column columns) s in
    let is_named : IsTrue (is_name name) = and_left (is_name name) (is_count 64 (length columns)) front in
    let counted : IsTrue (is_count 64 (length columns)) = and_right (is_name name) _ front in
    let each : IsTrue (list_all is_column columns) = and_right (is_name name && is_count 64 (length columns)) _ s in
    let differ : IsTrue (names_differ columns) = and_right (is_none (place_of e.rows.tables name)) _ (named e session (Create name columns) early) in
    let are : IsTrue (are_columns columns) = and_both (is_count 64 (length columns) && list_all is_column columns) _ (and_both (is_count 64 (length columns)) _ counted each) differ in
    let few : length columns ≤ 64 = few_columns name columns s in
    let short : length name ≤ 32 = name-short name is_named in
    let bytes : sum_by column_len columns ≤ 34 * length columns = columns_short columns each in
    let small : entry_len (entries.Create name columns) ≤ 1073741824 = omega (arith, mul-le-mul_left 34 few) in
    and_both (is_name name && are_columns columns) _ (and_both (is_name name) _ is_named are) (le-leb _ 1073741824 small)

-- ---- limits

room-is : (e : Held) (session : ℕ) (name : List ℕ) (columns : List Column) (room : Bool) → nat_lt (length e.rows.tables) 256 && nat_lt e.counts.entries 1073741823 ≡ room → (p : Plain) → StandsFor e p → has_room (view p session) (Create name columns) ≡ room
room-is e session name columns room is p s = (λ i. nat_lt (length (sym s.counts.tables i)) 256 && nat_lt (sym s.counts.entries i) 1073741823) ∙ is

no_room : (tables entries : ℕ) → (256 ≤ tables) ⊎ (1073741823 ≤ entries) → nat_lt tables 256 && nat_lt entries 1073741823 ≡ false
no_room tables entries (inl many) = ap (λ b. b && nat_lt entries 1073741823) (le-ltb tables 256 many)
no_room tables entries (inr long) = ap (λ b. nat_lt tables 256 && b) (le-ltb entries 1073741823 long) ∙ and_false (nat_lt tables 256)
  where
    and_false : (b : Bool) → b && false ≡ false
    and_false true = refl
    and_false false = refl

pub create_full : (e : Held) (session : ℕ) (name : List ℕ) (columns : List Column) → session < 17 → early_refusal e session (Create name columns) ≡ None → (256 ≤ length e.rows.tables) ⊎ (1073741823 ≤ e.counts.entries)
    → Answers e session (Create name columns) (Answered (replies.Refused refusals.Full)) e
create_full e session name columns small early h =
    refused e e session (Create name columns) refusals.Full (full e session (Create name columns) small refl early (room-is e session name columns false (no_room (length e.rows.tables) e.counts.entries h))) (itself_same e)

-- ---- the table is there

pub created_now : (e new : Held) (session : ℕ) (name : List ℕ) (columns : List Column) → session < 17 → IsTrue (is_spelled (Create name columns)) → early_refusal e session (Create name columns) ≡ None
    → length e.rows.tables < 256 → e.counts.entries < 1073741823 → Created e name columns new → Answers e session (Create name columns) (Append (replies.Committed new.counts.commits)) new
created_now e new session name columns small spelled early few short h =
    let room : nat_lt (length e.rows.tables) 256 && nat_lt e.counts.entries 1073741823 ≡ true = and_both (nat_lt (length e.rows.tables) 256) _ (lt-ltb (length e.rows.tables) 256 few) (lt-ltb e.counts.entries 1073741823 short) in
    let after : Held = record e { rows = record e.rows { tables = e.rows.tables ++ record { name = name; columns = columns } ∷ []; staged = e.rows.staged ++ no_rows columns ∷ [] }; counts = record e.counts { commits = e.counts.commits + 1; entries = e.counts.entries + 1 }; frame = new.frame } in
    let is : after ≡ new = λ i. record { rows = sym h.rows i; seats = sym h.seats i; counts = sym h.counts i; frame = new.frame } in
    subst (λ (x : Held). Answers e session (Create name columns) (Append (replies.Committed x.counts.commits)) x) is
    (made_table e e.seats new.frame session name columns spelled (allowed e session (Create name columns) small refl early (room-is e session name columns true room) (λ p s. refl)) h.frame (itself_same e).seats)
