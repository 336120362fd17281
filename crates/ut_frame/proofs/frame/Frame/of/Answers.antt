use Rattle.std.proofs.Common.{◌≡◌, ◌++◌, ◌∷◌, [], List, ℕ, length, IsTrue, ◌≤◌, true≢false, sym, ◌∙◌, ap, arith, length-append}
use Rattle.std.specs.Int.{w32, to_le_bytes}
use Rattle.std.proofs.lemmas.List.Sums.{sum_by-cons}
use Rattle.ut_value.specs.declared.entry.Entry.{Entry}
use Rattle.ut_value.specs.declared.entry.Entry.TheVariants as entries
use Rattle.ut_value.specs.Text.{is_name}
use Rattle.ut_value.specs.Spelling.{spelling, has_spelling, entry_len, column_len, are_columns}
use Rattle.ut_value.proofs.SpellingLengths.{entry_length}
use Rattle.ut_value.proofs.OneSpelling.{both, entry_rule}
use Rattle.ut_frame.specs.Framed.{body}
use Rattle.ut_frame.proofs.BodyLemmas.{whole_body}
use Rattle.ut_frame.proofs.frame.Frame.of.Goals as goal

at_least_five : (entry : Entry) → IsTrue (has_spelling entry) → 5 ≤ entry_len entry
at_least_five (entries.Create name []) h = absurd (true≢false (sym (both (is_name name) (are_columns []) (entry_rule (entries.Create name []) h).0).1))
at_least_five (entries.Create name (c ∷ cs)) h = omega (arith, sum_by-cons column_len c cs)
at_least_five (entries.Txn os) h = omega arith
at_least_five (entries.Begun n table kind) h = omega arith
at_least_five (entries.Ended n) h = omega arith

pub invariant_of-result : goal.invariant_of-result
invariant_of-result c =
    let len = entry_rule c.args.entry.now c.requires in
    let p = spelling c.args.entry.now in
    let counted : c.to_le_bytes.result ≡ to_le_bytes w32 (length p) = c.to_le_bytes.ensures ∙ ap (to_le_bytes w32) (c.entry_len-len.ensures ∙ sym (entry_length c.args.entry.now)) in
    let front : c.extend_from_slice.new.self.items ≡ to_le_bytes w32 (length p) = c.in_ok-extend_from_slice.ensures.items ∙ ap (λ (l : List ℕ). l ++ c.to_le_bytes.result) c.in_ok-bytes.ensures.items ∙ counted in
    let is : c.push.new.self.items ≡ body p = c.in_ok-push.ensures.items ∙ ap (λ (l : List ℕ). l ++ 0 ∷ []) (c.in_ok-entry_bytes.ensures.ok ∙ ap (λ (l : List ℕ). l ++ p) front) in
    (omega (arith, at_least_five c.args.entry.now c.requires, entry_length c.args.entry.now, ap (λ (l : List ℕ). length l) is, length-append (to_le_bytes w32 (length p) ++ p) (0 ∷ []), length-append (to_le_bytes w32 (length p)) p), whole_body c.push.new.self.items p is (omega (arith, len.1, entry_length c.args.entry.now)))
