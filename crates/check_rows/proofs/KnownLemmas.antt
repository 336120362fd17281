-- What is known of states.
use Rattle.std.proofs.Common.{◌≡◌, ◌+◌, List, [], ◌∷◌, ◌++◌, length, sym, ap, ◌∙◌, refl, subst, arith}
use Rattle.std.specs.Ordering.{nat_cmp}
use Rattle.std.specs.FinMap as finmap
use Rattle.ut_value.specs.declared.entry.Op.{Op}
use Rattle.ut_value.specs.declared.entry.Entry.{Entry}
use Rattle.ut_value.specs.declared.entry.Entry.TheVariants as entries
use Rattle.ut_plain.specs.declared.table.Stored.{Stored}
use Rattle.ut_plain.specs.State.{empty_state}
use Rattle.ut_plain.specs.Journal.{after_all}
use Rattle.ut_plain.proofs.JournalLaws.{after_all-append}
use Rattle.check_rows.specs.declared.known.Known.{Known}
use Rattle.check_rows.specs.Listed.{listed_all}
use Rattle.check_rows.specs.Known.{IsKnown, Follows}
use Rattle.check_rows.proofs.ListedLemmas.{entries-with_ops}

nothing : {X : Type 0} (xs : List X) → length xs ≡ 0 → xs ≡ []
nothing [] h = refl
nothing (x ∷ xs) h = absurd (omega arith)

pub no_entries : finmap.entries (finmap.empty {X = Stored} {R = nat_cmp}) ≡ []
no_entries = nothing (finmap.entries (finmap.empty {X = Stored} {R = nat_cmp})) (sym (finmap.len-entries (finmap.empty {X = Stored} {R = nat_cmp})) ∙ finmap.len-empty nat_cmp Stored)

pub known_empty : (known : Known) → known.tables.items ≡ [] → known.rows.items ≡ [] → known.commits ≡ 0 → known.merges ≡ 0 → IsKnown known empty_state
known_empty known t r c m = record { tables = t; rows = r ∙ sym no_entries; commits = c; merges = m }

pub txn_follows : (known new : Known) (os : List Op) → new.tables.items ≡ known.tables.items → new.rows.items ≡ listed_all known.rows.items os → new.commits ≡ known.commits + 1 → new.merges ≡ known.merges → Follows known (entries.Txn os ∷ []) new
txn_follows known new os t r c m = record {
  each = λ s k. record {
    tables = t ∙ k.tables;
    rows = r ∙ ap (λ rows. listed_all rows os) k.rows ∙ sym (entries-with_ops s.rows os);
    commits = c ∙ ap (λ n. n + 1) k.commits;
    merges = m ∙ k.merges;
  };
}

-- nothing follows nothing, and one entry more follows what was followed
pub none_follow : (known : Known) → Follows known [] known
none_follow known = record { each = λ s k. k }

pub more_follow : (old mid new : Known) (es : List Entry) (e : Entry) → Follows old es mid → Follows mid (e ∷ []) new → Follows old (es ++ e ∷ []) new
more_follow old mid new es e f g = record { each = λ s k. subst (IsKnown new) (sym (after_all-append s es (e ∷ []))) (g.each (after_all s es) (f.each s k)) }

-- what is known behind the first entries, and then behind those that come after them
pub known_behind : (none mid known : Known) (first behind : List Entry) → IsKnown none empty_state → Follows none first mid → Follows mid behind known → IsKnown known (after_all (after_all empty_state first) behind)
known_behind none mid known first behind h f g = g.each (after_all empty_state first) (f.each empty_state h)
