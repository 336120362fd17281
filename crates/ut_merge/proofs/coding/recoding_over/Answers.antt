use Rattle.std.proofs.Common.{◌∙◌, List, ℕ, Bool, Option, length, All, refl, sym, ap, subst, arith}
use Rattle.ut_merge.specs.Columns.{closed_keys, rebuilt_keys}
use Rattle.ut_merge.specs.Uniting.{entries_of, IsUnited, IsUpTo}
use Rattle.ut_merge.proofs.CodingLemmas.{places-few}
use Rattle.ut_merge.proofs.KeptLemmas.{staying-le}
use Rattle.ut_merge.proofs.LayoutLemmas.{keys-few}
use Rattle.ut_merge.proofs.OwnLemmas.{length-places}
use Rattle.ut_merge.proofs.coding.recoding_over.Goals as goal
use Rattle.ut_merge.proofs.coding.recoding_over.Goals.{In_ok-united}

pub own_keys-requires-clause-new : goal.own_keys-requires-clause-new
own_keys-requires-clause-new g c κs within = ap (λ (l : List Bool). length l) c.as_slice.ensures.value ∙ c.requires.new

-- the keys united, by the flags that were sought
united : (g : _) (c : In_ok-united g)
    → IsUnited (rebuilt_keys c.args.job.now c.args.column (length c.args.job.now.parts)) c.args.used.now (closed_keys c.args.job.now c.args.column) c.args.sought.now.new.items c.in_ok-united.united.keys c.in_ok-united.united.parts.items c.in_ok-united.united.closed.items
united g c =
    let job = c.args.job.now in
    let column = c.args.column in
    let made = c.in_ok-united.united in
    subst (λ (fs : List Bool). IsUnited (rebuilt_keys job column (length job.parts)) c.args.used.now (closed_keys job column) fs made.keys made.parts.items made.closed.items) c.as_slice.ensures.value c.in_ok-united.ensures

pub entries_of-requires-clause-start : goal.entries_of-requires-clause-start
entries_of-requires-clause-start g c =
    let job = c.args.job.now in
    let few = keys-few job c.args.column c.requires.column (staying-le job.head.kind (length job.parts)) c.requires.job in
    omega (arith, c.requires.stay, few)

pub entries_of-requires-clause-parts : goal.entries_of-requires-clause-parts
entries_of-requires-clause-parts g c =
    let job = c.args.job.now in
    let column = c.args.column in
    let few = keys-few job column c.requires.column (staying-le job.head.kind (length job.parts)) c.requires.job in
    let is = united g (goal.at.entries_of-requires-clause-parts g c).In_ok-united in
    subst (All (IsUpTo 2147483647)) (sym is.places_parts)
    (places-few c.in_ok-united.united.keys (rebuilt_keys job column (length job.parts)) c.args.used.now 2147483647 (omega (arith, is.few, few)))

pub entries_of-requires-clause-closed : goal.entries_of-requires-clause-closed
entries_of-requires-clause-closed g c =
    let job = c.args.job.now in
    let column = c.args.column in
    let few = keys-few job column c.requires.column (staying-le job.head.kind (length job.parts)) c.requires.job in
    let is = united g (goal.at.entries_of-requires-clause-closed g c).In_ok-united in
    subst (All (IsUpTo 2147483647)) (sym is.places_closed)
    (places-few c.in_ok-united.united.keys (closed_keys job column) c.args.sought.now.new.items 2147483647 (omega (arith, is.few, few)))

pub entries_of-requires-clause-found : goal.entries_of-requires-clause-found
entries_of-requires-clause-found g c =
    let is = united g (goal.at.entries_of-requires-clause-found g c).In_ok-united in
    ap (λ (l : List (Option ℕ)). length l) c.as_slice-2.ensures.value ∙ c.requires.found
    ∙ sym (ap (λ (l : List (Option ℕ)). length l) is.places_closed ∙ length-places c.in_ok-united.united.keys (closed_keys c.args.job.now c.args.column) c.args.sought.now.new.items c.requires.new)

pub returns : goal.returns
returns g c =
    let is = united g (goal.at.returns g c).In_ok-united in
    record {
      united = record { ascending = is.ascending; exactly = is.exactly; places_parts = refl; places_closed = refl; few = is.few };
      entries_are = c.in_ok-entries.ensures ∙ (λ i. entries_of (c.requires.stay i) (is.places_parts i) (is.places_closed i) (c.as_slice-2.ensures.value i));
    }
