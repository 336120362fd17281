use Rattle.std.proofs.Common.{◌≡◌, ◌∙◌, ◌+◌, [], List, ℕ, length, map, get_or, refl, sym, ap, subst, arith}
use Rattle.rayon.proofs.ListFacts.{IfOk-then}
use Rattle.std.proofs.lemmas.List.{length-map}
use Rattle.ut_bits.specs.Bits.{AllBelow}
use Rattle.ut_key.specs.Keys.{IsAscending}
use Rattle.ut_l2.specs.KeyRows.{cells_at, key_at}
use Rattle.ut_main.specs.Parts.{MainValue, dicts_behind}
use Rattle.ut_main.proofs.OwnLemmas.{own-ascending}
use Rattle.ut_own.specs.Own.{cells_of, recoded}
use Rattle.ut_prefix.specs.Chain.{end_to_end}
use Rattle.ut_recode.specs.Recode.{with_staying, HaveEntries}
use Rattle.ut_merge.specs.Jobs.{row_of}
use Rattle.ut_merge.specs.Columns.{laid_keys, staying_keys, AreCoded, IsColumn}
use Rattle.ut_merge.proofs.CodingLemmas.{have-entries, recoded-column}
use Rattle.ut_merge.proofs.GatherLemmas.{coded-size}
use Rattle.ut_merge.proofs.coding.code_column.Goals as goal
use Rattle.ut_merge.proofs.coding.code_column.Goals.{After-keys_in}

-- how many keys stay
stay : (g : _) (c : After-keys_in g) → c.keys_in.result ≡ length (staying_keys c.args.job.now c.args.column)
stay g c = c.keys_in.ensures ∙ ap (λ (m : MainValue). length (end_to_end (get_or (dicts_behind m) c.args.column []))) c.requires.staying

pub led_on-requires-clause-count : goal.led_on-requires-clause-count
led_on-requires-clause-count g c κs within =
    let job = c.args.job.now in
    let column = c.args.column in
    let rows = map (row_of job) c.args.olds.now in
    let size = coded-size (laid_keys job column) (cells_at column rows) c.in_ok-codes.codes.items c.in_ok-codes.ensures in
    omega (arith, size, length-map rows (key_at column), length-map c.args.olds.now (row_of job), c.requires.few, ap (λ (l : List ℕ). length l) c.as_slice-codes.ensures.value)

pub led_on-requires-clause-few : goal.led_on-requires-clause-few
led_on-requires-clause-few g c κs within =
    omega (arith, stay g (goal.at.led_on-requires-clause-few g c).After-keys_in, c.in_ok-recoding.ensures.few)

pub led_on-requires-clause-ascending : goal.led_on-requires-clause-ascending
led_on-requires-clause-ascending g c κs within =
    let h = c.in_ok-recoding.ensures in
    subst IsAscending (sym h.own) (own-ascending (staying_keys c.args.job.now c.args.column) (cells_of (laid_keys c.args.job.now c.args.column) c.as_slice-codes.result.now))

pub led_on-requires-clause-entries : goal.led_on-requires-clause-entries
led_on-requires-clause-entries g c κs within =
    let job = c.args.job.now in
    let column = c.args.column in
    let codes = c.as_slice-codes.result.now in
    let keys = c.in_ok-recoding.recoding.keys in
    let entries = c.in_ok-recoding.recoding.entries.items in
    subst (λ n. HaveEntries (with_staying n entries) (n + length keys) codes) (sym (stay g (goal.at.led_on-requires-clause-entries g c).After-keys_in))
    (have-entries job column codes keys entries c.in_ok-recoding.ensures (length (staying_keys job column) + length keys) refl)

pub returns : goal.returns
returns g c =
    let job = c.args.job.now in
    let column = c.args.column in
    let rows = map (row_of job) c.args.olds.now in
    let codes = c.as_slice-codes.result.now in
    let keys = c.in_ok-recoding.recoding.keys in
    let entries = c.in_ok-recoding.recoding.entries.items in
    let start = stay g (goal.at.returns g c).After-keys_in in
    let coded = subst (λ (l : List ℕ). AreCoded (laid_keys job column) (cells_at column rows) l) (sym c.as_slice-codes.ensures.value) c.in_ok-codes.ensures in
    IfOk-then c.led_on.result _ _ c.led_on.ensures (λ new h.
    subst (λ (d : List (List ℕ)). IsColumn job column rows d new.codes.items) (sym h.0)
    (recoded-column job column codes keys entries c.in_ok-recoding.ensures rows new.codes.items coded
    (h.1 ∙ (λ i. recoded (with_staying (start i) entries) codes))
    (subst (λ n. AllBelow (n + length keys) new.codes.items) start h.2)))
