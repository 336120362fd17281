use Rattle.std.proofs.Common.{◌≡◌, ◌∙◌, ◌+◌, ◌-◌, [], List, ℕ, Bool, length, get_or, sym, ap, subst, arith}
use Rattle.ut_bits.specs.Bits.{AllBelow}
use Rattle.ut_l2.specs.Delta.{Delta}
use Rattle.ut_l2.specs.KeyRows.{cells_at}
use Rattle.ut_main.specs.Columns.{Chain}
use Rattle.ut_main.specs.Parts.{MainValue, dicts_behind}
use Rattle.rayon.proofs.ListFacts.{IfOk-then}
use Rattle.ut_dictmerge.specs.Merge.{places}
use Rattle.ut_prefix.specs.Chain.{end_to_end}
use Rattle.ut_unsorted.specs.FirstSeen.{first_seen}
use Rattle.ut_merge.specs.Columns.{closed_keys, laid_keys, rebuilt_keys, staying_keys}
use Rattle.ut_merge.specs.Uniting.{new_flags, AreFound}
use Rattle.ut_merge.proofs.CodingLemmas.{keys-counted, main-size, marks-are, recoding-is, AreCounted, AreMarks}
use Rattle.ut_merge.proofs.KeptLemmas.{staying-le}
use Rattle.ut_merge.proofs.LayoutLemmas.{keys-few}
use Rattle.ut_merge.proofs.OwnLemmas.{length-new_flags}
use Rattle.ut_merge.proofs.coding.recoding_of.Goals as goal
use Rattle.ut_merge.proofs.coding.recoding_of.Goals.{After-len-3, After-split_at}

pub overflow_sub-rebuilt : goal.overflow_sub-rebuilt
overflow_sub-rebuilt g c =
    let job = c.args.job.now in
    let column = c.args.column in
    let le = staying-le job.head.kind (length job.parts) in
    let chain = c.in_ok-chain.ensures.dicts ∙ ap (λ (m : MainValue). get_or (dicts_behind m) column []) c.requires.staying in
    let stay = c.len.ensures.len ∙ ap (λ (l : Chain). length (end_to_end l)) chain in
    let all = c.keys_in.ensures ∙ ap (λ (m : MainValue). length (end_to_end (get_or (dicts_behind m) column []))) c.main.ensures ∙ main-size job column c.requires.column le in
    omega (arith, stay, all)

-- the keys that stay, those of the closed stage, and how many there are
counted : (g : _) (c : After-len-3 g) → AreCounted c.args.job.now c.args.column c.in_ok-chain.chain c.dict-closed.result.now c.len.result c.keys_in.result c.len-3.result
counted g c =
    let job = c.args.job.now in
    let column = c.args.column in
    let chain = c.in_ok-chain.ensures.dicts ∙ ap (λ (m : MainValue). get_or (dicts_behind m) column []) c.requires.staying in
    let keys = c.dict-closed.ensures.keys ∙ ap (λ (l : Delta). first_seen (cells_at column l.rows)) c.closed.ensures in
    keys-counted job column c.requires.column (staying-le job.head.kind (length job.parts)) c.in_ok-chain.chain c.main.result.now c.dict-closed.result.now c.len.result c.keys_in.result c.len-3.result chain c.main.ensures keys c.len.ensures.len c.keys_in.ensures c.len-3.ensures

-- which of them the codes name
marks : (g : _) (c : After-split_at g) → AreCounted c.args.job.now c.args.column c.in_ok-chain.chain c.dict-closed.result.now c.len.result c.keys_in.result c.len-3.result → AreMarks c.args.job.now c.args.column c.args.codes.now c.split_at.result.0.now c.split_at.result.1.now
marks g c known =
    marks-are c.args.job.now c.args.column c.args.codes.now c.in_ok-used.used.items c.split_at.result.0.now c.split_at.result.1.now c.len-2.result (c.keys_in.result - c.len.result) c.len-3.result (c.len-2.ensures.len ∙ ap (λ (l : Chain). length (end_to_end l)) known.chain_is) known.others known.closed
    c.in_ok-used.ensures.count c.in_ok-used.ensures.marks (sym c.as_slice.ensures.value ∙ c.split_at.ensures.by_index.0) c.split_at.ensures.front_len

pub overflow_add-rebuilt : goal.overflow_add-rebuilt
overflow_add-rebuilt g c =
    let job = c.args.job.now in
    let column = c.args.column in
    let known = counted g (goal.at.overflow_add-rebuilt g c).After-len-3 in
    let few = keys-few job column c.requires.column (staying-le job.head.kind (length job.parts)) c.requires.job in
    omega (arith, known.stay, known.all, known.closed, few)

pub mark_used-requires : goal.mark_used-requires
mark_used-requires g c =
    let job = c.args.job.now in
    let column = c.args.column in
    let known = counted g (goal.at.mark_used-requires g c).After-len-3 in
    let size : length (laid_keys job column) ≡ c.len-2.result + (c.keys_in.result - c.len.result + c.len-3.result) = omega (arith, known.laid, c.len-2.ensures.len, c.len.ensures.len) in
    subst (λ n. AllBelow n c.args.codes.now) size c.requires.codes

pub recoding_over-requires-clause-stay : goal.recoding_over-requires-clause-stay
recoding_over-requires-clause-stay g c κs within =
    let known = counted g (goal.at.recoding_over-requires-clause-stay g c).After-len-3 in
    c.len-4.ensures.len ∙ ap (λ (l : Chain). length (end_to_end l)) known.chain_is

pub recoding_over-requires-clause-used : goal.recoding_over-requires-clause-used
recoding_over-requires-clause-used g c κs within =
    let known = counted g (goal.at.recoding_over-requires-clause-used g c).After-len-3 in
    (marks g (goal.at.recoding_over-requires-clause-used g c).After-split_at known).parts_count

pub recoding_over-requires-clause-new : goal.recoding_over-requires-clause-new
recoding_over-requires-clause-new g c κs within =
    let known = counted g (goal.at.recoding_over-requires-clause-new g c).After-len-3 in
    let marked = marks g (goal.at.recoding_over-requires-clause-new g c).After-split_at known in
    ap (λ (l : List Bool). length l) c.in_ok-sought.ensures.new
    ∙ length-new_flags (end_to_end c.in_ok-chain.chain) c.dict-closed.result.now c.split_at.result.1.now (marked.closed_count ∙ ap (λ (l : List (List ℕ)). length l) (sym known.keys_are)) ∙ ap (λ (l : List (List ℕ)). length l) known.keys_are

pub recoding_over-requires-clause-found : goal.recoding_over-requires-clause-found
recoding_over-requires-clause-found g c κs within =
    let known = counted g (goal.at.recoding_over-requires-clause-found g c).After-len-3 in
    c.in_ok-sought.ensures.count ∙ ap (λ (l : List (List ℕ)). length l) known.keys_are

pub returns : goal.returns
returns g c =
    let job = c.args.job.now in
    let column = c.args.column in
    let known = counted g (goal.at.returns g c).After-len-3 in
    let marked = marks g (goal.at.returns g c).After-split_at known in
    let parts = rebuilt_keys job column (length job.parts) in
    let closed = closed_keys job column in
    let flags = c.split_at.result.0.now in
    let used = c.split_at.result.1.now in
    let found = c.in_ok-sought.sought.found.items in
    let new = c.in_ok-sought.sought.new.items in
    let new_is = c.in_ok-sought.ensures.new ∙ (λ i. new_flags (end_to_end (known.chain_is i)) (known.keys_are i) used) in
    let are_found = subst (λ (l : List (List ℕ)). AreFound (staying_keys job column) l used found) known.keys_are (subst (λ (l : Chain). AreFound (end_to_end l) c.dict-closed.result.now used found) known.chain_is c.in_ok-sought.ensures.found) in
    IfOk-then c.recoding_over.result _ _ c.recoding_over.ensures (λ recoding made.
    recoding-is job column c.requires.column (staying-le job.head.kind (length job.parts)) c.requires.job c.args.codes.now flags used new recoding.keys (places recoding.keys parts flags) (places recoding.keys closed new) found recoding.entries.items marked.parts_count marked.closed_count
    (c.in_ok-sought.ensures.count ∙ ap (λ (l : List (List ℕ)). length l) known.keys_are) marked.marked c.requires.codes are_found new_is made.united made.entries_are)
