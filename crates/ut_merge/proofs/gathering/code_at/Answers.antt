use Rattle.std.proofs.Common.{◌≡◌, ◌∙◌, ◌+◌, ◌-◌, ◌<◌, [], List, ℕ, length, get_or, sym, ap, subst, arith}
use Rattle.std.specs.Global.{Vec}
use Rattle.std.proofs.lemmas.List.{get_or-map, get_or_default, length-map}
use Rattle.ut_l2.specs.KeyRows.{key_at}
use Rattle.ut_merge.specs.declared.old.Old.{Old}
use Rattle.ut_merge.specs.declared.old.Old.TheVariants.{Part}
use Rattle.ut_merge.specs.Jobs.{JobValue, row_of}
use Rattle.ut_merge.specs.Places.{IsOld}
use Rattle.ut_merge.specs.Columns.{codes_in, laid_keys, AreSources}
use Rattle.ut_merge.proofs.GatherLemmas.{close-code, part-code, part-within}
use Rattle.ut_merge.proofs.gathering.code_at.Goals as goal

pub overflow_add-result : goal.overflow_add-result
overflow_add-result c =
    let s = c.args.sources.now in
    let at = close-code s.job.now s.column s.stay (codes_in s.parts.items) s.closed.now s.first c.requires.are c.in-Closed.i (subst (IsOld s.job.now) c.in-Closed.is c.requires.place) in
    omega (arith, at.low, c.requires.are.few)

-- the code that is read in the list of a part
read : (job : JobValue) (column stay : ℕ) (parts : List (Vec ℕ)) (closed : List ℕ) (first p i : ℕ) (list : Vec ℕ) (code : ℕ) → AreSources job column stay (codes_in parts) closed first → IsOld job (Part p i) → list ≡ get_or parts (p - stay) list → code ≡ get_or list.items i code
    → (code < length (laid_keys job column)) × (get_or (laid_keys job column) code [] ≡ key_at column (row_of job (Part p i)))
read job column stay parts closed first p i list code h is at_list at_code =
    let at = part-code job column stay (codes_in parts) closed first h p i is in
    let lt : p - stay < length parts = omega (arith, part-within job column stay (codes_in parts) closed first h p i is, length-map parts (λ (v : Vec ℕ). v.items)) in
    let same : get_or (codes_in parts) (p - stay) [] ≡ list.items = get_or-map (λ (v : Vec ℕ). v.items) parts (p - stay) list [] lt ∙ ap (λ (v : Vec ℕ). v.items) (sym at_list) in
    let inside : i < length list.items = subst (λ (l : List ℕ). i < length l) same at.within in
    let here : code ≡ get_or (get_or (codes_in parts) (p - stay) []) i 0 = at_code ∙ get_or_default list.items i code 0 inside ∙ ap (λ (l : List ℕ). get_or l i 0) (sym same) in
    let more : code ≡ 0 + get_or (get_or (codes_in parts) (p - stay) []) i 0 = omega (arith, here) in
    (omega (arith, at.low, here), ap (λ n. get_or (laid_keys job column) n []) more ∙ at.key)

pub returns-in-Part-clause-within : goal.returns-in-Part-clause-within
returns-in-Part-clause-within c =
    let s = c.args.sources.now in
    (read s.job.now s.column s.stay s.parts.items s.closed.now s.first c.in-Part.p c.in-Part.i c.index.result.now c.index-in-Part.result.now c.requires.are (subst (IsOld s.job.now) c.in-Part.is c.requires.place) c.index.ensures c.index-in-Part.ensures).0

pub returns-in-Part-clause-key : goal.returns-in-Part-clause-key
returns-in-Part-clause-key c =
    let s = c.args.sources.now in
    (read s.job.now s.column s.stay s.parts.items s.closed.now s.first c.in-Part.p c.in-Part.i c.index.result.now c.index-in-Part.result.now c.requires.are (subst (IsOld s.job.now) c.in-Part.is c.requires.place) c.index.ensures c.index-in-Part.ensures).1
    ∙ ap (λ (old : Old). key_at s.column (row_of s.job.now old)) (sym c.in-Part.is)

pub returns-in-Closed-clause-within : goal.returns-in-Closed-clause-within
returns-in-Closed-clause-within c =
    let s = c.args.sources.now in
    (close-code s.job.now s.column s.stay (codes_in s.parts.items) s.closed.now s.first c.requires.are c.in-Closed.i (subst (IsOld s.job.now) c.in-Closed.is c.requires.place)).low

pub returns-in-Closed-clause-key : goal.returns-in-Closed-clause-key
returns-in-Closed-clause-key c =
    let s = c.args.sources.now in
    (close-code s.job.now s.column s.stay (codes_in s.parts.items) s.closed.now s.first c.requires.are c.in-Closed.i (subst (IsOld s.job.now) c.in-Closed.is c.requires.place)).key
    ∙ ap (λ (old : Old). key_at s.column (row_of s.job.now old)) (sym c.in-Closed.is)
