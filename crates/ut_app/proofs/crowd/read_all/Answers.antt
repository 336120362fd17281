use Rattle.std.proofs.Common.{List, ℕ, ◌≡◌, ◌++◌, [], ◌∷◌, Bool, true, Ok, Err, length, length-append, sym, subst, ap, ◌∙◌, arith}
use Rattle.ut_script.specs.declared.lines.LineError.{LineError}
use Rattle.ut_script.specs.Lines.{NextLine, Counts}
use Rattle.ut_app.proofs.CrowdLemmas.{IsReadingAll, read_start, read_more, read_done, read_long, read_failed}
use Rattle.ut_app.proofs.crowd.read_all.Goals as goal

pub loop-lines-init : goal.loop-lines-init
loop-lines-init g c =
    let first = g.S.Source.left c.args.source.now in
    let reads = g.S.Source.faults c.args.source.now in
    subst (λ (ls : List (List ℕ)). IsReadingAll c.args.limit first ls c.in-Ok.reader first reads reads) (sym c.new-lines.ensures.items) (read_start c.args.limit first c.in-Ok.reader reads c.in-Ok.ensures)

pub returns-in-Ok-false-clause-read : goal.returns-in-Ok-false-clause-read
returns-in-Ok-false-clause-read g c =
    read_done c.args.limit _ c.loop-lines.lines.items c.loop-lines.reader c.advance.new.self (g.S.Source.left c.loop-lines.source) (g.S.Source.left c.advance.new.source) _ _ c.loop-lines.invariant
    (subst (λ (b : Bool). NextLine c.loop-lines.reader (g.S.Source.left c.loop-lines.source) (Ok b) c.advance.new.self (g.S.Source.left c.advance.new.source)) c.in-Ok-false.field-0-test (c.in-Ok-false.ensures.next c.loop-lines.invariant.no_error))

pub returns-in-Ok-false-clause-later : goal.returns-in-Ok-false-clause-later
returns-in-Ok-false-clause-later g c = let a = c.loop-lines.invariant.still in let b = c.advance.ensures.cause.later in omega (arith, a, b)

pub returns-in-Ok-false-clause-still : goal.returns-in-Ok-false-clause-still
returns-in-Ok-false-clause-still g c = c.in-Ok-false.ensures.cause.still ∙ c.loop-lines.invariant.still

pub returns-in-Err-Read-clause-unread : goal.returns-in-Err-Read-clause-unread
returns-in-Err-Read-clause-unread g c =
    read_failed c.args.limit _ c.loop-lines.lines.items c.loop-lines.reader (g.S.Source.left c.loop-lines.source) _ _ _ c.loop-lines.invariant (c.in-Err-Read.ensures.cause.read (ap (λ (e : LineError). Err e) c.in-Err-Read.field-0-is) c.loop-lines.invariant.no_error)

pub returns-in-Err-Read-clause-later : goal.returns-in-Err-Read-clause-later
returns-in-Err-Read-clause-later g c = let a = c.loop-lines.invariant.still in let b = c.advance.ensures.cause.later in omega (arith, a, b)

pub returns-in-Err-TooLong-clause-unread : goal.returns-in-Err-TooLong-clause-unread
returns-in-Err-TooLong-clause-unread g c =
    read_long c.args.limit _ c.loop-lines.lines.items c.loop-lines.reader c.advance.new.self (g.S.Source.left c.loop-lines.source) (g.S.Source.left c.advance.new.source) _ _ _ c.loop-lines.invariant
    (subst (λ (e : LineError). NextLine c.loop-lines.reader (g.S.Source.left c.loop-lines.source) (Err e) c.advance.new.self (g.S.Source.left c.advance.new.source)) c.in-Err-TooLong.field-0-is (c.in-Err-TooLong.ensures.next c.loop-lines.invariant.no_error))

pub returns-in-Err-TooLong-clause-later : goal.returns-in-Err-TooLong-clause-later
returns-in-Err-TooLong-clause-later g c = let a = c.loop-lines.invariant.still in let b = c.advance.ensures.cause.later in omega (arith, a, b)

pub loop-lines-smaller : goal.loop-lines-smaller
loop-lines-smaller g c =
    let script = c.loop-lines.lines.items in
    let counts : Counts c.loop-lines.reader (Ok true) c.advance.new.self = subst (λ (b : Bool). Counts c.loop-lines.reader (Ok b) c.advance.new.self) c.in-Ok-true.field-0-test (c.in-Ok-true.ensures.counts c.loop-lines.invariant.no_error) in
    let number = counts.number in
    let few = counts.few in
    let limit = counts.limit in
    let was = c.loop-lines.invariant.number in
    let limited = c.loop-lines.invariant.limit_is in
    let more : length c.keep.new.lines.items ≡ length (script ++ c.line.result.now ∷ []) = ap (λ (ls : List (List ℕ)). length ls) c.in-Ok-keep.ensures in
    omega (arith, number, few, limit, was, limited, more, length-append script (c.line.result.now ∷ []))

pub loop-lines-preserved : goal.loop-lines-preserved
loop-lines-preserved g c =
    let script = c.loop-lines.lines.items in
    let first = g.S.Source.left c.args.source.now in
    let left = g.S.Source.left c.loop-lines.source in
    let left2 = g.S.Source.left c.advance.new.source in
    let reads = g.S.Source.faults c.args.source.now in
    let now = g.S.Source.faults c.advance.new.source in
    let old = c.loop-lines.reader in
    let new = c.advance.new.self in
    let inv = c.loop-lines.invariant in
    subst (λ (ls : List (List ℕ)). IsReadingAll c.args.limit first ls new left2 reads now) (sym (c.in-Ok-keep.ensures ∙ ap (λ (l : List ℕ). script ++ l ∷ []) c.line.ensures))
    (read_more c.args.limit first script old new left left2 reads (g.S.Source.faults c.loop-lines.source) now inv
    (subst (λ (b : Bool). NextLine old left (Ok b) new left2) c.in-Ok-true.field-0-test (c.in-Ok-true.ensures.next inv.no_error))
    (c.in-Ok-true.ensures.steps inv.no_error)
    (subst (λ (b : Bool). Counts old (Ok b) new) c.in-Ok-true.field-0-test (c.in-Ok-true.ensures.counts inv.no_error))
    c.in-Ok-true.ensures.cause.still)

pub returns-in-Err-keep-clause-later : goal.returns-in-Err-keep-clause-later
returns-in-Err-keep-clause-later g c = let a = c.loop-lines.invariant.still in let b = c.advance.ensures.cause.later in omega (arith, a, b)
