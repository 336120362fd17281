use Rattle.std.proofs.Common.{◌≡◌, ◌∙◌, ◌++◌, [], ◌∷◌, ℕ, List, length, sym, ap, subst, arith}
use Rattle.std.specs.Arc.{arc_value}
use Rattle.ut_codes.specs.Forms.{code_bytes}
use Rattle.ut_prefix.specs.Chain.{end_to_end, LacksAll}
use Rattle.ut_prefix.specs.Spelling.{dict_bytes}
use Rattle.ut_main.specs.Columns.{Chain}
use Rattle.ut_main.specs.Reading.{MayBeOwn, MayBeCodes}
use Rattle.ut_main.proofs.UniqueLemmas.{dict-one}
use Rattle.ut_main.proofs.ReadLemmas.{column-spelled, column-read, column-may, column-bytes}
use Rattle.ut_main.proofs.bytes.column_from.Goals as goal

pub returns-in_default-clause-none : goal.returns-in_default-clause-none
returns-in_default-clause-none g c = λ column rest may is.
    let few = c.requires.few in
    let s = column-spelled c.args.rows c.args.kind c.args.chain c.args.bytes.now column rest c.requires.distinct (omega (arith, few)) may is in
    let none = rw c.in_default.is at c.in_ok-dict.ensures.none in
    none s.keys (code_bytes s.codes (length (end_to_end (c.args.chain ++ s.keys ∷ []))) ++ s.rest) s.own s.spelled

pub push-requires-clause-apart : goal.push-requires-clause-apart
push-requires-clause-apart g c =
    let read = rw c.in-Some.is at c.in_ok-dict.ensures.some in
    subst (LacksAll c.args.chain) (sym (c.in_ok-try_clone.ensures ∙ c.in_ok-dict-2.ensures.ok)) read.0.apart

pub of-requires : goal.of-requires
of-requires g c =
    let read = rw c.in-Some.is at c.in_ok-dict.ensures.some in
    let own = subst (MayBeOwn c.args.rows c.args.kind c.args.chain) (sym c.in_ok-dict-2.ensures.ok) read.0 in
    let push = c.in_ok-push.ensures.ok ∙ ap (λ (d : List (List ℕ)). c.args.chain ++ d ∷ []) c.in_ok-try_clone.ensures in
    let reach = rw c.in-Some-2.is at c.in_ok-codes.ensures.reach in
    let found = rw c.in-Some-2.is at c.in_ok-codes.ensures.some in
    let coded = subst (λ n. MayBeCodes c.args.rows n (length (end_to_end c.push.new.self)) c.in-Some-2.codes.codes) c.len-start.ensures.len (subst (λ n. MayBeCodes c.args.rows c.len-start.result n c.in-Some-2.codes.codes) c.len.ensures.len found.0) in
    column-read c.args.rows c.args.kind c.args.chain c.push.new.self (arc_value c.in_ok-dict-2.dict) c.in-Some-2.codes c.requires.distinct own push (reach ∙ c.len.ensures.len) coded

pub returns-in-Some-2-clause-some : goal.returns-in-Some-2-clause-some
returns-in-Some-2-clause-some g c =
    let read = rw c.in-Some.is at c.in_ok-dict.ensures.some in
    let dict = arc_value c.in_ok-dict-2.dict in
    let own = subst (MayBeOwn c.args.rows c.args.kind c.args.chain) (sym c.in_ok-dict-2.ensures.ok) read.0 in
    let push = c.in_ok-push.ensures.ok ∙ ap (λ (d : List (List ℕ)). c.args.chain ++ d ∷ []) c.in_ok-try_clone.ensures in
    let reach = rw c.in-Some-2.is at c.in_ok-codes.ensures.reach in
    let found = rw c.in-Some-2.is at c.in_ok-codes.ensures.some in
    let coded = subst (λ n. MayBeCodes c.args.rows n (length (end_to_end c.push.new.self)) c.in-Some-2.codes.codes) c.len-start.ensures.len (subst (λ n. MayBeCodes c.args.rows c.len-start.result n c.in-Some-2.codes.codes) c.len.ensures.len found.0) in
    let first = read.1 ∙ ap (λ (d : List (List ℕ)). dict_bytes d ++ c.in-Some.behind.now) (sym c.in_ok-dict-2.ensures.ok) in
    let second = found.1 ∙ ap (λ n. code_bytes c.in-Some-2.codes.codes n ++ c.in-Some-2.rest.now) c.len.ensures.len in (
      column-may c.args.rows c.args.kind c.args.chain c.push.new.self dict c.in-Some-2.codes c.requires.distinct own push (reach ∙ c.len.ensures.len) coded c.of.result c.of.ensures.before c.of.ensures.cells,
      column-bytes c.args.rows c.args.kind c.args.chain c.push.new.self dict c.in-Some-2.codes c.requires.distinct own push (reach ∙ c.len.ensures.len) coded c.of.result c.args.bytes.now c.in-Some.behind.now c.in-Some-2.rest.now c.of.ensures.before c.of.ensures.cells first second,
    )

pub returns-clause-none : goal.returns-clause-none
returns-clause-none g c = λ column rest may is.
    let few = c.requires.few in
    let s = column-spelled c.args.rows c.args.kind c.args.chain c.args.bytes.now column rest c.requires.distinct (omega (arith, few)) may is in
    let read = rw c.in-Some.is at c.in_ok-dict.ensures.some in
    let tail = code_bytes s.codes (length (end_to_end (c.args.chain ++ s.keys ∷ []))) ++ s.rest in
    let one = dict-one c.in-Some.dict s.keys c.in-Some.behind.now tail read.0.dictionary s.own.dictionary (sym read.1 ∙ s.spelled) in
    let new : c.push.new.self ≡ c.args.chain ++ s.keys ∷ [] = c.in_ok-push.ensures.ok ∙ ap (λ (d : List (List ℕ)). c.args.chain ++ d ∷ []) (c.in_ok-try_clone.ensures ∙ c.in_ok-dict-2.ensures.ok ∙ one.0) in
    let len : c.len.result ≡ length (end_to_end (c.args.chain ++ s.keys ∷ [])) = c.len.ensures.len ∙ ap (λ (d : Chain). length (end_to_end d)) new in
    let coded = subst (λ n. MayBeCodes c.args.rows c.len-start.result n s.codes) (sym len) (subst (λ n. MayBeCodes c.args.rows n (length (end_to_end (c.args.chain ++ s.keys ∷ []))) s.codes) (sym c.len-start.ensures.len) s.coded) in
    let none = rw c.in-None.is at c.in_ok-codes.ensures.none in
    none s.codes s.rest coded (one.1 ∙ ap (λ n. code_bytes s.codes n ++ s.rest) (sym len))
