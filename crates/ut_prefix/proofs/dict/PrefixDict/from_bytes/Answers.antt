use Rattle.ut_prefix.proofs.AboveLemmas.{IsKept-bits}
use Rattle.ut_prefix.proofs.ParseLemmas.{IsKept-read, Spells-read, body_spelled}
use Rattle.ut_prefix.proofs.dict.PrefixDict.from_bytes.Goals as goal

pub invariant_of-dict : goal.invariant_of-dict
invariant_of-dict c =
    let read = rw c.in-Some-2.is at c.in_ok-blocks.ensures.some in
    IsKept-bits _ _ _ _
    (IsKept-read c.in-Some.len _ c.in_ok-own-in-Some-2.own.items c.in-Some-2.blocks.starts.items c.in-Some-2.blocks.size c.in-Some-2.blocks.total read c.in_ok-own-in-Some-2.ensures.items c.in-Some.ensures.some.1)

pub returns-in_ok-own-in-Some-2-clause-some : goal.returns-in_ok-own-in-Some-2-clause-some
returns-in_ok-own-in-Some-2-clause-some c =
    let read = rw c.in-Some-2.is at c.in_ok-blocks.ensures.some in
    Spells-read c.in-Some.len c.args.bytes.now c.in_ok-own-in-Some-2.own.items c.in-Some-2.blocks.starts.items c.in-Some-2.blocks.size c.in-Some-2.blocks.total read c.in_ok-own-in-Some-2.ensures.items c.in-Some.ensures.some.0 c.in-Some.ensures.some.2

pub returns-in-None-2-clause-none : goal.returns-in-None-2-clause-none
returns-in-None-2-clause-none c = λ keys rest good is.
    let body = body_spelled c.in-Some.len c.args.bytes.now rest keys good c.in-Some.ensures.some.1 c.in-Some.ensures.some.2 is in
    let none = rw c.in-None-2.is at c.in_ok-blocks.ensures.none in
    none keys rest good body.0 body.1
