use Rattle.std.proofs.Common.{ℕ, ◌<◌, ◌^◌, List, length, take, drop, ◌-◌, refl, arith}
use Rattle.ut_stream.proofs.FrontLemmas.{first_byte, some_of, short_gate, short_part}
use Rattle.ut_stream.proofs.front.front_of.Goals as goal

pub returns-in_default-read_u32 : goal.returns-in_default-read_u32
returns-in_default-read_u32 c =
    let bytes : List ℕ = c.args.bytes.now in
    short_gate bytes (take (length bytes - 1) (drop 1 bytes)) 167 (first_byte bytes 167 c.in-len1-up.len_at_least c.if-gate.false) refl c.in_default-read_u32.ensures.none

pub returns-then-payload-len : goal.returns-then-payload-len
returns-then-payload-len c =
    let bytes : List ℕ = c.args.bytes.now in
    let small : c.in-Some.len < 2 ^ 32 = omega (arith, c.if-len-gt-MAX_PAYLOAD.false) in
    short_part bytes (take (length bytes - 1) (drop 1 bytes)) c.in-Some.payload.now 167 c.in-Some.len (first_byte bytes 167 c.in-len1-up.len_at_least c.if-gate.false) refl c.in-Some.ensures.found small
    (some_of c.in-Some.len c.if-len-eq0.false) c.if-len-gt-MAX_PAYLOAD.false c.if-payload-len.true
