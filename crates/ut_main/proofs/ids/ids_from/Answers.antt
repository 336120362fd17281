use Rattle.std.proofs.Common.{◌≡◌, ◌∙◌, ◌-◌, ◌*◌, ◌++◌, ℕ, List, length, take, drop, sym, ap, arith}
use Rattle.std.specs.List.{flat_map}
use Rattle.ut_bits.specs.Bits.{AllBelow}
use Rattle.ut_bits.specs.Words.{word_bytes}
use Rattle.ut_bits.proofs.BitLemmas.{AllBelow-from_places, take-rest}
use Rattle.ut_main.proofs.IdLemmas.{head-of, head-made}
use Rattle.std.proofs.lemmas.List.{length-drop}
use Rattle.ut_main.proofs.ids.ids_from.Goals.{then-earlier-rows-via-then-earlier-rows, then-earlier-rows-via-else-earlier-rows+then-behind-rows}
use Rattle.ut_main.proofs.ids.ids_from.Goals as goal

pub returns-then-bytes-lt-WORD_LEN-clause-none : goal.returns-then-bytes-lt-WORD_LEN-clause-none
returns-then-bytes-lt-WORD_LEN-clause-none c = λ ids rest may is.
    let few = may.few in
    let head = head-of ids rest c.args.bytes.now (omega (arith, few)) is in
    omega (arith, c.if-bytes-lt-WORD_LEN.true, head.0)

pub returns-then-earlier-rows-clause-none : goal.returns-then-earlier-rows-clause-none
returns-then-earlier-rows-clause-none c = λ ids rest may is.
    let few = may.few in
    let head = head-of ids rest c.args.bytes.now (omega (arith, few)) is in
    let rows : c.read_word-rows.result ≡ length ids = c.read_word-rows.ensures ∙ head.1 in
    let behind = ap length (take-rest 4 c.args.bytes.now) in
    elim c.then-earlier-rows.branch [
      | then-earlier-rows-via-then-earlier-rows w ↦ omega (arith, w.if-earlier-rows.true, rows, few)
      | then-earlier-rows-via-else-earlier-rows+then-behind-rows w ↦ omega (arith, w.if-behind-rows.true, rows, head.0, behind, length-drop 4 c.args.bytes.now)
    ]

pub returns-in-Some-clause-some : goal.returns-in-Some-clause-some
returns-in-Some-clause-some c =
    let bytes : AllBelow 256 c.args.bytes.now = AllBelow-from_places 256 c.args.bytes.now (λ i. omega (arith, c.type_inv.bytes i)) in
    let behind = take (length c.args.bytes.now - 4) (drop 4 c.args.bytes.now) in
    let n = c.read_word-rows.result in
    let read = rw c.in-Some.is at c.in_ok-ids.ensures.some in
    let size : c.read_word-rows.result ≡ length c.in-Some.ids.items = sym read.1 in
    let tail : drop 4 c.args.bytes.now ≡ flat_map word_bytes c.in-Some.ids.items ++ take (length behind - n * 4) (drop (n * 4) behind) =
    sym (take-rest 4 c.args.bytes.now) ∙ read.2 ∙ ap (λ (l : List ℕ). flat_map word_bytes c.in-Some.ids.items ++ l) (sym (take-rest (n * 4) behind)) in (
      record { few = omega (arith, c.if-earlier-rows.false, size, c.requires); ids = read.0 },
      head-made c.in-Some.ids.items (take (length behind - n * 4) (drop (n * 4) behind)) c.args.bytes.now bytes (omega (arith, c.if-bytes-lt-WORD_LEN.false)) (sym c.read_word-rows.ensures ∙ size) tail,
    )

pub returns-in-None-clause-none : goal.returns-in-None-clause-none
returns-in-None-clause-none c = λ ids rest may is.
    let few = may.few in
    let head = head-of ids rest c.args.bytes.now (omega (arith, few)) is in
    let none = rw c.in-None.is at c.in_ok-ids.ensures.none in
    none ids rest (sym (c.read_word-rows.ensures ∙ head.1)) may.ids (take-rest 4 c.args.bytes.now ∙ head.2)
