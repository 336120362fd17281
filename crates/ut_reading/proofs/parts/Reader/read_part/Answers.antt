use Rattle.std.proofs.Common.{◌≡◌, ◌++◌, Bool, List, length, map, sym, ◌∙◌, ap, arith}
use Rattle.std.specs.List.{items_where_true}
use Rattle.ut_outside.specs.Disk.{View}
use Rattle.ut_l2.specs.KeyRows.{KeyRow}
use Rattle.ut_main.specs.Parts.{PartValue}
use Rattle.ut_reading.specs.declared.parts.Reader.{Reader}
use Rattle.ut_reading.specs.Standing.{part_of}
use Rattle.ut_reading.proofs.FindLemmas.{read_bytes, read_rows, found_part}
use Rattle.ut_reading.proofs.parts.Reader.read_part.Goals as goal

pub returns-in_default-clause-damaged : goal.returns-in_default-clause-damaged
returns-in_default-clause-damaged g c = λ is told rows reached stands.
    let v0 : View = g.D.Disk.view c.args.disk.now in
    let chain = c.in_ok-bytes.ensures.found told in
    let spelled = read_bytes c.args.columns.now c.args.main.now c.args.part.now rows reached v0.seen.pages stands chain.0 c.in_ok-bytes.bytes.items chain.2 c.in_ok-bytes.ensures.len in
    let none = rw c.in_default.is at c.in_ok-read.ensures.none in
    none (part_of c.args.main.now rows) stands.may (c.deref.ensures.value ∙ spelled)

pub returns-then-len-part-clause-damaged : goal.returns-then-len-part-clause-damaged
returns-then-len-part-clause-damaged g c = λ is told rows reached stands.
    let v0 : View = g.D.Disk.view c.args.disk.now in
    let chain = c.in_ok-bytes.ensures.found told in
    let some = rw c.in-Some.is at c.in_ok-read.ensures.some in
    let same : c.in-Some.read.rows ≡ rows =
    read_rows c.args.columns.now c.args.main.now c.args.part.now rows reached v0.seen.pages stands chain.0 c.in_ok-bytes.bytes.items c.in-Some.read c.requires.width chain.2 c.in_ok-bytes.ensures.len some.0
    (sym c.deref.ensures.value ∙ some.1) in
    let count = stands.count in
    absurd (omega (arith, c.if-len-part.true, c.len.ensures.len, ap (λ (l : List KeyRow). length l) same, count))

pub returns-clause-found : goal.returns-clause-found
returns-clause-found g c =
    let v0 : View = g.D.Disk.view c.args.disk.now in
    let read : PartValue = c.in-Some.read in
    let new : Reader = record { pages = c.segment.new.self; live = c.add_live.new.live } in
    let some = rw c.in-Some.is at c.in_ok-read.ensures.some in
    found_part c.args.columns.now c.args.main.now c.args.part.now read c.in_ok-bytes.bytes.items c.args.self.now new v0 c.in_ok-bytes.ensures.slot
    (c.in_ok-add_live.ensures ∙ ap (λ (marks : List Bool). c.args.self.now.live.items ++ map (λ (r : KeyRow). r.id) (items_where_true marks read.rows)) c.as_slice.ensures)
    (λ told. c.in_ok-bytes.ensures.found told) c.in_ok-bytes.ensures.len some.0 (sym c.deref.ensures.value ∙ some.1) (omega (arith, c.if-len-part.false, c.len.ensures.len))
