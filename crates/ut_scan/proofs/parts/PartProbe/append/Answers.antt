use Rattle.std.proofs.Common.{◌≡◌, ◌∙◌, ◌++◌, List, ℕ, Bool, OnOk, length, sym, ap, refl, subst, append-nil}
use Rattle.std.proofs.lemmas.Bool.{eqb-true}
use Rattle.std.proofs.lemmas.List.{nil_from_length}
use Rattle.ut_scan.specs.Coded.{seen_at}
use Rattle.ut_scan.proofs.MainLemmas.{held-none, held-out, length-held, standing-held}
use Rattle.ut_scan.proofs.PartLemmas.{none-seen}
use Rattle.ut_scan.proofs.parts.PartProbe.append.Goals as goal

pub returns-then-is_hidden : goal.returns-then-is_hidden
returns-then-is_hidden c =
    let p = c.args.self.now in
    sym (append-nil c.args.out.now.items)
    ∙ ap (λ l. c.args.out.now.items ++ l) (sym (none-seen p.snapshot.now p.number p.part.now p.coded.now p.stamps.now p.stamped (c.if-is_hidden.ensures refl)))

pub returns-then-is_empty : goal.returns-then-is_empty
returns-then-is_empty c =
    let p = c.args.self.now in
    let none = nil_from_length p.coded.now (eqb-true (length p.coded.now) 0 (sym c.is_empty.ensures ∙ c.if-is_empty.true)) in
    subst (λ places. OnOk c.append_all.result (c.append_all.new.out.items ≡ c.args.out.now.items ++ seen_at p.snapshot.now p.number p.part.now.rows p.stamps.now places)) (sym (held-none p.part.now p.coded.now none))
    c.append_all.ensures

pub returns-then-is_out : goal.returns-then-is_out
returns-then-is_out c =
    let p = c.args.self.now in
    sym (append-nil c.args.out.now.items)
    ∙ ap (λ (places : List ℕ). c.args.out.now.items ++ seen_at p.snapshot.now p.number p.part.now.rows p.stamps.now places) (held-out p.part.now p.coded.now (c.if-is_out.ensures refl))

pub append_standing-requires : goal.append_standing-requires
append_standing-requires c = ap (λ (m : List Bool). length m) c.in_ok-mask.ensures ∙ length-held c.args.self.now.coded.now c.args.self.now.part.now

pub returns : goal.returns
returns c =
    let p = c.args.self.now in
    subst (λ places. OnOk c.append_standing.result (c.append_standing.new.out.items ≡ c.args.out.now.items ++ seen_at p.snapshot.now p.number p.part.now.rows p.stamps.now places))
    (standing-held p.coded.now p.part.now c.in_ok-mask.mask c.in_ok-mask.ensures) c.append_standing.ensures
