-- What operations, one after the other, make of the rows.
use Rattle.std.proofs.Common.{ℕ, ◌+◌, ◌<◌, ◌≡◌, max, Bool, true, false, ◌&&◌, List, [], ◌∷◌, ◌++◌, Option, None, Some, refl, sym, ap, ◌∙◌, subst, arith, IsTrue, nat_le, nat_lt, eq-eqb, ltb-true, lt-ltb, true≢false}
use Rattle.std.proofs.lemmas.List.Sums.{sum_by-append, sum_by-cons}
use Rattle.std.specs.Option.{is_none}
use Rattle.std.specs.FinMap as finmap
use Rattle.ut_value.specs.declared.value.Row.{Row}
use Rattle.ut_value.specs.declared.entry.Op.{Op}
use Rattle.ut_value.specs.declared.entry.Op.TheVariants as ops
use Rattle.ut_plain.specs.declared.table.Table.{Table}
use Rattle.ut_plain.specs.Tables.{columns_at, fits_table}
use Rattle.ut_plain.specs.Rows.{Rows, with_op, with_ops, can_apply_all, next_after, op_inserts, is_in_table}
use Rattle.ut_plain.specs.Stages.{Stages, with_stages, entered, placed}
use Rattle.ut_plain.specs.Restart.{replayed_ops, with_dead}
use Rattle.ut_plain.proofs.BoolLemmas.{and_left, and_right, and_both}
use Rattle.ut_plain.proofs.RowLaws.{with_ops-append, can_apply_all-append}
use Rattle.ut_restart.specs.declared.rows.Position.{Position}
use Rattle.ut_restart.specs.declared.rows.Rows as own
use Rattle.ut_restart.specs.Standing.{shown, buried_in, entered_in}
use Rattle.ut_restart.specs.Rows.{IsSet, IsSound, Keeps, position_in, row_at}
use Rattle.ut_restart.specs.Applied.{AreSound, AreRows, Added, Applied, Refused, may_insert}
use Rattle.ut_restart.proofs.RowsLemmas.{IsSound-added, Keeps-added, IsSound-dead, Keeps-dead, row-known}

-- ---- one row

-- what the test of an insert says
pub record MayInsert (tables : List Table) (r : own.Rows) (table : ℕ) (row : Row) : Type 0 where
  pub fits : IsTrue (fits_table (columns_at tables table) row.values)
  pub some : IsTrue (nat_le 1 row.id)
  pub small : IsTrue (nat_le row.id 2147483648)
  pub free : IsTrue (is_none (position_in r.positions row.id))
  pub few : IsTrue (nat_lt r.load 2147483648)

pub may : (tables : List Table) (r : own.Rows) (table : ℕ) (row : Row) → IsTrue (may_insert tables r table row) → MayInsert tables r table row
may tables r table row h = parts (fits_table (columns_at tables table) row.values) (nat_le 1 row.id) (nat_le row.id 2147483648) (is_none (position_in r.positions row.id)) (nat_lt r.load 2147483648) refl refl refl refl refl h
  where
    parts : (a b c d e : Bool) → fits_table (columns_at tables table) row.values ≡ a → nat_le 1 row.id ≡ b → nat_le row.id 2147483648 ≡ c → is_none (position_in r.positions row.id) ≡ d → nat_lt r.load 2147483648 ≡ e
        → IsTrue (a && b && c && d && e) → MayInsert tables r table row
    parts true true true true true p q s t u h = record { fits = p; some = q; small = s; free = t; few = u }
    parts true true true true false p q s t u h = cc
    parts true true true false e p q s t u h = cc
    parts true true false d e p q s t u h = cc
    parts true false c d e p q s t u h = cc
    parts false b c d e p q s t u h = cc

none : {X : Type 0} (o : Option X) → IsTrue (is_none o) → o ≡ None
none None h = refl
none (Some x) h = cc

pub inserted : (tables : List Table) (old new : own.Rows) (table : ℕ) (row : Row) → AreSound tables old → may_insert tables old table row ≡ true → Added old table row new → Applied tables old (ops.Insert table row.id row.values ∷ []) new
inserted tables old new table row sound test added = record {
  sound = subst (λ staged. IsSound tables staged (position_in new.positions) new.load) (sym added.stages) (subst (λ load. IsSound tables (entered_in (shown old.stages.items) table row) (position_in new.positions) load) (sym added.load)
      (IsSound-added tables (shown old.stages.items) (position_in old.positions) (position_in new.positions) old.load table row sound m.fits few free added.positions));
  next = added.next;
  load = omega (arith, added.load, sum_by-cons op_inserts (ops.Insert table row.id row.values) []);
  can = λ rows stages k.
      and_both _ true (and_both _ (is_none (finmap.get rows row.id)) (and_both _ (nat_le row.id 2147483648) (and_both (fits_table (columns_at tables table) row.values) _ m.fits m.some) m.small)
      (ap is_none (k.row row.id ∙ ap (row_at (shown old.stages.items)) free))) refl;
  rows = λ rows stages k. subst (λ staged. Keeps staged (position_in new.positions) (with_op rows (ops.Insert table row.id row.values)) (with_stages (entered false (placed row.id row.values)) table stages)) (sym added.stages)
      (Keeps-added tables (shown old.stages.items) (position_in old.positions) (position_in new.positions) old.load table row sound m.fits free added.positions rows stages k);
}
  where
    m : MayInsert tables old table row
    m = may tables old table row test

    free : position_in old.positions row.id ≡ None
    free = none (position_in old.positions row.id) m.free

    few : old.load < 2147483648
    few = ltb-true old.load 2147483648 m.few

pub deleted : (tables : List Table) (old new : own.Rows) (table id : ℕ) (at : Position) → AreSound tables old → position_in old.positions id ≡ Some at → at.table ≡ table
    → shown new.stages.items ≡ buried_in (shown old.stages.items) at → IsSet (position_in old.positions) (position_in new.positions) id None → new.next ≡ old.next → new.load ≡ old.load → Applied tables old (ops.Delete table id ∷ []) new
deleted tables old new table id at sound known of_table stages_are set next load = record {
  sound = subst (λ staged. IsSound tables staged (position_in new.positions) new.load) (sym stages_are) (subst (λ n. IsSound tables (buried_in (shown old.stages.items) at) (position_in new.positions) n) (sym load)
      (IsSound-dead tables (shown old.stages.items) (position_in old.positions) (position_in new.positions) old.load id at.table at.place sound known set));
  next = next;
  load = omega (arith, load, sum_by-cons op_inserts (ops.Delete table id) []);
  can = λ rows stages k.
      let row = row-known tables (shown old.stages.items) (position_in old.positions) old.load id at.table at.place rows stages sound k known in
      and_both _ true (ap (is_in_table table) row.1 ∙ eq-eqb row.0.table table (row.2 ∙ of_table)) refl;
  rows = λ rows stages k. subst (λ staged. Keeps staged (position_in new.positions) (with_op rows (ops.Delete table id)) (with_stages (with_dead id) table stages)) (sym stages_are)
      (subst (λ t. Keeps (buried_in (shown old.stages.items) at) (position_in new.positions) (with_op rows (ops.Delete t id)) (with_stages (with_dead id) t stages)) of_table
      (Keeps-dead tables (shown old.stages.items) (position_in old.positions) (position_in new.positions) old.load id at.table at.place sound known set rows stages k));
}

-- an insert that the test refuses
unknown-free : (tables : List Table) (old : own.Rows) (id : ℕ) (rows : Rows) (stages : Stages) → AreSound tables old → AreRows old rows stages → IsTrue (is_none (finmap.get rows id)) → IsTrue (is_none (position_in old.positions id))
unknown-free tables old id rows stages sound k free = by (position_in old.positions id) refl
  where
    none_true : false ≡ true → ⊥
    none_true e = cc

    by : (o : Option Position) → position_in old.positions id ≡ o → IsTrue (is_none (position_in old.positions id))
    by None e = ap is_none e
    by (Some at) e =
        let row = row-known tables (shown old.stages.items) (position_in old.positions) old.load id at.table at.place rows stages sound k e in
        absurd (none_true (sym (ap is_none row.1) ∙ free))

pub kept-out : (tables : List Table) (old : own.Rows) (table : ℕ) (row : Row) → AreSound tables old → may_insert tables old table row ≡ false → Refused tables old (ops.Insert table row.id row.values ∷ [])
kept-out tables old table row sound test = record {
  never = λ rows stages k can few.
      let all = and_left _ true can in
      let three = and_left _ (is_none (finmap.get rows row.id)) all in
      let two = and_left _ (nat_le row.id 2147483648) three in
      let free = unknown-free tables old row.id rows stages sound k (and_right _ (is_none (finmap.get rows row.id)) all) in
      let load : IsTrue (nat_lt old.load 2147483648) = lt-ltb old.load 2147483648 (omega (arith, few, sum_by-cons op_inserts (ops.Insert table row.id row.values) [])) in
      let passes : IsTrue (may_insert tables old table row) = and_both _ (nat_lt old.load 2147483648) (and_both _ (is_none (position_in old.positions row.id)) three free) load in
      true≢false (sym passes ∙ test);
}

-- ---- one after the other

next_after-append : (next : ℕ) (os ps : List Op) → next_after next (os ++ ps) ≡ next_after (next_after next os) ps
next_after-append next [] ps = refl
next_after-append next (ops.Insert table id values ∷ os) ps = next_after-append (max next (id + 1)) os ps
next_after-append next (ops.Delete table id ∷ os) ps = next_after-append next os ps

replayed_ops-append : (stages : Stages) (os ps : List Op) → replayed_ops stages (os ++ ps) ≡ replayed_ops (replayed_ops stages os) ps
replayed_ops-append stages [] ps = refl
replayed_ops-append stages (ops.Insert table id values ∷ os) ps = replayed_ops-append (with_stages (entered false (placed id values)) table stages) os ps
replayed_ops-append stages (ops.Delete table id ∷ os) ps = replayed_ops-append (with_stages (with_dead id) table stages) os ps

pub applied-then : (tables : List Table) (a b c : own.Rows) (os ps : List Op) → Applied tables a os b → Applied tables b ps c → Applied tables a (os ++ ps) c
applied-then tables a b c os ps first second = record {
  sound = second.sound;
  next = second.next ∙ ap (λ n. next_after n ps) first.next ∙ sym (next_after-append a.next os ps);
  load = omega (arith, first.load, second.load, sum_by-append op_inserts os ps);
  can = λ rows stages k. can_apply_all-append tables rows os ps ∙ and_both _ _ (first.can rows stages k) (second.can (with_ops rows os) (replayed_ops stages os) (first.rows rows stages k));
  rows = λ rows stages k.
      subst (λ rs. Keeps (shown c.stages.items) (position_in c.positions) rs (replayed_ops stages (os ++ ps))) (sym (with_ops-append rows os ps))
      (subst (λ st. Keeps (shown c.stages.items) (position_in c.positions) (with_ops (with_ops rows os) ps) st) (sym (replayed_ops-append stages os ps))
      (second.rows (with_ops rows os) (replayed_ops stages os) (first.rows rows stages k)));
}

pub refused-then : (tables : List Table) (a b : own.Rows) (os ps : List Op) → Applied tables a os b → Refused tables b ps → Refused tables a (os ++ ps)
refused-then tables a b os ps first second = record {
  never = λ rows stages k can few.
      second.never (with_ops rows os) (replayed_ops stages os) (first.rows rows stages k) (and_right (can_apply_all tables rows os) _ (sym (can_apply_all-append tables rows os ps) ∙ can))
      (omega (arith, first.load, sum_by-append op_inserts os ps));
}

pub refused-front : (tables : List Table) (a : own.Rows) (os ps : List Op) → Refused tables a os → Refused tables a (os ++ ps)
refused-front tables a os ps refused = record {
  never = λ rows stages k can few.
      refused.never rows stages k (and_left _ (can_apply_all tables (with_ops rows os) ps) (sym (can_apply_all-append tables rows os ps) ∙ can)) (omega (arith, sum_by-append op_inserts os ps));
}
