use Rattle.std.proofs.Common.{List, ap, sym, ◌∙◌, subst, IfOk, IfErr}
use Rattle.ut_plain.specs.declared.table.Table.{Table}
use Rattle.ut_plain.specs.Kinds.{kinds_fit}
use Rattle.ut_plain.specs.Names.{names_known}
use Rattle.ut_names.specs.Binding.{Binds}
use Rattle.ut_names.specs.Resolved.{AreNarrow, Hinders}
use Rattle.ut_store.specs.Held.{Held}
use Rattle.ut_store.proofs.LookLemmas.{are_narrow}
use Rattle.ut_store.proofs.BoundLemmas.{unbound, piece_bound}
use Rattle.ut_store.proofs.store.Store.bind.Goals as goal

pub bind-requires : goal.bind-requires
bind-requires c = record { narrow = subst (λ (ts : List Table). AreNarrow ts) (sym (c.tables.ensures ∙ ap (λ (h : Held). h.rows.tables) c.self.view_is)) (are_narrow c.args.self.now c.requires) }

pub returns-clause-ok : goal.returns-clause-ok
returns-clause-ok c = subst (λ (ts : List Table). IfOk c.bind.result (Binds ts c.args.st)) (c.tables.ensures ∙ ap (λ (h : Held). h.rows.tables) c.self.view_is) c.bind.ensures.ok

pub returns-clause-err : goal.returns-clause-err
returns-clause-err c =
    unbound c.args.self.now c.args.st c.bind.result
    (subst (λ (ts : List Table). IfErr c.bind.result (Hinders (names_known ts c.args.st) (kinds_fit ts c.args.st))) (c.tables.ensures ∙ ap (λ (h : Held). h.rows.tables) c.self.view_is) c.bind.ensures.err) c.bind.ensures.room

pub returns-clause-save : goal.returns-clause-save
returns-clause-save c = piece_bound c.tables.result.now c.args.st c.bind.result c.bind.ensures.err c.bind.ensures.room
