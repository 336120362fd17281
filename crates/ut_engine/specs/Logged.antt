-- A store and its files.
use Rattle.ut_engine.specs.declared.logged.LoggedStore.{LoggedStore}

abbrev pub Logged : Type 0
Logged = LoggedStore
