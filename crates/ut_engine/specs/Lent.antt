-- A store and the disk that it is lent.
use base.Fml.{GName}
use Rattle.ut_engine.specs.Logged.{Logged}

-- a store with the disk that was lent to it, and the loan by which it is given back
pub record Lent (D : Type 0) : Type 0 where
  -- what the disk is now
  pub disk : D
  -- the name of the loan
  pub loan : GName
  pub store : Logged
