-- Definitions whose bodies' expressions can be evaluated once and for all.
use Rattle.std.specs.Prelude.{List}
use Rattle.fx_spec.specs.Written.{DefTree}
use Rattle.fx_spec.specs.WellShaped.{Scope, IsWritten}

-- the body is well shaped among some definitions, where some names are bound
pub record IsFitting (d : DefTree) : Type 0 where
  pub defs : List DefTree
  pub scope : Scope
  pub body : IsWritten defs scope d.body
