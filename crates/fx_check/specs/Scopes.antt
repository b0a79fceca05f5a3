-- Scopes as the code keeps them.
use Rattle.std.specs.Prelude.{◌≡◌, ℕ, List, [], ◌∷◌, ◌++◌, Option, Some, None}
use Rattle.std.specs.Coded.{Coded, coded×, coded_list}
use Rattle.fx_expr.specs.declared.shape.Shape.{Shape}
use Rattle.fx_expr.specs.Codes.{coded_bytes, coded_shape}
use Rattle.fx_expr.specs.ShapeTree.{ShapeTree}
use Rattle.fx_expr.specs.Views.{shape_tree}
use Rattle.fx_spec.specs.WellShaped.{Scope}

abbrev pub coded_scope : Coded Scope
coded_scope = coded_list (coded× coded_bytes coded_shape)

-- a name with the tree of its shape
abbrev pub entry_shape : List ℕ × Shape → List ℕ × ShapeTree
entry_shape entry = (entry.0, shape_tree entry.1)

-- the newest name is taken off, and this was its shape
abbrev pub IsTakenOff : Option ShapeTree → Scope → Scope → Type 0
IsTakenOff None old new = (old ≡ []) × (new ≡ [])
IsTakenOff (Some shape) old new = (word : List ℕ) × (old ≡ new ++ (word, shape) ∷ [])
