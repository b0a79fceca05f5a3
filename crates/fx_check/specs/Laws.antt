-- The checks find no fault exactly where a tree is well shaped.
use Rattle.std.specs.Prelude.{◌≡◌, ◌↔◌, List, [], All, Ok}
use Rattle.fx_expr.specs.ExprTree.{ExprTree}
use Rattle.fx_expr.specs.ShapeTree.{ShapeTree}
use Rattle.fx_expr.specs.Shapes.{HasShape}
use Rattle.fx_spec.specs.Written.{WrittenTree, DefTree, TextTree}
use Rattle.fx_spec.specs.CommandTree.{CommandTree, Block, block}
use Rattle.fx_spec.specs.WellShaped.{Scope, IsWritten, AreDefs, IsBlock, written_shape}
use Rattle.fx_check.specs.Shaped.{shaped}
use Rattle.fx_check.specs.Checked.{checked, checked_text, checked_block, checked_txns}

abbrev pub ShapedHasShape : Type 0
ShapedHasShape = (scope : Scope) (e : ExprTree) (s : ShapeTree) → (shaped scope e ≡ Ok s) ↔ HasShape scope e s

abbrev pub CheckedIsDescription : Type 0
CheckedIsDescription = (defs : List DefTree) (scope : Scope) (w : WrittenTree) (s : ShapeTree)
    → (checked defs scope w ≡ Ok s) ↔ (IsWritten defs scope w × (s ≡ written_shape w))

abbrev pub CheckedIsText : Type 0
CheckedIsText = (t : TextTree) (s : ShapeTree)
    → (checked_text t ≡ Ok s) ↔ (AreDefs t.defs [] t.defs × IsWritten t.defs [] t.root × (s ≡ written_shape t.root))

abbrev pub CheckedIsBlock : Type 0
CheckedIsBlock = (scope : Scope) (b : Block) → ((inner : Scope) × (checked_block scope b ≡ Ok inner)) ↔ IsBlock scope b

abbrev pub CheckedAreTransactions : Type 0
CheckedAreTransactions = (txns : List (List CommandTree)) → (checked_txns txns ≡ Ok txns) ↔ All (λ t. IsBlock [] (block t)) txns
