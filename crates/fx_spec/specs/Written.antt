-- Descriptions as they are written, with definitions, and the tree that one means: each call stands for its definition's
-- body, in which calls are one level deeper. No call is unfolded inside 64 others.
use Rattle.std.specs.Prelude.{ℕ, zero, suc, cond, nat_eq, List, [], ◌∷◌, Option, Some, None}
use Rattle.std.specs.Option.{option_map, option_map_or}
use Rattle.std.specs.Cmp.Lexicographic.{pointwise}
use Rattle.fx_expr.specs.ExprTree.{ExprTree}
use Rattle.fx_expr.specs.ShapeTree.{ShapeTree}
use Rattle.fx_spec.specs.SpecTree.{SpecTree}

pub data WrittenTree : Type 0 where
  file dir link : WrittenTree
  focus : ExprTree → WrittenTree → WrittenTree
  pair : List ℕ → WrittenTree → WrittenTree → WrittenTree
  comp : WrittenTree → List ℕ → ExprTree → WrittenTree
  opt : WrittenTree → WrittenTree
  pred : ExprTree → WrittenTree
  call : List ℕ → List ExprTree → WrittenTree

-- a definition: its name, its parameters with their shapes, its body
pub record DefTree : Type 0 where
  pub name : List ℕ
  pub params : List (List ℕ × ShapeTree)
  pub body : WrittenTree

-- a text's definitions, and what it describes at the root
pub record TextTree : Type 0 where
  pub defs : List DefTree
  pub root : WrittenTree

-- the definition of a name
abbrev pub definition : List ℕ → List DefTree → Option DefTree
definition f [] = None
definition f (d ∷ defs) = cond (pointwise nat_eq d.name f) (Some d) (definition f defs)

-- the place of a name's first definition
abbrev pub place : List ℕ → List DefTree → Option ℕ
place f [] = None
place f (d ∷ defs) = cond (pointwise nat_eq d.name f) (Some 0) (option_map (λ i. suc i) (place f defs))

-- a description, where calls mean this
abbrev pub meant : (List ℕ → List ExprTree → SpecTree) → WrittenTree → SpecTree
meant calls WrittenTree.file = SpecTree.file
meant calls WrittenTree.dir = SpecTree.dir
meant calls WrittenTree.link = SpecTree.link
meant calls (WrittenTree.focus e s) = SpecTree.focus e (meant calls s)
meant calls (WrittenTree.pair x a b) = SpecTree.pair x (meant calls a) (meant calls b)
meant calls (WrittenTree.comp s x e) = SpecTree.comp (meant calls s) x e
meant calls (WrittenTree.opt s) = SpecTree.opt (meant calls s)
meant calls (WrittenTree.pred e) = SpecTree.pred e
meant calls (WrittenTree.call f args) = calls f args

-- what a call means where so many more calls are unfolded, by the definition of its name
abbrev pub calls_in : List DefTree → ℕ → List ℕ → List ExprTree → SpecTree
calls_in defs zero f args = option_map_or (λ (d : DefTree). SpecTree.last args d.params) (definition f defs) (SpecTree.last args [])
calls_in defs (suc n) f args =
    option_map_or (λ (d : DefTree). SpecTree.call args d.params (meant (λ g es. calls_in defs n g es) d.body)) (definition f defs) (SpecTree.last args [])

-- a part of a text, where so many more calls are unfolded
abbrev pub part_tree : List DefTree → ℕ → WrittenTree → SpecTree
part_tree defs n s = meant (λ g es. calls_in defs n g es) s

-- what a text means at the root, around which there is no call
abbrev pub text_tree : TextTree → SpecTree
text_tree t = part_tree t.defs 64 t.root
