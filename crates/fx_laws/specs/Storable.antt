-- Values that can be stored: texts of bytes within the limit of a file, integers of 64 bits, and sets of such texts in order.
use Rattle.std.specs.Prelude.{◌≡◌, ◌<◌, ◌^◌, ℕ, true, List, map, length, All, Some, Ok}
use Rattle.fx_store.specs.declared.node.Node.TheVariants.{Dir}
use Rattle.fx_store.specs.Names.{IsContent}
use Rattle.fx_store.specs.Rule.{answer}
use Rattle.fx_store.specs.Whole.{Store, IsWhole}
use Rattle.fx_text.specs.Sets.{IsAscending}
use Rattle.fx_expr.specs.Eval.{fits_64, eval_of}
use Rattle.fx_expr.specs.ExprTree.{ExprTree}
use Rattle.fx_expr.specs.Tree.{Tree, TreeRows, no_rows, row, entries}
use Rattle.fx_expr.specs.ShapeTree.{ShapeTree}
use Rattle.fx_spec.specs.SpecTree.{SpecTree}
use Rattle.fx_spec.specs.Describe.{Bindings}
use Rattle.fx_spec.specs.Move.{fetch_at}
use Rattle.fx_spec.specs.Place.{PlaceTree}
use Rattle.fx_spec.specs.Edit.{is_storable}

-- fewer than 2^63 texts, in order
pub record IsSet (texts : List (List ℕ)) : Type 0 where
  pub ascending : IsAscending texts
  pub each : All IsContent texts
  pub few : length texts < 2 ^ 63

abbrev mutual
  pub IsWithin : Tree → Type 0
  IsWithin (Tree.str text) = IsContent text
  IsWithin (Tree.int n) = fits_64 n ≡ true
  IsWithin (Tree.bool b) = Unit {0}
  IsWithin (Tree.names names) = IsSet names
  IsWithin (Tree.pair a b) = IsWithin a × IsWithin b
  IsWithin Tree.nothing = Unit {0}
  IsWithin (Tree.some v) = IsWithin v
  IsWithin (Tree.table rows) = IsSet (map (λ e. e.0) (entries rows)) × AreWithin rows

  pub AreWithin : TreeRows → Type 0
  AreWithin no_rows = Unit {0}
  AreWithin (row t v rest) = IsWithin v × AreWithin rest

-- so are the texts and integers that an expression itself has
abbrev pub HasWithin : ExprTree → Type 0
HasWithin (ExprTree.str text) = IsContent text
HasWithin (ExprTree.int n) = fits_64 n ≡ true
HasWithin (ExprTree.bool b) = Unit {0}
HasWithin ExprTree.empty = Unit {0}
HasWithin (ExprTree.var word) = Unit {0}
HasWithin (ExprTree.bin op a b) = HasWithin a × HasWithin b
HasWithin (ExprTree.un op a) = HasWithin a
HasWithin (ExprTree.choose c a b) = HasWithin c × HasWithin a × HasWithin b
HasWithin (ExprTree.only a glob) = HasWithin a

-- what a description says besides its forms: the expression at its head
abbrev pub HeadHasWithin : SpecTree → Type 0
HeadHasWithin (SpecTree.focus e s) = HasWithin e
HeadHasWithin (SpecTree.comp s x e) = HasWithin e
HeadHasWithin (SpecTree.pred e) = HasWithin e
HeadHasWithin _ = Unit {0}

-- no directory lists 2^63 names
abbrev pub ListsFew : Store → Type 0
ListsFew S = (path names : List (List ℕ)) → S path ≡ Some (Dir names) → length names < 2 ^ 63

abbrev pub AreGood : Bindings → Type 0
AreGood env = All (λ (b : List ℕ × Tree). IsWithin b.1) env

-- Where the variables hold such values, an expression gives one. So does a fetch from a whole filestore, at a place whose
-- names hold such. Each can be stored, if the form takes its shape.
pub record ValuesAreStorable : Type 0 where
  pub evaluated : (env : Bindings) (e : ExprTree) (v : Tree) → AreGood env → HasWithin e → eval_of env e ≡ Ok v → IsWithin v
  pub fetched : (S : Store) → IsWhole S → ListsFew S → (at : PlaceTree) → AreGood at.env → HeadHasWithin at.spec → (shape : ShapeTree) (v : Tree) → answer S (fetch_at shape at) ≡ Ok v → IsWithin v
  pub storable : (v : Tree) → IsWithin v → is_storable v ≡ true
