-- Small examples of expressions and of the texts of paths.
use Rattle.std.specs.Prelude.{◌≡◌, ℕ, pos, negsuc, List, [], ◌∷◌, codes, Result, Ok, Err}
use Rattle.fx_store.specs.declared.name.PathFault.{PathFault}
use Rattle.fx_store.specs.declared.name.PathFault.TheVariants.{BadName}
use Rattle.fx_store.specs.Faults.{extended, read_path, read_link}
use Rattle.fx_expr.specs.declared.expr.UnOp.{UnOp}
use Rattle.fx_expr.specs.declared.fault.ExprFault.TheVariants.{Overflow, NotNumber}
use Rattle.fx_expr.specs.Eval.{eval_of}
use Rattle.fx_expr.specs.ExprTree.{ExprTree}
use Rattle.fx_expr.specs.Tree.{Tree}
use Rattle.fx_spec.specs.Examples.{text}
use Rattle.fx_laws.specs.Shorthands.{union, minus, set_of_one}

-- the integer that a text spells
abbrev pub int : List ℕ → ExprTree
int spelled = ExprTree.un UnOp.Int (text spelled)

-- a number below zero
abbrev pub zero_less : ℕ → ExprTree
zero_less n = minus (ExprTree.int (pos 0)) (ExprTree.int (pos n))

-- the least number of 64 bits
abbrev pub least_number : ExprTree
least_number = minus (zero_less 9223372036854775807) (ExprTree.int (pos 1))

-- a set of four texts
abbrev pub four_texts : ExprTree
four_texts = union (set_of_one (codes "ab")) (union (set_of_one (codes "abc")) (union (set_of_one (codes "axbz")) (set_of_one (codes "b"))))

-- what some expressions give
pub record ExpressionExamples : Type 0 where
  pub lines : eval_of [] (ExprTree.un UnOp.Lines (text (codes "b\n\na\n"))) ≡ Ok (Tree.names (codes "a" ∷ codes "b" ∷ []))
  pub negative : eval_of [] (int (codes "-7")) ≡ Ok (Tree.int (negsuc 6))
  pub leading_zeros : eval_of [] (int (codes "007")) ≡ Ok (Tree.int (pos 7))
  pub no_digits : eval_of [] (int []) ≡ Err NotNumber
  pub plus_sign : eval_of [] (int (codes "+1")) ≡ Err NotNumber
  pub decimal : eval_of [] (ExprTree.un UnOp.Text (zero_less 12)) ≡ Ok (Tree.str (codes "-12"))
  pub chosen : eval_of [] (ExprTree.only four_texts (codes "a*b?")) ≡ Ok (Tree.names (codes "abc" ∷ codes "axbz" ∷ []))
  pub least : eval_of [] least_number ≡ Ok (Tree.int (negsuc 9223372036854775807))
  pub above_greatest : eval_of [] (minus (ExprTree.int (pos 0)) least_number) ≡ Err Overflow

-- what the path `/a` goes on to by a text
abbrev pub on_from_a : List ℕ → Result (List (List ℕ)) PathFault
on_from_a more = extended (codes "a" ∷ []) more

-- a path goes on by names with one `/` between each two
pub record ExtendedExamples : Type 0 where
  pub two_names : on_from_a (codes "b/c") ≡ Ok (codes "a" ∷ codes "b" ∷ codes "c" ∷ [])
  pub empty : on_from_a [] ≡ Err BadName
  pub empty_name : on_from_a (codes "b//c") ≡ Err BadName
  pub parent : on_from_a (codes "../x") ≡ Err BadName
  pub leading_slash : on_from_a (codes "/b") ≡ Err BadName

-- which texts are those of links
pub record LinkTextExamples : Type 0 where
  pub root : read_link (codes "/") ≡ Ok (codes "/")
  pub parent : read_link (codes "..") ≡ Ok (codes "..")
  pub own_directory : read_link (codes "a/./b") ≡ Ok (codes "a/./b")
  pub trailing_slash : read_link (codes "a/") ≡ Err BadName
  pub empty : read_link [] ≡ Err BadName

-- which texts spell paths
pub record PathTextExamples : Type 0 where
  pub root : read_path (codes "/") ≡ Ok []
  pub one_name : read_path (codes "/a") ≡ Ok (codes "a" ∷ [])
  pub no_slash : read_path (codes "a") ≡ Err BadName
  pub trailing_slash : read_path (codes "/a/") ≡ Err BadName
