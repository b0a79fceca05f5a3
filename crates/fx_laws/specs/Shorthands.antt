-- Short forms in which the worked examples are written.
use Rattle.std.specs.Prelude.{ℕ, pos, List, [], ◌∷◌}
use Rattle.fx_expr.specs.declared.expr.BinOp.{BinOp}
use Rattle.fx_expr.specs.declared.expr.UnOp.{UnOp}
use Rattle.fx_expr.specs.ExprTree.{ExprTree}
use Rattle.fx_expr.specs.ShapeTree.{ShapeTree}
use Rattle.fx_expr.specs.Tree.{Tree}
use Rattle.fx_spec.specs.SpecTree.{SpecTree}
use Rattle.fx_spec.specs.CommandTree.{ActTree, CommandTree}

-- expressions
abbrev pub var : List ℕ → ExprTree
var x = ExprTree.var x

abbrev pub join : ExprTree → ExprTree → ExprTree
join a b = ExprTree.bin BinOp.Join a b

abbrev pub union : ExprTree → ExprTree → ExprTree
union a b = ExprTree.bin BinOp.Union a b

abbrev pub minus : ExprTree → ExprTree → ExprTree
minus a b = ExprTree.bin BinOp.Minus a b

abbrev pub set_of_one : List ℕ → ExprTree
set_of_one t = ExprTree.un UnOp.One (ExprTree.str t)

-- a file at an entry
abbrev pub file_at : List ℕ → SpecTree
file_at t = SpecTree.focus (ExprTree.str t) SpecTree.file

-- the file of each element of a set
abbrev pub files_of : ExprTree → SpecTree
files_of set = SpecTree.comp (SpecTree.focus (ExprTree.var (110 ∷ [])) SpecTree.file) (110 ∷ []) set

-- commands
abbrev pub into : CommandTree
into = CommandTree.act ActTree.into

abbrev pub to : ExprTree → CommandTree
to e = CommandTree.act (ActTree.to e)

abbrev pub next : CommandTree
next = CommandTree.act ActTree.next

abbrev pub prev : CommandTree
prev = CommandTree.act ActTree.prev

abbrev pub out : CommandTree
out = CommandTree.act ActTree.out

abbrev pub down : CommandTree
down = CommandTree.act ActTree.down

abbrev pub up : CommandTree
up = CommandTree.act ActTree.up

abbrev pub store : ExprTree → CommandTree
store e = CommandTree.act (ActTree.store e)

abbrev pub create : CommandTree
create = CommandTree.act ActTree.create

abbrev pub remove : CommandTree
remove = CommandTree.act ActTree.remove

abbrev pub fetch_text : List ℕ → CommandTree
fetch_text x = CommandTree.fetch x ShapeTree.str

abbrev pub fetch_names : List ℕ → CommandTree
fetch_names x = CommandTree.fetch x ShapeTree.names

abbrev pub show : List ℕ → CommandTree
show x = CommandTree.print (ExprTree.var x)

-- an act is tried, and the number of its refusal is printed
abbrev pub try_and_show : List ℕ → ActTree → List CommandTree → List CommandTree
try_and_show x a rest = CommandTree.attempt x a ∷ show x ∷ rest

-- printed values
abbrev pub texts : List (List ℕ) → List Tree
texts [] = []
texts (t ∷ ts) = Tree.str t ∷ texts ts

abbrev pub numbers : List ℕ → List Tree
numbers [] = []
numbers (n ∷ ns) = Tree.int (pos n) ∷ numbers ns
