-- The shape of a description's value, or its first fault, and the first fault of a text and of transactions: of a focus the
-- text comes first, of a comprehension the set, then the name, then the part; of a pair the first part, then the name, then
-- the second; of a call the name with the number of arguments, then these from left to right.
use Rattle.std.specs.Prelude.{ℕ, ◌+◌, nat_le, nat_eq, cond, List, [], ◌∷◌, ◌++◌, length, Option, Some, None, Ok, Err}
use Rattle.fx_base.specs.Limits.{txn_limit}
use Rattle.fx_expr.specs.Bindings.{bind, bound}
use Rattle.fx_expr.specs.ExprTree.{ExprTree}
use Rattle.fx_expr.specs.ShapeTree.{ShapeTree}
use Rattle.fx_spec.specs.CommandTree.{ActTree, CommandTree, Block, block}
use Rattle.fx_spec.specs.Written.{WrittenTree, DefTree, TextTree, definition}
use Rattle.fx_spec.specs.WellShaped.{Scope}
use Rattle.fx_check.specs.Faults.{Fault, OrFault, ◌>>=◌}
use Rattle.fx_check.specs.Shaped.{named, needed, shaped}

-- the name stands for nothing yet
abbrev pub unless_bound : {A X : Type 0} → List ℕ → Option A → X → OrFault X
unless_bound word None x = Ok x
unless_bound word (Some found) x = Err (Fault.repeated word)

-- the scope with one more name, which is not bound around it
abbrev pub with_name : Scope → List ℕ → ShapeTree → OrFault Scope
with_name scope word shape = unless_bound word (bound scope word) (bind scope word shape)

-- the expression has the shape that is expected
abbrev pub shaped_as : Scope → ShapeTree → ExprTree → OrFault ShapeTree
shaped_as scope expected e = shaped scope e >>= λ found. needed expected found

-- the parameters that a call's arguments are for: none where the name has no definition, or one for another number of them
abbrev pub asked_of : List ℕ → ℕ → Option DefTree → OrFault (List (List ℕ × ShapeTree))
asked_of f count None = Err (Fault.unknown f)
asked_of f count (Some d) = cond (nat_eq count (length d.params)) (Ok d.params) (Err (Fault.unknown f))

-- arguments, each of which is expected to have its parameter's shape; a call has the shape of a truth value
abbrev pub checked_arguments : Scope → List ExprTree → List (List ℕ × ShapeTree) → OrFault ShapeTree
checked_arguments scope (e ∷ es) (p ∷ ps) = shaped_as scope p.1 e >>= λ _. checked_arguments scope es ps
checked_arguments scope _ _ = Ok ShapeTree.bool

abbrev pub checked : List DefTree → Scope → WrittenTree → OrFault ShapeTree
checked defs scope WrittenTree.file = Ok ShapeTree.str
checked defs scope WrittenTree.dir = Ok ShapeTree.names
checked defs scope WrittenTree.link = Ok ShapeTree.str
checked defs scope (WrittenTree.focus e s) = shaped_as scope ShapeTree.str e >>= λ _. checked defs scope s
checked defs scope (WrittenTree.pair x a b) =
    checked defs scope a >>= λ first. with_name scope x first >>= λ inner. checked defs inner b >>= λ second. Ok (ShapeTree.pair first second)
checked defs scope (WrittenTree.comp s x e) =
    shaped_as scope ShapeTree.names e >>= λ _. with_name scope x ShapeTree.str >>= λ inner. checked defs inner s >>= λ part. Ok (ShapeTree.table part)
checked defs scope (WrittenTree.opt s) = checked defs scope s >>= λ part. Ok (ShapeTree.opt part)
checked defs scope (WrittenTree.pred e) = shaped_as scope ShapeTree.bool e
checked defs scope (WrittenTree.call f args) =
    asked_of f (length args) (definition f defs) >>= λ params. checked_arguments scope args params

-- the names of parameters, the newest last, none of which is bound twice
abbrev pub with_params : Scope → List (List ℕ × ShapeTree) → OrFault Scope
with_params scope [] = Ok scope
with_params scope (p ∷ ps) = with_name scope p.0 p.1 >>= λ inner. with_params inner ps

-- a definition behind those before it: its name comes first, then its parameters, then its body, in which these alone are bound
abbrev pub checked_def : List DefTree → List DefTree → DefTree → OrFault ShapeTree
checked_def defs before d =
    unless_bound d.name (definition d.name before) d >>= λ _. with_params [] d.params >>= λ scope. checked defs scope d.body

-- of a text's definitions those from one on, behind those before it
abbrev pub checked_defs : List DefTree → List DefTree → List DefTree → OrFault (List DefTree)
checked_defs defs before [] = Ok before
checked_defs defs before (d ∷ rest) = checked_def defs before d >>= λ _. checked_defs defs (before ++ d ∷ []) rest

-- the definitions in their order, then the root
abbrev pub checked_text : TextTree → OrFault ShapeTree
checked_text t = checked_defs t.defs [] t.defs >>= λ _. checked t.defs [] t.root

-- an act's own expression; an act binds no name
abbrev pub checked_act : Scope → ActTree → OrFault Scope
checked_act scope (ActTree.to e) = shaped_as scope ShapeTree.str e >>= λ _. Ok scope
checked_act scope (ActTree.store e) = shaped scope e >>= λ _. Ok scope
checked_act scope _ = Ok scope

-- what `set` gives a name: its binding's shape is expected
abbrev pub assigned : Scope → List ℕ → ShapeTree → OrFault Scope
assigned scope x found = named x (bound scope x) >>= λ expected. needed expected found >>= λ _. Ok scope

-- the scope that a command and a block leave, or the first fault: of a command its expression comes first, then its name,
-- then its blocks, whose names end with them
abbrev mutual
  pub checked_command : Scope → CommandTree → OrFault Scope
  checked_command scope (CommandTree.act a) = checked_act scope a
  checked_command scope (CommandTree.attempt x a) = checked_act scope a >>= λ _. with_name scope x ShapeTree.int
  checked_command scope (CommandTree.bind x e) = shaped scope e >>= λ found. with_name scope x found
  checked_command scope (CommandTree.assign x e) = shaped scope e >>= λ found. assigned scope x found
  checked_command scope (CommandTree.fetch x shape) = with_name scope x shape
  checked_command scope (CommandTree.whole x shape) = with_name scope x shape
  checked_command scope (CommandTree.validate x) = with_name scope x ShapeTree.bool
  checked_command scope (CommandTree.print e) = shaped scope e >>= λ _. Ok scope
  checked_command scope (CommandTree.branch e a b) =
      shaped_as scope ShapeTree.bool e >>= λ _. checked_block scope a >>= λ _. checked_block scope b >>= λ _. Ok scope
  checked_command scope (CommandTree.each x e a) =
      shaped_as scope ShapeTree.names e >>= λ _. with_name scope x ShapeTree.str >>= λ inner. checked_block inner a >>= λ _. Ok scope
  checked_command scope CommandTree.abort = Ok scope

  pub checked_block : Scope → Block → OrFault Scope
  checked_block scope Block.none = Ok scope
  checked_block scope (Block.then c cs) = checked_command scope c >>= λ inner. checked_block inner cs

-- a block, whose names end with it
abbrev pub checked_inner : Scope → Block → OrFault Scope
checked_inner scope b = checked_block scope b >>= λ _. Ok scope

-- transactions, each by itself
abbrev pub checked_txns : List (List CommandTree) → OrFault (List (List CommandTree))
checked_txns [] = Ok []
checked_txns (t ∷ ts) = checked_block [] (block t) >>= λ _. checked_txns ts >>= λ rest. Ok (t ∷ rest)

-- a script after so many transactions: there may be 100,000 together, which is looked at first of all
abbrev pub checked_script : ℕ → List (List CommandTree) → OrFault (List (List CommandTree))
checked_script before txns = cond (nat_le (before + length txns) txn_limit) (checked_txns txns) (Err Fault.too_many)
