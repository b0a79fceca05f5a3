-- Commands that come next, well shaped with the variables that there are.
use Rattle.std.specs.Prelude.{ℕ, List, ◌++◌, Result, IfOk}
use Rattle.fx_expr.specs.Bindings.{bind}
use Rattle.fx_expr.specs.ShapeTree.{ShapeTree}
use Rattle.fx_expr.specs.Shapes.{BindingsHave}
use Rattle.fx_spec.specs.CommandTree.{CommandTree, Block}
use Rattle.fx_spec.specs.Describe.{Bindings}
use Rattle.fx_spec.specs.WellShaped.{Scope, IsBlock}
use Rattle.fx_run.specs.declared.leave.Leave.{Leave}

-- the block that comes is well shaped with these variables
pub record HasBlock (vars : Bindings) (b : Block) : Type 0 where
  pub scope : Scope
  pub bindings : BindingsHave vars scope
  pub shaped : IsBlock scope b

-- the command comes next, before some others
pub record HasCommand (vars : Bindings) (c : CommandTree) : Type 0 where
  pub rest : Block
  pub next : HasBlock vars (Block.then c rest)

-- the block comes next with a text bound
pub record HasTurn (vars : Bindings) (x : List ℕ) (b : Block) : Type 0 where
  pub scope : Scope
  pub bindings : BindingsHave vars scope
  pub shaped : IsBlock (bind scope x ShapeTree.str) b

-- the scope has grown to one in which the block that comes is well shaped
pub record OpensScope (scope : Scope) (vars : Bindings) (rest : Block) : Type 0 where
  pub more : Scope
  pub bindings : BindingsHave vars (scope ++ more)
  pub shaped : IsBlock (scope ++ more) rest

-- what a command leaves to the others
abbrev pub Scopes : CommandTree → Bindings → Bindings → Result (Unit {0}) Leave → Type 0
Scopes c old new result = (scope : Scope) (rest : Block) → BindingsHave old scope → IsBlock scope (Block.then c rest) → IfOk result (λ _. OpensScope scope new rest)

abbrev pub ScopesBlock : Block → Bindings → Bindings → Result (Unit {0}) Leave → Type 0
ScopesBlock b old new result = (scope : Scope) → BindingsHave old scope → IsBlock scope b → IfOk result (λ _. OpensScope scope new Block.none)

-- after a block the variables are those of before it
abbrev pub KeepsVariables : Block → Bindings → Bindings → Result (Unit {0}) Leave → Type 0
KeepsVariables b old new result = (scope : Scope) → BindingsHave old scope → IsBlock scope b → IfOk result (λ _. BindingsHave new scope)

abbrev pub KeepsTurn : List ℕ → Block → Bindings → Bindings → Result (Unit {0}) Leave → Type 0
KeepsTurn x b old new result = (scope : Scope) → BindingsHave old scope → IsBlock (bind scope x ShapeTree.str) b → IfOk result (λ _. BindingsHave new scope)
