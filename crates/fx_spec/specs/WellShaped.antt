-- Which descriptions and transactions are well shaped: each name is bound once around its uses, and each part has the shape
-- that its place needs.
use Rattle.std.specs.Prelude.{◌≡◌, ℕ, ◌≤◌, ◌<◌, ◌^◌, List, [], ◌∷◌, ◌++◌, All, Some, None}
use Rattle.fx_expr.specs.Bindings.{bind, bound}
use Rattle.fx_expr.specs.ExprTree.{ExprTree}
use Rattle.fx_expr.specs.ShapeTree.{ShapeTree}
use Rattle.fx_expr.specs.Shapes.{HasShape}
use Rattle.fx_spec.specs.SpecTree.{SpecTree}
use Rattle.fx_spec.specs.Written.{WrittenTree, DefTree, TextTree, definition, text_tree}
use Rattle.fx_spec.specs.CommandTree.{ActTree, CommandTree, Block, block, count_block}
use Rattle.fx_spec.specs.Levels.{text_levels, txn_levels}
use Rattle.fx_spec.specs.Move.{value_shape}

-- the shapes of the names bound so far, the newest last
abbrev pub Scope : Type 0
Scope = List (List ℕ × ShapeTree)

abbrev pub IsFree : Scope → List ℕ → Type 0
IsFree scope x = bound scope x ≡ None

-- the expression has some shape
abbrev pub HasSome : Scope → ExprTree → Type 0
HasSome scope e = (s : ShapeTree) × HasShape scope e s

-- each argument has the shape of its parameter, and there are as many
abbrev pub AreArguments : Scope → List ExprTree → List (List ℕ × ShapeTree) → Type 0
AreArguments scope [] [] = Unit {0}
AreArguments scope (e ∷ es) (p ∷ ps) = HasShape scope e p.1 × AreArguments scope es ps
AreArguments scope _ _ = ⊥

-- what a description means is well shaped: in the body of a call the parameters alone are bound
abbrev pub IsDescription : Scope → SpecTree → Type 0
IsDescription scope SpecTree.file = Unit {0}
IsDescription scope SpecTree.dir = Unit {0}
IsDescription scope SpecTree.link = Unit {0}
IsDescription scope (SpecTree.focus e s) = HasShape scope e ShapeTree.str × IsDescription scope s
IsDescription scope (SpecTree.pair x a b) = IsDescription scope a × IsFree scope x × IsDescription (bind scope x (value_shape a)) b
IsDescription scope (SpecTree.comp s x e) = HasShape scope e ShapeTree.names × IsFree scope x × IsDescription (bind scope x ShapeTree.str) s
IsDescription scope (SpecTree.opt s) = IsDescription scope s
IsDescription scope (SpecTree.pred e) = HasShape scope e ShapeTree.bool
IsDescription scope (SpecTree.call args params s) = AreArguments scope args params × IsDescription params s
IsDescription scope (SpecTree.last args params) = AreArguments scope args params

-- the shape of the value of a description as it is written
abbrev pub written_shape : WrittenTree → ShapeTree
written_shape WrittenTree.file = ShapeTree.str
written_shape WrittenTree.dir = ShapeTree.names
written_shape WrittenTree.link = ShapeTree.str
written_shape (WrittenTree.focus e s) = written_shape s
written_shape (WrittenTree.pair x a b) = ShapeTree.pair (written_shape a) (written_shape b)
written_shape (WrittenTree.comp s x e) = ShapeTree.table (written_shape s)
written_shape (WrittenTree.opt s) = ShapeTree.opt (written_shape s)
written_shape _ = ShapeTree.bool

-- a call names a definition of the text, and its arguments are those of the definition's parameters
pub record IsCall (defs : List DefTree) (scope : Scope) (f : List ℕ) (args : List ExprTree) : Type 0 where
  pub named : DefTree
  pub found : definition f defs ≡ Some named
  pub arguments : AreArguments scope args named.params

abbrev pub IsWritten : List DefTree → Scope → WrittenTree → Type 0
IsWritten defs scope (WrittenTree.focus e s) = HasShape scope e ShapeTree.str × IsWritten defs scope s
IsWritten defs scope (WrittenTree.pair x a b) = IsWritten defs scope a × IsFree scope x × IsWritten defs (bind scope x (written_shape a)) b
IsWritten defs scope (WrittenTree.comp s x e) = HasShape scope e ShapeTree.names × IsFree scope x × IsWritten defs (bind scope x ShapeTree.str) s
IsWritten defs scope (WrittenTree.opt s) = IsWritten defs scope s
IsWritten defs scope (WrittenTree.pred e) = HasShape scope e ShapeTree.bool
IsWritten defs scope (WrittenTree.call f args) = IsCall defs scope f args
IsWritten defs scope _ = Unit {0}

-- no name is that of two parameters, and of two definitions
abbrev pub AreFree : Scope → List (List ℕ × ShapeTree) → Type 0
AreFree scope [] = Unit {0}
AreFree scope (p ∷ ps) = IsFree scope p.0 × AreFree (bind scope p.0 p.1) ps

pub record IsDef (before defs : List DefTree) (d : DefTree) : Type 0 where
  pub new : definition d.name before ≡ None
  pub params : AreFree [] d.params
  pub body : IsWritten defs d.params d.body

-- of the definitions of a text those from one on, with those before it
abbrev pub AreDefs : List DefTree → List DefTree → List DefTree → Type 0
AreDefs defs before [] = Unit {0}
AreDefs defs before (d ∷ rest) = IsDef before defs d × AreDefs defs (before ++ d ∷ []) rest

-- the definitions of a text, all of them
abbrev pub AreDefined : List DefTree → Type 0
AreDefined defs = AreDefs defs [] defs

-- an act's own expression
abbrev pub IsAct : Scope → ActTree → Type 0
IsAct scope (ActTree.to e) = HasShape scope e ShapeTree.str
IsAct scope (ActTree.store e) = HasSome scope e
IsAct scope _ = Unit {0}

-- a command is well shaped where what follows is, in the scope that the command leaves; the names of a block end with it
abbrev mutual
  pub IsCommand : Scope → CommandTree → (Scope → Type 0) → Type 0
  IsCommand scope (CommandTree.act a) then_on = IsAct scope a × then_on scope
  IsCommand scope (CommandTree.attempt x a) then_on = IsAct scope a × IsFree scope x × then_on (bind scope x ShapeTree.int)
  IsCommand scope (CommandTree.bind x e) then_on = (s : ShapeTree) × HasShape scope e s × IsFree scope x × then_on (bind scope x s)
  IsCommand scope (CommandTree.assign x e) then_on = (s : ShapeTree) × HasShape scope e s × (bound scope x ≡ Some s) × then_on scope
  IsCommand scope (CommandTree.fetch x shape) then_on = IsFree scope x × then_on (bind scope x shape)
  IsCommand scope (CommandTree.whole x shape) then_on = IsFree scope x × then_on (bind scope x shape)
  IsCommand scope (CommandTree.validate x) then_on = IsFree scope x × then_on (bind scope x ShapeTree.bool)
  IsCommand scope (CommandTree.print e) then_on = HasSome scope e × then_on scope
  IsCommand scope (CommandTree.branch e a b) then_on = HasShape scope e ShapeTree.bool × IsBlock scope a × IsBlock scope b × then_on scope
  IsCommand scope (CommandTree.each x e a) then_on = HasShape scope e ShapeTree.names × IsFree scope x × IsBlock (bind scope x ShapeTree.str) a × then_on scope
  IsCommand scope CommandTree.abort then_on = then_on scope

  pub IsBlock : Scope → Block → Type 0
  IsBlock scope Block.none = Unit {0}
  IsBlock scope (Block.then c cs) = IsCommand scope c (λ scope. IsBlock scope cs)

-- a text that is well shaped, and nested at most 64 deep
pub record IsChecked (t : TextTree) : Type 0 where
  pub defs : AreDefined t.defs
  pub root : IsWritten t.defs [] t.root
  pub nested : text_levels t ≤ 64

-- the text is one of those that mean this
pub record IsTextOf (t : TextTree) (s : SpecTree) : Type 0 where
  pub checked : IsChecked t
  pub means : text_tree t ≡ s

-- a transaction that is, with fewer than 2^32 commands, nested ones included
pub record IsTransaction (commands : List CommandTree) : Type 0 where
  pub shapes : IsBlock [] (block commands)
  pub nested : txn_levels commands ≤ 64
  pub few : count_block (block commands) < 2 ^ 32

abbrev pub IsScript : List (List CommandTree) → Type 0
IsScript txns = All IsTransaction txns
