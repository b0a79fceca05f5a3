-- The shape of an expression, or its first fault: parts are checked in the order of evaluation, the own faults of a part
-- before its shape, and that before the next part.
use Rattle.std.specs.Prelude.{ℕ, Bool, true, false, cond, List, [], ◌∷◌, Option, Some, None, Ok, Err}
use Rattle.std.specs.List.{list_any}
use Rattle.fx_expr.specs.declared.expr.BinOp.{BinOp}
use Rattle.fx_expr.specs.declared.expr.UnOp.{UnOp}
use Rattle.fx_expr.specs.Bindings.{bound}
use Rattle.fx_expr.specs.ExprTree.{ExprTree}
use Rattle.fx_expr.specs.ShapeTree.{ShapeTree}
use Rattle.fx_spec.specs.Move.{same_shape}
use Rattle.fx_spec.specs.WellShaped.{Scope}
use Rattle.fx_check.specs.Faults.{Fault, OrFault, ◌>>=◌}

-- the shape that was found, where it is the one that is expected
abbrev pub needed : ShapeTree → ShapeTree → OrFault ShapeTree
needed expected found = cond (same_shape expected found) (Ok found) (Err (Fault.differs expected found))

-- the shapes that `==` compares, that `<` compares, and that have a size
abbrev pub is_comparable : ShapeTree → Bool
is_comparable shape = list_any (same_shape shape) (ShapeTree.str ∷ ShapeTree.int ∷ ShapeTree.bool ∷ ShapeTree.names ∷ [])

abbrev pub is_ordered : ShapeTree → Bool
is_ordered shape = list_any (same_shape shape) (ShapeTree.str ∷ ShapeTree.int ∷ [])

abbrev pub is_sized : ShapeTree → Bool
is_sized shape = list_any (same_shape shape) (ShapeTree.str ∷ ShapeTree.names ∷ [])

-- the shape that was found, where it is one of several that are allowed; of these Str is told as the expected one
abbrev pub allowed : Bool → ShapeTree → OrFault ShapeTree
allowed fits found = cond fits (Ok found) (Err (Fault.differs ShapeTree.str found))

-- this shape, where a part has the shape that is needed
abbrev pub followed_by : ShapeTree → OrFault ShapeTree → OrFault ShapeTree
followed_by shape part = part >>= λ _. Ok shape

-- what an operator's second part has to be, by the shape of the first
abbrev pub second_needed : BinOp → ShapeTree → ShapeTree
second_needed BinOp.Join first = ShapeTree.str
second_needed BinOp.Plus first = ShapeTree.int
second_needed BinOp.Minus first = ShapeTree.int
second_needed BinOp.Equal first = first
second_needed BinOp.Less first = first
second_needed BinOp.And first = ShapeTree.bool
second_needed BinOp.Or first = ShapeTree.bool
second_needed _ first = ShapeTree.names

-- what its first part may be: of `==` and `<` one of several, of `in` a text, and else what the second has to be
abbrev pub first_part : BinOp → ShapeTree → OrFault ShapeTree
first_part BinOp.Equal found = allowed (is_comparable found) found
first_part BinOp.Less found = allowed (is_ordered found) found
first_part BinOp.Member found = needed ShapeTree.str found
first_part op found = needed (second_needed op found) found

abbrev pub result_shape : BinOp → ShapeTree
result_shape BinOp.Join = ShapeTree.str
result_shape BinOp.Plus = ShapeTree.int
result_shape BinOp.Minus = ShapeTree.int
result_shape BinOp.Union = ShapeTree.names
result_shape BinOp.Without = ShapeTree.names
result_shape _ = ShapeTree.bool

-- the shape that an operator gives for a part of this shape: of a pair, of a table and of an optional value too
abbrev pub one_shape : UnOp → ShapeTree → OrFault ShapeTree
one_shape UnOp.Not found = needed ShapeTree.bool found >>= λ _. Ok ShapeTree.bool
one_shape UnOp.One found = needed ShapeTree.str found >>= λ _. Ok ShapeTree.names
one_shape UnOp.Lines found = needed ShapeTree.str found >>= λ _. Ok ShapeTree.names
one_shape UnOp.Size found = allowed (is_sized found) found >>= λ _. Ok ShapeTree.int
one_shape UnOp.Int found = needed ShapeTree.str found >>= λ _. Ok ShapeTree.int
one_shape UnOp.Text found = needed ShapeTree.int found >>= λ _. Ok ShapeTree.str
one_shape UnOp.First (ShapeTree.pair s t) = Ok s
one_shape UnOp.First found = Err (Fault.differs (ShapeTree.pair ShapeTree.str ShapeTree.str) found)
one_shape UnOp.Second (ShapeTree.pair s t) = Ok t
one_shape UnOp.Second found = Err (Fault.differs (ShapeTree.pair ShapeTree.str ShapeTree.str) found)
one_shape UnOp.Keys (ShapeTree.table s) = Ok ShapeTree.names
one_shape UnOp.Keys found = Err (Fault.differs (ShapeTree.table ShapeTree.str) found)
one_shape UnOp.Present (ShapeTree.opt s) = Ok ShapeTree.bool
one_shape UnOp.Present found = Err (Fault.differs (ShapeTree.opt ShapeTree.str) found)

abbrev pub is_pair : ShapeTree → Bool
is_pair (ShapeTree.pair s t) = true
is_pair _ = false

abbrev pub is_table : ShapeTree → Bool
is_table (ShapeTree.table s) = true
is_table _ = false

abbrev pub is_option : ShapeTree → Bool
is_option (ShapeTree.opt s) = true
is_option _ = false

-- the operators on pairs, tables and optional values
abbrev pub first_of : ShapeTree → OrFault ShapeTree
first_of found = one_shape UnOp.First found

abbrev pub second_of : ShapeTree → OrFault ShapeTree
second_of found = one_shape UnOp.Second found

abbrev pub keys_of : ShapeTree → OrFault ShapeTree
keys_of found = one_shape UnOp.Keys found

abbrev pub present_of : ShapeTree → OrFault ShapeTree
present_of found = one_shape UnOp.Present found

-- the shape of two parts' operator, the first of which may stand there
abbrev pub two_shape : BinOp → ShapeTree → ShapeTree → OrFault ShapeTree
two_shape op first second = needed (second_needed op first) second >>= λ _. Ok (result_shape op)

-- what a name is bound to
abbrev pub named : List ℕ → Option ShapeTree → OrFault ShapeTree
named word None = Err (Fault.unknown word)
named word (Some shape) = Ok shape

abbrev pub shaped : Scope → ExprTree → OrFault ShapeTree
shaped scope (ExprTree.str text) = Ok ShapeTree.str
shaped scope (ExprTree.int n) = Ok ShapeTree.int
shaped scope (ExprTree.bool b) = Ok ShapeTree.bool
shaped scope ExprTree.empty = Ok ShapeTree.names
shaped scope (ExprTree.var word) = named word (bound scope word)
shaped scope (ExprTree.bin op a b) = shaped scope a >>= λ u. first_part op u >>= λ first. shaped scope b >>= λ second. two_shape op first second
shaped scope (ExprTree.un op a) = shaped scope a >>= λ found. one_shape op found
shaped scope (ExprTree.choose c a b) =
    shaped scope c >>= λ test. needed ShapeTree.bool test >>= λ _. shaped scope a >>= λ first. shaped scope b >>= λ second. needed first second
shaped scope (ExprTree.only a glob) = shaped scope a >>= λ found. needed ShapeTree.names found
