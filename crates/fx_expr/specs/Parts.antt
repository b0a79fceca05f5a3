-- The part of a value of one kind, where the value is of that kind.
use Rattle.std.specs.Prelude.{ℕ, Bool, List, Option, Some, None}
use Rattle.fx_expr.specs.Tree.{Tree}

abbrev pub text_of : Tree → Option (List ℕ)
text_of (Tree.str text) = Some text
text_of _ = None

abbrev pub truth_of : Tree → Option Bool
truth_of (Tree.bool b) = Some b
truth_of _ = None

abbrev pub names_of : Tree → Option (List (List ℕ))
names_of (Tree.names names) = Some names
names_of _ = None
