-- Paths by their texts.
use Rattle.std.specs.Prelude.{◌≡◌, ℕ, List}
use Rattle.fx_store.specs.Names.{IsPath, path_text}

-- paths that have the same text are the same
abbrev pub TextsTellPaths : Type 0
TextsTellPaths = (p q : List (List ℕ)) → IsPath p → IsPath q → path_text p ≡ path_text q → p ≡ q
