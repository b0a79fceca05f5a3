-- What a walk over a filestore has entered.
use Rattle.std.specs.Prelude.{List}
use Rattle.fx_table.specs.declared.descent.Descent.{Descent}
use Rattle.fx_table.specs.declared.descent.Level.{Level}

-- the directories that it has entered, each with the name that comes next
abbrev pub levels_of : Descent → List Level
levels_of descent = descent.levels.items
