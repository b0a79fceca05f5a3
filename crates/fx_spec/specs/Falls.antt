-- The commands inside a command are smaller than it.
use Rattle.std.specs.Prelude.{◌≤◌, max, List, [], ◌∷◌, map}
use Rattle.std.proofs.Common.{arith}
use denote.Param.Weighed.{most}
use Rattle.fx_spec.specs.declared.command.Commands.TheDeep.{deep-Command}
use Rattle.fx_spec.specs.declared.command.Command.{Command}
use Rattle.fx_spec.specs.CommandTree.{commands_size, count}
use Rattle.fx_spec.specs.Views.{command_tree}

deep-below : (c : Command) → deep-Command c ≤ count (command_tree c)
deep-below (Command.Branch e a b) = omega arith
deep-below (Command.Each x e a) = omega arith
deep-below c = omega arith

pub falls : (cs : List Command) → max (most deep-Command cs) 0 ≤ commands_size (map command_tree cs)
falls [] = omega arith
falls (c ∷ cs) = omega (arith, deep-below c, falls cs)
