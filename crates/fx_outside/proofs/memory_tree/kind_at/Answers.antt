use Rattle.std.proofs.Common.{sym, ◌∙◌, ap, option_map, Some}
use Rattle.fx_outside.proofs.Trees.{get_tree}
use Rattle.fx_outside.proofs.memory_tree.kind_at.Goals as goal

pub returns-in-None : goal.returns-in-None
returns-in-None c = ap (option_map (λ e. e.kind)) (c.in-None.ensures.value ∙ sym (get_tree c.args.tree.now.entries c.args.names.now))

pub returns-in-Some : goal.returns-in-Some
returns-in-Some c = ap Some c.kind.ensures ∙ ap (option_map (λ e. e.kind)) (c.in-Some.ensures.value ∙ sym (get_tree c.args.tree.now.entries c.args.names.now))
