use Rattle.std.proofs.Common.{[], ◌∷◌, ◌++◌, Some, ap, ◌∙◌}
use Rattle.fx_turn.proofs.Moves.{opens}
use Rattle.fx_turn.proofs.steps.open.Goals as goal

pub new-requires : goal.new-requires
new-requires g c = rw (c.in_default.ensures.items ∙ ap (λ l. l ++ Some c.args.kept ∷ []) c.new-slots.ensures.items, c.of-about.ensures) (opens _ _ _ c.args.kept c.requires)
