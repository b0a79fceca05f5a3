use Rattle.std.proofs.Common.{[], refl, sym, subst}
use Rattle.fx_expr.specs.ShapeTree.{ShapeTree}
use Rattle.fx_expr.specs.Shapes.{IsWellShaped}
use Rattle.fx_large_commands.specs.Summary.{int_of}
use Rattle.fx_large_commands.proofs.counting.integer_by.Goals as goal

pub eval-requires : goal.eval-requires
eval-requires g c =
    subst (λ e. IsWellShaped c.new-env.result e) (sym c.in_ok-expr.ensures)
    (subst (λ env. IsWellShaped env (int_of c.args.text)) (sym c.new-env.ensures) (record { shapes = []; shape = ShapeTree.int; bindings = tt; expression = (ShapeTree.str, (refl, refl), refl) }))
