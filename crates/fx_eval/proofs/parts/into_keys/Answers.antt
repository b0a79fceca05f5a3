use Rattle.std.proofs.Common.{◌∙◌, sym, ap, map}
use Rattle.fx_expr.specs.Eval.{entries_in}
use Rattle.fx_expr.specs.Views.{tree_of}
use Rattle.fx_expr.proofs.Trees.{table_keys}
use Rattle.fx_eval.proofs.parts.into_keys.Goals as goal

pub returns-in-Table : goal.returns-in-Table
returns-in-Table c = c.into_keys.ensures ∙ sym (table_keys c.in-Table.rows) ∙ ap (λ v. map (λ e. e.0) (entries_in (tree_of v))) (sym c.in-Table.is)
