use Rattle.std.proofs.Common.{◌∙◌, ap, map}
use Rattle.fx_expr.specs.Bindings.{bound}
use Rattle.fx_expr.specs.Views.{entry_tree}
use Rattle.fx_expr.proofs.Bound.{value_at}
use Rattle.fx_expr.proofs.env.Env.get.Goals as goal

pub returns-in-Some : goal.returns-in-Some
returns-in-Some c =
    let word = c.args.word.now in
    value_at c.as_slice-bindings.result.now word c.in-Some.i c.index-bindings-i.result c.in-Some.ensures.place
    ∙ ap (λ l. bound (map entry_tree l) word) c.as_slice-bindings.ensures.value
    ∙ ap (λ l. bound l word) c.self.view_is
