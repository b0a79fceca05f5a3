use Rattle.std.proofs.Common.{◌++◌, ap, ◌∙◌}
use Rattle.std.proofs.lemmas.Result.{on_ok_weaker}
use Rattle.fx_base.proofs.Chunking.{cut}
use Rattle.fx_base.proofs.table.Table.add_cut.Goals as goal

pub returns : goal.returns
returns g c =
    let back = c.in_ok-back.back.items in
    on_ok_weaker c.add-3.result (λ e. e ∙ ap (λ ys. ys ++ back) c.in_ok-add.ensures.ok ∙ cut c.args.self.now c.args.items.items _ back 128 c.in_ok-back.ensures.items c.in_ok-back.ensures.tail) c.add-3.ensures.ok
