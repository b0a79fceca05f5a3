use Rattle.std.proofs.Common.{sym, ap}
use Rattle.std.specs.Option.{unwrap_or}
use Rattle.fx_expr.specs.Views.{tree_of}
use Rattle.fx_expr.proofs.Bound.{assigned_none, value_set}
use Rattle.fx_expr.proofs.env.Env.set.Goals as goal

pub returns-in-Some : goal.returns-in-Some
returns-in-Some c =
    let place = rw c.as_slice.ensures.value at c.in-Some.ensures.place in
    rw (← c.self.view_is) (value_set c.self.inside.bindings.items c.put.new.bindings.items c.args.word.now c.in-Some.i c.args.value place c.put.ensures)

pub returns-in-None : goal.returns-in-None
returns-in-None c =
    let vars = c.args.self.now in
    let none = rw (c.as_slice.ensures.value, c.self.view_is) at c.in-None.ensures.place in
    sym (ap (λ o. unwrap_or o vars) (assigned_none c.args.word.now (tree_of c.args.value) vars none))
