use Rattle.std.proofs.Common.{◌≡◌, Some, List, ap, subst, get_or, length, arith}
use Rattle.std.specs.Prelude.{slice_get}
use Rattle.fx_base.proofs.Lists.{at_index}
use Rattle.fx_store.specs.declared.changes.Change.{Change}
use Rattle.fx_edit.proofs.Looks.{looking_first, looking_next, looking_stops, looking_ends}
use Rattle.fx_edit.proofs.edits.Edits.look_at_rest.Goals as goal

pub loop-i-init : goal.loop-i-init
loop-i-init g c = looking_first

pub loop-i-preserved : goal.loop-i-preserved
loop-i-preserved g c =
    let here : slice_get c.args.self.now c.loop-i.i ≡ Some c.index.result.now = at_index c.args.self.now c.loop-i.i c.index.result.now (omega (arith, c.loop-i-test.true, c.len-i-end.ensures, ap (λ (cs : List Change). length cs) c.self.view_is)) (subst (λ cs. c.index.result.now ≡ get_or cs c.loop-i.i c.index.result.now) c.self.view_is c.index.ensures) in
    looking_next c.loop-i.invariant here c.in_ok-look.ensures

pub returns-in_err-look : goal.returns-in_err-look
returns-in_err-look g c =
    record {
      follows =
          let here : slice_get c.args.self.now c.loop-i.i ≡ Some c.index.result.now = at_index c.args.self.now c.loop-i.i c.index.result.now (omega (arith, c.loop-i-test.true, c.len-i-end.ensures, ap (λ (cs : List Change). length cs) c.self.view_is)) (subst (λ cs. c.index.result.now ≡ get_or cs c.loop-i.i c.index.result.now) c.self.view_is c.index.ensures) in
          looking_stops c.loop-i.invariant c.from_residual.result here c.from_residual.ensures.1 c.in_err-look.ensures;
    }

pub returns : goal.returns
returns g c = record { follows = looking_ends c.loop-i.invariant (omega (arith, c.loop-i-test.false, c.len-i-end.ensures, ap (λ (cs : List Change). length cs) c.self.view_is)) }
