use Rattle.std.proofs.Common.{refl, arith}
use Rattle.fx_spec.specs.Bases.{base_tree}
use Rattle.fx_crew.proofs.Steps.{begun}
use Rattle.fx_crew.proofs.attempting.work.Goals as goal

pub loop-worker-init : goal.loop-worker-init
loop-worker-init g c = record {
  worker = begun g.D.Desk.view g.met.D.Desk.counted (base_tree c.args.base.now.value) c.shell-shell.result _ c.shell-shell.ensures c.requires.based c.requires.none refl c.new.ensures.items;
  table = refl;
  few = omega arith;
}
