use Rattle.std.proofs.Common.{◌≡◌, ◌-◌, ◌≤◌, length}
use Rattle.std.specs.List.{sum_by}
use Rattle.fx_spec.specs.Bases.{base_tree}
use Rattle.fx_crew.specs.Working.{IsWorker}
use Rattle.fx_crew.proofs.attempting.work.Given as goal

abbrev pub invariant-loop-worker : goal.invariant-loop-worker
invariant-loop-worker g l = record {
  worker : IsWorker g.D.Desk.view (base_tree l.base.value) l.shell l.worker;
  table : g.D.Desk.table l.worker.desk ≡ g.D.Desk.table l.initial.worker.desk;
  few : l.worker.next ≤ l.count;
}

abbrev pub decreases-loop-worker : goal.decreases-loop-worker
decreases-loop-worker g l = sum_by length (base_tree l.base.value).plan - length (g.D.Desk.view l.worker.desk).seen
