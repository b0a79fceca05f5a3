use Rattle.fx_spec.specs.Bases.{base_tree}
use Rattle.fx_watch.proofs.run.run_watched.Given as goal

abbrev pub ghosts-run_by : goal.ghosts-run_by
ghosts-run_by a = record { base = base_tree a.base.value }
