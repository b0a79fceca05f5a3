use Rattle.fx_view.specs.Net.{IsNetOf}
use Rattle.fx_view.proofs.overlay.net.Given as goal

abbrev pub invariant-loop-path : goal.invariant-loop-path
invariant-loop-path l = IsNetOf l.reads l.yielded l.changes.items
