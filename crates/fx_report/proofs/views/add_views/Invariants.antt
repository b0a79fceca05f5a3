use Rattle.std.proofs.Common.{◌≡◌, ◌++◌, drop}
use Rattle.fx_report.specs.Views.{view_texts}
use Rattle.fx_report.proofs.views.add_views.Given as goal

abbrev pub invariant-loop-i : goal.invariant-loop-i
invariant-loop-i l = l.out.items ++ view_texts l.i (drop l.i l.views) ≡ l.fn.out.items ++ view_texts 0 l.views
