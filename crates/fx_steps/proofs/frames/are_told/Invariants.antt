use Rattle.fx_steps.proofs.Prelude.{◌≡◌, take, true, are_told, turned}
use Rattle.fx_steps.proofs.frames.are_told.Given as goal

abbrev pub invariant-loop-frame : goal.invariant-loop-frame
invariant-loop-frame l = are_told l.reads (turned (λ f. f) (take l.frame-index l.frames)) ≡ true
