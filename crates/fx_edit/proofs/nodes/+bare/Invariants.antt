use Rattle.fx_spec.specs.Parts.{part_of}
use Rattle.fx_session.proofs.Sizes.{size}
use Rattle.fx_edit.proofs.nodes.+bare.Given as goal

abbrev pub decreases-bare : goal.decreases-bare
decreases-bare l = size (part_of l.form.now)
