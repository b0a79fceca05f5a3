use Rattle.std.proofs.Common.{◌<◌, length, sym, arith, append_assoc}
use Rattle.fx_report.specs.Print.{comma, quote}
use Rattle.fx_base.proofs.Lists.{not_past}
use Rattle.fx_report.proofs.Steps.{join_by_next}
use Rattle.fx_report.proofs.values.add_names.Goals as goal
use Rattle.fx_report.proofs.values.add_names.Goals.{in-Some+in_ok-add_name, in_default}

pub loop-i-preserved : goal.loop-i-preserved
loop-i-preserved c =
    elim c.match-at.branch [
      | in-Some+in_ok-add_name w ↦ let next = join_by_next quote comma c.args.names.now c.loop-i.i _ (sym w.in-Some.ensures) in rw (w.out-is, next, w.in_ok-add_name.ensures, c.loop-i.invariant) (simp append_assoc)
      | in_default w ↦ let inside : c.loop-i.i < length c.args.names.now = omega arith in absurd (not_past _ _ inside (sym w.in_default.ensures))
    ]
