use Rattle.fx_zip.proofs.Prelude.{least_above, option_copied, drop, path_of, has_above}
use Rattle.fx_steps.specs.Spots.{as_entry, chosen_entry}
use Rattle.fx_zip.proofs.Beside.{besides, none_besides}
use Rattle.fx_zip.proofs.zip.Zip.greater.Goals as goal

pub returns-in-Some : goal.returns-in-Some
returns-in-Some c known own stands =
    besides known own c.args.self.now stands least_above c.in-Some.text.now c.in-Some.set.now (has_above c.in-Some.text.now c.in-Some.set.now) (option_copied c.above.result) c.above.ensures (as_entry (chosen_entry (path_of (drop 1 c.args.self.now.frames))) c.other.result) c.in-Some.ensures.0 c.in-Some.ensures.1 c.other.ensures

pub returns-in-None : goal.returns-in-None
returns-in-None c known own stands = none_besides known own c.args.self.now stands least_above c.in-None.ensures
