use Rattle.fx_zip.proofs.Prelude.{greatest_below, option_copied, drop, path_of, has_below}
use Rattle.fx_steps.specs.Spots.{as_entry, chosen_entry}
use Rattle.fx_zip.proofs.Beside.{besides, none_besides}
use Rattle.fx_zip.proofs.zip.Zip.smaller.Goals as goal

pub returns-in-Some : goal.returns-in-Some
returns-in-Some c known own stands =
    besides known own c.args.self.now stands greatest_below c.in-Some.text.now c.in-Some.set.now (has_below c.in-Some.text.now c.in-Some.set.now) (option_copied c.below.result) c.below.ensures (as_entry (chosen_entry (path_of (drop 1 c.args.self.now.frames))) c.other.result) c.in-Some.ensures.0 c.in-Some.ensures.1 c.other.ensures

pub returns-in-None : goal.returns-in-None
returns-in-None c known own stands = none_besides known own c.args.self.now stands greatest_below c.in-None.ensures
