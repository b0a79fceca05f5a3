use Rattle.std.proofs.Common.{◌∙◌, ap, sym}
use Rattle.fx_check.proofs.Rests.{is_below, among}
use Rattle.fx_check.proofs.text.is_defined.Goals as goal

pub returns-in-Some : goal.returns-in-Some
returns-in-Some c = ap (is_below c.args.count) c.in-Some.ensures ∙ sym (among c.args.name.now c.args.count c.args.defs.now)

pub returns-in-None : goal.returns-in-None
returns-in-None c = ap (is_below c.args.count) c.in-None.ensures ∙ sym (among c.args.name.now c.args.count c.args.defs.now)
