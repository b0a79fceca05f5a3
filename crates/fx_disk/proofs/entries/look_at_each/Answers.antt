use Rattle.std.proofs.Common.{rules}
use Rattle.std.proofs.lemmas.Grind.{common_steps}
use Rattle.fx_disk.proofs.Held.{all_with}
use Rattle.fx_disk.specs.Held.{IsHeldIn}
use Rattle.fx_disk.proofs.entries.look_at_each.Goals as goal

pub loop-name-preserved : goal.loop-name-preserved
loop-name-preserved g c = (search (c.in_ok-push.ensures.len, c.in-Some.ensures, c.loop-name.invariant, rules), search (c.in_ok-push.ensures.items, c.in-Some.ensures.steps, c.loop-name.invariant.1, c.in_ok-look.ensures.name, rules, common_steps), all_with (IsHeldIn c.args.folder.now) _ _ _ c.in_ok-push.ensures.items c.loop-name.invariant.2 c.in_ok-look.ensures.held)
