use Rattle.std.proofs.Common.{append_assoc}
use Rattle.fx_large_commands.specs.Summary.{lines}
use Rattle.fx_large_commands.proofs.lines.lines.Goals as goal

pub returns : goal.returns
unfolding lines
returns c = rw (c.from_vec.ensures, c.in_ok-push.ensures.items, c.in_ok-add_logged.ensures, c.in_ok-add_counted.ensures, c.in_ok-add_transactions.ensures, c.new-out.ensures.items) (simp append_assoc)
