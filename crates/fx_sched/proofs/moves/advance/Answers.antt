use Rattle.fx_sched.proofs.Shells.{moves_from}
use Rattle.fx_sched.proofs.moves.advance.Goals as goal

pub returns-then-shell-len-clause-ok : goal.returns-then-shell-len-clause-ok
returns-then-shell-len-clause-ok c = moves_from c.args.board.now c.args.board.now c.args.number c.args.shell.now c.make_ready.new.shell c.look.new.shell c.look.result c.make_ready.ensures.looks c.look.ensures.ok

pub returns-else-shell-len-clause-ok : goal.returns-else-shell-len-clause-ok
returns-else-shell-len-clause-ok c = moves_from c.args.board.now c.settle.new.board c.args.number c.args.shell.now c.make_ready.new.shell c.settle.new.shell c.settle.result c.make_ready.ensures.looks c.settle.ensures.ok
