use Rattle.std.proofs.Common.{◌≡◌, ◌<◌, true, nat_lt, sym, arith}
use Rattle.std.proofs.lemmas.Bool.Decides.{nat_tests}
use Rattle.fx_sched.proofs.Shells.{ready_never, ready_before}
use Rattle.fx_sched.proofs.moves.is_ready.Goals as goal

pub returns-in-None : goal.returns-in-None
returns-in-None c = λ _.
    ready_never c.args.board.now c.args.number c.args.shell.now c.in-Some.plan (c.in-Some-at.path.now, c.in-Some-at.field-0-1.now) c.requires c.in-Some.is (sym c.in-Some-at.ensures.read) c.in-None.ensures

pub returns-in-Some-last_change : goal.returns-in-Some-last_change
returns-in-Some-last_change c = λ less.
    let t : nat_lt c.in-Some-last_change.entry c.in-Some.plan.made ≡ true = less in
    let before : c.in-Some-last_change.entry < c.in-Some.plan.made = grind (arith, nat_tests, t) in
    ready_before c.args.board.now c.args.number c.args.shell.now c.in-Some.plan (c.in-Some-at.path.now, c.in-Some-at.field-0-1.now) c.in-Some-last_change.entry c.requires c.in-Some.is (sym c.in-Some-at.ensures.read) c.in-Some-last_change.ensures before
