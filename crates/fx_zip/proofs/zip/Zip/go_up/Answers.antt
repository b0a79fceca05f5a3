use Rattle.fx_zip.proofs.Prelude.{sym, subst, IsFresh, IsSettled}
use Rattle.fx_zip.proofs.Standing.{fresh_left, left_kept}
use Rattle.fx_zip.proofs.zip.Zip.go_up.Goals as goal

pub returns-in-Some-Down-clause-fresh : goal.returns-in-Some-Down-clause-fresh
returns-in-Some-Down-clause-fresh c known own h = subst (IsFresh known own) (sym c.leave.ensures) (fresh_left known own c.args.self.now h)

pub returns-in-Some-Down-clause-settled : goal.returns-in-Some-Down-clause-settled
returns-in-Some-Down-clause-settled c h = subst IsSettled (sym c.leave.ensures) (left_kept c.args.self.now h)
