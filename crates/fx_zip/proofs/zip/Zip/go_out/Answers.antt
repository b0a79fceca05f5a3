use Rattle.fx_zip.proofs.Prelude.{sym, subst, IsFresh, IsSettled}
use Rattle.fx_zip.proofs.Standing.{fresh_left, left_kept}
use Rattle.fx_zip.proofs.zip.Zip.go_out.Goals as goal

pub returns-in-Some-First-clause-fresh : goal.returns-in-Some-First-clause-fresh
returns-in-Some-First-clause-fresh c known own h = subst (IsFresh known own) (sym c.leave.ensures) (fresh_left known own c.args.self.now h)

pub returns-in-Some-First-clause-settled : goal.returns-in-Some-First-clause-settled
returns-in-Some-First-clause-settled c h = subst IsSettled (sym c.leave.ensures) (left_kept c.args.self.now h)
