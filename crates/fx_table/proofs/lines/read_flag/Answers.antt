use Rattle.std.proofs.Common.{◌≡◌, codes, IfOk, subst}
use Rattle.fx_table.proofs.Lining.{agrees, differs, no_star, star_said}
use Rattle.fx_table.proofs.lines.read_flag.Goals as goal

pub returns-then-ne : goal.returns-then-ne
returns-then-ne c = no_star c.args.path.now c.args.star.now (differs _ c.as_slice.result.now (codes "*") c.ne.result c.as_slice.ensures c.ne.ensures c.if-ne.true)

pub returns : goal.returns
returns c = subst (λ o. IfOk c.flag_of.result (λ said. said ≡ o)) (star_said c.args.path.now c.args.star.now (agrees _ c.as_slice.result.now (codes "*") c.ne.result c.as_slice.ensures c.ne.ensures c.if-ne.false)) c.flag_of.ensures
