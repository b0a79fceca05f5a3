use Rattle.std.proofs.Common.{◌≡◌, codes, IfOk, subst}
use Rattle.fx_table.proofs.Lining.{agrees, differs, no_arrow, arrow_said}
use Rattle.fx_table.proofs.lines.read_arrow.Goals as goal

pub returns-then-ne : goal.returns-then-ne
returns-then-ne c = no_arrow c.args.path.now c.args.arrow.now c.args.text.now (differs _ c.as_slice.result.now (codes "->") c.ne.result c.as_slice.ensures c.ne.ensures c.if-ne.true)

pub returns : goal.returns
returns c = subst (λ o. IfOk c.link_of.result (λ said. said ≡ o)) (arrow_said c.args.path.now c.args.arrow.now c.args.text.now (agrees _ c.as_slice.result.now (codes "->") c.ne.result c.as_slice.ensures c.ne.ensures c.if-ne.false)) c.link_of.ensures
