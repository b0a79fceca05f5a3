use Rattle.fx_table.proofs.Prelude.{sym, ap, ◌∙◌, flag_by}
use Rattle.fx_table.proofs.table.flag_of.Goals as goal

pub returns-in_default : goal.returns-in_default
returns-in_default c = ap flag_by (sym c.in_default.is ∙ c.in_ok-path.ensures)

pub returns : goal.returns
returns c = ap flag_by (sym c.in-Some.is ∙ c.in_ok-path.ensures)
