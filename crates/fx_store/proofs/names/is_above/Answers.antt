use Rattle.std.proofs.Common.{sym, ap, ◌∙◌}
use Rattle.std.specs.Ordering.{is_lt}
use Rattle.fx_store.specs.Names.{name_cmp}
use Rattle.fx_store.proofs.Ascending.{above_last, above_none}
use Rattle.fx_store.proofs.names.is_above.Goals as goal

pub returns-in-Some : goal.returns-in-Some
returns-in-Some c = c.is_lt.ensures ∙ ap is_lt c.cmp.ensures ∙ sym (above_last name_cmp c.args.names.now _ _ (sym c.in-Some.ensures))

pub returns-in-None : goal.returns-in-None
returns-in-None c = sym (above_none name_cmp c.args.names.now c.args.name.now (sym c.in-None.ensures))
