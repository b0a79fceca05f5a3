use Rattle.fx_table.proofs.Prelude.{ap, sym, subst, ◌∙◌, Some}
use Rattle.std.specs.Str.{IsUtf8}
use Rattle.fx_table.proofs.PlaceTexts.{name_is_text, last_is}
use Rattle.fx_table.proofs.parent.last_name.Goals as goal

pub unreachable-requires-in-Err : goal.unreachable-requires-in-Err
unreachable-requires-in-Err c = c.in-Err.ensures.cases.0 (subst IsUtf8 (sym c.as_slice.ensures.bytes) (name_is_text c.in-Some.name.now c.as_slice.ensures.name))

pub returns-clause-name : goal.returns-clause-name
returns-clause-name c parent at = last_is parent c.args.path.now c.in-Ok.text.now at (ap (λ n. Some n) (c.in-Ok.ensures.cases.0 ∙ c.as_slice.ensures.bytes) ∙ c.in-Some.ensures.name)
