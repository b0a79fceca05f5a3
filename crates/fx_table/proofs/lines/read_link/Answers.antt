use Rattle.fx_table.proofs.Prelude.{◌≡◌, ◌∷◌, IfOk, sym, subst, read_parts}
use Rattle.fx_table.proofs.Lining.{many_parts}
use Rattle.fx_table.proofs.lines.read_link.Goals as goal

pub returns-in-Some : goal.returns-in-Some
returns-in-Some c = many_parts c.args.path.now c.args.arrow.now _ c.args.text.now _ c.in-Some.ensures

pub returns-in-None : goal.returns-in-None
returns-in-None c = subst (λ ps. IfOk c.read_arrow.result (λ said. said ≡ read_parts (c.args.path.now ∷ c.args.arrow.now ∷ ps))) (sym c.in-None.ensures) c.read_arrow.ensures
