use Rattle.fx_table.proofs.Prelude.{◌≡◌, ◌∷◌, IfOk, ap, sym, subst, ◌∙◌, read_parts}
use Rattle.fx_table.proofs.lines.read_line.Goals as goal

pub returns-in_default : goal.returns-in_default
returns-in_default c = ap read_parts (sym c.in_default.ensures)

pub returns-in-Some-split_once : goal.returns-in-Some-split_once
returns-in-Some-split_once c = subst (λ ps. IfOk c.read_link.result (λ said. said ≡ read_parts ps)) (sym (c.in-Some.ensures.parts ∙ ap (λ ps. c.in-Some.path.now ∷ ps) c.in-Some-split_once.ensures.parts)) c.read_link.ensures

pub returns-in-None : goal.returns-in-None
returns-in-None c = subst (λ ps. IfOk c.read_flag.result (λ said. said ≡ read_parts ps)) (sym (c.in-Some.ensures.parts ∙ ap (λ ps. c.in-Some.path.now ∷ ps) c.in-None.ensures)) c.read_flag.ensures
