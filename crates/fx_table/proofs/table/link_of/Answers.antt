use Rattle.fx_table.proofs.Prelude.{sym, ap, ◌∙◌, read_link, unspelled, read_of, link_by}
use Rattle.fx_table.proofs.table.link_of.Goals as goal

pub returns-in_default : goal.returns-in_default
returns-in_default c = ap (λ p. link_by p (read_of read_link (unspelled c.args.text.now))) (sym c.in_default.is ∙ c.in_ok-path.ensures)

pub returns-in_default-2 : goal.returns-in_default-2
returns-in_default-2 c = λ i. link_by ((sym c.in-Some.is ∙ c.in_ok-path.ensures) i) ((sym c.in_default-2.is ∙ c.in_ok-text.ensures) i)

pub returns : goal.returns
returns c = λ i. link_by ((sym c.in-Some.is ∙ c.in_ok-path.ensures) i) ((sym c.in-Some-2.is ∙ c.in_ok-text.ensures) i)
