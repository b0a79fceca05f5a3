use Rattle.fx_folder.proofs.Prelude.{◌++◌, IfSome, ap, subst, ◌∙◌, entries, parts, Lists, items_of}
use Rattle.fx_folder.proofs.walking.enter_folder.Goals as goal

pub returns-clause-todo : goal.returns-clause-todo
returns-clause-todo g c = (
  c.in_ok-names.names,
  c.in_ok-add_items.ensures ∙ ap (λ p. c.args.todo.now.items ++ items_of p (entries c.in_ok-names.names)) c.in_ok-parent.ensures,
  subst (λ p. IfSome (g.H.Host.view c.args.host.now).told (λ t. Lists t (parts p) c.in_ok-names.names)) c.in_ok-place.ensures c.in_ok-names.ensures.answer,
)
