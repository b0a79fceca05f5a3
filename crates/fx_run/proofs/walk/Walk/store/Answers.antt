use Rattle.std.proofs.Common.{refl, ap}
use Rattle.fx_expr.specs.Eval.{eval_of}
use Rattle.fx_expr.specs.Views.{expr_tree, tree_of}
use Rattle.fx_spec.specs.Edit.{store_at}
use Rattle.fx_spec.specs.Move.{at_place, evaluated, unrefused}
use Rattle.fx_spec.specs.Transaction.{editing}
use Rattle.fx_run.proofs.Taken.{unevaluated_acts, acts_on, acts_same, fresh_on}
use Rattle.fx_run.proofs.walk.Walk.store.Goals as goal

pub returns-in_err-value : goal.returns-in_err-value
returns-in_err-value g c = record {
  acts =
      unevaluated_acts c.requires.fresh (evaluated (eval_of c.args.variables.now (expr_tree c.args.value.now))) (λ t. editing (unrefused (λ v. at_place c.args.self.now.zip.root c.args.self.now.zip.address (store_at v)) t)) (λ f. refl) tree_of c.in_err-value.field-0.0
      c.in_err-value.ensures.tick c.from_residual.ensures.1 c.in_err-value.ensures.value;
}

pub store_value-requires : goal.store_value-requires
store_value-requires g c = record { fresh = fresh_on g.R.Reader.meaning c.args.self.now.session c.args.self.now.zip c.in_ok-value.ensures.tick c.requires.fresh }

pub returns : goal.returns
returns g c = record {
  acts =
      acts_on c.in_ok-value.ensures.tick
      (acts_same (editing (at_place c.args.self.now.zip.root c.args.self.now.zip.address (store_at (tree_of c.in_ok-value.value))))
      (editing (unrefused (λ v. at_place c.args.self.now.zip.root c.args.self.now.zip.address (store_at v)) (evaluated (eval_of c.args.variables.now (expr_tree c.args.value.now)))))
      (ap (λ t. editing (unrefused (λ v. at_place c.args.self.now.zip.root c.args.self.now.zip.address (store_at v)) t)) c.in_ok-value.ensures.value) c.store_value.ensures.acts);
}
