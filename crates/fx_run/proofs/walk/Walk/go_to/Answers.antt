use Rattle.std.proofs.Common.{refl, sym, ap, ◌∙◌}
use Rattle.fx_expr.specs.Eval.{eval_of, text_in}
use Rattle.fx_expr.specs.Views.{expr_tree, tree_of}
use Rattle.fx_spec.specs.Move as move
use Rattle.fx_spec.specs.Move.{evaluated, unrefused}
use Rattle.fx_spec.specs.Transaction.{moving, from_place}
use Rattle.fx_run.proofs.Taken.{acts_same, acts_on, fresh_on, moves_acts, unevaluated_acts}
use Rattle.fx_run.proofs.walk.Walk.go_to.Goals as goal

pub returns-in_err-value : goal.returns-in_err-value
returns-in_err-value g c = record {
  acts =
      unevaluated_acts c.requires.fresh (evaluated (eval_of c.args.variables.now (expr_tree c.args.text.now))) (λ t. moving (unrefused (λ v. from_place c.args.self.now.zip.root c.args.self.now.zip.address (move.go_to (text_in v))) t)) (λ f. refl) tree_of c.in_err-value.field-0.0
      c.in_err-value.ensures.tick c.from_residual.ensures.1 c.in_err-value.ensures.value;
}

pub go_to-requires : goal.go_to-requires
go_to-requires g c = record { fresh = fresh_on g.R.Reader.meaning c.args.self.now.session c.args.self.now.zip c.in_ok-value.ensures.tick c.requires.fresh }

pub returns : goal.returns
returns g c = record {
  acts =
      acts_on c.in_ok-value.ensures.tick
      (acts_same (moving (from_place c.args.self.now.zip.root c.args.self.now.zip.address (move.go_to c.into_text-text.result)))
      (moving (unrefused (λ v. from_place c.args.self.now.zip.root c.args.self.now.zip.address (move.go_to (text_in v))) (evaluated (eval_of c.args.variables.now (expr_tree c.args.text.now)))))
      (ap (λ t. moving (unrefused (λ v. from_place c.args.self.now.zip.root c.args.self.now.zip.address (move.go_to (text_in v))) t)) c.in_ok-value.ensures.value ∙ ap (λ t. moving (from_place c.args.self.now.zip.root c.args.self.now.zip.address (move.go_to t))) (sym c.into_text-text.ensures))
      (moves_acts c.go_to.ensures.moves));
}
