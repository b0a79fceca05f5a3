use Rattle.fx_steps.proofs.Prelude.{◌≡◌, Ok, ap, ◌∙◌, option_copied, eval_of, has_text, go_to, where_true, part_of, set_answer, as_entry, chosen_entry}
use Rattle.fx_steps.proofs.Consulting.{has_asked}
use Rattle.fx_steps.proofs.Entering.{chosen_enters, kept_set}
use Rattle.fx_steps.proofs.moving.to.Goals as goal

pub returns-in_ok-set-in-Some-clause-enters : goal.returns-in_ok-set-in-Some-clause-enters
returns-in_ok-set-in-Some-clause-enters g c =
    λ p.
    let set : set_answer (eval_of c.args.env.now c.in-Some.set.now) ≡ Ok c.in_ok-set-in-Some.set = cc (c.in_ok-set-in-Some.ensures.set) in
    chosen_enters p c.args.env.now (λ a. go_to c.args.text.now a p c.args.env.now (part_of c.args.spec.now)) (part_of c.args.spec.now) (part_of c.in-Some.field-0-0) c.in-Some.name.now c.in-Some.set.now c.in-Some.ensures.form (λ set. where_true (has_text c.args.text.now set) c.args.text.now)
    (λ a. ap (λ s. go_to c.args.text.now a p c.args.env.now s) c.in-Some.ensures.form) c.args.session.now.steps c.set_again.new.session.steps c.in_ok-set-in-Some.ensures.most c.in_ok-set-in-Some.set set (has_asked c.args.text.now c.in_ok-set-in-Some.set) (option_copied c.this_if-choice.result) (c.this_if-choice.ensures ∙ ap (λ b. where_true b c.args.text.now) c.has.ensures) (as_entry (chosen_entry p) c.chosen.result) (c.chosen.ensures p)

pub set_again-requires-clause-kept : goal.set_again-requires-clause-kept
set_again-requires-clause-kept g c = kept_set (option_copied c.args.kept) c.args.env.now (part_of c.args.spec.now) (part_of c.in-Some.field-0-0) c.in-Some.name.now c.in-Some.set.now c.in-Some.ensures.form c.requires.kept
