use Rattle.fx_steps.proofs.Prelude.{◌≡◌, Result, Ok, Err, refl, subst, sym, option_copied, has_least, eval_of, least, go_into, SpecTree, Halt, Entry, EntersAt, set_answer, as_entry, chosen_entry, inner_entry, err_of}
use Rattle.fx_steps.proofs.Entering.{as_err, chosen_enters}
use Rattle.fx_steps.proofs.moving.least.Goals as goal

pub returns-in_err-chosen-clause-enters : goal.returns-in_err-chosen-clause-enters
returns-in_err-chosen-clause-enters g c =
    λ p part.
    let why = c.in_err-chosen.field-0.0 in
    let spec = SpecTree.comp part c.args.name.now c.args.set.now in
    let set : set_answer (eval_of c.args.env.now c.args.set.now) ≡ Ok c.in_ok-set.set = cc (c.in_ok-set.ensures.set) in
    subst (λ (r : Result Entry Halt). EntersAt (λ a. go_into a p c.args.env.now spec) p c.args.env.now spec c.args.session.now.steps c.set_again.new.session.steps r)
    (sym (err_of (as_entry (inner_entry p) c.from_residual-in_err-chosen.result) why (as_err (inner_entry p) c.from_residual-in_err-chosen.result why c.from_residual-in_err-chosen.ensures.1)))
    (chosen_enters p c.args.env.now (λ a. go_into a p c.args.env.now spec) spec part c.args.name.now c.args.set.now refl least (λ a. refl) c.args.session.now.steps c.set_again.new.session.steps c.in_ok-set.ensures.most c.in_ok-set.set set (has_least c.in_ok-set.set) (option_copied c.first.result) c.first.ensures (Err why) (c.in_err-chosen.ensures p))

pub returns-clause-enters : goal.returns-clause-enters
returns-clause-enters g c =
    λ p part.
    let spec = SpecTree.comp part c.args.name.now c.args.set.now in
    let set : set_answer (eval_of c.args.env.now c.args.set.now) ≡ Ok c.in_ok-set.set = cc (c.in_ok-set.ensures.set) in
    chosen_enters p c.args.env.now (λ a. go_into a p c.args.env.now spec) spec part c.args.name.now c.args.set.now refl least (λ a. refl) c.args.session.now.steps c.set_again.new.session.steps c.in_ok-set.ensures.most c.in_ok-set.set set (has_least c.in_ok-set.set) (option_copied c.first.result) c.first.ensures (Ok (chosen_entry p c.in_ok-chosen.field-0)) (c.in_ok-chosen.ensures p)
