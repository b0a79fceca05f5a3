use Rattle.fx_zip.proofs.Prelude.{ap, ◌∙◌, drop, least_above, beside, entered, left, path_of, Elem, ZipTree}
use Rattle.fx_steps.specs.Spots.{chosen_entry, chosen_spot}
use Rattle.fx_zip.proofs.Beside.{replaced, replace_memory, none_replaced, left_path}
use Rattle.fx_zip.proofs.zip.Zip.to_greater.Goals as goal

pub returns-in_err-chosen : goal.returns-in_err-chosen
returns-in_err-chosen c known own stands =
    none_replaced known own c.args.self.now stands (beside c.args.self.now.root least_above c.args.self.now.address) c.in_err-chosen.field-0.0 c.from_residual.result c.from_residual.ensures.1 (c.in_err-chosen.ensures known own stands)

pub returns-in_err-enter_chosen : goal.returns-in_err-enter_chosen
returns-in_err-enter_chosen c known own stands =
    replace_memory known own c.args.self.now stands (beside c.args.self.now.root least_above c.args.self.now.address) c.enter_chosen.new.self c.from_residual-in_err-enter_chosen.result (c.in_err-enter_chosen.ensures.root ∙ ap (λ (z : ZipTree). z.root) c.leave.ensures) c.from_residual-in_err-enter_chosen.ensures.1

pub returns : goal.returns
returns c known own stands =
    let z = c.args.self.now in
    let chosen = c.in_ok-chosen.chosen in
    replaced known own z stands (beside z.root least_above z.address) (chosen_entry (path_of (drop 1 z.frames)) chosen) c.enter_chosen.new.self (c.in_ok-chosen.ensures known own stands)
    (c.in_ok-enter_chosen.ensures.entered
    ∙ ap (λ w. entered w (Elem chosen.text) (chosen_spot (path_of w.frames) chosen)) c.leave.ensures
    ∙ ap (λ q. entered (left z) (Elem chosen.text) (chosen_spot q chosen)) (left_path known own z stands))
