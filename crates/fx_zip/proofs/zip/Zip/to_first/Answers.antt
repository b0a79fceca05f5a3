use Rattle.fx_zip.proofs.Prelude.{refl, ap, ◌∙◌, prev_at, here, entered, path_of, First, ZipTree, Entry}
use Rattle.fx_steps.specs.Spots.{bare_spot}
use Rattle.fx_steps.specs.declared.step.Step.TheVariants as step
use Rattle.fx_zip.proofs.Beside.{replaced, replace_memory, first_besides, left_path}
use Rattle.fx_zip.proofs.zip.Zip.to_first.Goals as goal

pub returns-in_err-path : goal.returns-in_err-path
returns-in_err-path c known own stands =
    replace_memory known own c.args.self.now stands (prev_at c.args.self.now.root c.args.self.now.address (here c.args.self.now)) c.leave.new.self c.from_residual.result (ap (λ (z : ZipTree). z.root) c.leave.ensures) c.from_residual.ensures.1

pub returns-in_err-enter_at : goal.returns-in_err-enter_at
returns-in_err-enter_at c known own stands =
    replace_memory known own c.args.self.now stands (prev_at c.args.self.now.root c.args.self.now.address (here c.args.self.now)) c.enter_at.new.self c.from_residual-in_err-enter_at.result (c.in_err-enter_at.ensures.root ∙ ap (λ (z : ZipTree). z.root) c.leave.ensures) c.from_residual-in_err-enter_at.ensures.1

pub returns : goal.returns
returns c known own stands =
    let spot = bare_spot c.in_ok-path.path 0 in
    let entry : Entry = record { step = step.First; spot = spot } in
    let behind = ap (λ (z : ZipTree). path_of z.frames) c.leave.ensures ∙ left_path known own c.args.self.now stands in
    replaced known own c.args.self.now stands (prev_at c.args.self.now.root c.args.self.now.address (here c.args.self.now)) entry c.enter_at.new.self
    (first_besides known own c.args.self.now stands entry refl refl c.requires.second (c.in_ok-path.ensures.copied ∙ c.path.ensures ∙ behind)) (c.in_ok-enter_at.ensures.entered ∙ ap (λ z. entered z First spot) c.leave.ensures)
