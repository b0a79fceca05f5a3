use Rattle.fx_folder.proofs.Prelude.{◌-◌, length, refl, ap, err_of, parts}
use Rattle.fx_folder.proofs.Growing.{grows_to}
use Rattle.fx_folder.proofs.Ways.{there_told, step_told, cause_told}
use Rattle.fx_folder.proofs.walking.Loader.walk_item.Goals as goal

pub enter-requires-clause-there : goal.enter-requires-clause-there
enter-requires-clause-there g c = there_told (g.H.Host.view c.args.host.now).told c.args.folder.now c.args.self.now.found.items c.args.self.now.left c.args.todo.now.items c.args.item.now c.requires.folder c.requires.walking.way

pub returns-clause-walking : goal.returns-clause-walking
returns-clause-walking g c =
    let now = c.args.self.now in record {
      way = step_told (g.H.Host.view c.args.host.now).told (parts c.args.folder.now) now.found.items c.push.new.self.items now.left (length now.found.items) (now.left - c.size_of.result) c.args.todo.now.items c.enter.new.todo.items c.args.item.now c.in_ok-change.change refl (ap (λ k. now.left - k) c.size_of.ensures) c.in_ok-push.ensures.items c.requires.walking.way c.in_ok-change.ensures.answer c.in_ok-change.ensures.entered;
      grown = grows_to now.found.items c.push.new.self.items c.args.todo.now.items c.enter.new.todo.items c.args.item.now c.in_ok-change.change c.in_ok-push.ensures.items c.requires.walking.grown c.in_ok-change.ensures.found;
    }

pub returns-in_err-change-clause-cause : goal.returns-in_err-change-clause-cause
returns-in_err-change-clause-cause g c =
    rw (err_of c.from_residual.result c.in_err-change.field-0.0 c.from_residual.ensures.1)
    (cause_told (g.H.Host.view c.args.host.now).told (parts c.args.folder.now) c.args.self.now.found.items c.args.self.now.left (length c.args.self.now.found.items) c.args.todo.now.items c.args.item.now c.in_err-change.field-0.0 refl c.requires.walking.way c.in_err-change.ensures.answer)
