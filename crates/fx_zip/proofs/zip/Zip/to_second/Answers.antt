use Rattle.fx_zip.proofs.Around.{to_second_on, to_second_memory, to_second_none, to_second_stop}
use Rattle.fx_zip.proofs.zip.Zip.to_second.Goals as goal

pub returns-in_err-spot : goal.returns-in_err-spot
returns-in_err-spot g c = record { turns = to_second_stop g.R.Reader.meaning c.args.self.now c.args.session.now c.after_first.new.session c.requires.stands c.requires.first c.after_first.new.self c.after_first.ensures.same c.in_err-spot.field-0.0 c.from_residual.result c.in_err-spot.ensures.leads c.from_residual.ensures.1 }

pub returns-in_err-replace-in-Some : goal.returns-in_err-replace-in-Some
returns-in_err-replace-in-Some g c = record { turns = to_second_memory g.R.Reader.meaning c.args.self.now c.args.session.now c.after_first.new.session c.requires.stands c.requires.first c.after_first.new.self c.after_first.ensures.same c.in_ok-spot.field-0 c.replace.new.self c.from_residual-in_err-replace-in-Some.result c.in_ok-spot.ensures.leads c.in_err-replace-in-Some.ensures.root c.from_residual-in_err-replace-in-Some.ensures.1 }

pub returns-in_ok-replace-in-Some : goal.returns-in_ok-replace-in-Some
returns-in_ok-replace-in-Some g c = record { turns = to_second_on g.R.Reader.meaning c.args.self.now c.args.session.now c.after_first.new.session c.requires.stands c.requires.first c.after_first.new.self c.after_first.ensures.same c.in_ok-spot.field-0 c.in-Some.spot c.replace.new.self c.in-Some.is c.in_ok-spot.ensures.leads c.in_ok-replace-in-Some.ensures.entered }

pub returns-in-None : goal.returns-in-None
returns-in-None g c = record { turns = to_second_none g.R.Reader.meaning c.args.self.now c.args.session.now c.after_first.new.session c.requires.stands c.requires.first c.after_first.new.self c.after_first.ensures.same c.in_ok-spot.field-0 c.in-None.is c.in_ok-spot.ensures.leads }
