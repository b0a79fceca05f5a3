use Rattle.fx_zip.proofs.Nexting.{settles_true, settles_false, settles_err, settles_refused}
use Rattle.fx_zip.proofs.zip.Zip.settle_next.Goals as goal

pub returns-in_err-spot : goal.returns-in_err-spot
returns-in_err-spot g c = record {
  settles =
      settles_err g.R.Reader.meaning c.args.self.now c.args.session.now c.next_spot.new.session c.next_spot.new.self c.in_err-spot.field-0.0 c.from_residual.result c.in_err-spot.ensures.leads c.next_spot.ensures.same c.from_residual.ensures.1;
}

pub returns-in_err-keep-in-Some : goal.returns-in_err-keep-in-Some
returns-in_err-keep-in-Some g c = record {
  settles =
      settles_refused g.R.Reader.meaning c.args.self.now c.args.session.now c.next_spot.new.session c.next_spot.new.self c.keep.new.self c.in_ok-spot.field-0 c.from_residual-in_err-keep-in-Some.result c.in_ok-spot.ensures.leads c.next_spot.ensures.same c.keep.ensures.root c.keep.ensures.address c.from_residual-in_err-keep-in-Some.ensures.1;
}

pub returns-in_ok-keep-in-Some : goal.returns-in_ok-keep-in-Some
returns-in_ok-keep-in-Some g c = record {
  settles =
      settles_true g.R.Reader.meaning c.args.self.now c.args.session.now c.next_spot.new.session c.next_spot.new.self c.keep.new.self c.in_ok-spot.field-0 c.in-Some.spot c.in-Some.is c.in_ok-spot.ensures.leads c.next_spot.ensures.same c.in_ok-keep-in-Some.ensures.kept;
}

pub returns-in-None : goal.returns-in-None
returns-in-None g c = record {
  settles =
      settles_false g.R.Reader.meaning c.args.self.now c.args.session.now c.next_spot.new.session c.next_spot.new.self c.in_ok-spot.field-0 c.in-None.is c.in_ok-spot.ensures.leads c.next_spot.ensures.same;
}
