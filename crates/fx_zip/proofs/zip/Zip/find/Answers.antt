use Rattle.fx_zip.proofs.Prelude.{sym, ◌∙◌}
use Rattle.fx_zip.proofs.Finding.{finding_first, finding_next, finding_smaller, found_all, found_none, found_stop}
use Rattle.fx_zip.proofs.zip.Zip.find.Goals as goal

pub settling-init : goal.settling-init
settling-init g c = finding_first g.R.Reader.meaning c.args.self.now c.args.session.now c.requires.fresh

pub settling-preserved : goal.settling-preserved
settling-preserved g c =
    finding_next g.R.Reader.meaning c.args.self.now c.args.session.now c.settling.session c.settling.self c.settling.invariant (sym c.is_settled.ensures ∙ c.settling-test.true) c.settle_next.new.self c.settle_next.new.session c.in_ok-settle_next.field-0 c.if-not-branch.false c.in_ok-settle_next.ensures.settles

pub settling-smaller : goal.settling-smaller
settling-smaller g c =
    finding_smaller g.R.Reader.meaning c.args.self.now c.args.session.now c.settling.session c.settling.self c.settling.invariant (sym c.is_settled.ensures ∙ c.settling-test.true) c.settle_next.new.self c.settle_next.new.session c.in_ok-settle_next.field-0 c.if-not-branch.false c.in_ok-settle_next.ensures.settles

pub returns-in_err-settle_next : goal.returns-in_err-settle_next
returns-in_err-settle_next g c =
    found_stop g.R.Reader.meaning c.args.self.now c.args.session.now c.settling.session c.settling.self c.settling.invariant (sym c.is_settled.ensures ∙ c.settling-test.true) c.settle_next.new.self c.settle_next.new.session c.in_err-settle_next.field-0.0 c.from_residual.result c.from_residual.ensures.1 c.in_err-settle_next.ensures.settles

pub returns-then-not-branch : goal.returns-then-not-branch
returns-then-not-branch g c =
    found_none g.R.Reader.meaning c.args.self.now c.args.session.now c.settling.session c.settling.self c.settling.invariant (sym c.is_settled.ensures ∙ c.settling-test.true) c.settle_next.new.self c.settle_next.new.session c.in_ok-settle_next.field-0 c.if-not-branch.true c.in_ok-settle_next.ensures.settles

pub returns : goal.returns
returns g c = found_all g.R.Reader.meaning c.args.self.now c.args.session.now c.settling.session c.settling.self c.settling.invariant (sym c.is_settled.ensures ∙ c.settling-test.false)
