use Rattle.std.proofs.Common.{Some, sym, ap, subst, ◌∙◌, arith}
use Rattle.fx_turn.specs.Seats.{view}
use Rattle.fx_shared.specs.Crews.{base_of}
use Rattle.fx_shared.specs.Shared.{AreFresh}
use Rattle.fx_shared.proofs.Fresh.{maker_on, fresh_pass, fresh_more}
use Rattle.fx_shared.proofs.passes.passes_of.Goals as goal

pub loop-shell-preserved : goal.loop-shell-preserved
loop-shell-preserved g c =
    let i = c.loop-shell.invariant in
    let p = c.pass.ensures in
    let base = base_of c.args.crew.now in
    let shares = c.args.crew.now.shares.now in
    let more = ap (λ v. v.splits) p.maker in
    let before = i.splits in
    let all = i.all in
    let len = c.in_ok-push.ensures.len in
    record {
      maker = maker_on base shares c.loop-shell.maker c.pass.new.maker i.maker p.pass.0 p.maker;
      splits = omega arith;
      joined = ap (λ v. v.joined) p.maker ∙ i.joined;
      all = omega arith;
      fresh = subst (AreFresh base shares) (sym c.in_ok-push.ensures.items)
          (fresh_more base shares c.loop-shell.passes.items c.pass.result i.fresh (fresh_pass base shares (view c.loop-shell.maker) c.pass.result p.pass.1 i.maker.based p.new) (ap (λ v. v.number) p.new ∙ ap (λ n. Some n) (before ∙ sym all)));
    }

pub returns-in_err-push-clause-maker : goal.returns-in_err-push-clause-maker
returns-in_err-push-clause-maker g c =
    maker_on (base_of c.args.crew.now) c.args.crew.now.shares.now c.loop-shell.maker c.pass.new.maker c.loop-shell.invariant.maker c.pass.ensures.pass.0 c.pass.ensures.maker

pub returns-in_err-push-clause-joined : goal.returns-in_err-push-clause-joined
returns-in_err-push-clause-joined g c = ap (λ v. v.joined) c.pass.ensures.maker ∙ c.loop-shell.invariant.joined
