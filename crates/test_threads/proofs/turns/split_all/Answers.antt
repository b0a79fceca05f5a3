use Rattle.std.proofs.Common.{sym, ap, ◌∙◌, subst, arith}
use Rattle.std.specs.List.{All}
use Rattle.std.proofs.lemmas.List.Elements.{All-push}
use Rattle.fx_turn.specs.Views.{joins}
use Rattle.fx_turn.specs.Seats.{IsReady}
use Rattle.test_threads.proofs.turns.split_all.Goals as goal

pub loop-preserved : goal.loop-preserved
loop-preserved c =
    let i = c.loop.invariant in
    let s = c.split.ensures in
    let ready : IsReady c.args.turn.now c.split.result = record { turn = s.turn.1; numbered = (_, ap (λ v. v.number) s.new); idle = ap (λ v. v.in_turn) s.new } in
    let more = ap (λ v. v.splits) s.maker in
    record {
      turn = s.turn.0;
      maker = ap (λ v. v.number) s.maker ∙ i.maker;
      joins = ap joins s.maker ∙ i.joins;
      splits = let before = i.splits in omega arith;
      ready = subst (All (IsReady c.args.turn.now)) (sym c.in_ok-push.ensures.items) (All-push (IsReady c.args.turn.now) _ _ i.ready ready);
      all = let before = i.all in let len = c.in_ok-push.ensures.len in omega arith;
    }
