use Rattle.std.proofs.Common.{Some, ap, ◌∙◌, arith}
use Rattle.std.proofs.lemmas.List.Elements.{All-pop}
use Rattle.fx_turn.specs.Views.{joins}
use Rattle.fx_turn.specs.Seats.{IsReady}
use Rattle.test_threads.proofs.turns.join_all.Goals as goal

pub loop-seat-preserved : goal.loop-seat-preserved
loop-seat-preserved c =
    let i = c.loop-seat.invariant in
    let s = c.join.ensures in
    let rest = All-pop (IsReady c.args.turn.now) c.loop-seat.seats.items c.pop.new.self.items (Some c.in-Some.seat) c.in-Some.ensures.items i.ready in
    record {
      turn = s.turn;
      maker = ap (λ v. v.number) s.maker ∙ i.maker;
      splits = ap (λ v. v.splits) s.maker ∙ i.splits;
      joins = let one = ap joins s.maker in let len = c.in-Some.ensures.len in let before = i.joins in omega arith;
      ready = rest.0;
    }
