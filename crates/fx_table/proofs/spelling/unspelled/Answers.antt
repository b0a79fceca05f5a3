use Rattle.fx_table.proofs.Prelude.{drop, subst, arith, length-drop, take_rest, SpellsByte}
use Rattle.fx_table.proofs.Unspelled.{one_more}
use Rattle.fx_table.proofs.spelling.unspelled.Goals as goal

pub loop-i-preserved : goal.loop-i-preserved
loop-i-preserved c =
    let first : SpellsByte (drop c.loop-i.i c.args.text.now) c.in-Some.byte c.in-Some.count = subst (λ l. SpellsByte l c.in-Some.byte c.in-Some.count) (take_rest c.args.text.now c.loop-i.i) c.in-Some.ensures in
    record {
      within = omega (arith, first.within, length-drop c.loop-i.i c.args.text.now, c.loop-i.invariant.within);
      so_far = one_more c.args.text.now c.loop-i.bytes.items c.push.new.self.items c.loop-i.i c.in-Some.byte c.in-Some.count c.loop-i.invariant.so_far first c.in_ok-push-in-Some.ensures.items;
    }
