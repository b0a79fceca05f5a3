use Rattle.std.proofs.Common.{refl, sym}
use Rattle.fx_board.proofs.Settling.{fresh_now, named_now}
use Rattle.fx_board.proofs.board.Board.settle_keeping_reads.Goals as goal

pub add-requires-clause-fresh : goal.add-requires-clause-fresh
add-requires-clause-fresh c = fresh_now _ _ _ _ c.self.invariant c.args.attempt c.args.self.now c.self.view_is (sym (rw c.deref.ensures at c.in-None.ensures.least))

pub returns-in-Ok-clause-refused : goal.returns-in-Ok-clause-refused
returns-in-Ok-clause-refused c =
    (refl, refl, rw c.in-Ok.ensures.copied (named_now _ _ _ _ c.self.invariant c.args.attempt c.args.self.now c.self.view_is c.in-Some.named.0.now c.in-Some.named.1 c.in-Some.ensures.reads (sym (rw c.deref.ensures at c.in-Some.ensures.least))))
