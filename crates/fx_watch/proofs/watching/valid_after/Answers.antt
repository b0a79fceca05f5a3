use Rattle.std.proofs.Common.{◌≡◌, IfOk, OnOk, sym, subst}
use Rattle.std.specs.FinMap.{get}
use Rattle.fx_board.specs.Board.{state_at}
use Rattle.fx_watch.specs.Validity.{has_value, DiffersAt}
use Rattle.fx_watch.specs.WatchView.{AnswersFor}
use Rattle.fx_watch.proofs.Watchings.{differs}
use Rattle.fx_watch.proofs.watching.valid_after.Goals as goal

pub returns-in-Some-clause-valid : goal.returns-in-Some-clause-valid
returns-in-Some-clause-valid g c = λ at.
    let before = get (state_at c.args.board.now c.args.entry) in
    let same = differs c.args.board.now c.args.watch.now c.args.entry c.in-Some.entry.now at c.in-Some.ensures.entry in
    subst (λ nodes. IfOk c.after.result.1 (λ valid. valid ≡ has_value c.args.watch.now.root (get nodes))) c.store.ensures.nodes
    (c.after.ensures.valid before at.told (subst (λ nodes. DiffersAt c.in-Some.entry.now.changed before (get nodes)) (sym c.store.ensures.nodes) same))

pub returns-in-Some-clause-told : goal.returns-in-Some-clause-told
returns-in-Some-clause-told g c = λ at.
    let before = get (state_at c.args.board.now c.args.entry) in
    let same = differs c.args.board.now c.args.watch.now c.args.entry c.in-Some.entry.now at c.in-Some.ensures.entry in
    subst (λ nodes. OnOk c.after.result.1 (AnswersFor c.after.new.self (get nodes))) c.store.ensures.nodes
    (c.after.ensures.told before at.told (subst (λ nodes. DiffersAt c.in-Some.entry.now.changed before (get nodes)) (sym c.store.ensures.nodes) same))
