use Rattle.std.proofs.Common.{◌≡◌, ap, arith, slice_get, set, Some, IsSome, get_or}
use Rattle.std.proofs.lemmas.List.{set-get_or}
use Rattle.fx_base.proofs.Results.{OnErr-from}
use Rattle.fx_spec.specs.Plans.{count_of, txn_of}
use Rattle.fx_sched.specs.World.{running_of}
use Rattle.fx_sched.proofs.Worlds.{leads, moved_world, refused_world, refused_running, shell_at, count_is, has_txn, no_txn, lowers}
use Rattle.fx_sched.proofs.world.step_shell.Goals as goal

pub returns-then-count-slot-clause-event : goal.returns-then-count-slot-clause-event
returns-then-count-slot-clause-event c =
    let at : slice_get c.args.shells.now c.args.shell ≡ Some (get_or c.args.shells.now c.args.shell c.index-shells-shell.result) = shell_at c.args.board.now c.args.shells.now c.args.shell c.index-shells-shell.result c.requires.world c.requires.shell in
    let count : c.count-count.result ≡ count_of c.args.board.now.base.plan c.args.shell = count_is c.args.board.now c.base.result.now c.args.shell c.count-count.result c.base.ensures.base c.count-count.ensures in (
      no_txn c.args.board.now c.args.shells.now c.args.shell c.count-count.result (get_or c.args.shells.now c.args.shell c.index-shells-shell.result) c.requires.world at count c.if-count-slot.true,
      ap (running_of c.args.board.now) (set-get_or c.args.shells.now c.args.shell c.index-shells-shell.result),
    )

pub advance-requires-clause-shell : goal.advance-requires-clause-shell
advance-requires-clause-shell c =
    let at : slice_get c.args.shells.now c.args.shell ≡ Some (get_or c.args.shells.now c.args.shell c.index-shells-shell.result) = shell_at c.args.board.now c.args.shells.now c.args.shell c.index-shells-shell.result c.requires.world c.requires.shell in
    c.requires.world.each c.args.shell (get_or c.args.shells.now c.args.shell c.index-shells-shell.result) at

pub advance-requires-clause-left : goal.advance-requires-clause-left
advance-requires-clause-left c =
    let count : c.count-count.result ≡ count_of c.args.board.now.base.plan c.args.shell = count_is c.args.board.now c.base.result.now c.args.shell c.count-count.result c.base.ensures.base c.count-count.ensures in
    has_txn c.args.board.now.base.plan c.args.shell (get_or c.args.shells.now c.args.shell c.index-shells-shell.result).next (omega (arith, count, c.if-count-slot.false))

pub returns-in_err-event-clause-world : goal.returns-in_err-event-clause-world
returns-in_err-event-clause-world c =
    let at : slice_get c.args.shells.now c.args.shell ≡ Some (get_or c.args.shells.now c.args.shell c.index-shells-shell.result) = shell_at c.args.board.now c.args.shells.now c.args.shell c.index-shells-shell.result c.requires.world c.requires.shell in
    refused_world c.args.board.now c.advance.new.board c.args.shells.now c.args.shell (get_or c.args.shells.now c.args.shell c.index-shells-shell.result) c.advance.new.shell c.requires.world at c.in_err-event.ensures.log c.advance.ensures.shell c.in_err-event.ensures.looks

pub returns-in_err-event-clause-err : goal.returns-in_err-event-clause-err
returns-in_err-event-clause-err c =
    let at : slice_get c.args.shells.now c.args.shell ≡ Some (get_or c.args.shells.now c.args.shell c.index-shells-shell.result) = shell_at c.args.board.now c.args.shells.now c.args.shell c.index-shells-shell.result c.requires.world c.requires.shell in
    OnErr-from c.from_residual.result (running_of c.advance.new.board (set c.args.shells.now c.args.shell c.advance.new.shell) ≡ running_of c.args.board.now c.args.shells.now)
    (refused_running c.args.board.now c.advance.new.board c.args.shells.now c.args.shell (get_or c.args.shells.now c.args.shell c.index-shells-shell.result) c.advance.new.shell at c.in_err-event.ensures.log c.in_err-event.ensures.looks)

pub returns-clause-world : goal.returns-clause-world
returns-clause-world c =
    let at : slice_get c.args.shells.now c.args.shell ≡ Some (get_or c.args.shells.now c.args.shell c.index-shells-shell.result) = shell_at c.args.board.now c.args.shells.now c.args.shell c.index-shells-shell.result c.requires.world c.requires.shell in
    let count : c.count-count.result ≡ count_of c.args.board.now.base.plan c.args.shell = count_is c.args.board.now c.base.result.now c.args.shell c.count-count.result c.base.ensures.base c.count-count.ensures in
    let left : IsSome (txn_of c.args.board.now.base.plan (c.args.shell, (get_or c.args.shells.now c.args.shell c.index-shells-shell.result).next)) = has_txn c.args.board.now.base.plan c.args.shell (get_or c.args.shells.now c.args.shell c.index-shells-shell.result).next (omega (arith, count, c.if-count-slot.false)) in
    moved_world c.args.board.now c.advance.new.board c.args.shells.now c.args.shell (get_or c.args.shells.now c.args.shell c.index-shells-shell.result) c.in_ok-event.event c.advance.new.shell c.requires.world at left c.advance.ensures.shell c.in_ok-event.ensures.ok

pub returns-clause-event : goal.returns-clause-event
returns-clause-event c =
    let at : slice_get c.args.shells.now c.args.shell ≡ Some (get_or c.args.shells.now c.args.shell c.index-shells-shell.result) = shell_at c.args.board.now c.args.shells.now c.args.shell c.index-shells-shell.result c.requires.world c.requires.shell in
    let count : c.count-count.result ≡ count_of c.args.board.now.base.plan c.args.shell = count_is c.args.board.now c.base.result.now c.args.shell c.count-count.result c.base.ensures.base c.count-count.ensures in
    let left : IsSome (txn_of c.args.board.now.base.plan (c.args.shell, (get_or c.args.shells.now c.args.shell c.index-shells-shell.result).next)) = has_txn c.args.board.now.base.plan c.args.shell (get_or c.args.shells.now c.args.shell c.index-shells-shell.result).next (omega (arith, count, c.if-count-slot.false)) in
    leads c.args.board.now c.advance.new.board c.args.shells.now c.args.shell (get_or c.args.shells.now c.args.shell c.index-shells-shell.result) c.in_ok-event.event c.advance.new.shell c.requires.world at left c.advance.ensures.shell c.in_ok-event.ensures.ok

pub returns-clause-lower : goal.returns-clause-lower
returns-clause-lower c =
    let at : slice_get c.args.shells.now c.args.shell ≡ Some (get_or c.args.shells.now c.args.shell c.index-shells-shell.result) = shell_at c.args.board.now c.args.shells.now c.args.shell c.index-shells-shell.result c.requires.world c.requires.shell in
    let count : c.count-count.result ≡ count_of c.args.board.now.base.plan c.args.shell = count_is c.args.board.now c.base.result.now c.args.shell c.count-count.result c.base.ensures.base c.count-count.ensures in
    let left : IsSome (txn_of c.args.board.now.base.plan (c.args.shell, (get_or c.args.shells.now c.args.shell c.index-shells-shell.result).next)) = has_txn c.args.board.now.base.plan c.args.shell (get_or c.args.shells.now c.args.shell c.index-shells-shell.result).next (omega (arith, count, c.if-count-slot.false)) in
    lowers c.args.board.now c.advance.new.board c.args.shells.now (set c.args.shells.now c.args.shell c.advance.new.shell) c.args.shell c.in_ok-event.event c.requires.world
    (leads c.args.board.now c.advance.new.board c.args.shells.now c.args.shell (get_or c.args.shells.now c.args.shell c.index-shells-shell.result) c.in_ok-event.event c.advance.new.shell c.requires.world at left c.advance.ensures.shell c.in_ok-event.ensures.ok)
