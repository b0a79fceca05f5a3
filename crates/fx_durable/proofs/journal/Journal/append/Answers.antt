use Rattle.std.proofs.Common.{ap, ◌+◌, ◌*◌, [], ◌∷◌}
use Rattle.fx_spec.specs.Plans.{Turn}
use Rattle.fx_durable.specs.Journal.{FitsRecord}
use Rattle.fx_durable.proofs.Append.{has_gate, has_gate_still, stops_at_first, stops_at_second, stops_at_third, stops_at_fourth, ends_well, ends_added, as_written, as_torn, as_opened, as_gate_torn}
use Rattle.fx_durable.proofs.Continuing.{write_continues, torn_continues, sync_continues, same_continues, continues_over}
use Rattle.fx_durable.proofs.Crash.{behind}
use Rattle.fx_durable.proofs.journal.Journal.append.Goals as goal

pub write-requires : goal.write-requires
write-requires g c =
    has_gate _ _ (ap (λ j. j.count) c.self.view_is) (g.D.Disk.view c.args.disk.now) (g.met.D.Disk.image c.args.disk.now) c.requires.rests

pub write-requires-2 : goal.write-requires-2
write-requires-2 g c =
    let v = g.D.Disk.view in
    let gate = has_gate _ _ (ap (λ j. j.count) c.self.view_is) (v c.args.disk.now) (g.met.D.Disk.image c.args.disk.now) c.requires.rests in
    has_gate_still _ _ (v c.args.disk.now) (v c.write.new.self) (v c.sync.new.self) gate c.in_ok-write.ensures.written c.in_ok-sync.ensures.kept

pub returns-in_err-write-clause-any_moment : goal.returns-in_err-write-clause-any_moment
returns-in_err-write-clause-any_moment g c =
    let same = ap (λ j. j.count) c.self.view_is in
    let turn : Turn = (c.args.shell, c.args.txn) in
    let good : FitsRecord turn = record { shell = c.ranges.shell.fits; txn = c.ranges.txn.fits } in
    let image = g.met.D.Disk.image c.args.disk.now in
    stops_at_first c.args.self.now.count c.requires.room turn good (g.D.Disk.view c.args.disk.now) image (g.D.Disk.view c.write.new.self) (as_torn _ _ same (g.D.Disk.view c.args.disk.now) (g.D.Disk.view c.write.new.self) turn _ c.record_behind.ensures c.in_err-write.ensures.failed)

pub returns-in_err-sync-clause-any_moment : goal.returns-in_err-sync-clause-any_moment
returns-in_err-sync-clause-any_moment g c =
    let same = ap (λ j. j.count) c.self.view_is in
    let turn : Turn = (c.args.shell, c.args.txn) in
    let good : FitsRecord turn = record { shell = c.ranges.shell.fits; txn = c.ranges.txn.fits } in
    let image = g.met.D.Disk.image c.args.disk.now in
    let behind = as_written _ _ same (g.D.Disk.view c.args.disk.now) (g.D.Disk.view c.write.new.self) turn _ c.record_behind.ensures c.in_ok-write.ensures.written in
    stops_at_second c.args.self.now.count c.requires.room turn good (g.D.Disk.view c.args.disk.now) image (g.D.Disk.view c.write.new.self) behind (g.D.Disk.view c.sync.new.self) c.in_err-sync.ensures.same

pub returns-in_err-write-2-clause-any_moment : goal.returns-in_err-write-2-clause-any_moment
returns-in_err-write-2-clause-any_moment g c =
    let same = ap (λ j. j.count) c.self.view_is in
    let turn : Turn = (c.args.shell, c.args.txn) in
    let good : FitsRecord turn = record { shell = c.ranges.shell.fits; txn = c.ranges.txn.fits } in
    let image = g.met.D.Disk.image c.args.disk.now in
    let behind = as_written _ _ same (g.D.Disk.view c.args.disk.now) (g.D.Disk.view c.write.new.self) turn _ c.record_behind.ensures c.in_ok-write.ensures.written in
    stops_at_third c.args.self.now.count c.requires.room turn good (g.D.Disk.view c.args.disk.now) image (g.D.Disk.view c.write.new.self) behind (g.D.Disk.view c.sync.new.self) c.in_ok-sync.ensures.kept (g.D.Disk.view c.write-2.new.self) (as_gate_torn _ _ same (g.D.Disk.view c.sync.new.self) (g.D.Disk.view c.write-2.new.self) c.in_err-write-2.ensures.failed)

pub returns-in_err-sync-2-clause-any_moment : goal.returns-in_err-sync-2-clause-any_moment
returns-in_err-sync-2-clause-any_moment g c =
    let same = ap (λ j. j.count) c.self.view_is in
    let turn : Turn = (c.args.shell, c.args.txn) in
    let good : FitsRecord turn = record { shell = c.ranges.shell.fits; txn = c.ranges.txn.fits } in
    let image = g.met.D.Disk.image c.args.disk.now in
    let behind = as_written _ _ same (g.D.Disk.view c.args.disk.now) (g.D.Disk.view c.write.new.self) turn _ c.record_behind.ensures c.in_ok-write.ensures.written in
    let opens = as_opened _ _ same (g.D.Disk.view c.sync.new.self) (g.D.Disk.view c.write-2.new.self) c.in_ok-write-2.ensures.written in
    stops_at_fourth c.args.self.now.count c.requires.room turn good (g.D.Disk.view c.args.disk.now) image (g.D.Disk.view c.write.new.self) behind (g.D.Disk.view c.sync.new.self) c.in_ok-sync.ensures.kept (g.D.Disk.view c.write-2.new.self) opens (g.D.Disk.view c.sync-2.new.self) c.in_err-sync-2.ensures.same

pub returns-clause-any_moment : goal.returns-clause-any_moment
returns-clause-any_moment g c =
    let same = ap (λ j. j.count) c.self.view_is in
    let turn : Turn = (c.args.shell, c.args.txn) in
    let good : FitsRecord turn = record { shell = c.ranges.shell.fits; txn = c.ranges.txn.fits } in
    let image = g.met.D.Disk.image c.args.disk.now in
    let behind = as_written _ _ same (g.D.Disk.view c.args.disk.now) (g.D.Disk.view c.write.new.self) turn _ c.record_behind.ensures c.in_ok-write.ensures.written in
    let opens = as_opened _ _ same (g.D.Disk.view c.sync.new.self) (g.D.Disk.view c.write-2.new.self) c.in_ok-write-2.ensures.written in
    ends_well c.args.self.now.count c.requires.room turn good (g.D.Disk.view c.args.disk.now) image (g.D.Disk.view c.write.new.self) behind (g.D.Disk.view c.sync.new.self) c.in_ok-sync.ensures.kept (g.D.Disk.view c.write-2.new.self) opens (g.D.Disk.view c.sync-2.new.self) c.in_ok-sync-2.ensures.kept

pub returns-clause-added : goal.returns-clause-added
returns-clause-added g c =
    let same = ap (λ j. j.count) c.self.view_is in
    let turn : Turn = (c.args.shell, c.args.txn) in
    let good : FitsRecord turn = record { shell = c.ranges.shell.fits; txn = c.ranges.txn.fits } in
    let image = g.met.D.Disk.image c.args.disk.now in
    let behind = as_written _ _ same (g.D.Disk.view c.args.disk.now) (g.D.Disk.view c.write.new.self) turn _ c.record_behind.ensures c.in_ok-write.ensures.written in
    let opens = as_opened _ _ same (g.D.Disk.view c.sync.new.self) (g.D.Disk.view c.write-2.new.self) c.in_ok-write-2.ensures.written in
    ends_added c.args.self.now.count c.requires.room turn good (g.D.Disk.view c.args.disk.now) image (g.D.Disk.view c.write.new.self) behind (g.D.Disk.view c.sync.new.self) c.in_ok-sync.ensures.kept (g.D.Disk.view c.write-2.new.self) opens (g.D.Disk.view c.sync-2.new.self) c.in_ok-sync-2.ensures.kept

pub returns-in_err-write-clause-goes_on : goal.returns-in_err-write-clause-goes_on
returns-in_err-write-clause-goes_on g c =
    let v = g.D.Disk.view in
    let same = ap (λ j. j.count) c.self.view_is in
    let turn : Turn = (c.args.shell, c.args.txn) in
    torn_continues (v c.args.disk.now) (v c.write.new.self) (9 * c.args.self.now.count + 1) 9 (as_torn _ _ same (v c.args.disk.now) (v c.write.new.self) turn _ c.record_behind.ensures c.in_err-write.ensures.failed)

pub returns-in_err-sync-clause-goes_on : goal.returns-in_err-sync-clause-goes_on
returns-in_err-sync-clause-goes_on g c =
    let v = g.D.Disk.view in
    let same = ap (λ j. j.count) c.self.view_is in
    let turn : Turn = (c.args.shell, c.args.txn) in
    continues_over (v c.args.disk.now) (v c.write.new.self) (v c.sync.new.self) (write_continues (v c.args.disk.now) (v c.write.new.self) (9 * c.args.self.now.count + 1) (behind turn) (as_written _ _ same (v c.args.disk.now) (v c.write.new.self) turn _ c.record_behind.ensures c.in_ok-write.ensures.written)) (same_continues (v c.write.new.self) (v c.sync.new.self) c.in_err-sync.ensures.same)

pub returns-in_err-write-2-clause-goes_on : goal.returns-in_err-write-2-clause-goes_on
returns-in_err-write-2-clause-goes_on g c =
    let v = g.D.Disk.view in
    let same = ap (λ j. j.count) c.self.view_is in
    let turn : Turn = (c.args.shell, c.args.txn) in
    continues_over (v c.args.disk.now) (v c.sync.new.self) (v c.write-2.new.self) (continues_over (v c.args.disk.now) (v c.write.new.self) (v c.sync.new.self) (write_continues (v c.args.disk.now) (v c.write.new.self) (9 * c.args.self.now.count + 1) (behind turn) (as_written _ _ same (v c.args.disk.now) (v c.write.new.self) turn _ c.record_behind.ensures c.in_ok-write.ensures.written)) (sync_continues (v c.write.new.self) (v c.sync.new.self) c.in_ok-sync.ensures.kept)) (torn_continues (v c.sync.new.self) (v c.write-2.new.self) (9 * c.args.self.now.count) 1 (as_gate_torn _ _ same (v c.sync.new.self) (v c.write-2.new.self) c.in_err-write-2.ensures.failed))

pub returns-in_err-sync-2-clause-goes_on : goal.returns-in_err-sync-2-clause-goes_on
returns-in_err-sync-2-clause-goes_on g c =
    let v = g.D.Disk.view in
    let same = ap (λ j. j.count) c.self.view_is in
    let turn : Turn = (c.args.shell, c.args.txn) in
    continues_over (v c.args.disk.now) (v c.write-2.new.self) (v c.sync-2.new.self) (continues_over (v c.args.disk.now) (v c.sync.new.self) (v c.write-2.new.self) (continues_over (v c.args.disk.now) (v c.write.new.self) (v c.sync.new.self) (write_continues (v c.args.disk.now) (v c.write.new.self) (9 * c.args.self.now.count + 1) (behind turn) (as_written _ _ same (v c.args.disk.now) (v c.write.new.self) turn _ c.record_behind.ensures c.in_ok-write.ensures.written)) (sync_continues (v c.write.new.self) (v c.sync.new.self) c.in_ok-sync.ensures.kept)) (write_continues (v c.sync.new.self) (v c.write-2.new.self) (9 * c.args.self.now.count) (1 ∷ []) (as_opened _ _ same (v c.sync.new.self) (v c.write-2.new.self) c.in_ok-write-2.ensures.written))) (same_continues (v c.write-2.new.self) (v c.sync-2.new.self) c.in_err-sync-2.ensures.same)

pub returns-clause-goes_on : goal.returns-clause-goes_on
returns-clause-goes_on g c =
    let v = g.D.Disk.view in
    let same = ap (λ j. j.count) c.self.view_is in
    let turn : Turn = (c.args.shell, c.args.txn) in
    continues_over (v c.args.disk.now) (v c.write-2.new.self) (v c.sync-2.new.self) (continues_over (v c.args.disk.now) (v c.sync.new.self) (v c.write-2.new.self) (continues_over (v c.args.disk.now) (v c.write.new.self) (v c.sync.new.self) (write_continues (v c.args.disk.now) (v c.write.new.self) (9 * c.args.self.now.count + 1) (behind turn) (as_written _ _ same (v c.args.disk.now) (v c.write.new.self) turn _ c.record_behind.ensures c.in_ok-write.ensures.written)) (sync_continues (v c.write.new.self) (v c.sync.new.self) c.in_ok-sync.ensures.kept)) (write_continues (v c.sync.new.self) (v c.write-2.new.self) (9 * c.args.self.now.count) (1 ∷ []) (as_opened _ _ same (v c.sync.new.self) (v c.write-2.new.self) c.in_ok-write-2.ensures.written))) (sync_continues (v c.write-2.new.self) (v c.sync-2.new.self) c.in_ok-sync-2.ensures.kept)
