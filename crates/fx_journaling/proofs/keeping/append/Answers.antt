use Rattle.std.proofs.Common.{◌≡◌, ◌<◌, ◌∙◌, true, refl, sym, arith}
use Rattle.fx_base.specs.Limits.{txn_limit}
use Rattle.fx_spec.specs.Plans.{Turn}
use Rattle.fx_journaling.proofs.Appending.{rests_after, held_after, lost_after}
use Rattle.fx_journaling.proofs.keeping.append.Goals as goal

pub returns-clause-rests : goal.returns-clause-rests
returns-clause-rests g c =
    let v = g.D.Disk.view in
    let turn : Turn = (c.args.pair.shell, c.args.pair.txn) in
    let call = c.append.ensures in
    let room : c.args.journal.now.count < txn_limit = omega arith in
    let good : c.args.journal.now.good ≡ true = sym c.good.ensures ∙ c.if-not-good.false in
    rests_after c.args.journal.now.count turn c.append.new.self (v c.args.disk.now) (v c.append.new.disk) c.append.result room (c.requires good) call.goes_on call.added call.count call.good (g.met.D.Disk.image c.append.new.disk)

pub returns-clause-held : goal.returns-clause-held
returns-clause-held g c = λ base order began held add.
    let v = g.D.Disk.view in
    let turn : Turn = (c.args.pair.shell, c.args.pair.txn) in
    let call = c.append.ensures in
    held_after c.args.journal.now.count turn c.append.new.self (v c.args.disk.now) (v c.append.new.disk) base order began c.args.journal.now held refl add c.append.result call.any_moment call.added call.goes_on call.count call.good call.cause call.early

pub returns-clause-lost : goal.returns-clause-lost
returns-clause-lost g c = λ base order began held add.
    let v = g.D.Disk.view in
    let turn : Turn = (c.args.pair.shell, c.args.pair.txn) in
    let call = c.append.ensures in
    lost_after c.args.journal.now.count turn c.append.new.self (v c.args.disk.now) (v c.append.new.disk) base order began c.args.journal.now held refl add c.append.result call.any_moment call.goes_on call.cause call.early
