use Rattle.std.proofs.Common.{inl, inr, sym, subst}
use Rattle.std.specs.Prelude.{MatchOption}
use Rattle.fx_spec.specs.Bases.{base_tree}
use Rattle.fx_spec.specs.Order.{IsLegal}
use Rattle.fx_command.proofs.Told.{if_some_map}
use Rattle.fx_durable.specs.Journal.{turns_of, Spells}
use Rattle.fx_audit.specs.Legal.{IsFirstIllegal}
use Rattle.fx_commands.specs.Recoveries.Rows.{StaysCalm}
use Rattle.fx_commands.specs.Recoveries.Unread.{OrderCause}
use Rattle.fx_commands.specs.Recoveries.Wrong.{GoesWrong}
use Rattle.fx_commands.proofs.Recoveries.Reading.{has_image, unread_cause, unread_calm}
use Rattle.fx_commands.proofs.recovering.journal.read_order.Goals as goal

pub returns-in-Err-clause-cause : goal.returns-in-Err-clause-cause
returns-in-Err-clause-cause g c =
    let base = base_tree c.args.base.now in
    let disk = g.D.Disk.view c.args.disk.now in
    let disk' = g.D.Disk.view c.read_journal.new.disk in
    subst (OrderCause c.args.path.now base disk disk') (sym c.unread.ensures) (unread_cause c.args.path.now base disk disk' c.in-Err.fault c.in-Err.ensures.reads c.in-Err.ensures.cause)

pub returns-in-Err-clause-calm_err : goal.returns-in-Err-clause-calm_err
returns-in-Err-clause-calm_err g c =
    let disk = g.D.Disk.view c.args.disk.now in
    let disk' = g.D.Disk.view c.read_journal.new.disk in
    subst (StaysCalm disk disk') (sym c.unread.ensures) (unread_calm disk disk' c.in-Err.fault c.in-Err.ensures.calm)

pub returns-in-None-clause-read : goal.returns-in-None-clause-read
returns-in-None-clause-read g c = has_image c.args.path.now (g.D.Disk.view c.args.disk.now) (Spells (turns_of c.in-Ok.order)) c.in-Ok.ensures.cause c.in-Ok.ensures.reads

pub returns-in-Some-clause-cause : goal.returns-in-Some-clause-cause
returns-in-Some-clause-cause g c =
    let base = base_tree c.args.base.now in
    let order = turns_of c.in-Ok.order in
    let disk = g.D.Disk.view c.args.disk.now in
    let illegal = subst (λ o. MatchOption o (IsLegal base order) (IsFirstIllegal base order)) c.in-Some.is c.in_ok-first_illegal.ensures in
    has_image c.args.path.now disk (λ image. GoesWrong base image c.in-Some.place) c.in-Ok.ensures.cause
    (if_some_map (λ file. Spells order file.seen) (λ file. GoesWrong base file.seen c.in-Some.place) disk.told (λ file spells. inr (order, spells, illegal)) c.in-Ok.ensures.reads)

pub returns-in-Some-clause-calm_err : goal.returns-in-Some-clause-calm_err
returns-in-Some-clause-calm_err g c = inl c.in-Ok.ensures.calm
