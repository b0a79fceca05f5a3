use Rattle.std.proofs.Common.{◌≡◌, sym, subst}
use Rattle.std.specs.Prelude.{IfErr}
use Rattle.fx_base.proofs.Errors.{err_of}
use Rattle.fx_journaling.specs.declared.fault.RecordFault.{RecordFault}
use Rattle.fx_journaling.specs.declared.fault.RecordFault.TheVariants as fault
use Rattle.fx_journaling.specs.Taken.{HasRefused, HasGrown, TellCause}
use Rattle.fx_report.specs.Events.{event_line}
use Rattle.fx_journaling.proofs.Taking.{reached, held_before, taken_more, refused_keep, refused_tell, on_ok_map, if_err_map}
use Rattle.fx_journaling.proofs.recorder.RecorderTaker.take.Goals as goal

pub returns-in_err-keep-clause-err : goal.returns-in_err-keep-clause-err
returns-in_err-keep-clause-err g c = λ events before took leads.
    let began = g.K.Origin.began in
    let d = g.D.Disk.view in
    let s = g.S.Sink.view in
    let self = c.args.self.now in
    let e = c.args.event in
    let after = c.args.world.now in
    let P : RecordFault → Type 0 = λ stop. (self.disk.ghost_name ≡ began.disk_name) × (self.out.ghost_name ≡ began.sink_name) × HasRefused began stop events e after (d c.keep.new.disk) (s self.out.now) in
    let is = err_of c.from_residual.result fault.DiskFailed c.from_residual.ensures.1 in
    let r = reached began events e before after self.journal (d self.disk.now) (s self.out.now) took.2 leads in
    let held = held_before began events e before after self.journal (d self.disk.now) (s self.out.now) took.2 leads in
    subst (λ r. IfErr r P) (sym is)
    (took.0, took.1, refused_keep began events e before after self.journal (d self.disk.now) (s self.out.now) took.2 leads (d c.keep.new.disk) c.in_err-keep.ensures.settled (c.in_err-keep.ensures.lost began.disk before r held leads))

pub returns-clause-ok : goal.returns-clause-ok
returns-clause-ok g c = λ events before took leads.
    let began = g.K.Origin.began in
    let d = g.D.Disk.view in
    let s = g.S.Sink.view in
    let self = c.args.self.now in
    let e = c.args.event in
    let after = c.args.world.now in
    let r = reached began events e before after self.journal (d self.disk.now) (s self.out.now) took.2 leads in
    let held = held_before began events e before after self.journal (d self.disk.now) (s self.out.now) took.2 leads in
    on_ok_map c.tell.result (HasGrown (event_line e) (s self.out.now) (s c.tell.new.out)) _
    (λ grown. (took.0, took.1, taken_more began events e before after self.journal (d self.disk.now) (s self.out.now) took.2 leads c.keep.new.journal (d c.keep.new.disk) (s c.tell.new.out) (c.in_ok-keep.ensures.held began.disk before r held leads) grown c.tell.ensures.later))
    c.tell.ensures.written

pub returns-clause-err : goal.returns-clause-err
returns-clause-err g c = λ events before took leads.
    let began = g.K.Origin.began in
    let d = g.D.Disk.view in
    let s = g.S.Sink.view in
    let self = c.args.self.now in
    let e = c.args.event in
    let after = c.args.world.now in
    let r = reached began events e before after self.journal (d self.disk.now) (s self.out.now) took.2 leads in
    let held = held_before began events e before after self.journal (d self.disk.now) (s self.out.now) took.2 leads in
    if_err_map c.tell.result (λ stop. TellCause stop (s self.out.now) (s c.tell.new.out)) _
    (λ stop cause. (took.0, took.1, refused_tell began events e before after self.journal (d self.disk.now) (s self.out.now) took.2 leads stop c.keep.new.journal (d c.keep.new.disk) (s c.tell.new.out) (c.in_ok-keep.ensures.held began.disk before r held leads) c.tell.ensures.front cause))
    c.tell.ensures.cause
