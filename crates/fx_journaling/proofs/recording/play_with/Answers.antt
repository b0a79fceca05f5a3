use Rattle.std.proofs.Common.{◌≡◌, [], refl, sym, subst}
use Rattle.fx_spec.specs.Bases.{base_tree}
use Rattle.fx_sched.specs.World.{began}
use Rattle.fx_journaling.specs.Taken.{Beginning, HasTaken, HasRefused}
use Rattle.fx_journaling.specs.Recorded.{HasBrokenOff}
use Rattle.fx_journaling.proofs.Ending.{begun, recorded, ended}
use Rattle.fx_journaling.proofs.recording.play_with.Goals as goal

pub play-requires-clause-taker : goal.play-requires-clause-taker
play-requires-clause-taker g c =
    let base = base_tree c.args.base.value in
    let r = c.args.recorder.now in
    let d = g.D.Disk.view r.disk.now in
    let s = g.S.Sink.view r.out.now in
    subst (λ (b : Beginning). (r.disk.ghost_name ≡ b.disk_name) × (r.out.ghost_name ≡ b.sink_name) × HasTaken b [] (began base) r.journal d s) (sym c.requires.origin)
    (refl, refl, begun base d s r.disk.ghost_name r.out.ghost_name r.journal c.requires.started)

pub returns-in-Ok-clause-done : goal.returns-in-Ok-clause-done
returns-in-Ok-clause-done g c =
    let base = base_tree c.args.base.value in
    let r = c.args.recorder.now in
    let new = c.play.new.taker in
    let d = g.D.Disk.view in
    let s = g.S.Sink.view in
    let played = c.in-Ok.ensures.ok in
    let taken = subst (λ (b : Beginning). HasTaken b played.events played.world new.journal (d new.disk.now) (s new.out.now)) c.requires.origin played.taken.2 in
    recorded base c.args.schedule.now (d r.disk.now) (d new.disk.now) (s r.out.now) (s new.out.now) r.disk.ghost_name r.out.ghost_name played.events played.world new.journal taken c.in-Ok.board c.in-Ok.retries played.traced

pub returns-in-Err-clause-broken : goal.returns-in-Err-clause-broken
returns-in-Err-clause-broken g c =
    let base = base_tree c.args.base.value in
    let r = c.args.recorder.now in
    let new = c.play.new.taker in
    let d = g.D.Disk.view in
    let s = g.S.Sink.view in
    subst (λ stop. HasBrokenOff base c.args.schedule.now (d r.disk.now) (d new.disk.now) (s r.out.now) (s new.out.now) stop) (sym c.fault_of.ensures)
    (ended _ _ base c.args.schedule.now (d r.disk.now) (d new.disk.now) (s r.out.now) (s new.out.now) r.disk.ghost_name r.out.ghost_name new.journal new
    (λ events running took. subst (λ (b : Beginning). HasTaken b events running new.journal (d new.disk.now) (s new.out.now)) c.requires.origin took.2)
    (λ stop events e running refused. subst (λ (b : Beginning). HasRefused b stop events e running (d new.disk.now) (s new.out.now)) c.requires.origin refused.2)
    c.in-Err.ended c.in-Err.ensures.ended)
