use Rattle.fx_spec.specs.Bases.{base_tree}
use Rattle.fx_journaling.specs.Taken.{beginning}
use Rattle.fx_journaling.proofs.recording.record.Given as goal

abbrev pub ghosts-play_with : goal.ghosts-play_with
ghosts-play_with g a = record { began = beginning (base_tree a.base.value) (g.D.Disk.view a.recorder.now.disk.now) (g.S.Sink.view a.recorder.now.out.now) a.recorder.now.disk.ghost_name a.recorder.now.out.ghost_name }
