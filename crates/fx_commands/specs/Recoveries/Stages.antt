-- How the last stage of `recover` ends, on any disk of which the stages before have told.
use Rattle.std.specs.Prelude.{List, IfSome}
use Rattle.fx_outside.specs.Host.{HostView}
use Rattle.fx_outside.specs.Sink.{SinkView}
use Rattle.fx_spec.specs.Plans.{Turn}
use Rattle.fx_spec.specs.Order.{BaseTree}
use Rattle.fx_words.specs.Job.{RecoverJob}
use Rattle.fx_command.specs.declared.status.Status.{Status}
use Rattle.fx_durable.specs.Disk.{DiskView}
use Rattle.fx_commands.specs.Recoveries.Recovered.{HasOrder}
use Rattle.fx_commands.specs.Recoveries.Rows.{RecoverEnd}

-- once this legal order of the base is read, `recover` ends so
abbrev pub LeaveEnd : RecoverJob → BaseTree → List Turn → HostView → HostView → SinkView → SinkView → Status → Type 0
LeaveEnd j base order host host' sink sink' st =
    (disk disk' : DiskView) → IfSome host.told (λ t. HasOrder t j disk base order) → RecoverEnd j host host' sink sink' disk disk' st
