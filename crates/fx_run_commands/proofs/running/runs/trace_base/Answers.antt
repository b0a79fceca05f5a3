use Rattle.std.proofs.Common.{length, sym, ◌∙◌}
use Rattle.fx_words.proofs.Below.{asked_below}
use Rattle.fx_run_commands.proofs.running.runs.trace_base.Goals as goal

pub run_by-requires : goal.run_by-requires
run_by-requires c =
    asked_below c.args.job.now c.deref.result.now (length c.args.base.value.plan) c.requires.job c.requires.count (sym c.in-Ok.ensures ∙ sym c.deref.ensures.value)

pub run_watching-requires : goal.run_watching-requires
run_watching-requires c =
    asked_below c.args.job.now c.deref-in-Watched.result.now (length c.args.base.value.plan) c.requires.job c.requires.count (sym c.in-Ok.ensures ∙ sym c.deref-in-Watched.ensures.value)
