use Rattle.std.proofs.Common.{sym}
use Rattle.fx_gen.specs.Trees.{script_tree}
use Rattle.fx_large_commands.proofs.Standing.{scripted, unscripted_is}
use Rattle.fx_large_commands.proofs.base.script.Goals as goal

pub no_memory-requires : goal.no_memory-requires
no_memory-requires c =
    let t = c.requires.text in
    unscripted_is c.args.text.now t.0 t.1 c.args.before c.in-Err.fault t.2 c.requires.few t.3 c.in-Err.ensures.refused

pub returns-in-Ok-clause-script : goal.returns-in-Ok-clause-script
returns-in-Ok-clause-script c = λ number k small is. sym (c.in-Ok.ensures.only (script_tree number k) (scripted c.args.text.now number k c.args.before small c.requires.few is))
