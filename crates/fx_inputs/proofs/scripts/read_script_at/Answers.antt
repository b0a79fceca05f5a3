use Rattle.std.proofs.Common.{IfSome, sym, subst}
use Rattle.fx_base.specs.Limits.{source_limit}
use Rattle.fx_command.specs.Reading.{ReadEnds}
use Rattle.fx_command.specs.Texts.{IsReadAt}
use Rattle.fx_inputs.specs.Causes.{script_reading}
use Rattle.fx_inputs.proofs.OneScript.{script_read, script_unread}
use Rattle.fx_inputs.proofs.scripts.read_script_at.Goals as goal

pub returns-in-Err-clause-ends : goal.returns-in-Err-clause-ends
returns-in-Err-clause-ends g c =
    let a = g.H.Host.view c.args.host.now in
    let b = g.H.Host.view c.read_text.new.host in
    let path = c.args.path.now in
    let read = subst (λ x. IfSome a.told (λ t. IsReadAt t path source_limit x)) (sym c.deref.ensures.value) c.in_ok-text.ensures.read in
    subst (ReadEnds (script_reading c.args.word path c.args.before) a b) (sym c.at.ensures)
    (script_unread path c.deref.result.now c.args.word c.args.before a b c.in-Err.fault read c.in-Err.ensures.refused)

pub returns-clause-read : goal.returns-clause-read
returns-clause-read g c =
    let a = g.H.Host.view c.args.host.now in
    let path = c.args.path.now in
    let read = subst (λ x. IfSome a.told (λ t. IsReadAt t path source_limit x)) (sym c.deref.ensures.value) c.in_ok-text.ensures.read in
    script_read a.told path c.deref.result.now c.args.before c.in-Ok.script read c.in-Ok.ensures.read c.in-Ok.ensures.only
