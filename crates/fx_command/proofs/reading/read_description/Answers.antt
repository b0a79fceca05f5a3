use Rattle.std.proofs.Common.{IfSome, sym, subst}
use Rattle.fx_base.specs.Limits.{source_limit}
use Rattle.fx_command.specs.Reading.{ReadEnds}
use Rattle.fx_command.specs.Texts.{IsReadAt}
use Rattle.fx_command.specs.Files.{description_reading}
use Rattle.fx_command.proofs.Files.{description_read, description_alone, description_refused}
use Rattle.fx_command.proofs.reading.read_description.Goals as goal

pub returns-in-Err-clause-ends : goal.returns-in-Err-clause-ends
returns-in-Err-clause-ends g c =
    let a = g.H.Host.view c.args.host.now in
    let b = g.H.Host.view c.read_text.new.host in
    let path = c.args.path.now in
    let read = subst (λ x. IfSome a.told (λ t. IsReadAt t path source_limit x)) (sym c.deref.ensures.value) c.in_ok-text.ensures.read in
    subst (ReadEnds (description_reading path) a b) (sym c.at.ensures) (description_refused path c.deref.result.now a b c.in-Err.fault read c.in-Err.ensures.refused)

pub returns-clause-read : goal.returns-clause-read
returns-clause-read g c =
    let a = g.H.Host.view c.args.host.now in
    let path = c.args.path.now in
    let read = subst (λ x. IfSome a.told (λ t. IsReadAt t path source_limit x)) (sym c.deref.ensures.value) c.in_ok-text.ensures.read in
    description_read path c.deref.result.now c.in-Ok.spec a read c.in-Ok.ensures.read

pub returns-clause-only : goal.returns-clause-only
returns-clause-only g c =
    let a = g.H.Host.view c.args.host.now in
    let path = c.args.path.now in
    let read = subst (λ x. IfSome a.told (λ t. IsReadAt t path source_limit x)) (sym c.deref.ensures.value) c.in_ok-text.ensures.read in
    description_alone path c.deref.result.now c.in-Ok.spec a read c.in-Ok.ensures.read c.in-Ok.ensures.only
