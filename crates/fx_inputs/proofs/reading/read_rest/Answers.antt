use Rattle.std.proofs.Common.{IfSome, ap, sym, subst}
use Rattle.fx_outside.proofs.Views.{reads_none, asks_both}
use Rattle.fx_spec.specs.Bases.{base_tree}
use Rattle.fx_words.specs.JobOf.{asked_inputs}
use Rattle.fx_inputs.specs.Inputs.{AreOnlyScripts}
use Rattle.fx_inputs.specs.Reads.{LetsInputs}
use Rattle.fx_inputs.proofs.ReadRows.{read_row_back}
use Rattle.fx_inputs.proofs.Stages.{whole_base}
use Rattle.fx_inputs.proofs.reading.read_rest.Goals as goal

pub returns-in-Err-read_folder-clause-ends : goal.returns-in-Err-read_folder-clause-ends
returns-in-Err-read_folder-clause-ends g c =
    let inputs = asked_inputs c.args.inputs.now in
    let a = g.H.Host.view c.args.host.now in
    let b = g.H.Host.view c.read_scripts.new.host in
    let d = g.H.Host.view c.read_folder.new.host in
    read_row_back inputs a b d c.in-Err-read_folder.status c.in-Ok.ensures.same c.in-Err-read_folder.ensures.ends

pub returns-clause-read : goal.returns-clause-read
returns-clause-read g c =
    let a = g.H.Host.view c.args.host.now in
    let b = g.H.Host.view c.read_scripts.new.host in
    whole_base (asked_inputs c.args.inputs.now) (base_tree c.in_ok-base.base.value) c.args.description c.in-Ok.plan c.in-Ok-read_folder.loaded.nodes a a b
    (reads_none a) c.in-Ok.ensures.same (ap base_tree c.in_ok-base.ensures) c.requires.spec c.in-Ok.ensures.read c.in-Ok-read_folder.ensures.loaded

pub returns-clause-only : goal.returns-clause-only
returns-clause-only g c =
    let a = g.H.Host.view c.args.host.now in
    subst (λ plan. IfSome a.told (λ t. AreOnlyScripts t (asked_inputs c.args.inputs.now) plan)) (sym (ap (λ b. (base_tree b).plan) c.in_ok-base.ensures)) c.in-Ok.ensures.only

pub returns-in-Err-read_folder-clause-fit : goal.returns-in-Err-read_folder-clause-fit
returns-in-Err-read_folder-clause-fit g c =
    asks_both (λ guard. LetsInputs guard.may_read (asked_inputs c.args.inputs.now)) (g.H.Host.view c.args.host.now) (g.H.Host.view c.read_scripts.new.host) (g.H.Host.view c.read_folder.new.host) c.in-Ok.ensures.fit c.in-Err-read_folder.ensures.fit

pub returns-in_err-base-clause-fit : goal.returns-in_err-base-clause-fit
returns-in_err-base-clause-fit g c =
    asks_both (λ guard. LetsInputs guard.may_read (asked_inputs c.args.inputs.now)) (g.H.Host.view c.args.host.now) (g.H.Host.view c.read_scripts.new.host) (g.H.Host.view c.read_folder.new.host) c.in-Ok.ensures.fit c.in-Ok-read_folder.ensures.fit

pub returns-clause-fit : goal.returns-clause-fit
returns-clause-fit g c =
    asks_both (λ guard. LetsInputs guard.may_read (asked_inputs c.args.inputs.now)) (g.H.Host.view c.args.host.now) (g.H.Host.view c.read_scripts.new.host) (g.H.Host.view c.read_folder.new.host) c.in-Ok.ensures.fit c.in-Ok-read_folder.ensures.fit
