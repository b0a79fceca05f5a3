use Rattle.std.proofs.Common.{◌≡◌, true}
use Rattle.fx_base.proofs.Errors.{if_err_of}
use Rattle.fx_outside.proofs.Views.{reads_then}
use Rattle.fx_spec.specs.Bases.{base_tree}
use Rattle.fx_words.specs.JobOf.{asked_views}
use Rattle.fx_inputs.specs.Inputs.{HasSpec}
use Rattle.fx_inputs.proofs.Stages.{some_spec, then_told}
use Rattle.fx_inputs.proofs.ViewsRows.{spec_unread, after_views, some_views, views_row_back, whole_bases}
use Rattle.fx_outside.specs.Host.{Guard}
use Rattle.fx_outside.proofs.Views.{asks_both}
use Rattle.fx_inputs.specs.Reads.{LetsInputs}
use Rattle.fx_inputs.specs.Views.{ViewsReadRow}
use Rattle.fx_inputs.proofs.views.read_bases.Goals as goal

pub returns-in_err-description-clause-ends : goal.returns-in_err-description-clause-ends
returns-in_err-description-clause-ends g c =
    let j = asked_views c.args.job.now in
    let a = g.H.Host.view c.args.host.now in
    let b = g.H.Host.view c.read_description.new.host in
    let status = c.in_err-description.field-0.0 in
    if_err_of (ViewsReadRow j a b) c.from_residual.result status c.from_residual.ensures.1 (spec_unread j a b status c.in_err-description.ensures.ends)

pub read_views-requires : goal.read_views-requires
read_views-requires g c =
    some_spec (asked_views c.args.job.now).inputs c.in_ok-description.description (g.H.Host.view c.args.host.now) (g.H.Host.view c.read_description.new.host) c.in_ok-description.ensures.same c.in_ok-description.ensures.read

pub returns-in-Err-clause-ends : goal.returns-in-Err-clause-ends
returns-in-Err-clause-ends g c =
    let j = asked_views c.args.job.now in
    let a = g.H.Host.view c.args.host.now in
    let b = g.H.Host.view c.read_description.new.host in
    let d = g.H.Host.view c.read_views.new.host in
    views_row_back j a b d c.in-Err.status c.in_ok-description.ensures.same c.in-Err.ensures.ends

pub read_rest-requires-clause-spec : goal.read_rest-requires-clause-spec
read_rest-requires-clause-spec g c =
    let j = asked_views c.args.job.now in
    let a = g.H.Host.view c.args.host.now in
    let b = g.H.Host.view c.read_description.new.host in
    let d = g.H.Host.view c.read_views.new.host in
    then_told (λ t. HasSpec t j.inputs c.in_ok-description.description) a d (reads_then a b d c.in_ok-description.ensures.same c.in-Ok.ensures.same) c.in_ok-description.ensures.read

pub returns-in-Err-read_rest-clause-ends : goal.returns-in-Err-read_rest-clause-ends
returns-in-Err-read_rest-clause-ends g c =
    let j = asked_views c.args.job.now in
    let a = g.H.Host.view c.args.host.now in
    let b = g.H.Host.view c.read_description.new.host in
    let d = g.H.Host.view c.read_views.new.host in
    let e = g.H.Host.view c.read_rest.new.host in
    let views = some_views j c.in_ok-description.description c.in-Ok.plan a b d c.in_ok-description.ensures.same c.in-Ok.ensures.same c.in_ok-description.ensures.read c.in-Ok.ensures.read in
    views_row_back j a d e c.in-Err-read_rest.status (reads_then a b d c.in_ok-description.ensures.same c.in-Ok.ensures.same) (after_views j d e c.in-Err-read_rest.status views c.in-Err-read_rest.ensures.ends)

pub returns-in-Ok-beside-clause-read : goal.returns-in-Ok-beside-clause-read
returns-in-Ok-beside-clause-read g c =
    let a = g.H.Host.view c.args.host.now in
    let b = g.H.Host.view c.read_description.new.host in
    let d = g.H.Host.view c.read_views.new.host in
    whole_bases (asked_views c.args.job.now) (base_tree c.in-Ok-read_rest.scripts.value) (base_tree c.in-Ok-beside.views.value) c.in-Ok.plan a b d c.in_ok-description.ensures.same c.in-Ok.ensures.same
    c.in-Ok-beside.ensures.plan c.in-Ok.ensures.read c.in-Ok-read_rest.ensures.read

pub returns-in-Err-read_rest-clause-fit : goal.returns-in-Err-read_rest-clause-fit
returns-in-Err-read_rest-clause-fit g c =
    let j = asked_views c.args.job.now in
    let Lets : Guard → Type 0 = λ guard. LetsInputs guard.may_read j.inputs × (guard.may_read j.views ≡ true) in
    let a = g.H.Host.view c.args.host.now in
    let b = g.H.Host.view c.read_description.new.host in
    let d = g.H.Host.view c.read_views.new.host in
    asks_both Lets a b (g.H.Host.view c.read_rest.new.host) (λ lets. c.in_ok-description.ensures.fit lets.0.spec) (asks_both Lets b d (g.H.Host.view c.read_rest.new.host) c.in-Ok.ensures.fit (λ lets. c.in-Err-read_rest.ensures.fit lets.0))

pub returns-in-Ok-beside-clause-fit : goal.returns-in-Ok-beside-clause-fit
returns-in-Ok-beside-clause-fit g c =
    let j = asked_views c.args.job.now in
    let Lets : Guard → Type 0 = λ guard. LetsInputs guard.may_read j.inputs × (guard.may_read j.views ≡ true) in
    let a = g.H.Host.view c.args.host.now in
    let b = g.H.Host.view c.read_description.new.host in
    let d = g.H.Host.view c.read_views.new.host in
    asks_both Lets a b (g.H.Host.view c.read_rest.new.host) (λ lets. c.in_ok-description.ensures.fit lets.0.spec) (asks_both Lets b d (g.H.Host.view c.read_rest.new.host) c.in-Ok.ensures.fit (λ lets. c.in-Ok-read_rest.ensures.fit lets.0))
