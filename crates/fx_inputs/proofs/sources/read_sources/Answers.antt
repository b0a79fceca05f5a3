use Rattle.std.proofs.Common.{rules, ◌≡◌, ◌++◌, ◌∷◌, [], ◌∙◌, Some, IfSome, ap, sym, subst}
use Rattle.std.specs.Prelude.{slice_get}
use Rattle.fx_words.specs.JobOf.{asked_inputs}
use Rattle.fx_inputs.specs.ReadTexts.{AreScriptTexts}
use Rattle.fx_inputs.proofs.ReadTexts.{none_yet, one_more, fit_stop, stops_here}
use Rattle.fx_inputs.proofs.sources.read_sources.Goals as goal

pub scripts-init : goal.scripts-init
scripts-init g c = none_yet (g.H.Host.view c.args.host.now) (asked_inputs c.args.inputs.now).scripts _ (search rules)

pub returns-in-Err-clause-stop : goal.returns-in-Err-clause-stop
returns-in-Err-clause-stop g c =
    let here : slice_get (asked_inputs c.args.inputs.now).scripts c.scripts.i ≡ Some c.in-Some.path.now = search rules in
    stops_here (g.H.Host.view c.args.host.now) (g.H.Host.view c.scripts.host) (g.H.Host.view c.read_text.new.host) (asked_inputs c.args.inputs.now).scripts c.scripts.texts.items c.scripts.i c.in-Some.path.now c.in-Err.fault c.scripts.invariant here c.in-Err.ensures.failed

pub returns-in-Err-clause-fit : goal.returns-in-Err-clause-fit
returns-in-Err-clause-fit g c =
    let here : slice_get (asked_inputs c.args.inputs.now).scripts c.scripts.i ≡ Some c.in-Some.path.now = search rules in
    fit_stop (g.H.Host.view c.args.host.now) (g.H.Host.view c.scripts.host) (g.H.Host.view c.read_text.new.host) (asked_inputs c.args.inputs.now).scripts c.scripts.texts.items c.scripts.i c.in-Some.path.now c.scripts.invariant here c.in-Err.ensures.fit

pub returns-in-Err-push-clause-texts : goal.returns-in-Err-push-clause-texts
returns-in-Err-push-clause-texts g c =
    subst (λ x. IfSome (g.H.Host.view c.args.host.now).told (λ t. AreScriptTexts t (asked_inputs c.args.inputs.now).scripts x)) (sym c.in-Err-push.ensures.items) c.scripts.invariant.told

pub returns-in-Err-push-clause-fit : goal.returns-in-Err-push-clause-fit
returns-in-Err-push-clause-fit g c =
    let here : slice_get (asked_inputs c.args.inputs.now).scripts c.scripts.i ≡ Some c.in-Some.path.now = search rules in
    fit_stop (g.H.Host.view c.args.host.now) (g.H.Host.view c.scripts.host) (g.H.Host.view c.read_text.new.host) (asked_inputs c.args.inputs.now).scripts c.scripts.texts.items c.scripts.i c.in-Some.path.now c.scripts.invariant here c.in-Ok.ensures.fit

pub scripts-preserved : goal.scripts-preserved
scripts-preserved g c =
    let here : slice_get (asked_inputs c.args.inputs.now).scripts c.scripts.i ≡ Some c.in-Some.path.now = search rules in
    one_more (g.H.Host.view c.args.host.now) (g.H.Host.view c.scripts.host) (g.H.Host.view c.read_text.new.host) (asked_inputs c.args.inputs.now).scripts c.scripts.texts.items c.push.new.self.items c.scripts.i c.in-Some.path.now c.in-Ok.text.items
    c.scripts.invariant here (c.in-Ok-push.ensures.items ∙ ap (λ x. c.scripts.texts.items ++ x ∷ []) c.new.ensures) c.in-Ok.ensures.same c.in-Ok.ensures.fit c.in-Ok.ensures.read
