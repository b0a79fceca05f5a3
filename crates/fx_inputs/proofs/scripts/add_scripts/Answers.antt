use Rattle.std.proofs.Common.{rules, ◌≡◌, ◌+◌, ◌≤◌, [], ◌∷◌, ◌∙◌, length, Some, None, sym, ap, subst, arith, length-append}
use Rattle.std.proofs.lemmas.Iterator.Adapters.{YieldsList-from_vec}
use Rattle.std.proofs.lemmas.Iterator.Consumers.{YieldsList-turn, YieldsList-end}
use Rattle.fx_command.specs.Reading.{ReadEnds}
use Rattle.fx_spec.specs.Plans.{count_of}
use Rattle.fx_words.specs.Job.{script_place}
use Rattle.fx_words.specs.JobOf.{asked_inputs}
use Rattle.fx_inputs.specs.Causes.{scripts_reading}
use Rattle.fx_inputs.proofs.OneScript.{script_read}
use Rattle.fx_inputs.proofs.Plans.{IsReading, begins, ends, ends_alone, fits, reads_on}
use Rattle.fx_inputs.proofs.PlanOfTexts.{text_at, all_read, refused, stopped, written_back}
use Rattle.fx_inputs.proofs.scripts.add_scripts.Goals as goal

pub scripts-init : goal.scripts-init
scripts-init g c = begins (g.H.Host.view c.args.host.now).told (asked_inputs c.args.inputs.now).scripts _ c.requires.none

pub returns-in-Err-clause-ends : goal.returns-in-Err-clause-ends
returns-in-Err-clause-ends g c =
    let inputs = asked_inputs c.args.inputs.now in
    let a = g.H.Host.view c.args.host.now in
    let b = g.H.Host.view c.read_sources-texts.new.host in
    let texts = c.read_sources-texts.result.texts.items in
    let items = c.read_ahead.new.texts in
    let same : items ≡ texts = search rules in
    let k = length c.scripts.yielded in
    let gives = c.into_iter-text-iterator.ensures.into_iter_gives in
    let yields = YieldsList-from_vec {s = c.into_iter-text-iterator.result} items (gives.0 ∙ written_back items texts c.read_sources-texts.result.texts.len same c.read_sources-texts.result.texts.ok.0) (gives.1 ∙ c.read_sources-texts.result.texts.ok.0 ∙ ap (λ x. length x) (sym same)) in
    let turn = YieldsList-turn yields c.scripts.yielded c.scripts.text-iterator c.scripts.yielded_by c.next.result c.next.new.self c.in-Some.text c.in-Some.is c.next.ensures.steps in
    let here = text_at inputs.scripts a b texts items k c.in-Some.text c.read_sources-texts.result.stop same c.read_sources-texts.ensures.texts c.read_sources-texts.ensures.stop turn.0 turn.1 in
    let word : c.place.result ≡ script_place inputs k = c.place.ensures ∙ ap (λ n. script_place inputs n) (c.len-i.ensures.len ∙ c.scripts.invariant.count) in
    subst (ReadEnds (scripts_reading inputs) a b) (sym c.at.ensures)
    (refused inputs a b c.scripts.plan k c.scripts.before here.path c.in-Some.text c.place.result c.in-Err.fault c.scripts.invariant here.is word here.read c.in-Err.ensures.refused)

pub add-requires : goal.add-requires
add-requires g c =
    let inputs = asked_inputs c.args.inputs.now in
    let a = g.H.Host.view c.args.host.now in
    let b = g.H.Host.view c.read_sources-texts.new.host in
    let texts = c.read_sources-texts.result.texts.items in
    let items = c.read_ahead.new.texts in
    let same : items ≡ texts = search rules in
    let k = length c.scripts.yielded in
    let gives = c.into_iter-text-iterator.ensures.into_iter_gives in
    let yields = YieldsList-from_vec {s = c.into_iter-text-iterator.result} items (gives.0 ∙ written_back items texts c.read_sources-texts.result.texts.len same c.read_sources-texts.result.texts.ok.0) (gives.1 ∙ c.read_sources-texts.result.texts.ok.0 ∙ ap (λ x. length x) (sym same)) in
    let turn = YieldsList-turn yields c.scripts.yielded c.scripts.text-iterator c.scripts.yielded_by c.next.result c.next.new.self c.in-Some.text c.in-Some.is c.next.ensures.steps in
    let here = text_at inputs.scripts a b texts items k c.in-Some.text c.read_sources-texts.result.stop same c.read_sources-texts.ensures.texts c.read_sources-texts.ensures.stop turn.0 turn.1 in
    let few : length inputs.scripts ≤ 64 = c.requires.inputs.few in
    let within = here.within in
    fits c.scripts.plan c.in-Ok.script c.scripts.before c.scripts.invariant.planned c.scripts.invariant.sum c.in-Ok.ensures.shaped (omega (arith, c.scripts.invariant.count, within, few)) c.in-Ok.ensures.read.few

pub scripts-preserved : goal.scripts-preserved
scripts-preserved g c =
    let inputs = asked_inputs c.args.inputs.now in
    let a = g.H.Host.view c.args.host.now in
    let b = g.H.Host.view c.read_sources-texts.new.host in
    let texts = c.read_sources-texts.result.texts.items in
    let items = c.read_ahead.new.texts in
    let same : items ≡ texts = search rules in
    let k = length c.scripts.yielded in
    let gives = c.into_iter-text-iterator.ensures.into_iter_gives in
    let yields = YieldsList-from_vec {s = c.into_iter-text-iterator.result} items (gives.0 ∙ written_back items texts c.read_sources-texts.result.texts.len same c.read_sources-texts.result.texts.ok.0) (gives.1 ∙ c.read_sources-texts.result.texts.ok.0 ∙ ap (λ x. length x) (sym same)) in
    let turn = YieldsList-turn yields c.scripts.yielded c.scripts.text-iterator c.scripts.yielded_by c.next.result c.next.new.self c.in-Some.text c.in-Some.is c.next.ensures.steps in
    let here = text_at inputs.scripts a b texts items k c.in-Some.text c.read_sources-texts.result.stop same c.read_sources-texts.ensures.texts c.read_sources-texts.ensures.stop turn.0 turn.1 in
    let few : length inputs.scripts ≤ 64 = c.requires.inputs.few in
    let within = here.within in
    let counted : c.count-before.result ≡ count_of c.add.new.self k = c.count-before.ensures ∙ ap (λ n. count_of c.add.new.self n) (c.len-i.ensures.len ∙ c.scripts.invariant.count) in
    let goes = script_read a.told here.path c.in-Some.text c.scripts.before c.in-Ok.script here.read c.in-Ok.ensures.read c.in-Ok.ensures.only in
    subst (λ n. IsReading a.told inputs.scripts c.add.new.self n (c.scripts.before + c.count-before.result)) (sym (length-append c.scripts.yielded (c.in-Some.text ∷ [])))
    (reads_on a.told inputs.scripts c.scripts.plan c.add.new.self k c.scripts.before c.count-before.result here.path c.in-Ok.script c.scripts.invariant here.is c.in-Ok-add.ensures.ok counted c.in-Ok.ensures.shaped goes c.in-Ok.ensures.read.few (omega (arith, c.scripts.invariant.count, within, few)))

pub returns-in-None-stop-clause-read : goal.returns-in-None-stop-clause-read
returns-in-None-stop-clause-read g c =
    let inputs = asked_inputs c.args.inputs.now in
    let a = g.H.Host.view c.args.host.now in
    let b = g.H.Host.view c.read_sources-texts.new.host in
    let texts = c.read_sources-texts.result.texts.items in
    let items = c.read_ahead.new.texts in
    let same : items ≡ texts = search rules in
    let k = length c.scripts.yielded in
    let gives = c.into_iter-text-iterator.ensures.into_iter_gives in
    let yields = YieldsList-from_vec {s = c.into_iter-text-iterator.result} items (gives.0 ∙ written_back items texts c.read_sources-texts.result.texts.len same c.read_sources-texts.result.texts.ok.0) (gives.1 ∙ c.read_sources-texts.result.texts.ok.0 ∙ ap (λ x. length x) (sym same)) in
    let end = YieldsList-end yields c.scripts.yielded c.scripts.text-iterator c.scripts.yielded_by c.next.result c.next.new.self c.in-None.is c.next.ensures.steps in
    ends a.told inputs.scripts c.scripts.plan k c.scripts.before (all_read inputs.scripts a b texts items k c.read_sources-texts.result.stop None same end.1 c.in-None-stop.is c.read_sources-texts.ensures.stop) c.scripts.invariant.front

pub returns-in-None-stop-clause-only : goal.returns-in-None-stop-clause-only
returns-in-None-stop-clause-only g c =
    let inputs = asked_inputs c.args.inputs.now in
    let a = g.H.Host.view c.args.host.now in
    let b = g.H.Host.view c.read_sources-texts.new.host in
    let texts = c.read_sources-texts.result.texts.items in
    let items = c.read_ahead.new.texts in
    let same : items ≡ texts = search rules in
    let k = length c.scripts.yielded in
    let gives = c.into_iter-text-iterator.ensures.into_iter_gives in
    let yields = YieldsList-from_vec {s = c.into_iter-text-iterator.result} items (gives.0 ∙ written_back items texts c.read_sources-texts.result.texts.len same c.read_sources-texts.result.texts.ok.0) (gives.1 ∙ c.read_sources-texts.result.texts.ok.0 ∙ ap (λ x. length x) (sym same)) in
    let end = YieldsList-end yields c.scripts.yielded c.scripts.text-iterator c.scripts.yielded_by c.next.result c.next.new.self c.in-None.is c.next.ensures.steps in
    ends_alone a.told inputs c.scripts.plan k c.scripts.before (all_read inputs.scripts a b texts items k c.read_sources-texts.result.stop None same end.1 c.in-None-stop.is c.read_sources-texts.ensures.stop) c.scripts.invariant.front

pub returns-in-Some-stop-clause-ends : goal.returns-in-Some-stop-clause-ends
returns-in-Some-stop-clause-ends g c =
    let inputs = asked_inputs c.args.inputs.now in
    let a = g.H.Host.view c.args.host.now in
    let b = g.H.Host.view c.read_sources-texts.new.host in
    let texts = c.read_sources-texts.result.texts.items in
    let items = c.read_ahead.new.texts in
    let same : items ≡ texts = search rules in
    let k = length c.scripts.yielded in
    let gives = c.into_iter-text-iterator.ensures.into_iter_gives in
    let yields = YieldsList-from_vec {s = c.into_iter-text-iterator.result} items (gives.0 ∙ written_back items texts c.read_sources-texts.result.texts.len same c.read_sources-texts.result.texts.ok.0) (gives.1 ∙ c.read_sources-texts.result.texts.ok.0 ∙ ap (λ x. length x) (sym same)) in
    let end = YieldsList-end yields c.scripts.yielded c.scripts.text-iterator c.scripts.yielded_by c.next.result c.next.new.self c.in-None.is c.next.ensures.steps in
    subst (ReadEnds (scripts_reading inputs) a b) (sym c.from.ensures)
    (stopped inputs a b c.scripts.plan k c.scripts.before c.in-Some-stop.fault c.scripts.invariant (all_read inputs.scripts a b texts items k c.read_sources-texts.result.stop (Some c.in-Some-stop.fault) same end.1 c.in-Some-stop.is c.read_sources-texts.ensures.stop))
