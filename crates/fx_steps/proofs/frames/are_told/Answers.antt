use Rattle.fx_steps.proofs.Prelude.{◌+◌, ◌++◌, ◌∷◌, [], ◌<◌, ◌≤◌, length, take, refl, sym, ap, ◌∙◌, rules, take_more, slice_get_read}
use Rattle.fx_steps.proofs.Told.{not_told, told_more}
use Rattle.fx_steps.proofs.frames.are_told.Goals as goal

pub loop-frame-init : goal.loop-frame-init
loop-frame-init c = refl

pub returns-then-frame-reads : goal.returns-then-frame-reads
returns-then-frame-reads c =
    let frames = c.args.frames.now in
    let i = c.loop-frame.frame-index in
    let within : i < length frames = search rules in
    sym (not_told c.args.reads frames i c.frame-item.result (slice_get_read frames (length frames) i c.frame-item.result refl within c.frame-item.is) c.if-frame-reads.true)

pub loop-frame-preserved : goal.loop-frame-preserved
loop-frame-preserved c =
    let frames = c.args.frames.now in
    let i = c.loop-frame.frame-index in
    let item = c.frame-item.result in
    let within : i < length frames = search rules in
    let few : item.reads ≤ c.args.reads = search rules in
    told_more c.args.reads (take i frames) (take (i + 1) frames) item (take_more frames i item within ∙ ap (λ y. take i frames ++ y ∷ []) (sym c.frame-item.is)) few c.loop-frame.invariant
