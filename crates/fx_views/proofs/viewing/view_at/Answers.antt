use Rattle.std.proofs.Common.{refl, sym, ap, subst, ◌∙◌, arith}
use Rattle.std.specs.FinMap.{get}
use Rattle.fx_store.specs.Whole.{IsWhole}
use Rattle.fx_spec.specs.declared.base.Base.{Base}
use Rattle.fx_spec.specs.Bases.{base_tree}
use Rattle.fx_turn.specs.Seats.{view}
use Rattle.fx_shared.specs.Passes.{HasSeenMore}
use Rattle.fx_shared.specs.Shared.{IsReadyPass}
use Rattle.fx_shared.specs.Crews.{base_of}
use Rattle.fx_shared.specs.Past.{AreAt, begins_to_vouch_at}
use Rattle.fx_shared.proofs.Pasts.{more_by, within_on}
use Rattle.fx_shared.proofs.Truths.{begins_short}
use Rattle.fx_views.proofs.Viewings.{view_there}
use Rattle.fx_views.proofs.viewing.view_at.Goals as goal

pub returns-in-Ok-clause-ready : goal.returns-in-Ok-clause-ready
returns-in-Ok-clause-ready g c =
    let start = c.open-past.result in
    let vouched = c.in-Ok.ensures.attempted.vouched start (refl, refl, refl, begins_to_vouch_at (view start.pass) start.position start.reads start.true_reads) in
    subst (λ snaps. IsReadyPass snaps c.into_pass-pass.result) (vouched.0 ∙ c.open-past.ensures.snaps) c.into_pass-pass.ensures.ready

pub returns-in-Ok-clause-more : goal.returns-in-Ok-clause-more
returns-in-Ok-clause-more g c =
    let start = c.open-past.result in
    let vouched = c.in-Ok.ensures.attempted.vouched start (refl, refl, refl, begins_to_vouch_at (view start.pass) start.position start.reads start.true_reads) in
    more_by (view c.args.pass) (view start.pass) (view c.run-ended.new.reader.pass) (view c.into_pass-pass.result) c.open-past.ensures.seen (sym (ap view c.into_pass-pass.ensures.pass)) vouched.3.seen

pub returns-in-Ok-clause-after : goal.returns-in-Ok-clause-after
returns-in-Ok-clause-after g c =
    let short = begins_short (view c.args.pass).seen (view c.open-past.result.pass).seen c.open-past.ensures.seen.seen in
    let here = c.view_of.ensures.position ∙ (c.position-position.ensures ∙ c.open-past.ensures.position) in
    omega (arith, here, short)

pub returns-in-Ok-clause-view : goal.returns-in-Ok-clause-view
returns-in-Ok-clause-view g c =
    let start = c.open-past.result in
    let now = c.run-ended.new.reader in
    let back = view c.into_pass-pass.result in
    let attempted = c.in-Ok.ensures.attempted in
    let reads = c.in-Ok.attempt.reads in
    let vouched = attempted.vouched start (refl, refl, refl, begins_to_vouch_at (view start.pass) start.position start.reads start.true_reads) in
    let last = sym (ap view c.into_pass-pass.ensures.pass) in
    let more = more_by (view c.args.pass) (view start.pass) (view now.pass) back c.open-past.ensures.seen last vouched.3.seen in
    let stand = subst (λ p. AreAt back p reads) vouched.1 (subst (λ v. AreAt v now.position reads) last vouched.3.stand) in
    let at = c.open-past.ensures.position in
    let within = within_on (view start.pass) back start.position (subst (HasSeenMore (view start.pass)) last vouched.3.seen) (omega (arith, at)) in
    let whole = subst (λ (b : Base). IsWhole (get b.loaded.nodes)) c.deref.ensures c.places-whole.ensures.table.whole in
    view_there (base_of c.args.crew.now) (base_tree c.args.views.now.value) back start.position c.args.txn c.in-Ok.attempt c.view_of.result c.requires.alike whole (more.base ∙ c.requires.based)
    within stand attempted.whose attempted.number c.in-Ok.ensures.explained (c.view_of.ensures.position ∙ c.position-position.ensures) c.view_of.ensures.outputs c.view_of.ensures.end
