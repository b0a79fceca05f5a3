use Rattle.std.proofs.Common.{◌≡◌, Some, refl, sym, ◌∙◌, subst}
use Rattle.std.specs.Prelude.{IsSome}
use Rattle.std.specs.List.{All}
use mathlib.Core.Option.{some-injective}
use Rattle.fx_turn.specs.Histories.{count}
use Rattle.fx_turn.specs.Plays.{Fits}
use Rattle.fx_turn.proofs.Moves.{closes}
use Rattle.fx_turn.proofs.steps.shut.Goals as goal

pub unwrap-requires : goal.unwrap-requires
unwrap-requires g c =
    let f = c.end-closed.ensures.last in
    let closed = closes _ _ _ f.0 _ _ f.1.0 f.1.1 c.requires.maker.0 c.requires.maker.1 c.requires.all in
    let home = some-injective _ _ (sym (f.4 0 (Some closed.kept) closed.home) ∙ c.take-home.ensures.value) in
    subst IsSome home refl

pub returns-clause-kept : goal.returns-clause-kept
returns-clause-kept g c =
    let f = c.end-closed.ensures.last in
    let closed = closes _ _ _ f.0 _ _ f.1.0 f.1.1 c.requires.maker.0 c.requires.maker.1 c.requires.all in
    let home = some-injective _ _ (sym (f.4 0 (Some closed.kept) closed.home) ∙ c.take-home.ensures.value) in
    let is : closed.kept ≡ c.unwrap.result = cc (home, c.unwrap.ensures) in
    subst (Fits g.K.Kept.base g.K.Kept.history g.K.Kept.shell c.args.maker.me.0) is closed.fits

pub returns-clause-joined : goal.returns-clause-joined
returns-clause-joined g c =
    let f = c.end-closed.ensures.last in
    let closed = closes _ _ _ f.0 _ _ f.1.0 f.1.1 c.requires.maker.0 c.requires.maker.1 c.requires.all in
    let home = some-injective _ _ (sym (f.4 0 (Some closed.kept) closed.home) ∙ c.take-home.ensures.value) in
    let is : closed.kept ≡ c.unwrap.result = cc (home, c.unwrap.ensures) in
    subst (λ k. All (λ j. count g.K.Kept.shell j.0 (g.K.Kept.history k) ≡ j.1) c.args.maker.me.0.joined) is closed.ended
