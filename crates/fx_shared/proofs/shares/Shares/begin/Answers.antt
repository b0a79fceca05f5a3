use Rattle.std.proofs.Common.{refl}
use Rattle.fx_turn.specs.Seats.{view}
use Rattle.fx_shared.proofs.Takings.{numbered_after, idle_after, based_after, legal_after}
use Rattle.fx_shared.proofs.Taken.{took, gave, fits_log}
use Rattle.fx_shared.proofs.shares.Shares.begin.Goals as goal

pub returns-clause-ready : goal.returns-clause-ready
returns-clause-ready g c =
    let k = g.T.Kept in
    let law = g.met.T.Logged g.world.𝓛 g.world.𝓜 g.world.𝓡 ((λ s x. x), (λ x. x), (λ x. x), λ x. x) in
    let log = g.T.Logged.log in
    let b = c.take-log.result in
    let taken = took k.base k.history k.shell log law.begun law.ordered law.numbered (view c.args.pass.now) (view c.take-log.new.seat) b c.take-log.ensures.seat in
    let given = gave k.base k.history k.shell log law.begun law.ordered law.numbered (view c.take-log.new.seat) (view c.give.new.seat) b c.give.ensures.seat in
    record {
      turn = c.give.ensures.turn;
      numbered = numbered_after (view c.args.pass.now) (view c.take-log.new.seat) (view c.give.new.seat) (log b) (log b) taken given c.requires.numbered;
      idle = idle_after (view c.args.pass.now) (view c.take-log.new.seat) (view c.give.new.seat) (log b) (log b) taken given;
      based = based_after (view c.args.pass.now) (view c.take-log.new.seat) (view c.give.new.seat) (log b) (log b) taken given _ c.requires.based;
    }

pub returns-clause-legal : goal.returns-clause-legal
returns-clause-legal g c =
    let k = g.T.Kept in
    let law = g.met.T.Logged g.world.𝓛 g.world.𝓜 g.world.𝓡 ((λ s x. x), (λ x. x), (λ x. x), λ x. x) in
    let log = g.T.Logged.log in
    let b = c.take-log.result in
    let taken = took k.base k.history k.shell log law.begun law.ordered law.numbered (view c.args.pass.now) (view c.take-log.new.seat) b c.take-log.ensures.seat in
    let given = gave k.base k.history k.shell log law.begun law.ordered law.numbered (view c.take-log.new.seat) (view c.give.new.seat) b c.give.ensures.seat in
    let fits = fits_log k.base k.history k.shell log law.begun law.ordered law.numbered (view c.args.pass.now) b c.take-log.ensures.kept in
    legal_after _ _ _ (log b) (log b) taken given fits refl c.entries-entries.ensures.log
