use Rattle.fx_turn.specs.Seats.{view}
use Rattle.fx_shared.proofs.Taken.{closes_base, closes_seen, closes_joined}
use Rattle.fx_shared.proofs.shares.Shares.close.Goals as goal

pub returns-clause-base : goal.returns-clause-base
returns-clause-base g c =
    let k = g.T.Kept in
    let law = g.met.T.Logged g.world.𝓛 g.world.𝓜 g.world.𝓡 ((λ s x. x), (λ x. x), (λ x. x), λ x. x) in
    closes_base k.base k.history k.shell g.T.Logged.log law.begun law.ordered law.numbered (view c.args.maker) c.close-log.result c.close-log.ensures.base

pub returns-clause-seen : goal.returns-clause-seen
returns-clause-seen g c =
    let k = g.T.Kept in
    let law = g.met.T.Logged g.world.𝓛 g.world.𝓜 g.world.𝓡 ((λ s x. x), (λ x. x), (λ x. x), λ x. x) in
    closes_seen k.base k.history k.shell g.T.Logged.log law.begun law.ordered law.numbered (view c.args.maker).seen c.close-log.result c.close-log.ensures.seen

pub returns-clause-joined : goal.returns-clause-joined
returns-clause-joined g c =
    let k = g.T.Kept in
    let law = g.met.T.Logged g.world.𝓛 g.world.𝓜 g.world.𝓡 ((λ s x. x), (λ x. x), (λ x. x), λ x. x) in
    closes_joined k.base k.history k.shell g.T.Logged.log law.begun law.ordered law.numbered (view c.args.maker).joined c.close-log.result c.close-log.ensures.joined
