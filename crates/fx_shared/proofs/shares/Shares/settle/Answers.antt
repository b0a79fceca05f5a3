use Rattle.std.proofs.Common.{refl}
use Rattle.fx_turn.specs.Seats.{view}
use Rattle.fx_shared.proofs.Takings.{numbered_after, idle_after, based_after, legal_after, are_true, is_next, is_settled, is_seen, is_refused, keeps_base}
use Rattle.fx_shared.proofs.Taken.{took, gave, fits_log, same_base, is_given}
use Rattle.fx_shared.proofs.shares.Shares.settle.Goals as goal

pub settle_keeping_reads-answer-requires-clause-next : goal.settle_keeping_reads-answer-requires-clause-next
settle_keeping_reads-answer-requires-clause-next g c =
    let k = g.T.Kept in
    let law = g.met.T.Logged g.world.𝓛 g.world.𝓜 g.world.𝓡 ((λ s x. x), (λ x. x), (λ x. x), λ x. x) in
    let log = g.T.Logged.log in
    let b = c.take-log.result in
    let taken = took k.base k.history k.shell log law.begun law.ordered law.numbered (view c.args.pass.now) (view c.take-log.new.seat) b c.take-log.ensures.seat in
    let fits = fits_log k.base k.history k.shell log law.begun law.ordered law.numbered (view c.args.pass.now) b c.take-log.ensures.kept in
    is_next _ _ _ (log b) (log b) taken refl fits c.args.attempt c.requires.whose c.requires.next

pub settle_keeping_reads-answer-requires-clause-reads : goal.settle_keeping_reads-answer-requires-clause-reads
settle_keeping_reads-answer-requires-clause-reads g c =
    let k = g.T.Kept in
    let law = g.met.T.Logged g.world.𝓛 g.world.𝓜 g.world.𝓡 ((λ s x. x), (λ x. x), (λ x. x), λ x. x) in
    let log = g.T.Logged.log in
    let b = c.take-log.result in
    let taken = took k.base k.history k.shell log law.begun law.ordered law.numbered (view c.args.pass.now) (view c.take-log.new.seat) b c.take-log.ensures.seat in
    let fits = fits_log k.base k.history k.shell log law.begun law.ordered law.numbered (view c.args.pass.now) b c.take-log.ensures.kept in
    are_true _ _ _ (log b) (log b) taken refl fits c.args.attempt.reads c.requires.reads

pub give-requires-clause-base : goal.give-requires-clause-base
give-requires-clause-base g c κs within =
    let k = g.T.Kept in
    let law = g.met.T.Logged g.world.𝓛 g.world.𝓜 g.world.𝓡 ((λ s x. x), (λ x. x), (λ x. x), λ x. x) in
    let log = g.T.Logged.log in
    let b = c.take-log.result in
    let d = c.settle_keeping_reads-answer.new.self in
    let taken = took k.base k.history k.shell log law.begun law.ordered law.numbered (view c.args.pass.now) (view c.take-log.new.seat) b c.take-log.ensures.seat in
    let fits = fits_log k.base k.history k.shell log law.begun law.ordered law.numbered (view c.args.pass.now) b c.take-log.ensures.kept in
    let same = keeps_base (view c.args.pass.now) (view c.take-log.new.seat) _ (log b) (log d) taken refl fits c.args.attempt c.settle_keeping_reads-answer.result c.settle_keeping_reads-answer.ensures.settled c.settle_keeping_reads-answer.ensures.refused in
    same_base k.base k.history k.shell log law.begun law.ordered law.numbered (view c.args.pass.now) (view c.take-log.new.seat) b d c.take-log.ensures.seat c.take-log.ensures.kept same

pub give-requires-clause-history : goal.give-requires-clause-history
give-requires-clause-history g c κs within =
    let k = g.T.Kept in
    let law = g.met.T.Logged g.world.𝓛 g.world.𝓜 g.world.𝓡 ((λ s x. x), (λ x. x), (λ x. x), λ x. x) in
    is_given k.base k.history k.shell g.T.Logged.log law.begun law.ordered law.numbered (view c.args.pass.now) (view c.take-log.new.seat) c.take-log.result c.settle_keeping_reads-answer.new.self c.args.attempt c.settle_keeping_reads-answer.result
    c.take-log.ensures.seat c.requires.whose c.settle_keeping_reads-answer.ensures.settled c.settle_keeping_reads-answer.ensures.refused

pub returns-clause-ready : goal.returns-clause-ready
returns-clause-ready g c =
    let k = g.T.Kept in
    let law = g.met.T.Logged g.world.𝓛 g.world.𝓜 g.world.𝓡 ((λ s x. x), (λ x. x), (λ x. x), λ x. x) in
    let log = g.T.Logged.log in
    let b = c.take-log.result in
    let d = c.settle_keeping_reads-answer.new.self in
    let taken = took k.base k.history k.shell log law.begun law.ordered law.numbered (view c.args.pass.now) (view c.take-log.new.seat) b c.take-log.ensures.seat in
    let given = gave k.base k.history k.shell log law.begun law.ordered law.numbered (view c.take-log.new.seat) (view c.give.new.seat) d c.give.ensures.seat in
    record {
      turn = c.give.ensures.turn;
      numbered = numbered_after (view c.args.pass.now) (view c.take-log.new.seat) (view c.give.new.seat) (log b) (log d) taken given c.requires.ready.numbered;
      idle = idle_after (view c.args.pass.now) (view c.take-log.new.seat) (view c.give.new.seat) (log b) (log d) taken given;
      based = based_after (view c.args.pass.now) (view c.take-log.new.seat) (view c.give.new.seat) (log b) (log d) taken given _ c.requires.ready.based;
    }

pub returns-clause-legal : goal.returns-clause-legal
returns-clause-legal g c =
    let k = g.T.Kept in
    let law = g.met.T.Logged g.world.𝓛 g.world.𝓜 g.world.𝓡 ((λ s x. x), (λ x. x), (λ x. x), λ x. x) in
    let log = g.T.Logged.log in
    let b = c.take-log.result in
    let d = c.settle_keeping_reads-answer.new.self in
    let taken = took k.base k.history k.shell log law.begun law.ordered law.numbered (view c.args.pass.now) (view c.take-log.new.seat) b c.take-log.ensures.seat in
    let given = gave k.base k.history k.shell log law.begun law.ordered law.numbered (view c.take-log.new.seat) (view c.give.new.seat) d c.give.ensures.seat in
    let fits = fits_log k.base k.history k.shell log law.begun law.ordered law.numbered (view c.args.pass.now) b c.take-log.ensures.kept in
    let same = keeps_base _ _ _ (log b) (log d) taken given fits c.args.attempt c.settle_keeping_reads-answer.result c.settle_keeping_reads-answer.ensures.settled c.settle_keeping_reads-answer.ensures.refused in
    legal_after _ _ _ (log b) (log d) taken given fits same c.entries-entries.ensures.log

pub returns-clause-settled : goal.returns-clause-settled
returns-clause-settled g c =
    let k = g.T.Kept in
    let law = g.met.T.Logged g.world.𝓛 g.world.𝓜 g.world.𝓡 ((λ s x. x), (λ x. x), (λ x. x), λ x. x) in
    let log = g.T.Logged.log in
    let b = c.take-log.result in
    let d = c.settle_keeping_reads-answer.new.self in
    let taken = took k.base k.history k.shell log law.begun law.ordered law.numbered (view c.args.pass.now) (view c.take-log.new.seat) b c.take-log.ensures.seat in
    let given = gave k.base k.history k.shell log law.begun law.ordered law.numbered (view c.take-log.new.seat) (view c.give.new.seat) d c.give.ensures.seat in
    let fits = fits_log k.base k.history k.shell log law.begun law.ordered law.numbered (view c.args.pass.now) b c.take-log.ensures.kept in
    let e = c.settle_keeping_reads-answer.ensures in
    rw c.entry_of.ensures (is_settled _ _ _ (log b) (log d) taken given fits c.args.attempt c.settle_keeping_reads-answer.result e.entry e.settled e.fresh)

pub returns-clause-seen : goal.returns-clause-seen
returns-clause-seen g c =
    let k = g.T.Kept in
    let law = g.met.T.Logged g.world.𝓛 g.world.𝓜 g.world.𝓡 ((λ s x. x), (λ x. x), (λ x. x), λ x. x) in
    let log = g.T.Logged.log in
    let b = c.take-log.result in
    let d = c.settle_keeping_reads-answer.new.self in
    let taken = took k.base k.history k.shell log law.begun law.ordered law.numbered (view c.args.pass.now) (view c.take-log.new.seat) b c.take-log.ensures.seat in
    let given = gave k.base k.history k.shell log law.begun law.ordered law.numbered (view c.take-log.new.seat) (view c.give.new.seat) d c.give.ensures.seat in
    let fits = fits_log k.base k.history k.shell log law.begun law.ordered law.numbered (view c.args.pass.now) b c.take-log.ensures.kept in
    rw c.entry_of.ensures (is_seen _ _ _ (log b) (log d) taken given fits c.args.attempt c.settle_keeping_reads-answer.result c.settle_keeping_reads-answer.ensures.refused)

pub returns-clause-refused : goal.returns-clause-refused
returns-clause-refused g c =
    let k = g.T.Kept in
    let law = g.met.T.Logged g.world.𝓛 g.world.𝓜 g.world.𝓡 ((λ s x. x), (λ x. x), (λ x. x), λ x. x) in
    let log = g.T.Logged.log in
    let b = c.take-log.result in
    let d = c.settle_keeping_reads-answer.new.self in
    let taken = took k.base k.history k.shell log law.begun law.ordered law.numbered (view c.args.pass.now) (view c.take-log.new.seat) b c.take-log.ensures.seat in
    let given = gave k.base k.history k.shell log law.begun law.ordered law.numbered (view c.take-log.new.seat) (view c.give.new.seat) d c.give.ensures.seat in
    let fits = fits_log k.base k.history k.shell log law.begun law.ordered law.numbered (view c.args.pass.now) b c.take-log.ensures.kept in
    rw c.entry_of.ensures (is_refused _ _ _ (log b) (log d) taken given fits c.args.attempt c.settle_keeping_reads-answer.result c.settle_keeping_reads-answer.ensures.refused)
