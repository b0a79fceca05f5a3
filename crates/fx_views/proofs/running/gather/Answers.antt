use denote.Param.Send.{sendable}
use Rattle.std.proofs.Common.{rules, [], ◌∷◌, length, subst, sym, ◌∙◌, arith, length-append}
use Rattle.std.proofs.lemmas.Iterator.Consumers.{YieldsList-turn, YieldsList-end}
use Rattle.std.proofs.lemmas.Iterator.Adapters.{YieldsList-from_vec}
use Rattle.fx_shared.proofs.Crosses.{Versioned-send}
use Rattle.fx_shared.specs.Crews.{base_of}
use Rattle.fx_crew.specs.Workers.{IsDone}
use Rattle.fx_crew.proofs.Works.{done_at}
use Rattle.fx_views.proofs.running.gather.Goals as goal

pub take_in-requires-send-T : goal.take_in-requires-send-T
take_in-requires-send-T g c κs = search (sendable, Versioned-send) depth 40

pub take_in-requires-clause-pass : goal.take_in-requires-clause-pass
take_in-requires-clause-pass g c κs within = c.loop-worked.invariant.pass

pub take_in-requires-clause-gathered : goal.take_in-requires-clause-gathered
take_in-requires-clause-gathered g c κs within = c.loop-worked.invariant.gathered

pub take_in-requires-clause-done : goal.take_in-requires-clause-done
take_in-requires-clause-done g c κs within =
    let base = base_of c.args.crew.now in
    let shares = c.args.crew.now.shares.now in
    let turn = YieldsList-turn (YieldsList-from_vec {s = c.into_iter-worked-iterator.result} c.args.all.items (search rules) (search rules)) c.loop-worked.yielded c.loop-worked.worked-iterator c.loop-worked.yielded_by c.next.result c.next.new.self c.in-Some.worked c.in-Some.is c.next.ensures.steps in
    subst (λ k. IsDone base shares k c.in_ok-worked.worked) (sym c.loop-worked.invariant.joins)
    (done_at base shares c.args.all.items (length c.loop-worked.yielded) c.in-Some.worked c.in_ok-worked.worked c.requires.done turn.0 turn.1 c.in_ok-worked.was)

pub loop-worked-preserved : goal.loop-worked-preserved
loop-worked-preserved g c =
    let i = c.loop-worked.invariant in
    let e = c.in_ok-take_in.ensures in
    let joined = i.joins in
    let more = e.joins in
    record {
      pass = e.pass;
      splits = e.splits ∙ i.splits;
      joins = omega (arith, joined, more, length-append c.loop-worked.yielded (c.in-Some.worked ∷ []));
      gathered = e.gathered;
    }

pub returns-clause-joins : goal.returns-clause-joins
returns-clause-joins g c =
    let end = YieldsList-end (YieldsList-from_vec {s = c.into_iter-worked-iterator.result} c.args.all.items (search rules) (search rules)) c.loop-worked.yielded c.loop-worked.worked-iterator c.loop-worked.yielded_by c.next.result c.next.new.self c.in-None.is c.next.ensures.steps in
    c.loop-worked.invariant.joins ∙ end.1
