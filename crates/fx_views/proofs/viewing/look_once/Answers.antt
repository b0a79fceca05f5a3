use Rattle.std.proofs.Common.{◌≡◌, ◌≤◌, length, sym, subst, ◌∙◌}
use Rattle.fx_spec.specs.Bases.{base_tree}
use Rattle.fx_turn.specs.Seats.{view}
use Rattle.fx_shared.specs.Crews.{base_of}
use Rattle.fx_report.specs.declared.printed.View.{View}
use Rattle.fx_views.proofs.Viewings.{views_next, last_same}
use Rattle.fx_views.proofs.viewing.look_once.Goals as goal

pub returns-clause-onlooker : goal.returns-clause-onlooker
returns-clause-onlooker g c =
    let w = c.requires.onlooker in
    let r = c.in_ok-pass.ensures in
    record {
      ready = r.ready;
      number = r.more.number ∙ w.number;
      based = r.more.base ∙ w.based;
      none = r.more.mine ∙ w.none;
      viewed = views_next (base_of c.args.crew.now) (base_tree c.args.views.now.value) c.args.txn (view c.args.onlooker.pass).seen (view c.in_ok-pass.pass) c.args.onlooker.viewed c.push.new.self c.in_ok-pass.view c.requires.planned r.more.seen r.after r.view w.viewed c.in_ok-push.ensures.ok;
    }

pub returns-clause-after : goal.returns-clause-after
returns-clause-after g c views last is =
    let same : c.in_ok-pass.view ≡ last = last_same c.args.onlooker.viewed views c.in_ok-pass.view last (sym c.in_ok-push.ensures.ok ∙ is) in
    subst (λ (v : View). length (view c.args.onlooker.pass).seen ≤ v.position) same c.in_ok-pass.ensures.after
