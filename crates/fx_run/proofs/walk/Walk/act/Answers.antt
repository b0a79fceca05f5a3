use Rattle.std.proofs.Common.{Ok, [], ap}
use Rattle.fx_spec.specs.CommandTree.{ActTree}
use Rattle.fx_spec.specs.Move.{go_out, go_up}
use Rattle.fx_spec.specs.Views.{act_tree}
use Rattle.fx_view.specs.Own.{own_at}
use Rattle.fx_run.proofs.Taken.{acts_of, moves_acts, told_acts, told_refused}
use Rattle.fx_run.proofs.walk.Walk.act.Goals as goal

pub returns-in-Into : goal.returns-in-Into
returns-in-Into g c = record { acts = acts_of c.args.variables.now (act_tree c.args.act.now) ActTree.into (ap act_tree c.in-Into.is) (moves_acts c.go_into.ensures.moves) }

pub returns-in-Next : goal.returns-in-Next
returns-in-Next g c = record { acts = acts_of c.args.variables.now (act_tree c.args.act.now) ActTree.next (ap act_tree c.in-Next.is) (moves_acts c.go_next.ensures.moves) }

pub returns-in-Prev : goal.returns-in-Prev
returns-in-Prev g c = record { acts = acts_of c.args.variables.now (act_tree c.args.act.now) ActTree.prev (ap act_tree c.in-Prev.is) (moves_acts c.go_prev.ensures.moves) }

pub returns-in-Down : goal.returns-in-Down
returns-in-Down g c = record { acts = acts_of c.args.variables.now (act_tree c.args.act.now) ActTree.down (ap act_tree c.in-Down.is) (moves_acts c.go_down.ensures.moves) }

pub returns-in_err-go_out-in-Out : goal.returns-in_err-go_out-in-Out
returns-in_err-go_out-in-Out g c = record {
  acts =
      acts_of c.args.variables.now (act_tree c.args.act.now) ActTree.out (ap act_tree c.in-Out.is)
      (told_refused (go_out c.args.self.now.zip.address) c.in_err-go_out-in-Out.field-0.0 c.from_residual.ensures.1 c.in_err-go_out-in-Out.ensures.address c.in_err-go_out-in-Out.ensures.refused c.requires.fresh);
}

pub returns-in_ok-go_out-in-Out : goal.returns-in_ok-go_out-in-Out
returns-in_ok-go_out-in-Out g c = record {
  acts =
      acts_of c.args.variables.now (act_tree c.args.act.now) ActTree.out (ap act_tree c.in-Out.is)
      (told_acts (go_out c.args.self.now.zip.address) c.in_ok-go_out-in-Out.ensures.address c.in_ok-go_out-in-Out.ensures.root (c.in_ok-go_out-in-Out.ensures.fresh (g.R.Reader.meaning.reads c.args.self.now.session.reader.now) (own_at c.args.self.now.session.own) c.requires.fresh));
}

pub returns-in_err-go_up-in-Up : goal.returns-in_err-go_up-in-Up
returns-in_err-go_up-in-Up g c = record {
  acts =
      acts_of c.args.variables.now (act_tree c.args.act.now) ActTree.up (ap act_tree c.in-Up.is)
      (told_refused (go_up c.args.self.now.zip.address) c.in_err-go_up-in-Up.field-0.0 c.from_residual-in_err-go_up-in-Up.ensures.1 c.in_err-go_up-in-Up.ensures.address c.in_err-go_up-in-Up.ensures.refused c.requires.fresh);
}

pub returns-in_ok-go_up-in-Up : goal.returns-in_ok-go_up-in-Up
returns-in_ok-go_up-in-Up g c = record {
  acts =
      acts_of c.args.variables.now (act_tree c.args.act.now) ActTree.up (ap act_tree c.in-Up.is)
      (told_acts (go_up c.args.self.now.zip.address) c.in_ok-go_up-in-Up.ensures.address c.in_ok-go_up-in-Up.ensures.root (c.in_ok-go_up-in-Up.ensures.fresh (g.R.Reader.meaning.reads c.args.self.now.session.reader.now) (own_at c.args.self.now.session.own) c.requires.fresh));
}

pub returns-in-Top : goal.returns-in-Top
returns-in-Top g c = record {
  acts =
      acts_of c.args.variables.now (act_tree c.args.act.now) ActTree.top (ap act_tree c.in-Top.is)
      (told_acts (Ok []) (ap (λ a. Ok a) c.go_top.ensures.address) c.go_top.ensures.root (c.go_top.ensures.fresh (g.R.Reader.meaning.reads c.args.self.now.session.reader.now) (own_at c.args.self.now.session.own)));
}
