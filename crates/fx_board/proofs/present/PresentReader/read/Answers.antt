use Rattle.std.proofs.Common.{ap, ◌∙◌, length}
use Rattle.std.specs.FinMap.{get}
use Rattle.fx_board.specs.Board.{last_state}
use Rattle.fx_board.specs.Log.{Log}
use Rattle.fx_board.proofs.Reading.{now_added}
use Rattle.fx_board.proofs.present.PresentReader.read.Goals as goal

pub returns-clause-vouched : goal.returns-clause-vouched
returns-clause-vouched c = λ start v. (
  v.0,
  now_added start.board.now start.reads c.args.self.now.reads c.keep.new.self c.args.path.now c.in_ok-node.node c.in_ok-node.position v.1 c.in_ok-kept.ensures.kept
      (c.in_ok-node.ensures.node ∙ ap (λ (l : Log). get (last_state l) c.args.path.now) v.0)
      (c.in_ok-node.ensures.position ∙ ap (λ (l : Log). length l.order) v.0),
)
