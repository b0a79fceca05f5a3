-- A look at what stands after all entries is one more of the reads that stand there.
use Rattle.std.proofs.Common.{◌≡◌, ℕ, List, [], ◌∷◌, ◌++◌, length, Option, ap, ◌∙◌, append_assoc}
use Rattle.std.specs.FinMap.{get}
use Rattle.fx_store.specs.declared.node.Node.{Node}
use Rattle.fx_view.specs.ReadList.{ReadList}
use Rattle.fx_board.specs.Board.{last_state}
use Rattle.fx_board.specs.Log.{Log}
use Rattle.fx_board.specs.Present.{AreCurrent, IsNowIn}

current_last : (log : Log) (reads : ReadList) (path : List (List ℕ)) (node : Option Node) (position : ℕ) → node ≡ get (last_state log) path → position ≡ length log.order → AreCurrent log reads → AreCurrent log (reads ++ (path, (node, position)) ∷ [])
current_last log [] path node position there here now = ((there, here), tt)
current_last log (r ∷ reads) path node position there here now = (now.0, current_last log reads path node position there here now.1)

pub now_added : (log : Log) (old mid new : ReadList) (path : List (List ℕ)) (node : Option Node) (position : ℕ) → IsNowIn log old mid → new ≡ mid ++ (path, (node, position)) ∷ [] → node ≡ get (last_state log) path → position ≡ length log.order
    → IsNowIn log old new
now_added log old mid new path node position was added there here = record {
  more = was.more ++ (path, (node, position)) ∷ [];
  kept = added ∙ (ap (λ rs. rs ++ (path, (node, position)) ∷ []) was.kept ∙ append_assoc old was.more ((path, (node, position)) ∷ []));
  now = current_last log was.more path node position there here was.now;
}
