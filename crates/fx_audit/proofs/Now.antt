-- Reads of what stands after all entries.
use Rattle.std.proofs.Common.{◌≡◌, ℕ, Bool, true, false, cond, List, [], ◌∷◌, length, Option, Some, refl, sym, ap, ◌∙◌}
use Rattle.std.specs.FinMap.{get}
use Rattle.std.specs.Ordering.{eq_by_cmp}
use Rattle.std.proofs.lemmas.Option.{none-some, same_Some}
use Rattle.fx_store.specs.declared.node.Node.{Node}
use Rattle.fx_store.specs.Names.{path_cmp}
use Rattle.fx_store.specs.Orders.{path_eq_same}
use Rattle.fx_view.specs.ReadList.{ReadList}
use Rattle.fx_view.specs.Reads.{read_at}
use Rattle.fx_board.specs.Board.{last_state}
use Rattle.fx_board.specs.Log.{Log}
use Rattle.fx_board.specs.Present.{AreCurrent}
use Rattle.fx_audit.specs.Present.{AreNow}

abbrev Read : Type 0
Read = Option Node × ℕ

pub are_now : (log : Log) (reads : ReadList) → AreCurrent log reads → AreNow log reads
are_now log [] all path node position e = absurd (none-some (node, position) e)
are_now log (r ∷ reads) all path node position e = at (eq_by_cmp path_cmp path r.0) refl e (are_now log reads all.1 path node position)
  where
    at : (b : Bool) → eq_by_cmp path_cmp path r.0 ≡ b → cond b (Some r.1) (read_at reads path) ≡ Some (node, position) → (read_at reads path ≡ Some (node, position) → (position ≡ length log.order) × (node ≡ get (last_state log) path))
        → (position ≡ length log.order) × (node ≡ get (last_state log) path)
    at true same e rest =
        let is : ◌≡◌ {A = Read} r.1 (node, position) = same_Some r.1 (node, position) e in
        (sym (ap (λ (x : Read). x.1) is) ∙ all.0.1, sym (ap (λ (x : Read). x.0) is) ∙ all.0.0 ∙ ap (get (last_state log)) (sym (path_eq_same path r.0 same)))
    at false apart e rest = rest e
