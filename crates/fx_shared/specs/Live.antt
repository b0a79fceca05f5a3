-- What a live reader keeps, and what it vouches for.
use Rattle.std.specs.Prelude.{◌≡◌, ℕ, ◌≤◌, List, length, Option, Some, None}
use Rattle.std.specs.Coded.{Coded-set, coded_option, Π_prop, ×_prop, le_prop}
use Rattle.std.proofs.Common.{refl, sym, ◌∙◌}
use Rattle.std.proofs.lemmas.Option.{none-some}
use Rattle.fx_store.specs.contracts.node.Node as node
use Rattle.fx_store.specs.declared.node.Node.{Node}
use Rattle.fx_view.specs.ReadList.{ReadList}
use Rattle.fx_view.specs.Reads.{read_at}
use Rattle.fx_spec.specs.Order.{BaseTree}
use Rattle.fx_machine.specs.Passes.{AreTrueReads}
use Rattle.fx_turn.proofs.Growth.{begins_same}
use Rattle.fx_shared.specs.Passes.{LogView, HasSeenMore}
use Rattle.fx_board.specs.Positions.{InTurn, InTurn-prop}

-- the reads are true for the pass, whose base this is
abbrev pub AreTrueOver : LogView → ReadList → Type 0
AreTrueOver v reads = (base : BaseTree) → v.base ≡ Some base → AreTrueReads base v.seen reads

pub AreTrueOver-prop : (v : LogView) (reads : ReadList) → IsProp (AreTrueOver v reads)
AreTrueOver-prop v reads = Π_prop (λ base. Π_prop (λ is. Π_prop (λ path. Π_prop (λ read. Π_prop (λ position. Π_prop (λ at. ×_prop le_prop (Coded-set (coded_option node.the_row.coded) _ _)))))))

-- the reads were looked at one after another, none of them after more entries than the pass has seen
abbrev pub AreInTurn : LogView → ReadList → Type 0
AreInTurn v reads = InTurn 0 (length v.seen) reads

pub AreInTurn-prop : (v : LogView) (reads : ReadList) → IsProp (AreInTurn v reads)
AreInTurn-prop v reads = InTurn-prop 0 (length v.seen) reads

-- the pass has seen what it had seen at the start, and maybe more; the reads are true for it and in turn, and each that was not
-- there at the start was made after all that it had seen then
pub record Vouches (start now : LogView) (before reads : ReadList) : Type 0 where
  pub seen : HasSeenMore start now
  pub stand : AreTrueOver now reads
  pub in_turn : AreInTurn now reads
  pub since : (path : List (List ℕ)) (node : Option Node) (position : ℕ) → read_at reads path ≡ Some (node, position) → read_at before path ≡ None → length start.seen ≤ position

-- what was vouched for from any start still is
abbrev pub VouchesOn : LogView → LogView → ReadList → ReadList → Type 0
VouchesOn old new reads more = (start : LogView) (before : ReadList) → Vouches start old before reads → Vouches start new before more

-- so it is at the start
pub begins_to_vouch : (v : LogView) (reads : ReadList) → AreTrueOver v reads → AreInTurn v reads → Vouches v v reads reads
begins_to_vouch v reads stand in_turn = record {
  seen = record { number = refl; base = refl; mine = refl; seen = begins_same v.seen v.seen refl };
  stand = stand;
  in_turn = in_turn;
  since = λ path node position e none. absurd (none-some (node, position) (sym none ∙ e));
}
