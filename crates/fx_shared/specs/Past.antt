-- What a reader of one state keeps, and what it vouches for.
use Rattle.std.specs.Prelude.{◌≡◌, ℕ, List, Option, Some}
use Rattle.std.specs.FinMap.{get}
use Rattle.std.specs.Coded.{Coded-set, coded_option, Π_prop}
use Rattle.std.proofs.Common.{refl}
use Rattle.fx_store.specs.contracts.node.Node as node
use Rattle.fx_store.specs.declared.node.Node.{Node}
use Rattle.fx_view.specs.ReadList.{ReadList}
use Rattle.fx_view.specs.Reads.{Agrees}
use Rattle.fx_spec.specs.Order.{BaseTree, state}
use Rattle.fx_turn.proofs.Growth.{begins_same}
use Rattle.fx_shared.specs.Passes.{LogView, HasBase, HasSeenMore}

-- the reads are of what stood after so many of the entries that the pass has seen
abbrev pub AreAt : LogView → ℕ → ReadList → Type 0
AreAt v position reads = (base : BaseTree) → v.base ≡ Some base → Agrees reads (get (state base v.seen position))

pub AreAt-prop : (v : LogView) (position : ℕ) (reads : ReadList) → IsProp (AreAt v position reads)
AreAt-prop v position reads = Π_prop (λ base. Π_prop (λ is. Π_prop (λ path. Π_prop (λ read. Π_prop (λ known. Coded-set (coded_option node.the_row.coded) _ _)))))

-- this stood there then
abbrev pub WasAt : LogView → ℕ → List (List ℕ) → Option Node → Type 0
WasAt v position path node = HasBase v (λ base. node ≡ get (state base v.seen position) path)

-- the pass has seen what it had seen at the start, and maybe more; the reads are of what stood then
pub record VouchesAt (start now : LogView) (position : ℕ) (reads : ReadList) : Type 0 where
  pub seen : HasSeenMore start now
  pub stand : AreAt now position reads

-- what was vouched for from any start still is
abbrev pub VouchesAtOn : LogView → LogView → ℕ → ℕ → ReadList → ReadList → Type 0
VouchesAtOn old new position later reads more = (start : LogView) → VouchesAt start old position reads → VouchesAt start new later more

-- so it is at the start
pub begins_to_vouch_at : (v : LogView) (position : ℕ) (reads : ReadList) → AreAt v position reads → VouchesAt v v position reads
begins_to_vouch_at v position reads stand = record {
  seen = record { number = refl; base = refl; mine = refl; seen = begins_same v.seen v.seen refl };
  stand = stand;
}
