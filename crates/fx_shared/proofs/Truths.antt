-- What a pass knows stays true as it sees more.
use Rattle.std.proofs.Common.{◌≡◌, ℕ, ◌≤◌, List, length, sym, ap, ◌∙◌, arith, length-append}
use Rattle.std.specs.FinMap.{get}
use Rattle.fx_view.specs.ReadList.{ReadList}
use Rattle.fx_spec.specs.Plans.{Turn}
use Rattle.fx_spec.specs.Order.{BaseTree, state}
use Rattle.fx_spec.proofs.Orders.{state-front}
use Rattle.fx_machine.specs.Passes.{AreTrueReads}
use Rattle.fx_turn.specs.Histories.{Begins}

pub begins_short : (o o' : List Turn) → Begins o o' → length o ≤ length o'
begins_short o o' b = omega (arith, ap length b.whole, length-append o b.rest)

-- the state after some entries that were seen is the same for ever
pub state_later : (base : BaseTree) (o o' : List Turn) (i : ℕ) → Begins o o' → i ≤ length o → state base o' i ≡ state base o i
state_later base o o' i b h = ap (λ o. state base o i) b.whole ∙ state-front base o b.rest i h

-- so are true reads true
pub true_later : (base : BaseTree) (o o' : List Turn) (reads : ReadList) → Begins o o' → AreTrueReads base o reads → AreTrueReads base o' reads
true_later base o o' reads b stood = λ path node position e.
    let old = stood path node position e in
    let short = begins_short o o' b in (
      omega (arith, old.0),
      old.1 ∙ sym (ap (λ nodes. get nodes path) (state_later base o o' position b old.0)),
    )
