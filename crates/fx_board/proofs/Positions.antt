-- Reads whose looks came one after another, as they grow, and their positions.
use Rattle.std.proofs.Common.{◌≡◌, ℕ, ◌≤◌, Bool, true, false, cond, List, [], ◌∷◌, ◌++◌, Option, Some, ap, arith}
use Rattle.std.specs.Ordering.{eq_by_cmp}
use Rattle.std.proofs.lemmas.Cmp.{eq_by_cmp_equiv}
use Rattle.std.proofs.lemmas.Option.{none-some, same_Some}
use Rattle.fx_store.specs.declared.node.Node.{Node}
use Rattle.fx_store.specs.Names.{IsPath, path_cmp}
use Rattle.fx_store.specs.Orders.{path_total}
use Rattle.fx_view.specs.ReadList.{ReadList}
use Rattle.fx_view.specs.Reads.{read_at}
use Rattle.fx_board.specs.Positions.{InTurn}

abbrev Path : Type 0
Path = List (List ℕ)

abbrev Read : Type 0
Read = Option Node × ℕ

pub in_turn_ends : (low high : ℕ) (reads : ReadList) → InTurn low high reads → low ≤ high
in_turn_ends low high [] t = t
in_turn_ends low high (r ∷ reads) t = (let rest = in_turn_ends r.1.1 high reads t.2 in omega (arith, t.0, rest))

pub in_turn_longer : (low high higher : ℕ) (reads : ReadList) → high ≤ higher → InTurn low high reads → InTurn low higher reads
in_turn_longer low high higher [] up t = omega (arith, t, up)
in_turn_longer low high higher (r ∷ reads) up t = (t.0, t.1, in_turn_longer r.1.1 high higher reads up t.2)

-- one look more
pub in_turn_more : (low high : ℕ) (reads : ReadList) (r : Path × Read) → IsPath r.0 → InTurn low r.1.1 reads → r.1.1 ≤ high → InTurn low high (reads ++ r ∷ [])
in_turn_more low high [] r valid t up = (t, valid, up)
in_turn_more low high (x ∷ reads) r valid t up = (t.0, t.1, in_turn_more x.1.1 high reads r valid t.2 up)

-- the position that was read at a path is one of them
pub in_turn_by : (low high : ℕ) (reads : ReadList) → InTurn low high reads → (path : Path) (node : Option Node) (position : ℕ) → read_at reads path ≡ Some (node, position) → (low ≤ position) × (position ≤ high)
in_turn_by low high [] t path node position e = absurd (none-some (node, position) e)
in_turn_by low high (r ∷ reads) t path node position e = by (eq_by_cmp path_cmp path r.0) e (in_turn_by r.1.1 high reads t.2 path node position)
  where
    by : (c : Bool) → cond c (Some r.1) (read_at reads path) ≡ Some (node, position) → (read_at reads path ≡ Some (node, position) → (r.1.1 ≤ position) × (position ≤ high)) → (low ≤ position) × (position ≤ high)
    by true e later =
        let same : r.1.1 ≡ position = ap (λ (r : Read). r.1) (same_Some r.1 (node, position) e) in
        let rest : r.1.1 ≤ high = in_turn_ends r.1.1 high reads t.2 in
        (omega (arith, t.0, same), omega (arith, same, rest))
    by false e later = let h = later e in (omega (arith, t.0, h.0), h.1)

read_first : (r : Path × Read) (reads : ReadList) → read_at (r ∷ reads) r.0 ≡ Some r.1
read_first r reads = ap (λ b. cond b (Some r.1) (read_at reads r.0)) (let e : eq_by_cmp path_cmp r.0 r.0 ≡ true = (eq_by_cmp_equiv path_total).refl r.0 in e)

-- where each position that was read is from a number on, they are in turn from there
pub in_turn_from : (least high : ℕ) (reads : ReadList) → InTurn 0 high reads → least ≤ high → ((path : Path) (node : Option Node) (position : ℕ) → read_at reads path ≡ Some (node, position) → least ≤ position) → InTurn least high reads
in_turn_from least high [] t up since = up
in_turn_from least high (r ∷ reads) t up since = (since r.0 r.1.0 r.1.1 (read_first r reads), t.1, t.2)
