-- What a reader of one state goes on to vouch for.
use Rattle.std.proofs.Common.{◌≡◌, ◌⊎◌, inl, inr, ℕ, ◌≤◌, List, [], ◌∷◌, ◌++◌, length, Option, Some, None, option_map, Result, Ok, Err, refl, sym, ap, subst, ◌∙◌, arith}
use Rattle.std.specs.Prelude.{OnOk, OnErr}
use Rattle.std.specs.FinMap.{get}
use Rattle.std.proofs.lemmas.Option.{same_Some, none-some}
use Rattle.fx_store.specs.declared.node.Node.{Node}
use Rattle.fx_store.specs.Whole.{Store, Nodes}
use Rattle.fx_view.specs.ReadList.{ReadList}
use Rattle.fx_view.specs.Reads.{read_at, Agrees}
use Rattle.fx_view.proofs.Lists.{read_more_cases}
use Rattle.fx_spec.specs.Order.{state}
use Rattle.fx_shared.specs.Passes.{LogView, HasSeenMore}
use Rattle.fx_shared.proofs.Truths.{begins_short, state_later}
use Rattle.fx_shared.proofs.Looks.{see_on}
use Rattle.fx_shared.specs.Past.{AreAt, WasAt, VouchesAt}

abbrev Path : Type 0
Path = List (List ℕ)

abbrev Read : Type 0
Read = Option Node × ℕ

-- a filestore that agrees with reads agrees with one more of its own nodes
agrees_more : (reads : ReadList) (path : Path) (S : Store) (n : Option Node) (position : ℕ) → S path ≡ n → Agrees reads S → Agrees (reads ++ (path, (n, position)) ∷ []) S
agrees_more reads path S n position there agrees q m e = at (read_at (reads ++ (path, (n, position)) ∷ []) q) refl e
  where
    by : (r : Read) → (read_at reads q ≡ Some r) ⊎ ((q ≡ path) × (◌≡◌ {A = Read} (n, position) r)) → S q ≡ r.0
    by r (inl h) = agrees q r.0 (ap (option_map (λ (r : Read). r.0)) h)
    by r (inr h) = ap S h.0 ∙ there ∙ ap (λ (r : Read). r.0) h.1

    at : (found : Option Read) → read_at (reads ++ (path, (n, position)) ∷ []) q ≡ found → option_map (λ (r : Read). r.0) found ≡ Some m → S q ≡ m
    at None is known = absurd (none-some m known)
    at (Some r) is known = by r (read_more_cases reads path (n, position) q r is) ∙ same_Some r.0 m known

-- the state is within what the pass has seen, also when that is more
pub within_on : (v w : LogView) (position : ℕ) → HasSeenMore v w → position ≤ length v.seen → position ≤ length w.seen
within_on v w position more within = let longer = begins_short v.seen w.seen more.seen in omega (arith, longer, within)

-- and it is the same state
pub at_on : (v w : LogView) (position : ℕ) (reads : ReadList) → HasSeenMore v w → position ≤ length v.seen → AreAt v position reads → AreAt w position reads
at_on v w position reads more within stand = λ base is.
    subst (λ (nodes : Nodes). Agrees reads (get nodes)) (sym (state_later base v.seen w.seen position more.seen within)) (stand base (sym more.base ∙ is))

-- with one more read of what stood then
pub at_more : (v : LogView) (position : ℕ) (reads : ReadList) (path : Path) (found : Option Node) (i : ℕ) → AreAt v position reads → WasAt v position path found → AreAt v position (reads ++ (path, (found, i)) ∷ [])
at_more v position reads path found i stand was = λ base is.
    let same : was.0 ≡ base = same_Some was.0 base (sym was.1 ∙ is) in
    agrees_more reads path (get (state base v.seen position)) found i (sym (subst (λ b. found ≡ get (state b v.seen position) path) same was.2)) (stand base is)

-- a look is noted, or it is not
pub at_noted : {X E : Type 0} (v : LogView) (position : ℕ) (old new : ReadList) (path : Path) (found : Option Node) (i : ℕ) (r : Result X E) → AreAt v position old → WasAt v position path found → OnOk r (new ≡ old ++ (path, (found, i)) ∷ []) → OnErr r (new ≡ old) → AreAt v position new
at_noted v position old new path found i (Ok u) stand was ok err = subst (AreAt v position) (sym ok) (at_more v position old path found i stand was)
at_noted v position old new path found i (Err e) stand was ok err = subst (AreAt v position) (sym err) stand

-- a look that is noted, and one that is not: the pass has seen more
pub vouches_looked : (start v w : LogView) (p q : ℕ) (old same new : ReadList) (path : Path) (found : Option Node) (i : ℕ) → q ≡ p → HasSeenMore v w → p ≤ length v.seen → WasAt w q path found → VouchesAt start v p old → same ≡ old → new ≡ same ++ (path, (found, i)) ∷ [] → VouchesAt start w q new
vouches_looked start v w p q old same new path found i here more within was vouches kept noted =
    subst (λ q. WasAt w q path found → VouchesAt start w q new) (sym here) (λ was. record {
      seen = see_on start v w vouches.seen more;
      stand = subst (AreAt w p) (sym (noted ∙ ap (λ reads. reads ++ (path, (found, i)) ∷ []) kept)) (at_more w p old path found i (at_on v w p old more within vouches.stand) was);
    }) was

pub vouches_missed : (start v w : LogView) (p q : ℕ) (old new : ReadList) → q ≡ p → HasSeenMore v w → p ≤ length v.seen → VouchesAt start v p old → new ≡ old → VouchesAt start w q new
vouches_missed start v w p q old new here more within vouches kept =
    subst (λ q. VouchesAt start w q new) (sym here) (record {
      seen = see_on start v w vouches.seen more;
      stand = subst (AreAt w p) (sym kept) (at_on v w p old more within vouches.stand);
    })

-- the pass has seen more, and more again, up to a view that is this one
pub more_by : (start v w now : LogView) → HasSeenMore start v → w ≡ now → HasSeenMore v w → HasSeenMore start now
more_by start v w now first last more = subst (HasSeenMore start) last (see_on start v w first more)
