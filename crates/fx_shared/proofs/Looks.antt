-- What a live reader goes on to vouch for.
use Rattle.std.proofs.Common.{◌≡◌, ◌⊎◌, inl, inr, ℕ, ◌≤◌, true, false, List, [], ◌∷◌, ◌++◌, length, Option, Some, None, is_some, Result, Ok, Err, refl, sym, ap, subst, ◌∙◌, arith}
use Rattle.std.specs.Prelude.{OnOk, OnErr}
use Rattle.std.specs.FinMap.{get}
use Rattle.std.proofs.lemmas.Bool.{false≢true}
use Rattle.std.proofs.lemmas.Option.{same_Some}
use Rattle.fx_store.specs.declared.node.Node.{Node}
use Rattle.fx_store.specs.Names.{IsPath}
use Rattle.fx_view.specs.ReadList.{ReadList}
use Rattle.fx_view.specs.Reads.{read_at}
use Rattle.fx_view.proofs.Lists.{read_more_cases}
use Rattle.fx_spec.specs.Plans.{Turn}
use Rattle.fx_spec.specs.Order.{BaseTree, state}
use Rattle.fx_turn.specs.declared.kept.Kept.{Ghosts}
use Rattle.fx_turn.specs.declared.seat.Seat.{Seat}
use Rattle.fx_turn.specs.Seats.{view}
use Rattle.fx_shared.specs.declared.shares.Shares.{Shares}
use Rattle.fx_shared.specs.Shared.{IsPassOf, IsReadyPass}
use Rattle.fx_turn.proofs.Growth.{begins_on}
use Rattle.fx_shared.specs.Passes.{LogView, HasSeenMore, IsLook}
use Rattle.fx_shared.proofs.Truths.{begins_short, true_later}
use Rattle.fx_board.specs.Positions.{InTurn}
use Rattle.fx_board.proofs.Positions.{in_turn_longer, in_turn_more}
use Rattle.fx_shared.specs.Live.{AreInTurn, AreTrueOver, Vouches}

abbrev Path : Type 0
Path = List (List ℕ)

abbrev Read : Type 0
Read = Option Node × ℕ

-- true reads are true for the pass when it has seen more
pub stand_on : (v w : LogView) (reads : ReadList) → HasSeenMore v w → AreTrueOver v reads → AreTrueOver w reads
stand_on v w reads more stand = λ base e. true_later base v.seen w.seen reads more.seen (stand base (sym more.base ∙ e))

-- so is a further one that was just looked at
pub stand_more : (v : LogView) (reads : ReadList) (path : Path) (node : Option Node) (position : ℕ) → AreTrueOver v reads → IsLook v path (node, position) → AreTrueOver v (reads ++ (path, (node, position)) ∷ [])
stand_more v reads path node position stand look = λ base is q n i e. by base is q n i (read_more_cases reads path (node, position) q (n, i) e)
  where
    by : (base : BaseTree) → v.base ≡ Some base → (q : Path) (n : Option Node) (i : ℕ) → (read_at reads q ≡ Some (n, i)) ⊎ ((q ≡ path) × (◌≡◌ {A = Read} (node, position) (n, i))) → (i ≤ length v.seen) × (n ≡ get (state base v.seen i) q)
    by base is q n i (inl h) = stand base is q n i h
    by base is q n i (inr h) =
        let here : node ≡ get (state base v.seen position) path = subst (λ b. node ≡ get (state b v.seen position) path) (same_Some look.node.0 base (sym look.node.1 ∙ is)) look.node.2 in
        let at : position ≡ i = ap (λ (r : Read). r.1) h.1 in
        let same : node ≡ n = ap (λ (r : Read). r.0) h.1 in
        let now = look.now in
        (omega (arith, at, now), sym same ∙ (here ∙ (ap (λ i. get (state base v.seen i) path) at ∙ ap (get (state base v.seen i)) (sym h.0))))

-- reads in turn are in turn when the pass has seen more
pub turns_on : (v w : LogView) (reads : ReadList) → HasSeenMore v w → AreInTurn v reads → AreInTurn w reads
turns_on v w reads more turns = in_turn_longer 0 (length v.seen) (length w.seen) reads (begins_short v.seen w.seen more.seen) turns

-- so are they with a further one that was just looked at
pub turns_more : (v : LogView) (reads : ReadList) (path : Path) (read : Read) → AreInTurn v reads → IsPath path → IsLook v path read → AreInTurn v (reads ++ (path, read) ∷ [])
turns_more v reads path read turns valid look =
    in_turn_more 0 (length v.seen) reads (path, read) valid (subst (λ n. InTurn 0 n reads) (sym look.now) turns) (let now = look.now in omega (arith, now))

-- the pass has seen more, and more again
pub see_on : (a b c : LogView) → HasSeenMore a b → HasSeenMore b c → HasSeenMore a c
see_on a b c s t = record {
  number = t.number ∙ s.number;
  base = t.base ∙ s.base;
  mine = t.mine ∙ s.mine;
  seen = begins_on a.seen b.seen c.seen s.seen t.seen;
}

-- the pass has seen more
pub vouches_on : (start v w : LogView) (before reads : ReadList) → HasSeenMore v w → Vouches start v before reads → Vouches start w before reads
vouches_on start v w before reads more old = record {
  seen = see_on start v w old.seen more;
  stand = stand_on v w reads more old.stand;
  in_turn = turns_on v w reads more old.in_turn;
  since = old.since;
}

-- and has looked at one path more
pub vouches_more : (start v w : LogView) (before reads : ReadList) (path : Path) (node : Option Node) (position : ℕ) → HasSeenMore v w → IsPath path → IsLook w path (node, position) → Vouches start v before reads → Vouches start w before (reads ++ (path, (node, position)) ∷ [])
vouches_more start v w before reads path node position more valid look old = record {
  seen = (vouches_on start v w before reads more old).seen;
  stand = stand_more w reads path node position (stand_on v w reads more old.stand) look;
  in_turn = turns_more w reads path (node, position) (turns_on v w reads more old.in_turn) valid look;
  since = λ q n i e none. by q n i none (read_more_cases reads path (node, position) q (n, i) e);
}
  where
    by : (q : Path) (n : Option Node) (i : ℕ) → read_at before q ≡ None → (read_at reads q ≡ Some (n, i)) ⊎ ((q ≡ path) × (◌≡◌ {A = Read} (node, position) (n, i))) → length start.seen ≤ i
    by q n i none (inl h) = old.since q n i h none
    by q n i none (inr h) =
        let at : position ≡ i = ap (λ (r : Read). r.1) h.1 in
        let now = look.now in
        let early = begins_short start.seen v.seen old.seen.seen in
        let later = begins_short v.seen w.seen more.seen in
        omega (arith, at, now, early, later)

-- ---- the pass of a live reader

based_by : (o : Option BaseTree) → is_some o ≡ true → (base : BaseTree) × (o ≡ Some base) × Unit {0}
based_by (Some base) e = (base, refl, tt)
based_by None e = absurd (false≢true e)

is_based : (o : Option BaseTree) (base : BaseTree) → o ≡ Some base → is_some o ≡ true
is_based o base e = ap (λ o. is_some o) e

module _ {T : Type 0} {g : Ghosts T BaseTree Turn} where
  pub ready_by : (shares : Shares T) (pass : Seat T BaseTree Turn g) (shell : ℕ) → IsPassOf shares pass → (view pass).number ≡ Some shell → (view pass).in_turn ≡ false → is_some (view pass).base ≡ true → IsReadyPass shares pass
  ready_by shares pass shell turn number idle based = record { turn = turn; numbered = (shell, number); idle = idle; based = based_by (view pass).base based }

  pub some_base : (shares : Shares T) (pass : Seat T BaseTree Turn g) → IsReadyPass shares pass → is_some (view pass).base ≡ true
  some_base shares pass ready = is_based (view pass).base ready.based.0 ready.based.1

-- a look is noted, or it is not
pub stand_noted : {X E : Type 0} (v : LogView) (old new : ReadList) (path : Path) (read : Read) (r : Result X E) → AreTrueOver v old → IsLook v path read → OnOk r (new ≡ old ++ (path, read) ∷ []) → OnErr r (new ≡ old) → AreTrueOver v new
stand_noted v old new path read (Ok u) stand look ok err = subst (AreTrueOver v) (sym ok) (stand_more v old path read.0 read.1 stand look)
stand_noted v old new path read (Err e) stand look ok err = subst (AreTrueOver v) (sym err) stand

pub turns_noted : {X E : Type 0} (v : LogView) (old new : ReadList) (path : Path) (read : Read) (r : Result X E) → AreInTurn v old → IsLook v path read → OnOk r (IsPath path) → OnOk r (new ≡ old ++ (path, read) ∷ []) → OnErr r (new ≡ old) → AreInTurn v new
turns_noted v old new path read (Ok u) turns look valid ok err = subst (AreInTurn v) (sym ok) (turns_more v old path read turns valid look)
turns_noted v old new path read (Err e) turns look valid ok err = subst (AreInTurn v) (sym err) turns

-- a look that is noted, and one that is not: the pass has seen more
pub vouches_looked : (start v w : LogView) (before old same new : ReadList) (path : Path) (node : Option Node) (position : ℕ) → HasSeenMore v w → IsPath path → IsLook w path (node, position) → Vouches start v before old → same ≡ old → new ≡ same ++ (path, (node, position)) ∷ [] → Vouches start w before new
vouches_looked start v w before old same new path node position more valid look vouches kept noted =
    subst (Vouches start w before) (sym (noted ∙ ap (λ reads. reads ++ (path, (node, position)) ∷ []) kept)) (vouches_more start v w before old path node position more valid look vouches)

pub vouches_missed : (start v w : LogView) (before old new : ReadList) → HasSeenMore v w → Vouches start v before old → new ≡ old → Vouches start w before new
vouches_missed start v w before old new more vouches kept = subst (Vouches start w before) (sym kept) (vouches_on start v w before old more vouches)
