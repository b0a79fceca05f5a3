-- How the order that a journal holds grows by one entry, on a told file.
use Rattle.std.proofs.Common.{◌≡◌, ◌⊎◌, inl, inr, ⊎_elim, ℕ, ◌+◌, ◌≤◌, ◌<◌, List, [], ◌∷◌, ◌++◌, length, Option, Some, None, Result, refl, sym, ◌∙◌, ap, subst, arith, append_assoc, length-append}
use Rattle.std.specs.Prelude.{IfSome, IsSomeAnd}
use Rattle.std.specs.Option.{unwrap_or}
use Rattle.std.specs.Result.{result_ok}
use Rattle.std.proofs.lemmas.List.{append-nil}
use Rattle.fx_base.specs.Limits.{txn_limit}
use Rattle.fx_base.proofs.Results.{IsSomeAnd-weaker}
use Rattle.fx_spec.specs.Plans.{Turn}
use Rattle.fx_spec.specs.Order.{BaseTree, IsLegal}
use Rattle.fx_durable.specs.Disk.{Step, File, MayLeave, LeftSince, GoesOn, LeavesOnly, StaysTold, moment}
use Rattle.fx_durable.specs.Journal.{RestsAt, Spells, IsBeforeOrAfter}
use Rattle.fx_durable.specs.Legal.{SpellsLegal}
use Rattle.fx_durable.proofs.Moments.{since_before, goes_over}
use Rattle.fx_durable.proofs.Records.{spells_closed}
use Rattle.fx_journaling.specs.Kept.{SpellsFront, LeavesEither, HoldsOrder, IfFile, MayJoinOrder, order_seen}

-- what a crash leaves now it leaves since any moment
pub at_present : (start : ℕ) (steps : List Step) (image : List ℕ) → MayLeave steps image → LeftSince start steps image
at_present start [] image left = left
at_present start (step ∷ steps) image left = inl left

pub moment_le : (old new : File) → GoesOn old new → moment old ≤ moment new
moment_le old new goes = omega (arith, ap length goes.steps.1, length-append goes.steps.0 old.steps)

pub spells_rested : (count : ℕ) (order : List Turn) (file : File) (image : List ℕ) → RestsAt count order file → count ≤ txn_limit → MayLeave file.steps image → Spells order image
spells_rested count order file image rests room left =
    subst (Spells order) (sym (rests.only image left)) (spells_closed order 0 [] rests.fit (omega (arith, rests.counts, room)) (omega arith))

-- the order that a file's bytes spell is the one with which it rests
pub rests_as_seen : (count : ℕ) (order : List Turn) (file : File) → RestsAt count order file → count ≤ txn_limit → MayLeave file.steps file.seen → RestsAt count (order_seen file) file
rests_as_seen count order file rests room image =
    let same : order_seen file ≡ order = ap (λ (r : Result (List Turn) ℕ). unwrap_or (result_ok r) []) (spells_rested count order file file.seen rests room image) in
    subst (λ o. RestsAt count o file) (sym same) rests

module _ (base : BaseTree) (order : List Turn) (turn : Turn) (add : MayJoinOrder base order turn) where
  abbrev pub longer : List Turn
  longer = order ++ turn ∷ []

  either : (image : List ℕ) → IsLegal base order → IsBeforeOrAfter order turn image → SpellsLegal base order image ⊎ SpellsLegal base longer image
  either image legal (inl spells) = inl (record { spells = spells; legal = legal })
  either image legal (inr spells) = inr (record { spells = spells; legal = add.legal })

  front_longer : (image : List ℕ) → SpellsFront base order image → SpellsFront base longer image
  front_longer image f = record { front = f.front; rest = f.rest ++ turn ∷ []; whole = ap (λ o. o ++ turn ∷ []) f.whole ∙ append_assoc f.front f.rest (turn ∷ []); spells = f.spells }

  front_either : (image : List ℕ) → SpellsLegal base order image ⊎ SpellsLegal base longer image → SpellsFront base longer image
  front_either image (inl spells) = record { front = order; rest = turn ∷ []; whole = refl; spells = spells }
  front_either image (inr spells) = record { front = longer; rest = []; whole = sym (append-nil longer); spells = spells }

  -- what an append leaves at each of its moments
  pub leaves_either : (first mid new : File) → HoldsOrder base order first mid → LeavesOnly mid new (IsBeforeOrAfter order turn) → LeavesEither base order longer first new
  leaves_either first mid new holds only = record {
    goes_on = goes_over first mid new holds.goes_on only.goes_on;
    now = λ image left. either image holds.legal (only.each image (at_present (moment mid) new.steps image left));
    since = λ image left.
        ⊎_elim (λ was. front_longer image (holds.since image was)) (λ now. front_either image (either image holds.legal now))
        (since_before mid new (IsBeforeOrAfter order turn) (moment first) image only (moment_le first mid holds.goes_on) left);
  }

  pub holds_longer : (first mid new : File) → HoldsOrder base order first mid → LeavesOnly mid new (IsBeforeOrAfter order turn) → RestsAt (length order + 1) longer new → HoldsOrder base longer first new
  holds_longer first mid new holds only rests =
      let all = leaves_either first mid new holds only in
      let count : length order + 1 ≡ length longer = omega (arith, length-append order (turn ∷ [])) in
      record { legal = add.legal; few = omega (arith, count, add.room); goes_on = all.goes_on; rests = subst (λ n. RestsAt n longer new) count rests; since = all.since }

-- a journal that holds an order leaves that order
pub holds_leaves : (base : BaseTree) (order before : List Turn) (first new : File) → HoldsOrder base order first new → LeavesEither base before order first new
holds_leaves base order before first new holds = record {
  goes_on = holds.goes_on;
  now = λ image left. inr (record { spells = spells_rested (length order) order new image holds.rests holds.few left; legal = holds.legal });
  since = holds.since;
}

-- ---- over what a disk tells

pub if_file_map : (P Q : File → File → Type 0) → ((old new : File) → P old new → Q old new) → (told told' : Option File) → IfFile P told told' → IfFile Q told told'
if_file_map P Q f None told' p = p
if_file_map P Q f (Some file) told' p = IsSomeAnd-weaker told' (P file) (Q file) (f file) p

module _ (base : BaseTree) (order : List Turn) (turn : Turn) (add : MayJoinOrder base order turn) (count : ℕ) (counts : count ≡ length order) where
  abbrev pub Either : Option File → Option File → Type 0
  Either old new = IfSome old (λ file. (o : List Turn) → RestsAt count o file → IsSomeAnd new (λ later. LeavesOnly file later (IsBeforeOrAfter o turn)))

  abbrev pub Added : Option File → Option File → Type 0
  Added old new = IfSome old (λ file. (o : List Turn) → RestsAt count o file → IfSome new (RestsAt (count + 1) (o ++ turn ∷ [])))

  counted : (file : File) → RestsAt (length order) order file → RestsAt count order file
  counted file rests = subst (λ n. RestsAt n order file) (sym counts) rests

  pub told_lost : (began old new : Option File) → IfFile (HoldsOrder base order) began old → StaysTold old new → Either old new → IfFile (LeavesEither base order (order ++ turn ∷ [])) began new
  told_lost None old new held stays either = subst (λ o. StaysTold o new) held stays
  told_lost (Some first) None new held stays either = absurd held
  told_lost (Some first) (Some mid) new held stays either =
      IsSomeAnd-weaker new _ (LeavesEither base order (order ++ turn ∷ []) first) (λ later only. leaves_either base order turn add first mid later held only) (either order (counted mid held.rests))

  both : (new : Option File) (P Q R : File → Type 0) → ((file : File) → P file → Q file → R file) → IsSomeAnd new P → IfSome new Q → IsSomeAnd new R
  both None P Q R f p q = p
  both (Some file) P Q R f p q = f file p q

  pub told_held : (began old new : Option File) → IfFile (HoldsOrder base order) began old → StaysTold old new → Either old new → Added old new → IfFile (HoldsOrder base (order ++ turn ∷ [])) began new
  told_held None old new held stays either added = subst (λ o. StaysTold o new) held stays
  told_held (Some first) None new held stays either added = absurd held
  told_held (Some first) (Some mid) new held stays either added =
      both new _ _ (HoldsOrder base (order ++ turn ∷ []) first)
      (λ later only rests. holds_longer base order turn add first mid later held only (subst (λ n. RestsAt (n + 1) (order ++ turn ∷ []) later) counts rests))
      (either order (counted mid held.rests)) (added order (counted mid held.rests))

-- a disk on which an append was done rests with the order that is seen
pub rests_on : (count : ℕ) (turn : Turn) → count < txn_limit → (old new : Option File) → IfSome old (λ file. RestsAt count (order_seen file) file) → StaysTold old new
    → IfSome old (λ file. (o : List Turn) → RestsAt count o file → IfSome new (RestsAt (count + 1) (o ++ turn ∷ []))) → IfSome new (λ file. MayLeave file.steps file.seen)
    → IfSome new (λ file. RestsAt (count + 1) (order_seen file) file)
rests_on count turn room None new rests stays added image = subst (λ o. IfSome o (λ file. RestsAt (count + 1) (order_seen file) file)) (sym stays) tt
rests_on count turn room (Some file) None rests stays added image = tt
rests_on count turn room (Some file) (Some later) rests stays added image = rests_as_seen (count + 1) (order_seen file ++ turn ∷ []) later (added (order_seen file) rests) (omega (arith, room)) image
