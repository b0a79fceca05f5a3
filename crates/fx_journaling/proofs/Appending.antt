-- What an append makes of a journal that holds an order.
use Rattle.std.proofs.Common.{◌≡◌, ℕ, ◌+◌, ◌<◌, List, [], ◌∷◌, ◌++◌, length, Result, Ok, Err, sym, ◌∙◌, subst, arith, length-append}
use Rattle.std.specs.Prelude.{IfSome, OnOk, OnErr, is_ok}
use Rattle.fx_base.specs.Causes.{Rose}
use Rattle.fx_base.specs.Limits.{txn_limit}
use Rattle.fx_spec.specs.Plans.{Turn}
use Rattle.fx_spec.specs.Order.{BaseTree}
use Rattle.fx_durable.specs.Disk.{DiskView, MayLeave, Continues, CountsDiskFaults, AsksChosen}
use Rattle.fx_durable.specs.Journal.{JournalView, RestsAt, LeavesOrder, AddsTurn}
use Rattle.fx_durable.specs.declared.disk.DiskFailed.{DiskFailed}
use Rattle.fx_journaling.specs.Kept.{IsHeld, IsLost, MayJoinOrder, RestsWhileGood, order_seen}
use Rattle.fx_durable.proofs.Choices.{asks_over}
use Rattle.fx_journaling.proofs.Holding.{rests_on, told_lost, told_held}

module _ (count : ℕ) (turn : Turn) (journal' : JournalView) (old new : DiskView) where
  pub rests_after : (r : Result (Unit {0}) DiskFailed) → count < txn_limit → IfSome old.told (λ file. RestsAt count (order_seen file) file) → Continues old new → OnOk r (AddsTurn count turn old new) → OnOk r (journal'.count ≡ count + 1) → journal'.good ≡ is_ok r
      → IfSome new.told (λ file. MayLeave file.steps file.seen) → RestsWhileGood journal' new
  rests_after (Ok u) room rests stays added counts good image = λ is. subst (λ n. IfSome new.told (λ file. RestsAt n (order_seen file) file)) (sym counts) (rests_on count turn room old.told new.told rests stays added image)
  rests_after (Err e) room rests stays added counts good image = λ is. cc

  module _ (base : BaseTree) (order : List Turn) (began : DiskView) (journal : JournalView) (held : IsHeld base order began journal old) (same : journal.count ≡ count) (add : MayJoinOrder base order turn) where
    counted : count ≡ length order
    counted = sym same ∙ held.count

    pub held_after : (r : Result (Unit {0}) DiskFailed) → LeavesOrder count turn old new → OnOk r (AddsTurn count turn old new) → Continues old new → OnOk r (journal'.count ≡ count + 1) → journal'.good ≡ is_ok r → CountsDiskFaults old new r → AsksChosen old new → OnOk r (IsHeld base (order ++ turn ∷ []) began journal' new)
    held_after (Ok u) any added stays counts good cause asks = record {
      count = counts ∙ (let e : count + 1 ≡ length (order ++ turn ∷ []) = omega (arith, counted, length-append order (turn ∷ [])) in e);
      good = good;
      calm = cause.calm ∙ held.calm;
      others = cause.others ∙ held.others;
      asks = asks_over began old new held.asks asks;
      told = told_held base order turn add count counted began.told old.told new.told held.told stays any added;
    }
    held_after (Err e) any added stays counts good cause asks = tt

    pub lost_after : (r : Result (Unit {0}) DiskFailed) → LeavesOrder count turn old new → Continues old new → CountsDiskFaults old new r → AsksChosen old new → OnErr r (IsLost base order (order ++ turn ∷ []) began new)
    lost_after (Ok u) any stays cause asks = tt
    lost_after (Err e) any stays cause asks = record {
      rose = (let rose : Rose old.faults new.faults = cause.failed in omega (arith, held.calm, rose));
      others = cause.others ∙ held.others;
      asks = asks_over began old new held.asks asks;
      told = told_lost base order turn add count counted began.told old.told new.told held.told stays any;
    }
