-- Calls that implement rules written another way, and calls that add to what is gathered.
use Rattle.std.proofs.Common.{◌≡◌, Result, Ok, Err, sym, subst}
use Rattle.std.specs.Prelude.{IsErrAnd}
use Rattle.fx_store.specs.Rule.{Ask}
use Rattle.fx_view.specs.declared.reader.Stop.{Stop}
use Rattle.fx_view.specs.declared.reader.Stop.TheVariants as stop
use Rattle.fx_view.specs.Meaning.{Meaning}
use Rattle.fx_base.proofs.Errors.{err_of}
use Rattle.fx_session.specs.declared.session.Session.{Session}
use Rattle.fx_session.specs.Implements.{Implements}
use Rattle.fx_session.proofs.Calls.{same_rule}

-- ---- a rule that is written another way

pub by_rule : {R L A X : Type 0} {m : Meaning R} {view : X → A} {old new : Session R L} {rule other : Ask A} {r : Result X Stop} → other ≡ rule → Implements m view old new rule r → Implements m view old new other r
by_rule {rule = rule} {other = other} is h = same_rule rule other (sym is) h

-- ---- what is gathered by a call that adds to it

module _ {R L B : Type 0} {m : Meaning R} {old new : Session R L} {rule : Ask B} {after : B} where
  -- it is the answer
  pub gathered : Implements {X = Unit {0}} m (λ u. after) old new rule (Ok tt) → Implements m (λ (b : B). b) old new rule (Ok after)
  gathered h = record { own = h.own; follows = record { goes = h.follows.goes; most = h.follows.most }; lent = h.lent }

  -- the call stops
  module _ {Y : Type 0} {view : Y → B} where
    same : (why : Stop) → Implements {X = Unit {0}} m (λ u. after) old new rule (Err why) → Implements {X = Y} m view old new rule (Err why)
    same (stop.Needs p) h = record { own = h.own; follows = record { goes = h.follows.goes; most = h.follows.most }; lent = h.lent }
    same stop.NoMemory h = record { own = h.own; follows = record { goes = h.follows.goes; most = h.follows.most }; lent = h.lent }

    pub ungathered : {why : Stop} (r : Result Y Stop) → IsErrAnd r (λ d. d ≡ why) → Implements {X = Unit {0}} m (λ u. after) old new rule (Err why) → Implements m view old new rule r
    ungathered {why = why} r is h = subst (λ (r : Result Y Stop). Implements m view old new rule r) (sym (err_of r why is)) (same why h)
