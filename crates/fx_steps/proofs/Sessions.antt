-- Calls through a session that only count, or that consult nothing, and what is found by a call.
use Rattle.fx_steps.proofs.Prelude.{◌≡◌, ℕ, List, take, Option, Some, None, Result, Ok, Err, refl, sym, ap, subst, arith, IfOk, IfSome, Known, Ask, Found, follow, changed, Bindings, Answered, Step, Address, lead, SpecTree}
use Rattle.fx_steps.proofs.Prelude.{Stop, Meaning, own_at, OwnList, ReadList, known_of, Halt, Session, split, Implements, ticked_by, Entry, Spot, LeadsToSpot, LeadsTo}
use Rattle.fx_steps.proofs.Prelude.{LeadsAt, Enters, EntersAt, OnlyCounts, told, Says, TellsWithin}
use Rattle.fx_view.specs.declared.reader.Stop.TheVariants as stop
use Rattle.fx_view.specs.Follows.{GoesBy, walked}
use Rattle.fx_view.proofs.Going.{Went-none}
use Rattle.fx_steps.proofs.Telling.{told_found, costs_ticks}

module _ {R L : Type 0} {m : Meaning R} {A X : Type 0} {view : X → A} {old new : Session R L} {rule : Ask A} where
  pub found_by : {x : X} → Implements m view old new rule (Ok x) → follow (known_of (m.reads new.reader.now)) (own_at new.own) rule ≡ Found (view x)
  found_by {x = x} h = subst (λ (own : OwnList). follow (known_of (m.reads new.reader.now)) (own_at own) rule ≡ Found (view x)) (sym h.own) h.follows.goes.0

abbrev counted : {R L : Type 0} → ℕ → Session R L → Session R L
counted n s = record { alloc = s.alloc; reader = s.reader; own = s.own; steps = n }

pub only_counts : {R L : Type 0} (n : ℕ) (old : Session R L) {new : Session R L} → new ≡ ticked_by n old → OnlyCounts old new
only_counts {R} {L} n old is = subst (λ (s : Session R L). OnlyCounts old s) (sym is) refl

pub counts_on : {R L : Type 0} (a b : Session R L) (n : ℕ) {c : Session R L} → OnlyCounts a b → c ≡ ticked_by n b → OnlyCounts a c
counts_on {R} {L} a b n still is = subst (λ (s : Session R L). OnlyCounts a s) (sym is) (ap (λ (s : Session R L). ticked_by n s) still)

module _ {R L A X : Type 0} (m : Meaning R) (view : X → A) (s : Session R L) (rule : Ask A) where
  abbrev known : Known
  known = known_of (m.reads s.reader.now)

  goes_told : (r : Result X Stop) → Says view (told rule) r → GoesBy m view (own_at s.own) s.reader.now s.reader.now rule r
  goes_told (Ok x) h = (told_found known (own_at s.own) rule (view x) h, Went-none m s.reader.now (walked known (own_at s.own) rule))
  goes_told (Err stop.NoMemory) h = Went-none m s.reader.now (walked known (own_at s.own) rule)
  goes_told (Err (stop.Needs p)) h = absurd h

  tells_at : (n : ℕ) (r : Result X Stop) → TellsWithin view s.steps n rule r → Implements m view s (counted n s) rule r
  tells_at n r h = record {
    own = refl;
    follows = record { goes = goes_told r h.says; most = λ S agrees. let cost = costs_ticks (changed (own_at s.own) S) rule in omega (arith, cost, h.most) };
    lent = refl;
  }

module _ {R L A X : Type 0} {m : Meaning R} {view : X → A} {old : Session R L} {rule : Ask A} (r : Result X Stop) where
  pub tells_on : {new : Session R L} → OnlyCounts old new → TellsWithin view old.steps new.steps rule r → Implements m view old new rule r
  tells_on {new = new} still h = subst (λ (s : Session R L). Implements m view old s rule r) (sym still) (tells_at m view old rule new.steps r h)

spots_of : (reads : ReadList) (own : Known) (step : Step) (p : List (List ℕ)) (env : Bindings) (spec : SpecTree) (was now : ℕ) (r : Result (Option Spot) Stop) → LeadsAt step p env spec was now r → IfOk r (λ o. IfSome o (LeadsToSpot reads own step p env spec))
spots_of reads own step p env spec was now (Err why) h = tt
spots_of reads own step p env spec was now (Ok None) h = tt
spots_of reads own step p env spec was now (Ok (Some spot)) h = record { found = told_found (known_of (take spot.reads reads)) own (lead step p env spec) _ h.tells.says; fits = h.spot }

module _ {R L : Type 0} {m : Meaning R} {was now : Session R L} {p : List (List ℕ)} {env : Bindings} {spec : SpecTree} where
  pub leads_of : {step : Step} {r : Result (Option Spot) Stop} → OnlyCounts was now → LeadsAt step p env spec was.steps now.steps r → LeadsTo m step p env spec was now r
  leads_of {step = step} {r = r} still h = record {
    follows = tells_on r still h.tells;
    spot = spots_of (m.reads now.reader.now) (own_at now.own) step p env spec was.steps now.steps r h;
  }

  pub enters_of : {rule : Address → Ask (Answered Address)} {r : Result Entry Halt} → OnlyCounts was now → EntersAt rule p env spec was.steps now.steps r → Enters m rule p env spec was now r
  enters_of {r = r} still h = record { follows = λ a. tells_on (split r) still (h.tells a); leads = h.leads (m.reads now.reader.now) (own_at now.own) }
