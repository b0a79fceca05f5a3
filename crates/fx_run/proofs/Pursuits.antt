-- Pursuing a task: one part and then the next, and what it comes to at a filestore that agrees with what is known.
use Rattle.std.proofs.Common.{◌≡◌, ◌∷◌, Option, Some, None, Result, Ok, Err, refl, ap, ◌∙◌, sym, subst}
use mathlib.Core.Path.{fun_ext}
use Rattle.fx_store.specs.declared.node.Node.{Node}
use Rattle.fx_store.specs.Rule.{Ask, Answer, Look, Tick, ◌>>=◌, answer, asked, Known, seen, if_known, follow, changed}
use Rattle.fx_store.specs.Whole.{Store}
use Rattle.fx_spec.specs.Task.{Task, Ends, Looks, Sets, result, after, consulted, asking, ◌>=>◌}
use Rattle.fx_view.specs.OwnList.{OwnList}
use Rattle.fx_view.specs.Own.{own_at, put_all, no_own}
use Rattle.fx_view.specs.Meaning.{Meaning}
use Rattle.fx_view.specs.Reads.{known_of}
use Rattle.fx_view.specs.declared.reader.Stop.{Stop}
use Rattle.fx_view.specs.declared.reader.Stop.TheVariants as stop
use Rattle.fx_view.specs.Follows.{walked, walked_on, Went, GoesBy}
use Rattle.fx_view.proofs.Owning.{changed-put_all}
use Rattle.fx_run.specs.Pursuing.{Came, topped, pursuit}

-- ---- a rule with own changes on top

pub follow-topped : {A : Type 0} (known : Known) (own : OwnList) (rule : Ask A) → follow known no_own (topped own rule) ≡ follow known (own_at own) rule
follow-topped known own (Answer a) = refl
follow-topped known own (Tick rule) = follow-topped known own rule
follow-topped {A} known own (Look p next) = step (known p) (λ n. follow-topped known own (next (seen (own_at own p) n)))
  where
    step : (k : Option (Option Node)) → ((n : Option Node) → follow known no_own (topped own (next (seen (own_at own p) n))) ≡ follow known (own_at own) (next (seen (own_at own p) n)))
        → if_known p k (λ n. follow known no_own (topped own (next (seen (own_at own p) n)))) ≡ if_known p k (λ n. follow known (own_at own) (next (seen (own_at own p) n)))
    step None rest = refl
    step (Some n) rest = rest n

pub walked-topped : {A : Type 0} (known : Known) (own : OwnList) (rule : Ask A) → walked known no_own (topped own rule) ≡ walked known (own_at own) rule
walked-topped known own (Answer a) = refl
walked-topped known own (Tick rule) = walked-topped known own rule
walked-topped {A} known own (Look p next) = step (known p) (λ n. walked-topped known own (next (seen (own_at own p) n)))
  where
    step : (k : Option (Option Node)) → ((n : Option Node) → walked known no_own (topped own (next (seen (own_at own p) n))) ≡ walked known (own_at own) (next (seen (own_at own p) n)))
        → walked_on p k (λ n. walked known no_own (topped own (next (seen (own_at own p) n)))) ≡ walked_on p k (λ n. walked known (own_at own) (next (seen (own_at own p) n)))
    step None rest = refl
    step (Some n) rest = ap (λ ps. p ∷ ps) (rest n)

-- a call that follows a rule with own changes on top
pub by_topped : {R A X : Type 0} (m : Meaning R) (view : X → A) (own : OwnList) (old new : R) (rule : Ask A) (result : Result X Stop)
    → GoesBy m view (own_at own) old new rule result → GoesBy m view no_own old new (topped own rule) result
by_topped m view own old new rule (Ok x) h =
    (follow-topped (known_of (m.reads new)) own rule ∙ h.0, subst (Went m old new) (sym (walked-topped (known_of (m.reads new)) own rule)) h.1)
by_topped m view own old new rule (Err (stop.Needs p)) h =
    (follow-topped (known_of (m.reads new)) own rule ∙ h.0, h.1, subst (Went m old new) (sym (walked-topped (known_of (m.reads new)) own rule)) h.2)
by_topped m view own old new rule (Err stop.NoMemory) h = subst (Went m old new) (sym (walked-topped (known_of (m.reads new)) own rule)) h

-- ---- one part and then the next

pub pursuit-asking : {A B : Type 0} (own : OwnList) (rule : Ask A) (next : A → Task B) → pursuit own (asking rule next) ≡ (topped own rule >>= λ a. pursuit own (next a))
pursuit-asking own (Answer a) next = refl
pursuit-asking own (Tick rule) next = pursuit-asking own rule next
pursuit-asking {A} {B} own (Look p rule) next =
    ap (λ (f : Option Node → Ask (Came B)). Look p f) (fun_ext (λ n. pursuit-asking own (rule (seen (own_at own p) n)) next))

pub pursuit-then : {A B : Type 0} (own : OwnList) (t : Task A) (next : A → Task B) → pursuit own (t >=> next) ≡ (pursuit own t >>= λ (c : Came A). pursuit c.own (next c.end))
pursuit-then own (Ends a) next = refl
pursuit-then {A} {B} own (Looks p t) next = ap (λ (f : Option Node → Ask (Came B)). Look p f) (fun_ext (λ n. pursuit-then own (t (seen (own_at own p) n)) next))
pursuit-then own (Sets changes t) next = pursuit-then (put_all own changes) t next

-- ---- at a filestore

pub pursued_end : {A : Type 0} (S : Store) (own : OwnList) (t : Task A) → (answer S (pursuit own t)).end ≡ result (changed (own_at own) S) t
pursued_end S own (Ends a) = refl
pursued_end S own (Looks p next) = pursued_end S own (next (seen (own_at own p) (S p)))
pursued_end S own (Sets cs next) = pursued_end S (put_all own cs) next ∙ ap (λ T. result T next) (changed-put_all S own cs)

pub pursued_after : {A : Type 0} (S : Store) (own : OwnList) (t : Task A) → changed (own_at (answer S (pursuit own t)).own) S ≡ after (changed (own_at own) S) t
pursued_after S own (Ends a) = refl
pursued_after S own (Looks p next) = pursued_after S own (next (seen (own_at own p) (S p)))
pursued_after S own (Sets cs next) = pursued_after S (put_all own cs) next ∙ ap (λ T. after T next) (changed-put_all S own cs)

pub pursued_asked : {A : Type 0} (S : Store) (own : OwnList) (t : Task A) → asked S (pursuit own t) ≡ consulted (changed (own_at own) S) t
pursued_asked S own (Ends a) = refl
pursued_asked S own (Looks p next) = ap (λ ps. p ∷ ps) (pursued_asked S own (next (seen (own_at own p) (S p))))
pursued_asked S own (Sets cs next) = pursued_asked S (put_all own cs) next ∙ ap (λ T. consulted T next) (changed-put_all S own cs)
