use Rattle.std.proofs.Common.{IfOk}
use Rattle.std.specs.Prelude.{Result, Ok, Err}
use Rattle.test_threads.proofs.turns.obey_in_threads.Goals as goal

module _ {E X : Type 0} (P Q : X → Type 0) (f : (x : X) → P x → Q x) where
  mapped : (r : Result X E) → IfOk r P → IfOk r Q
  mapped (Ok x) p = f x p
  mapped (Err e) p = tt

pub returns-clause-ready : goal.returns-clause-ready
returns-clause-ready g c = mapped _ _ (λ v each k d l. (each k d l).1.call.met) c.map_vec.result c.map_vec.ensures.each
