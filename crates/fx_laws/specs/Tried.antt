-- What a `try` leaves.
use Rattle.std.specs.Prelude.{◌≡◌, ℕ, pos, List, Err}
use Rattle.fx_store.specs.Rule.{answer}
use Rattle.fx_store.specs.Whole.{Store}
use Rattle.fx_expr.specs.Tree.{Tree}
use Rattle.fx_spec.specs.declared.refusal.Refusal.{Refusal}
use Rattle.fx_spec.specs.CommandTree.{ActTree, CommandTree}
use Rattle.fx_spec.specs.Refusals.{refusal_number}
use Rattle.fx_spec.specs.SpecTree.{SpecTree}
use Rattle.fx_spec.specs.Task.{result, after}
use Rattle.fx_spec.specs.Transaction.{Standing, On, binding, effect, run}

-- the filestore is as before, and all that is new of the standing is the refusal's number
pub record IsTriedInVain (root : SpecTree) (S : Store) (i : ℕ) (x : List ℕ) (a : ActTree) (s : Standing) (refusal : Refusal) : Type 0 where
  pub same : after S (run root i (CommandTree.attempt x a) s) ≡ S
  pub number : result S (run root i (CommandTree.attempt x a) s) ≡ On (binding s x (Tree.int (pos (refusal_number refusal))))

-- so is a `try` of an act that is refused
abbrev pub RefusedTriesLeaveAll : Type 0
RefusedTriesLeaveAll =
    (root : SpecTree) (S : Store) (i : ℕ) (x : List ℕ) (a : ActTree) (s : Standing) (refusal : Refusal) → answer S (effect root s.address s.vars a) ≡ Err refusal → IsTriedInVain root S i x a s refusal
