-- A transaction of a plan is one of the plan's scripts, and so well shaped.
use Rattle.std.proofs.Common.{◌≡◌, ℕ, zero, suc, List, [], ◌∷◌, All, Some}
use Rattle.std.specs.Prelude.{slice_index_or}
use Rattle.std.proofs.lemmas.List.Elements.{All-nil, All-head, All-tail}
use Rattle.fx_base.proofs.Lists.{All-at}
use Rattle.fx_spec.specs.CommandTree.{CommandTree}
use Rattle.fx_spec.specs.Plans.{Turn, IsPlan, script_of, txn_of}
use Rattle.fx_spec.specs.WellShaped.{IsTransaction, IsScript}

script_all : {A : Type 0} (P : List A → Type 0) (plan : List (List A)) (shell : ℕ) → P [] → All P plan → P (slice_index_or plan shell [])
script_all P [] shell none all = none
script_all P (s ∷ plan) zero none all = All-head P s plan all
script_all P (s ∷ plan) (suc shell) none all = script_all P plan shell none (All-tail P s plan all)

pub planned_shaped : (plan : List (List (List CommandTree))) (turn : Turn) (t : List CommandTree) → IsPlan plan → txn_of plan turn ≡ Some t → IsTransaction t
planned_shaped plan turn t ok is =
    All-at IsTransaction (script_of plan turn.0) turn.1 t (script_all IsScript plan turn.0 (All-nil IsTransaction) ok.scripts) is
