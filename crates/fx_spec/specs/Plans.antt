-- Plans: the transactions of each shell's script, in order.
use Rattle.std.specs.Prelude.{ℕ, ◌≤◌, List, [], All, length, slice_get, slice_index_or, Option}
use Rattle.std.specs.List.{sum_by}
use Rattle.fx_base.specs.Limits.{shell_limit, txn_limit}
use Rattle.fx_spec.specs.CommandTree.{CommandTree}
use Rattle.fx_spec.specs.WellShaped.{IsScript}

-- a transaction of the plan, by its shell and its number in that shell's script
abbrev pub Turn : Type 0
Turn = ℕ × ℕ

abbrev pub script_of : List (List (List CommandTree)) → ℕ → List (List CommandTree)
script_of plan shell = slice_index_or plan shell []

abbrev pub count_of : List (List (List CommandTree)) → ℕ → ℕ
count_of plan shell = length (script_of plan shell)

abbrev pub txn_of : List (List (List CommandTree)) → Turn → Option (List CommandTree)
txn_of plan turn = slice_get (script_of plan turn.0) turn.1

-- at most 64 scripts of well-shaped transactions, with at most 100,000 transactions together
pub record IsPlan (plan : List (List (List CommandTree))) : Type 0 where
  pub scripts : All IsScript plan
  pub shells : length plan ≤ shell_limit
  pub few : sum_by length plan ≤ txn_limit
