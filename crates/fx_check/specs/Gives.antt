-- What a call of the program says of a check of the definitions.
use Rattle.std.specs.Prelude.{◌≡◌, ℕ, ◌+◌, ◌<◌, ◌≤◌, ◌^◌, List, length, Result, Ok, Err, IsOk}
use Rattle.fx_base.specs.Limits.{txn_limit}
use Rattle.fx_expr.specs.Views.{shape_tree}
use Rattle.fx_check.specs.declared.fault.CheckFault.{CheckFault}
use Rattle.fx_check.specs.declared.fault.CheckFault.TheVariants as check
use Rattle.fx_spec.specs.SpecTree.{SpecTree}
use Rattle.fx_spec.specs.Written.{TextTree, text_tree}
use Rattle.fx_spec.specs.CommandTree.{CommandTree, block, count_block}
use Rattle.fx_spec.specs.Levels.{txn_levels}
use Rattle.fx_check.specs.Faults.{Fault, OrFault}
use Rattle.fx_check.specs.Checked.{checked_text, checked_txns, checked_script}

-- the fault is this one exactly; want of memory is free
abbrev pub IsFault : {Y : Type 0} → CheckFault → OrFault Y → Type 0
IsFault (check.Unknown word) o = o ≡ Err (Fault.unknown word)
IsFault (check.TypeDiffers expected found) o = o ≡ Err (Fault.differs (shape_tree expected) (shape_tree found))
IsFault (check.Repeated word) o = o ≡ Err (Fault.repeated word)
IsFault check.TooMany o = o ≡ Err Fault.too_many
IsFault check.NoMemory o = Unit {0}

-- the check's answer, or its fault, exactly
abbrev pub Gives : {X Y : Type 0} → (X → Y) → Result X CheckFault → OrFault Y → Type 0
Gives view (Ok x) o = o ≡ Ok (view x)
Gives view (Err fault) o = IsFault fault o

-- what the text means where it has no fault, or its first fault
abbrev pub IsAnswer : TextTree → Result SpecTree CheckFault → Type 0
IsAnswer t (Ok found) = (found ≡ text_tree t) × IsOk (checked_text t)
IsAnswer t (Err fault) = IsFault fault (checked_text t)

-- transactions that a parsed script can have: nested at most 64 deep, with fewer than 2^32 commands, nested ones included
pub record IsSmall (commands : List CommandTree) : Type 0 where
  pub nested : txn_levels commands ≤ 64
  pub few : count_block (block commands) < 2 ^ 32

-- the transactions themselves where they have no fault and are not too many, or their first fault
abbrev pub IsScriptAnswer : ℕ → List (List CommandTree) → Result (List (List CommandTree)) CheckFault → Type 0
IsScriptAnswer before txns (Ok found) = (found ≡ txns) × (checked_txns txns ≡ Ok txns) × (before + length txns ≤ txn_limit)
IsScriptAnswer before txns (Err fault) = IsFault fault (checked_script before txns)
