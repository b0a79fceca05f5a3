-- What the text of a script stands for, and why it stands for none.
use Rattle.std.specs.Prelude.{◌≡◌, ◌+◌, ◌≤◌, ℕ, List, length, Ok, Err}
use Rattle.fx_base.specs.Limits.{txn_limit}
use Rattle.fx_check.specs.Checked.{checked_txns, checked_script}
use Rattle.fx_check.specs.Faults.{Fault}
use Rattle.fx_grammar.specs.Grammars.{scripts}
use Rattle.fx_grammar.specs.Refused.{IsRefused}
use Rattle.fx_grammar.specs.Texts as texts
use Rattle.fx_spec.specs.CommandTree.{CommandTree}
use Rattle.fx_command.specs.declared.fault.SourceFault.{SourceFault}
use Rattle.fx_command.specs.declared.fault.SourceFault.TheVariants as refusal
use Rattle.fx_command.specs.declared.status.TextFault.{TextFault}
use Rattle.fx_command.specs.Causes.{IsCause}

-- the text stands for these transactions, which have no fault of names and shapes, and are at most 100,000 with those before
pub record Scripts (text : List ℕ) (before : ℕ) (txns : List (List CommandTree)) : Type 0 where
  pub read : texts.IsScript text txns
  pub fits : checked_txns txns ≡ Ok txns
  pub few : before + length txns ≤ txn_limit

-- the text stands for transactions whose first fault is this one
pub record HasScriptFault (text : List ℕ) (before : ℕ) (first : Fault) : Type 0 where
  pub txns : List (List CommandTree)
  pub read : texts.IsScript text txns
  pub found : checked_script before txns ≡ Err first

-- the first cause for which the text is refused: its length comes first, then its tokens, then its form, then the number of
-- transactions, then names and shapes
abbrev pub HasScriptCause : List ℕ → ℕ → TextFault → Type 0
HasScriptCause text before cause = IsCause (IsRefused scripts text) (HasScriptFault text before) cause

-- the text stands for no script, for this cause
pub record IsNoScriptFor (text : List ℕ) (before : ℕ) (first : TextFault) : Type 0 where
  pub none : (txns : List (List CommandTree)) → Scripts text before txns → ⊥
  pub cause : HasScriptCause text before first

-- the text stands for no script; or memory ran out
abbrev pub IsUnscripted : List ℕ → ℕ → SourceFault → Type 0
IsUnscripted text before (refusal.Refused cause) = IsNoScriptFor text before cause
IsUnscripted text before refusal.NoMemory = Unit {0}
