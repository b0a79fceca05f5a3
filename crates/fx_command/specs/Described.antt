-- What a text describes, and why it describes nothing.
use Rattle.std.specs.Prelude.{◌≡◌, ℕ, List, Err, IsOk}
use Rattle.fx_check.specs.Checked.{checked_text}
use Rattle.fx_check.specs.Faults.{Fault}
use Rattle.fx_grammar.specs.Refused.{IsRefusedDescription}
use Rattle.fx_grammar.specs.Texts as texts
use Rattle.fx_spec.specs.SpecTree.{SpecTree}
use Rattle.fx_spec.specs.Written.{TextTree, text_tree}
use Rattle.fx_command.specs.declared.fault.SourceFault.{SourceFault}
use Rattle.fx_command.specs.declared.fault.SourceFault.TheVariants as refusal
use Rattle.fx_command.specs.declared.status.TextFault.{TextFault}
use Rattle.fx_command.specs.Causes.{IsCause}

-- the text stands for a description, which has no fault of names and shapes and means this
pub record Describes (text : List ℕ) (spec : SpecTree) : Type 0 where
  pub written : TextTree
  pub read : texts.IsDescription text written
  pub fits : IsOk (checked_text written)
  pub means : spec ≡ text_tree written

-- the text stands for a description, whose first fault of names and shapes is this one
pub record HasDescriptionFault (text : List ℕ) (first : Fault) : Type 0 where
  pub written : TextTree
  pub read : texts.IsDescription text written
  pub found : checked_text written ≡ Err first

-- the first cause for which the text is refused: its length comes first, then its tokens, then its form, then names and
-- shapes
abbrev pub HasDescriptionCause : List ℕ → TextFault → Type 0
HasDescriptionCause text cause = IsCause (IsRefusedDescription text) (HasDescriptionFault text) cause

-- the text describes nothing, for this cause
pub record IsRefusedFor (text : List ℕ) (first : TextFault) : Type 0 where
  pub none : (spec : SpecTree) → Describes text spec → ⊥
  pub cause : HasDescriptionCause text first

-- the text describes nothing; or memory ran out
abbrev pub IsUndescribed : List ℕ → SourceFault → Type 0
IsUndescribed text (refusal.Refused cause) = IsRefusedFor text cause
IsUndescribed text refusal.NoMemory = Unit {0}
