-- The cause for which a script's text is refused, from the faults of its parser and of its check.
use Rattle.std.proofs.Common.{◌≡◌, ◌≤◌, ◌+◌, ◌∙◌, ℕ, cond, List, Ok, Err, length, sym, ap}
use Rattle.std.proofs.lemmas.Bool.{le-leb}
use Rattle.fx_check.specs.declared.fault.CheckFault.{CheckFault}
use Rattle.fx_check.specs.declared.fault.CheckFault.TheVariants as check
use Rattle.fx_check.specs.Checked.{checked_txns, checked_script}
use Rattle.fx_check.specs.Faults.{Fault}
use Rattle.fx_check.specs.Gives.{IsFault}
use Rattle.fx_check.proofs.Checking.{are_txns}
use Rattle.fx_expr.specs.Views.{shape_tree}
use Rattle.fx_grammar.specs.Grammars.{scripts}
use Rattle.fx_grammar.specs.Refused.{IsRefused}
use Rattle.fx_grammar.specs.Texts as texts
use Rattle.fx_parse.specs.declared.fault.ParseFault.{ParseFault}
use Rattle.fx_parse.specs.declared.fault.ParseFault.TheVariants as parse
use Rattle.fx_spec.specs.CommandTree.{CommandTree}
use Rattle.fx_spec.specs.WellShaped.{IsScript}
use Rattle.fx_command.specs.declared.status.TextFault.{TextFault}
use Rattle.fx_command.specs.declared.status.TextFault.TheVariants as fault
use Rattle.fx_command.specs.Faults.{of_parse, of_check}
use Rattle.fx_command.specs.Scripted.{HasScriptCause, IsNoScriptFor, IsUnscripted}

abbrev Txns : Type 0
Txns = List (List CommandTree)

-- no fault but want of memory comes where the text stands for a script
abbrev OnlyMemory : List ℕ → ParseFault → Type 0
OnlyMemory text f = (txns : Txns) → texts.IsScript text txns → f ≡ parse.NoMemory

refused : (text : List ℕ) (before : ℕ) (cause : TextFault) (f : ParseFault) → (f ≡ parse.NoMemory → ⊥) → OnlyMemory text f → HasScriptCause text before cause → IsNoScriptFor text before cause
refused text before cause f isnt only has = record { none = λ txns is. isnt (only txns is.read); cause = has }

pub not_parsed : (text : List ℕ) (before : ℕ) (f : ParseFault) → OnlyMemory text f → IsRefused scripts text f → IsUnscripted text before (of_parse f)
not_parsed text before parse.TooLarge only has = refused text before fault.TooLarge parse.TooLarge (λ e. cc) only has
not_parsed text before (parse.BadToken n) only has = refused text before (fault.BadToken n) (parse.BadToken n) (λ e. cc) only has
not_parsed text before (parse.Unexpected n) only has = refused text before (fault.Unexpected n) (parse.Unexpected n) (λ e. cc) only has
not_parsed text before (parse.TooNested n) only has = refused text before (fault.TooNested n) (parse.TooNested n) (λ e. cc) only has
not_parsed text before parse.NoMemory only has = tt

-- transactions without a fault that are not too many are a script without one
no_fault : (before : ℕ) (txns : Txns) → checked_txns txns ≡ Ok txns → before + length txns ≤ 100000 → checked_script before txns ≡ Ok txns
no_fault before txns fits few =
    ap (λ b. cond b (checked_txns txns) (Err Fault.too_many)) (le-leb (before + length txns) 100000 few) ∙ fits

both : (before : ℕ) (txns : Txns) (first : Fault) → checked_script before txns ≡ Err first → checked_script before txns ≡ Ok txns → ⊥
both before txns first found fine = let no : Ok txns ≡ Err first = sym fine ∙ found in cc

faulty : (text : List ℕ) (before : ℕ) (txns : Txns) (cause : TextFault) (first : Fault) → ((other : Txns) → texts.IsScript text other → txns ≡ other) → checked_script before txns ≡ Err first → HasScriptCause text before cause → IsNoScriptFor text before cause
faulty text before txns cause first only found has = record {
  none = λ other is. both before other first (ap (checked_script before) (sym (only other is.read)) ∙ found) (no_fault before other is.fits is.few);
  cause = has;
}

pub not_checked : (text : List ℕ) (before : ℕ) (txns : Txns) (f : CheckFault) → texts.IsScript text txns → ((other : Txns) → texts.IsScript text other → txns ≡ other) → IsFault f (checked_script before txns) → IsUnscripted text before (of_check f)
not_checked text before txns (check.Unknown word) read only found =
    faulty text before txns (fault.Unknown word) (Fault.unknown word) only found (record { txns = txns; read = read; found = found })
not_checked text before txns (check.TypeDiffers a b) read only found =
    faulty text before txns (fault.TypeDiffers a b) (Fault.differs (shape_tree a) (shape_tree b)) only found (record { txns = txns; read = read; found = found })
not_checked text before txns (check.Repeated word) read only found =
    faulty text before txns (fault.Repeated word) (Fault.repeated word) only found (record { txns = txns; read = read; found = found })
not_checked text before txns check.TooMany read only found =
    faulty text before txns fault.TooMany Fault.too_many only found (record { txns = txns; read = read; found = found })
not_checked text before txns check.NoMemory read only found = tt

-- transactions that are well shaped have no fault
pub shaped_fit : (txns : Txns) → IsScript txns → checked_txns txns ≡ Ok txns
shaped_fit txns shaped = are_txns txns (λ k d within. (shaped k d within).shapes)
