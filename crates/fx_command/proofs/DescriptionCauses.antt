-- The cause for which a text is refused, from the faults of its parser and of its check.
use Rattle.std.proofs.Common.{◌≡◌, ◌∙◌, ℕ, true, false, List, Err, sym, ap}
use Rattle.std.specs.Prelude.{is_ok, IsOk}
use Rattle.fx_check.specs.declared.fault.CheckFault.{CheckFault}
use Rattle.fx_check.specs.declared.fault.CheckFault.TheVariants as check
use Rattle.fx_check.specs.Checked.{checked_text}
use Rattle.fx_check.specs.Faults.{Fault}
use Rattle.fx_check.specs.Gives.{IsFault}
use Rattle.fx_check.proofs.Texts.{is_text}
use Rattle.fx_expr.specs.Views.{shape_tree}
use Rattle.fx_grammar.specs.Texts as texts
use Rattle.fx_spec.specs.WellShaped.{IsChecked}
use Rattle.fx_spec.specs.Written.{TextTree}
use Rattle.fx_command.specs.declared.status.TextFault.{TextFault}
use Rattle.fx_command.specs.declared.status.TextFault.TheVariants as fault
use Rattle.fx_command.specs.Described.{HasDescriptionCause, IsRefusedFor, IsUndescribed}
use Rattle.fx_command.specs.Faults.{of_check}

-- a description that is well shaped has no fault
pub no_fault : (written : TextTree) → IsChecked written → IsOk (checked_text written)
no_fault written is = ap is_ok (is_text written is.defs is.root)

-- a description with a fault is not one without
unshaped : (written : TextTree) (first : Fault) → checked_text written ≡ Err first → IsOk (checked_text written) → ⊥
unshaped written first fault fine = let both : false ≡ true = sym (ap is_ok fault) ∙ fine in cc

faulty : (text : List ℕ) (written : TextTree) (cause : TextFault) (first : Fault) → ((other : TextTree) → texts.IsDescription text other → written ≡ other)
    → checked_text written ≡ Err first → HasDescriptionCause text cause → IsRefusedFor text cause
faulty text written cause first only found has = record {
  none = λ other is. unshaped is.written first (ap checked_text (sym (only is.written is.read)) ∙ found) is.fits;
  cause = has;
}

pub not_checked : (text : List ℕ) (written : TextTree) (f : CheckFault) → texts.IsDescription text written → ((other : TextTree) → texts.IsDescription text other → written ≡ other)
    → IsFault f (checked_text written) → IsUndescribed text (of_check f)
not_checked text written (check.Unknown word) read only found = faulty text written (fault.Unknown word) (Fault.unknown word) only found (record { written = written; read = read; found = found })
not_checked text written (check.TypeDiffers a b) read only found =
    faulty text written (fault.TypeDiffers a b) (Fault.differs (shape_tree a) (shape_tree b)) only found (record { written = written; read = read; found = found })
not_checked text written (check.Repeated word) read only found = faulty text written (fault.Repeated word) (Fault.repeated word) only found (record { written = written; read = read; found = found })
not_checked text written check.TooMany read only found = faulty text written fault.TooMany Fault.too_many only found (record { written = written; read = read; found = found })
not_checked text written check.NoMemory read only found = tt
