-- What a call means has the form of a call, and no other.
use Rattle.fx_steps.proofs.Prelude.{◌≡◌, List, ℕ, zero, suc, [], None, Option, Some, ap, sym, ◌∙◌, ExprTree, SpecTree}
use Rattle.std.specs.Option.{option_map_or}
use Rattle.fx_spec.specs.Views.{spec_step, spec_tree}
use Rattle.fx_spec.specs.Written.{DefTree, WrittenTree, calls_in, definition, meant}
use Rattle.fx_spec.specs.declared.spec.Spec.{Spec, fold-roll-Spec}
use Rattle.fx_spec.specs.declared.spec.Spec.TheOpen.{Spec-F}
use Rattle.fx_spec.specs.declared.spec.Spec.TheVariants.{rolls-Call}
use Rattle.fx_steps.specs.Parts.{IsNoComp, IsNoFocus, IsNoOption, IsNoPair}

-- a call as it is written
pub call_tree : (s : Spec) (f : List ℕ) (args : List ExprTree) → s ≡ Spec.Call f args → spec_tree s ≡ WrittenTree.call f args
call_tree s f args e = ap spec_tree (e ∙ sym (rolls-Call f args)) ∙ fold-roll-Spec WrittenTree spec_step (Spec-F.Call f args)

-- the description is no pair, no comprehension, no focus and no option
pub record IsNoOther (s : SpecTree) : Type 0 where
  pub pair : IsNoPair s
  pub comp : IsNoComp s
  pub focus : IsNoFocus s
  pub option : IsNoOption s

pub call_alone : (defs : List DefTree) (n : ℕ) (f : List ℕ) (args : List ExprTree) → IsNoOther (calls_in defs n f args)
call_alone defs zero f args = at (definition f defs)
  where
    at : (o : Option DefTree) → IsNoOther (option_map_or (λ (d : DefTree). SpecTree.last args d.params) o (SpecTree.last args []))
    at None = record { pair = tt; comp = tt; focus = tt; option = tt }
    at (Some d) = record { pair = tt; comp = tt; focus = tt; option = tt }
call_alone defs (suc n) f args = at (definition f defs)
  where
    at : (o : Option DefTree) → IsNoOther (option_map_or (λ (d : DefTree). SpecTree.call args d.params (meant (λ g es. calls_in defs n g es) d.body)) o (SpecTree.last args []))
    at None = record { pair = tt; comp = tt; focus = tt; option = tt }
    at (Some d) = record { pair = tt; comp = tt; focus = tt; option = tt }
