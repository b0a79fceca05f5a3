-- The place of an address: a path, the names bound on the way there, and the description that is meant there.
use Rattle.std.specs.Prelude.{ℕ, Bool, true, false, List, [], ◌∷◌, Option, Some, None, Result, Ok, Err}
use Rattle.std.specs.Option.{option_map}
use Rattle.fx_store.specs.Rule.{Ask, Answer, Tick, ◌>>=◌}
use Rattle.fx_expr.specs.Bindings.{bind}
use Rattle.fx_expr.specs.Eval.{Outcome, eval_of, names_in}
use Rattle.fx_expr.specs.Sets.{has_text}
use Rattle.fx_expr.specs.declared.fault.ExprFault.{ExprFault}
use Rattle.fx_expr.specs.ShapeTree.{ShapeTree}
use Rattle.fx_expr.specs.Tree.{Tree}
use Rattle.fx_spec.specs.declared.refusal.Refusal.{Refusal}
use Rattle.fx_spec.specs.SpecTree.{SpecTree}
use Rattle.fx_spec.specs.Describe.{Bindings, with_some, exists, focus_path, arguments, argument_evals, with_values, behind, value}

-- a step from a place to one inside it
pub data Step : Type 0 where
  First Second Inside Down Body : Step
  Elem : List ℕ → Step

-- the steps from the root description, the last one first
abbrev pub Address : Type 0
Address = List Step

pub record PlaceTree : Type 0 where
  pub path : List (List ℕ)
  pub env : Bindings
  pub spec : SpecTree

abbrev pub placed : List (List ℕ) → Bindings → SpecTree → PlaceTree
placed p env s = record { path = p; env = env; spec = s }

abbrev pub where_true : {A : Type 0} → Bool → A → Option A
where_true false x = None
where_true true x = Some x

-- whether a comprehension's set has the element
abbrev pub has_element : List ℕ → Outcome → Bool
has_element t (Ok set) = has_text t (names_in set)
has_element t (Err f) = false

abbrev pub at_path : Bindings → SpecTree → Result (List (List ℕ)) Refusal → Option PlaceTree
at_path env s (Ok q) = Some (placed q env s)
at_path env s (Err f) = None

abbrev pub in_body : List (List ℕ) → List (List ℕ × ShapeTree) → SpecTree → Result (List Tree) ExprFault → Option PlaceTree
in_body p params s (Ok vs) = Some (placed p (with_values params vs) s)
in_body p params s (Err f) = None

-- where a step leads from a place; a step that the form lacks leads nowhere
abbrev pub lead : Step → List (List ℕ) → Bindings → SpecTree → Ask (Option PlaceTree)
lead First p env (SpecTree.pair x a b) = Answer (Some (placed p env a))
lead Second p env (SpecTree.pair x a b) = value p env a >>= λ v. Answer (option_map (λ v. placed p (bind env x v) b) v)
lead (Elem t) p env (SpecTree.comp s x e) =
    Tick (Answer (where_true (has_element t (eval_of env e)) (placed p (bind env x (Tree.str t)) s)))
lead Inside p env (SpecTree.opt s) = exists p >>= λ there. Answer (where_true there (placed p env s))
lead Down p env (SpecTree.focus e s) = Tick (Answer (at_path env s (focus_path p (eval_of env e))))
lead Body p env (SpecTree.call args params s) = behind (argument_evals env args) (Answer (in_body p params s (arguments env args)))
lead _ p env _ = Answer None

-- the place of an address, if it has one
unfoldable pub place : SpecTree → Address → Ask (Option PlaceTree)
place root [] = Answer (Some (placed [] [] root))
place root (step ∷ above) = place root above >>= with_some λ at. lead step at.path at.env at.spec
