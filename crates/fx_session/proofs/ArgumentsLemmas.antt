-- The arguments of a call, one after another.
use Rattle.std.proofs.Common.{◌≡◌, ℕ, ◌+◌, ◌≤◌, List, [], ◌∷◌, ◌++◌, Result, Ok, Err, refl, sym, ap, subst, ◌∙◌, arith, append_assoc, append-nil}
use Rattle.std.specs.Prelude.{IsErrAnd, IfOk}
use Rattle.fx_base.proofs.Errors.{err_of}
use Rattle.fx_expr.specs.declared.fault.EvalFault.{EvalFault}
use Rattle.fx_expr.specs.declared.fault.EvalFault.TheVariants.{Fault, NoMemory}
use Rattle.fx_expr.specs.declared.fault.ExprFault.{ExprFault}
use Rattle.fx_expr.specs.Bindings.{bind}
use Rattle.fx_expr.specs.Eval.{eval_of}
use Rattle.fx_expr.specs.ExprTree.{ExprTree}
use Rattle.fx_expr.specs.Gives.{Gives}
use Rattle.fx_expr.specs.ShapeTree.{ShapeTree}
use Rattle.fx_expr.specs.Shapes.{IsWellShaped, BindingsHave}
use Rattle.fx_expr.specs.Tree.{Tree}
use Rattle.fx_expr.specs.Views.{tree_of}
use Rattle.fx_spec.specs.Describe.{Bindings, onto, then_others, arguments, unless_fault, argument_evals, with_values}
use Rattle.fx_spec.specs.WellShaped.{AreArguments}
use Rattle.fx_spec.proofs.Shaped.{arguments_have}
use Rattle.fx_session.specs.declared.session.Session.{Session}
use Rattle.fx_session.specs.Implements.{ticked, ticked_by}
use Rattle.fx_session.proofs.Calls.{ticked_none, ticked_more}
use Rattle.fx_session.specs.Arguments.{HaveShapes, with_each, inner_names, GivesNames, UnlessRefused}

-- ---- shapes

each_have : (params : List (List ℕ × ShapeTree)) (vs : Result (List Tree) ExprFault) (names : Bindings) → with_each params vs ≡ Ok names → IfOk vs (λ vs. BindingsHave (with_values params vs) params) → BindingsHave names params
each_have params (Ok vs) names is have = let same : with_values params vs ≡ names = cc in subst (λ names. BindingsHave names params) same have
each_have params (Err f) names is have = absurd (cc)

module _ (env : Bindings) (params : List (List ℕ × ShapeTree)) (args : List ExprTree) (h : HaveShapes env params args) where
  -- the names of the body have the shapes of the parameters
  pub names_have : (names : Bindings) → inner_names env params args ≡ Ok names → BindingsHave names params
  names_have names is = each_have params (arguments env args) names is (arguments_have h.scope env args params h.bindings h.arguments)

-- what a call says that answers a fault
pub fault_given : (given : Result Bindings ExprFault) (fault : EvalFault) (f : ExprFault) → fault ≡ Fault f → GivesNames (Err fault) given → given ≡ Err f
fault_given given fault f is gives = subst (λ (fault : EvalFault). GivesNames (Err fault) given) is gives

-- ---- one argument after another

abbrev Params : Type 0
Params = List (List ℕ × ShapeTree)

-- names in front of others, or the fault
abbrev before : Bindings → Result Bindings ExprFault → Result Bindings ExprFault
before names (Ok more) = Ok (names ++ more)
before names (Err f) = Err f

before_none : (given : Result Bindings ExprFault) → given ≡ before [] given
before_none (Ok more) = refl
before_none (Err f) = refl

none_left : (params : List (List ℕ × ShapeTree)) → with_values params [] ≡ []
none_left [] = refl
none_left (p ∷ ps) = refl

before_onto : (names : Bindings) (p : List ℕ × ShapeTree) (ps : List (List ℕ × ShapeTree)) (v : Tree) (others : Result (List Tree) ExprFault) → before names (with_each (p ∷ ps) (onto v others)) ≡ before (bind names p.0 v) (with_each ps others)
before_onto names p ps v (Ok vs) = ap (λ names. Ok names) (sym (append_assoc names ((p.0, v) ∷ []) (with_values ps vs)))
before_onto names p ps v (Err f) = refl

-- the first arguments have values, which the names have; those that are left decide the rest
pub record IsAtArgument {R L : Type 0} (env : Bindings) (params : Params) (args : List ExprTree) (start now : Session R L) (ps : Params) (es : List ExprTree) (names : Bindings) : Type 0 where
  pub shapes : HaveShapes env ps es
  pub left : inner_names env params args ≡ before names (inner_names env ps es)
  pub count : ℕ
  pub evals : argument_evals env args ≡ count + argument_evals env es
  pub steps : now ≡ ticked_by count start

module _ {R L : Type 0} {env : Bindings} {params : Params} {args : List ExprTree} {start : Session R L} where
  pub first_argument : (ps : Params) (es : List ExprTree) (names : Bindings) → HaveShapes env params args → ps ≡ params → es ≡ args → names ≡ [] → IsAtArgument env params args start start ps es names
  first_argument ps es names have all_params all_args none =
      subst (λ (ps : Params). IsAtArgument env params args start start ps es names) (sym all_params)
      (subst (λ (es : List ExprTree). IsAtArgument env params args start start params es names) (sym all_args) (record {
        shapes = have;
        left = before_none (inner_names env params args) ∙ ap (λ names. before names (inner_names env params args)) (sym none);
        count = 0;
        evals = omega arith;
        steps = ticked_none start;
      }))

  module _ {now : Session R L} {ps : Params} {es : List ExprTree} {names : Bindings} (at : IsAtArgument env params args start now ps es names) where
    -- no more evaluations than the arguments'
    pub steps_so_far : (n : ℕ) × (n ≤ argument_evals env args) × (now ≡ ticked_by n start)
    steps_so_far = (at.count, omega (arith, at.evals), at.steps)

    module _ (none : es ≡ []) where
      all_evals : argument_evals env args ≡ at.count
      all_evals = at.evals ∙ ap (λ es. at.count + argument_evals env es) none ∙ omega arith

      pub last_steps : now ≡ ticked_by (argument_evals env args) start
      last_steps = at.steps ∙ ap (λ n. ticked_by n start) (sym all_evals)

      pub last_names : GivesNames (Ok names) (inner_names env params args)
      last_names =
          at.left ∙ ap (λ es. before names (inner_names env ps es)) none
          ∙ ap (λ vs. Ok (names ++ vs)) (none_left ps) ∙ ap (λ names. Ok names) (append-nil names)

    module _ {e : ExprTree} {es' : List ExprTree} (here : es ≡ e ∷ es') where
      -- an argument has a parameter
      pub some_parameter : ps ≡ [] → ⊥
      some_parameter none = subst (λ (ps : Params). AreArguments at.shapes.scope (e ∷ es') ps) none (subst (λ (es : List ExprTree). AreArguments at.shapes.scope es ps) here at.shapes.arguments)

      rest : argument_evals env args ≡ at.count + (1 + unless_fault (eval_of env e) (argument_evals env es'))
      rest = at.evals ∙ ap (λ es. at.count + argument_evals env es) here

      fault_left : (f : ExprFault) → eval_of env e ≡ Err f → inner_names env params args ≡ Err f
      fault_left f is =
          at.left ∙ ap (λ es. before names (inner_names env ps es)) here
          ∙ ap (λ o. before names (with_each ps (then_others o (arguments env es')))) is

      fault_evals : (f : ExprFault) → eval_of env e ≡ Err f → argument_evals env args ≡ at.count + 1
      fault_evals f is = rest ∙ ap (λ o. at.count + (1 + unless_fault o (argument_evals env es'))) is

      module _ {after : Session R L} (one : after ≡ ticked now) where
        steps_after : after ≡ ticked_by (at.count + 1) start
        steps_after = ticked_more start at.count at.steps one

        -- the argument faults, or memory is refused
        fault_names : (fault : EvalFault) → Gives tree_of (Err fault) (eval_of env e) → GivesNames (Err fault) (inner_names env params args)
        fault_names (Fault f) is = fault_left f is
        fault_names NoMemory is = tt

        fault_steps : (fault : EvalFault) → Gives tree_of (Err fault) (eval_of env e) → UnlessRefused (Err fault) (after ≡ ticked_by (argument_evals env args) start)
        fault_steps (Fault f) is = steps_after ∙ ap (λ n. ticked_by n start) (sym (fault_evals f is))
        fault_steps NoMemory is = tt

        pub refused_names : (r : Result Bindings EvalFault) (fault : EvalFault) → IsErrAnd r (λ d. d ≡ fault) → Gives tree_of (Err fault) (eval_of env e) → GivesNames r (inner_names env params args)
        refused_names r fault is gives = subst (λ (r : Result Bindings EvalFault). GivesNames r (inner_names env params args)) (sym (err_of r fault is)) (fault_names fault gives)

        pub refused_steps : (r : Result Bindings EvalFault) (fault : EvalFault) → IsErrAnd r (λ d. d ≡ fault) → Gives tree_of (Err fault) (eval_of env e) → UnlessRefused r (after ≡ ticked_by (argument_evals env args) start)
        refused_steps r fault is gives = subst (λ (r : Result Bindings EvalFault). UnlessRefused r (after ≡ ticked_by (argument_evals env args) start)) (sym (err_of r fault is)) (fault_steps fault gives)

        pub few_steps : (n : ℕ) × (n ≤ argument_evals env args) × (after ≡ ticked_by n start)
        few_steps = (at.count + 1, omega (arith, rest), steps_after)

      module _ {p : List ℕ × ShapeTree} {ps' : Params} (param : ps ≡ p ∷ ps') where
        have : HaveShapes env (p ∷ ps') (e ∷ es')
        have = subst (λ (ps : Params). HaveShapes env ps (e ∷ es')) param (subst (λ (es : List ExprTree). HaveShapes env ps es) here at.shapes)

        pub argument_shaped : IsWellShaped env e
        argument_shaped = record { shapes = have.scope; shape = p.1; bindings = have.bindings; expression = have.arguments.0 }

        -- it has a value, which its parameter is bound to
        pub next_argument : {after : Session R L} (v : Tree) (names' : Bindings) → after ≡ ticked now → eval_of env e ≡ Ok v → names' ≡ bind names p.0 v → IsAtArgument env params args start after ps' es' names'
        next_argument {after} v names' one is bound = record {
          shapes = record { scope = have.scope; bindings = have.bindings; arguments = have.arguments.1 };
          left =
              at.left
              ∙ ap (λ es. before names (inner_names env ps es)) here
              ∙ ap (λ ps. before names (with_each ps (then_others (eval_of env e) (arguments env es')))) param
              ∙ ap (λ o. before names (with_each (p ∷ ps') (then_others o (arguments env es')))) is
              ∙ before_onto names p ps' v (arguments env es')
              ∙ ap (λ names. before names (inner_names env ps' es')) (sym bound);
          count = at.count + 1;
          evals =
              let some : argument_evals env args ≡ at.count + (1 + argument_evals env es') = rest ∙ ap (λ o. at.count + (1 + unless_fault o (argument_evals env es'))) is in
              omega (arith, some);
          steps = ticked_more start at.count at.steps one;
        }
