-- The arguments of a call: their values, and their first fault.
use Rattle.fx_steps.proofs.Prelude.{◌≡◌, ℕ, zero, suc, ◌+◌, ◌≤◌, List, [], ◌∷◌, length, drop, Option, Some, None, Result, Ok, Err, refl, sym, ap, ◌∙◌, subst, arith, slice_get, IsErrAnd, Answer, Outcome, eval_of, ExprTree, ShapeTree}
use Rattle.fx_steps.proofs.Prelude.{IsWellShaped, Tree, tree_of, Value, Refusal, Bindings, arguments, argument_evals, with_values, behind, then_others, unless_fault, Answered, evaluated, with_arguments, placed, in_body, SpecTree}
use Rattle.fx_steps.proofs.Prelude.{AreArguments, err_of, Halt, answered, split, with_each, HaveShapes, HasScope, told, costs, Says, AreWellShaped, names_answer, arguments_tried}
use Rattle.std.proofs.Math.Seq.{drop-length}
use Rattle.fx_expr.specs.declared.fault.ExprFault.{ExprFault}
use Rattle.fx_view.specs.declared.reader.Stop.TheVariants as stop
use Rattle.fx_base.proofs.Lists.{drop_next}
use Rattle.fx_session.specs.declared.halt.Halt.TheVariants as halt

-- ---- an answer behind some evaluations

pub told_behind : {A : Type 0} (n : ℕ) (a : A) → told (behind n (Answer a)) ≡ Some a
told_behind zero a = refl
told_behind (suc n) a = told_behind n a

pub costs_behind : {A : Type 0} (n : ℕ) (a : A) → costs (behind n (Answer a)) ≡ n
costs_behind zero a = refl
costs_behind (suc n) a = let rest = costs_behind n a in omega (arith, rest)

-- ---- the names in a body

module _ (params : List (List ℕ × ShapeTree)) where
  pub body_place : (p : List (List ℕ)) (d : SpecTree) (o : Result (List Tree) ExprFault) (names : Bindings) → names_answer (with_each params o) ≡ Ok names → in_body p params d o ≡ Some (placed p names d)
  body_place p d (Ok vs) names h = let same : with_values params vs ≡ names = cc in ap (λ e. Some (placed p e d)) same
  body_place p d (Err f) names h = absurd (cc)

  pub body_no_place : (p : List (List ℕ)) (d : SpecTree) (o : Result (List Tree) ExprFault) (f : Refusal) → names_answer (with_each params o) ≡ Err f → in_body p params d o ≡ None
  body_no_place p d (Ok vs) f h = absurd (cc)
  body_no_place p d (Err g) f h = refl

  pub with_names : {A : Type 0} (answer : Answered A) (o : Result (List Tree) ExprFault) (names : Bindings) → names_answer (with_each params o) ≡ Ok names → with_arguments answer o ≡ answer
  with_names answer (Ok vs) names h = refl
  with_names answer (Err f) names h = absurd (cc)

  pub without_names : {A : Type 0} (answer : Answered A) (o : Result (List Tree) ExprFault) (f : Refusal) → names_answer (with_each params o) ≡ Err f → with_arguments answer o ≡ Err f
  without_names answer (Ok vs) f h = absurd (cc)
  without_names answer (Err g) f h = let same : ◌≡◌ {A = Refusal} (Refusal.Expr g) f = cc in ap (λ f. Err f) same

-- ---- where the arguments have values, and where one faults

pub said_all : (o : Answered (Unit {0})) (u : Unit {0}) → ◌≡◌ {A = Option (Answered (Unit {0}))} (Some o) (Some (Ok u)) → o ≡ Ok tt
said_all o u h = let is : o ≡ Ok u = cc in is

pub with_all : {A : Type 0} (answer : Answered A) (o : Result (List Tree) ExprFault) → arguments_tried o ≡ Ok tt → with_arguments answer o ≡ answer
with_all answer (Ok vs) h = refl
with_all answer (Err f) h = absurd (cc)

pub with_fault : {A : Type 0} (answer : Answered A) (o : Result (List Tree) ExprFault) (f : Refusal) → arguments_tried o ≡ Err f → with_arguments answer o ≡ Err f
with_fault answer (Ok vs) f h = absurd (cc)
with_fault answer (Err g) f h = let same : ◌≡◌ {A = Refusal} (Refusal.Expr g) f = cc in ap (λ f. Err f) same

-- ---- they are well shaped

are_shaped : (env : Bindings) (params : List (List ℕ × ShapeTree)) (args : List ExprTree) → HaveShapes env params args → AreWellShaped env args
are_shaped env params args h = at params args h.arguments
  where
    at : (params : List (List ℕ × ShapeTree)) (args : List ExprTree) → AreArguments h.scope args params → AreWellShaped env args
    at [] [] a = tt
    at (p ∷ params) [] a = absurd a
    at [] (e ∷ args) a = absurd a
    at (p ∷ params) (e ∷ args) a = (record { shapes = h.scope; shape = p.1; bindings = h.bindings; expression = a.0 }, at params args a.1)

pub call_shapes : (env : Bindings) (args : List ExprTree) (params : List (List ℕ × ShapeTree)) (d : SpecTree) → HasScope env (SpecTree.call args params d) → HaveShapes env params args
call_shapes env args params d h = record { scope = h.scope; bindings = h.described.bindings; arguments = h.described.shapes.0 }

pub last_shapes : (env : Bindings) (args : List ExprTree) (params : List (List ℕ × ShapeTree)) → HasScope env (SpecTree.last args params) → AreWellShaped env args
last_shapes env args params h = are_shaped env params args (record { scope = h.scope; bindings = h.described.bindings; arguments = h.described.shapes })

pub shaped_at : (env : Bindings) (args : List ExprTree) (i : ℕ) (e : ExprTree) → slice_get args i ≡ Some e → AreWellShaped env args → IsWellShaped env e
shaped_at env [] i e at h = absurd (cc)
shaped_at env (a ∷ args) zero e at h = let same : a ≡ e = cc in subst (IsWellShaped env) same h.0
shaped_at env (a ∷ args) (suc i) e at h = shaped_at env args i e at h.1

-- ---- one after another

evaluated_ok : (o : Outcome) (v : Tree) → evaluated o ≡ Ok v → o ≡ Ok v
evaluated_ok (Ok w) v h = let same : w ≡ v = cc in ap (λ v. Ok v) same
evaluated_ok (Err f) v h = absurd (cc)

try_more : (o : Outcome) (v : Tree) (rest : Result (List Tree) ExprFault) → o ≡ Ok v → arguments_tried (then_others o rest) ≡ arguments_tried rest
try_more o v (Ok vs) h = ap (λ o. arguments_tried (then_others o (Ok vs))) h
try_more o v (Err f) h = ap (λ o. arguments_tried (then_others o (Err f))) h

try_fault : (o : Outcome) (f : Refusal) (rest : Result (List Tree) ExprFault) → evaluated o ≡ Err f → arguments_tried (then_others o rest) ≡ Err f
try_fault (Ok v) f rest h = absurd (cc)
try_fault (Err g) f rest h = let same : ◌≡◌ {A = Refusal} (Refusal.Expr g) f = cc in ap (λ f. Err f) same

-- the arguments before one have values, and were evaluated
pub record IsTrying (env : Bindings) (args : List ExprTree) (first steps i : ℕ) : Type 0 where
  pub rest : arguments_tried (arguments env args) ≡ arguments_tried (arguments env (drop i args))
  pub count : first + argument_evals env args ≡ steps + argument_evals env (drop i args)

pub try_first : (env : Bindings) (args : List ExprTree) (first : ℕ) → IsTrying env args first first 0
try_first env args first = record { rest = refl; count = refl }

module _ (env : Bindings) (args : List ExprTree) (first steps i : ℕ) (at : IsTrying env args first steps i) where
  none_left : length args ≡ i → drop i args ≡ []
  none_left all = ap (λ n. drop n args) (sym all) ∙ drop-length args

  pub all_tried : length args ≡ i → arguments_tried (arguments env args) ≡ Ok tt
  all_tried all = at.rest ∙ ap (λ es. arguments_tried (arguments env es)) (none_left all)

  pub few_in_all : length args ≡ i → steps ≤ first + argument_evals env args
  few_in_all all = omega (arith, at.count)

  module _ (e : ExprTree) (here : slice_get args i ≡ Some e) (now : ℕ) (one : now ≡ steps + 1) where
    ahead : drop i args ≡ e ∷ drop (i + 1) args
    ahead = drop_next args i e here

    count_ahead : argument_evals env (drop i args) ≡ 1 + unless_fault (eval_of env e) (argument_evals env (drop (i + 1) args))
    count_ahead = ap (argument_evals env) ahead

    pub few_tried : now ≤ first + argument_evals env args
    few_tried = omega (arith, at.count, count_ahead, one)

    pub try_next : (v : Tree) → ◌≡◌ {A = Option (Answered Tree)} (Some (evaluated (eval_of env e))) (Some (Ok v)) → IsTrying env args first now (i + 1)
    try_next v says =
        let given : evaluated (eval_of env e) ≡ Ok v = cc in
        let is : eval_of env e ≡ Ok v = evaluated_ok (eval_of env e) v given in
        let one_less = count_ahead ∙ ap (λ o. 1 + unless_fault o (argument_evals env (drop (i + 1) args))) is in
        record {
          rest = at.rest ∙ ap (λ es. arguments_tried (arguments env es)) ahead ∙ try_more (eval_of env e) v (arguments env (drop (i + 1) args)) is;
          count = omega (arith, at.count, one_less, one);
        }

    pub try_fails : (h : Halt) (r : Result (Unit {0}) Halt) → IsErrAnd r (λ d. d ≡ h) → Says (answered tree_of) (Some (evaluated (eval_of env e))) (split {X = Value} (Err h)) → Says (answered (λ (u : Unit {0}). u)) (Some (arguments_tried (arguments env args))) (split r)
    try_fails h r none says = subst (λ (r : Result (Unit {0}) Halt). Says (answered (λ (u : Unit {0}). u)) (Some (arguments_tried (arguments env args))) (split r)) (sym (err_of r h none)) (at_fault h says)
      where
        at_fault : (h : Halt) → Says (answered tree_of) (Some (evaluated (eval_of env e))) (split {X = Value} (Err h)) → Says (answered (λ (u : Unit {0}). u)) (Some (arguments_tried (arguments env args))) (split {X = Unit {0}} (Err h))
        at_fault (halt.Refused f) says =
            let fault : evaluated (eval_of env e) ≡ Err f = cc in
            ap Some (at.rest ∙ ap (λ es. arguments_tried (arguments env es)) ahead ∙ try_fault (eval_of env e) f (arguments env (drop (i + 1) args)) fault)
        at_fault (halt.Stopped stop.NoMemory) says = tt
        at_fault (halt.Stopped (stop.Needs p)) says = absurd says
