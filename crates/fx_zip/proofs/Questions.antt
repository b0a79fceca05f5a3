-- Questions at the place: their answers, and the shapes of what is answered.
use Rattle.fx_zip.proofs.Prelude.{◌≡◌, ℕ, List, [], Bool, true, false, Option, Some, None, Result, Ok, Err, refl, sym, ap, subst, arith, IfOk, cond, unwrap_or, Node, Ask, Answer, Tick, AgreesWith, answer, changed, Store, Outcome, ValueHas}
use Rattle.fx_zip.proofs.Prelude.{ShapeTree, Tree, shape_tree, tree_of, Value, Refusal, Bindings, value, Answered, at_place, evaluated, of_shape, fetched, fetch_at, whole_at, Address, PlaceTree, placed, SpecTree, Meaning, known_of}
use Rattle.fx_zip.proofs.Prelude.{found_answer, Halt, answered, split, IsDescription, asked_at, asked_shape, IsTruth, value_needed, Says, Implements, Answers, same_rule, answers, Session, own_at, ticked}
use Rattle.fx_spec.proofs.Shaped.{fetches_have_shapes, wholes_have_shapes}
use Rattle.fx_zip.specs.declared.question.Question.{Question}
use Rattle.fx_zip.specs.declared.question.Question.TheVariants as question
use Rattle.fx_steps.proofs.Sessions.{tells_on, only_counts}

-- an answer has the shape that the rule's answers have at each filestore
asked_has : {R L : Type 0} (m : Meaning R) (was now : Session R L) (rule : Ask (Answered Tree)) (shape : ShapeTree) → ((S : Store) → IfOk (answer S rule) (λ v. ValueHas v shape)) → (r : Result Value Halt) → Answers m tree_of was now rule r → IfOk r (λ v. ValueHas (tree_of v) shape)
asked_has m was now rule shape law (Err e) h = tt
asked_has m was now rule shape law (Ok v) h =
    let known = known_of (m.reads now.reader.now) in
    let S : Store = λ p. unwrap_or (known p) None in
    let agrees : AgreesWith known S = λ q n e. ap (λ (o : Option (Option Node)). unwrap_or o None) e in
    let is : answer (changed (own_at was.own) S) rule ≡ Ok (tree_of v) = found_answer known (own_at was.own) S agrees rule (Ok (tree_of v)) h.follows.goes.0 in
    subst (λ a. IfOk a (λ v. ValueHas v shape)) is (law (changed (own_at was.own) S))

pub question_has : {R L : Type 0} (m : Meaning R) (was now : Session R L) (root : SpecTree) → IsDescription [] root → (a : Address) (q : Question) (r : Result Value Halt) → IfOk r (λ v. IsTruth q (tree_of v)) → Answers m tree_of was now (at_place root a (asked_at q)) r → IfOk r (λ v. ValueHas (tree_of v) (asked_shape q))
question_has m was now root d a (question.Fetch shape) r truth h = asked_has m was now (at_place root a (fetch_at (shape_tree shape.now))) (shape_tree shape.now) (λ S. fetches_have_shapes root d S a (shape_tree shape.now)) r h
question_has m was now root d a (question.Whole shape) r truth h = asked_has m was now (at_place root a (whole_at (shape_tree shape.now))) (shape_tree shape.now) (λ S. wholes_have_shapes root d S a (shape_tree shape.now)) r h
question_has m was now root d a question.Validate r truth h = truth

-- a rule is followed at the same place, seen in another way
pub followed_here : {R L A X : Type 0} (m : Meaning R) (view : X → A) (was now : Session R L) (rule : PlaceTree → Ask (Answered A)) (r : Result X Halt) (p q : List (List ℕ)) (env e : Bindings) (s t : SpecTree) → p ≡ q → env ≡ e → s ≡ t → Answers m view was now (rule (placed p env s)) r → Answers m view was now (rule (placed q e t)) r
followed_here m view was now rule r p q env e s t path bound form h =
    subst (λ p. Answers m view was now (rule (placed p e t)) r) path
    (subst (λ env. Answers m view was now (rule (placed p env t)) r) bound
    (subst (λ s. Answers m view was now (rule (placed p env s)) r) form h))

-- ---- what a form gives

module _ (p : List (List ℕ)) (env : Bindings) where
  pub file_fetched : (t : SpecTree) → t ≡ SpecTree.file → value_needed p env t ≡ fetched p env t
  unfolding value
  file_fetched t e = subst (λ t. value_needed p env t ≡ fetched p env t) (sym e) refl

  pub dir_fetched : (t : SpecTree) → t ≡ SpecTree.dir → value_needed p env t ≡ fetched p env t
  unfolding value
  dir_fetched t e = subst (λ t. value_needed p env t ≡ fetched p env t) (sym e) refl

  pub link_fetched : (t : SpecTree) → t ≡ SpecTree.link → value_needed p env t ≡ fetched p env t
  unfolding value
  link_fetched t e = subst (λ t. value_needed p env t ≡ fetched p env t) (sym e) refl

module _ {R L : Type 0} (m : Meaning R) where
  -- an expression's value
  pub evaluated_follows : (was now : Session R L) (o : Outcome) (rule : Ask (Answered Tree)) (result : Result Value Halt) → rule ≡ Tick (Answer (evaluated o)) → Says (answered tree_of) (Some (evaluated o)) (split result) → now ≡ ticked was → Answers m tree_of was now rule result
  evaluated_follows was now o rule result is says tick =
      let one = ap (λ (s : Session R L). s.steps) tick in
      same_rule (Tick (Answer (evaluated o))) rule (sym is) (tells_on (split result) (only_counts 1 was tick) (record { says = says; most = omega (arith, one) }))

  -- a rule of a form, and the form's own refusal
  pub shaped_follows : (was now : Session R L) (b : Bool) (rule : Ask (Answered Tree)) (r : Result Value Halt) → b ≡ true → Answers m tree_of was now rule r → Answers m tree_of was now (of_shape b rule) r
  shaped_follows was now b rule r is h = same_rule rule (of_shape b rule) (ap (λ b. of_shape b rule) (sym is)) h

  -- a file's flag, and what else a form gives
  pub flag_follows : (was now : Session R L) (b : Bool) (flag form : Ask (Answered Tree)) (r : Result Value Halt) → b ≡ true → Answers m tree_of was now flag r → Answers m tree_of was now (cond b flag form) r
  flag_follows was now b flag form r is h = same_rule flag (cond b flag form) (ap (λ b. cond b flag form) (sym is)) h

  pub form_follows : (was now : Session R L) (b : Bool) (flag form : Ask (Answered Tree)) (r : Result Value Halt) → b ≡ false → Answers m tree_of was now form r → Answers m tree_of was now (cond b flag form) r
  form_follows was now b flag form r is h = same_rule form (cond b flag form) (ap (λ b. cond b flag form) (sym is)) h

  pub misshaped : (was : Session R L) (b : Bool) (rule : Ask (Answered Tree)) → b ≡ false → Implements {A = Answered Tree} {X = Result Value Refusal} m (answered tree_of) was was (of_shape b rule) (Ok (Err Refusal.WrongForm))
  misshaped was b rule is =
      same_rule (Answer (Err Refusal.WrongForm)) (of_shape b rule) (ap (λ b. of_shape b rule) (sym is)) (answers (Err Refusal.WrongForm) (Err Refusal.WrongForm) refl)
