-- Parts of well-shaped descriptions.
use Rattle.std.proofs.Common.{◌≡◌, ℕ, List, Option, Some, None, Ok, refl, ap, subst}
use Rattle.std.specs.Option.{IfSome, option_map, unwrap_or}
use Rattle.fx_store.specs.declared.node.Node.{Node}
use Rattle.fx_store.specs.Rule.{Known, AgreesWith, answer, changed}
use Rattle.fx_store.specs.Whole.{Store}
use Rattle.fx_expr.specs.Bindings.{bind}
use Rattle.fx_expr.specs.ExprTree.{ExprTree}
use Rattle.fx_expr.specs.ShapeTree.{ShapeTree}
use Rattle.fx_expr.specs.Shapes.{ValueHas, BindingsHave}
use Rattle.fx_expr.specs.Tree.{Tree}
use Rattle.fx_expr.specs.Views.{tree_of}
use Rattle.fx_expr.specs.declared.value.Value.{Value}
use Rattle.fx_spec.specs.Describe.{Bindings, value}
use Rattle.fx_spec.specs.Move.{value_shape}
use Rattle.fx_spec.specs.Shaped.{IsDescribed}
use Rattle.fx_spec.specs.SpecTree.{SpecTree}
use Rattle.fx_spec.specs.WellShaped.{Scope, IsDescription}
use Rattle.fx_spec.proofs.Shaped.{described_have_shapes}
use Rattle.fx_spec.proofs.Scoped.{bind_has}
use Rattle.fx_view.specs.Meaning.{Meaning}
use Rattle.fx_view.specs.Reads.{known_of}
use Rattle.fx_view.specs.Own.{own_at}
use Rattle.fx_view.proofs.Rules.{found_answer}
use Rattle.fx_session.specs.declared.session.Session.{Session}
use Rattle.fx_session.specs.Implements.{Implements}
use Rattle.fx_session.specs.Arguments.{HaveShapes, inner_names}
use Rattle.fx_session.specs.Scopes.{HasScope, HasTextScope}
use Rattle.fx_session.proofs.ArgumentsLemmas.{names_have}

of_scope : (scope : Scope) (env : Bindings) (spec : SpecTree) → IsDescription scope spec → BindingsHave env scope → HasScope env spec
of_scope scope env spec d b = record { scope = scope; described = record { shapes = d; bindings = b } }

module _ (env : Bindings) where
  pub focus_part : (e : ExprTree) (s : SpecTree) → HasScope env (SpecTree.focus e s) → HasScope env s
  focus_part e s h = of_scope h.scope env s h.described.shapes.1 h.described.bindings

  pub pair_first : (x : List ℕ) (a b : SpecTree) → HasScope env (SpecTree.pair x a b) → HasScope env a
  pair_first x a b h = of_scope h.scope env a h.described.shapes.0 h.described.bindings

  pub comp_part : (s : SpecTree) (x : List ℕ) (e : ExprTree) → HasScope env (SpecTree.comp s x e) → HasTextScope env x s
  comp_part s x e h t =
      of_scope (bind h.scope x ShapeTree.str) (bind env x (Tree.str t)) s h.described.shapes.2 (bind_has env h.scope x (Tree.str t) ShapeTree.str h.described.bindings refl)

  pub opt_part : (s : SpecTree) → HasScope env (SpecTree.opt s) → HasScope env s
  opt_part s h = of_scope h.scope env s h.described.shapes h.described.bindings

  module _ (args : List ExprTree) (params : List (List ℕ × ShapeTree)) where
    pub call_arguments : (s : SpecTree) → HasScope env (SpecTree.call args params s) → HaveShapes env params args
    call_arguments s h = record { scope = h.scope; bindings = h.described.bindings; arguments = h.described.shapes.0 }

    -- in the body the parameters alone are bound
    pub call_body : (s : SpecTree) (names : Bindings) → HasScope env (SpecTree.call args params s) → inner_names env params args ≡ Ok names → HasScope names s
    call_body s names h is = of_scope params names s h.described.shapes.1 (names_have env params args (call_arguments s h) names is)

  -- the first part's value has its shape, since the answer that was found is the rule's at a filestore
  pub pair_second : {R L : Type 0} {m : Meaning R} {old new : Session R L} (p : List (List ℕ)) (x : List ℕ) (a b : SpecTree) (v : Value) → HasScope env (SpecTree.pair x a b) → Implements m (option_map tree_of) old new (value p env a) (Ok (Some v))
      → HasScope (bind env x (tree_of v)) b
  pair_second {m = m} {old = old} {new = new} p x a b v h first =
      let known : Known = known_of (m.reads new.reader.now) in
      let own : Known = own_at old.own in
      let S : Store = λ q. unwrap_or (known q) None in
      let agrees : AgreesWith known S = λ q n e. ap (λ (o : Option (Option Node)). unwrap_or o None) e in
      let is : answer (changed own S) (value p env a) ≡ Some (tree_of v) = found_answer known own S agrees (value p env a) (Some (tree_of v)) first.follows.goes.0 in
      let first : IsDescribed h.scope env a = record { shapes = h.described.shapes.0; bindings = h.described.bindings } in
      let has : ValueHas (tree_of v) (value_shape a) = subst (λ o. IfSome o (λ v. ValueHas v (value_shape a))) is (described_have_shapes h.scope env a first (changed own S) p) in
      of_scope (bind h.scope x (value_shape a)) (bind env x (tree_of v)) b h.described.shapes.2 (bind_has env h.scope x (tree_of v) (value_shape a) h.described.bindings has)
