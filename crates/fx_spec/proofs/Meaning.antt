-- What a well-shaped text means is well shaped, however many calls are unfolded.
use Rattle.std.proofs.Common.{◌≡◌, ℕ, zero, suc, Bool, true, false, cond, refl, ap, subst, sym, List, [], ◌∷◌, ◌++◌, Option, Some, None}
use Rattle.std.specs.Prelude.{nat_eq}
use Rattle.std.specs.Cmp.Lexicographic.{pointwise}
use Rattle.fx_expr.specs.Bindings.{bind}
use Rattle.fx_expr.specs.ExprTree.{ExprTree}
use Rattle.fx_expr.specs.ShapeTree.{ShapeTree}
use Rattle.fx_spec.specs.SpecTree.{SpecTree}
use Rattle.fx_spec.specs.Move.{value_shape}
use Rattle.fx_spec.specs.Written.{WrittenTree, DefTree, TextTree, definition, meant, calls_in, part_tree, text_tree}
use Rattle.fx_spec.specs.WellShaped.{Scope, IsDescription, written_shape, IsCall, IsWritten, AreDefs, IsChecked}
use Rattle.fx_spec.proofs.Calls.{last_of, call_of}

shape_last : (args : List ExprTree) (o : Option DefTree) → value_shape (last_of args o) ≡ ShapeTree.bool
shape_last args None = refl
shape_last args (Some d) = refl

shape_call : (defs : List DefTree) (n : ℕ) (args : List ExprTree) (o : Option DefTree) → value_shape (call_of defs n args o) ≡ ShapeTree.bool
shape_call defs n args None = refl
shape_call defs n args (Some d) = refl

shape_called : (defs : List DefTree) (n : ℕ) (f : List ℕ) (args : List ExprTree) → value_shape (calls_in defs n f args) ≡ ShapeTree.bool
shape_called defs zero f args = shape_last args (definition f defs)
shape_called defs (suc n) f args = shape_call defs n args (definition f defs)

module _ (calls : List ℕ → List ExprTree → SpecTree) (shapes : (f : List ℕ) (args : List ExprTree) → value_shape (calls f args) ≡ ShapeTree.bool) where
  shape_meant : (s : WrittenTree) → value_shape (meant calls s) ≡ written_shape s
  shape_meant WrittenTree.file = refl
  shape_meant WrittenTree.dir = refl
  shape_meant WrittenTree.link = refl
  shape_meant (WrittenTree.focus e s) = shape_meant s
  shape_meant (WrittenTree.pair x a b) = λ i. ShapeTree.pair (shape_meant a i) (shape_meant b i)
  shape_meant (WrittenTree.comp s x e) = ap ShapeTree.table (shape_meant s)
  shape_meant (WrittenTree.opt s) = ap ShapeTree.opt (shape_meant s)
  shape_meant (WrittenTree.pred e) = refl
  shape_meant (WrittenTree.call f args) = shapes f args

  -- where each call means something well shaped, so does the whole
  is_meant : (defs : List DefTree) → ((scope : Scope) (f : List ℕ) (args : List ExprTree) → IsCall defs scope f args → IsDescription scope (calls f args))
      → (scope : Scope) (s : WrittenTree) → IsWritten defs scope s → IsDescription scope (meant calls s)
  is_meant defs mean scope WrittenTree.file d = tt
  is_meant defs mean scope WrittenTree.dir d = tt
  is_meant defs mean scope WrittenTree.link d = tt
  is_meant defs mean scope (WrittenTree.focus e s) d = (d.0, is_meant defs mean scope s d.1)
  is_meant defs mean scope (WrittenTree.pair x a b) d =
      (is_meant defs mean scope a d.0, d.1, subst (λ t. IsDescription (bind scope x t) (meant calls b)) (sym (shape_meant a)) (is_meant defs mean (bind scope x (written_shape a)) b d.2))
  is_meant defs mean scope (WrittenTree.comp s x e) d = (d.0, d.1, is_meant defs mean (bind scope x ShapeTree.str) s d.2)
  is_meant defs mean scope (WrittenTree.opt s) d = is_meant defs mean scope s d
  is_meant defs mean scope (WrittenTree.pred e) d = d
  is_meant defs mean scope (WrittenTree.call f args) d = mean scope f args d

pub part_shape : (defs : List DefTree) (n : ℕ) (s : WrittenTree) → value_shape (part_tree defs n s) ≡ written_shape s
part_shape defs n s = shape_meant (λ g es. calls_in defs n g es) (shape_called defs n) s

-- the definition of a name is one of the definitions
body_of : (defs before rest : List DefTree) (f : List ℕ) (d : DefTree) → AreDefs defs before rest → definition f rest ≡ Some d → IsWritten defs d.params d.body
body_of defs before [] f d all e = cc
body_of defs before (c ∷ rest) f d all e = at (pointwise nat_eq c.name f) e (λ h. body_of defs (before ++ c ∷ []) rest f d all.1 h)
  where
    at : (b : Bool) → cond b (Some c) (definition f rest) ≡ Some d → (definition f rest ≡ Some d → IsWritten defs d.params d.body) → IsWritten defs d.params d.body
    at true h rest_of = let same : c ≡ d = cc in subst (λ (d : DefTree). IsWritten defs d.params d.body) same all.0.body
    at false h rest_of = rest_of h

module _ (defs : List DefTree) (all : AreDefs defs [] defs) where
  calls_mean : (n : ℕ) (scope : Scope) (f : List ℕ) (args : List ExprTree) → IsCall defs scope f args → IsDescription scope (calls_in defs n f args)
  calls_mean zero scope f args c = subst (λ o. IsDescription scope (last_of args o)) (sym c.found) c.arguments
  calls_mean (suc n) scope f args c =
      subst (λ o. IsDescription scope (call_of defs n args o)) (sym c.found)
      (c.arguments, is_meant (λ g es. calls_in defs n g es) (shape_called defs n) defs (λ scope f args c. calls_mean n scope f args c) c.named.params c.named.body (body_of defs [] defs f c.named all c.found))

  pub part_described : (n : ℕ) (scope : Scope) (s : WrittenTree) → IsWritten defs scope s → IsDescription scope (part_tree defs n s)
  part_described n scope s d = is_meant (λ g es. calls_in defs n g es) (shape_called defs n) defs (λ scope f args c. calls_mean n scope f args c) scope s d

pub text_described : (t : TextTree) → IsChecked t → IsDescription [] (text_tree t)
text_described t c = part_described t.defs c.defs 64 [] t.root c.root
