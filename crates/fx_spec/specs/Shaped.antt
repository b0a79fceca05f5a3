-- A value has the shape that its description, or the form that it is fetched at, says.
use Rattle.std.specs.Prelude.{◌≡◌, ℕ, List, [], IfOk, IfSome, Some}
use Rattle.fx_store.specs.Rule.{answer}
use Rattle.fx_store.specs.Whole.{Store}
use Rattle.fx_expr.specs.Shapes.{ValueHas, BindingsHave}
use Rattle.fx_expr.specs.ShapeTree.{ShapeTree}
use Rattle.fx_spec.specs.SpecTree.{SpecTree}
use Rattle.fx_spec.specs.Describe.{Bindings, value}
use Rattle.fx_spec.specs.Move.{value_shape, fetch_shape, fetched, at_place, fetch_at, whole_at}
use Rattle.fx_spec.specs.Place.{Address, PlaceTree, place}
use Rattle.fx_spec.specs.WellShaped.{Scope, IsDescription}

-- a description is well shaped in a scope whose shapes the bound values have
pub record IsDescribed (scope : Scope) (env : Bindings) (spec : SpecTree) : Type 0 where
  pub shapes : IsDescription scope spec
  pub bindings : BindingsHave env scope

-- a description's value has the description's shape
abbrev pub DescribedHaveShapes : Type 0
DescribedHaveShapes =
    (scope : Scope) (env : Bindings) (spec : SpecTree) → IsDescribed scope env spec → (S : Store) (p : List (List ℕ)) → IfSome (answer S (value p env spec)) (λ v. ValueHas v (value_shape spec))

-- so has the value of a root description, around which no name is bound
abbrev pub RootsHaveShapes : Type 0
RootsHaveShapes = (root : SpecTree) → IsDescription [] root → (S : Store) → IfSome (answer S (value [] [] root)) (λ v. ValueHas v (value_shape root))

-- what is fetched at a form has the shape of the form's fetch
abbrev pub FetchedHaveShapes : Type 0
FetchedHaveShapes =
    (scope : Scope) (env : Bindings) (spec : SpecTree) → IsDescribed scope env spec → (shape : ShapeTree) → fetch_shape spec ≡ Some shape → (S : Store) (p : List (List ℕ)) → IfOk (answer S (fetched p env spec)) (λ v. ValueHas v shape)

-- the description meant at a place is well shaped in some scope whose shapes the place's values have
abbrev pub IsDescribedPlace : PlaceTree → Type 0
IsDescribedPlace at = (scope : Scope) × IsDescribed scope at.env at.spec

-- it is at each place of a well-shaped root description
abbrev pub PlacesAreDescribed : Type 0
PlacesAreDescribed = (root : SpecTree) → IsDescription [] root → (S : Store) (a : Address) → IfSome (answer S (place root a)) IsDescribedPlace

-- a transaction's `fetch` gives a value of the shape that it names
abbrev pub FetchesHaveShapes : Type 0
FetchesHaveShapes = (root : SpecTree) → IsDescription [] root → (S : Store) (a : Address) (shape : ShapeTree) → IfOk (answer S (at_place root a (fetch_at shape))) (λ v. ValueHas v shape)

-- so with its `value`
abbrev pub WholesHaveShapes : Type 0
WholesHaveShapes = (root : SpecTree) → IsDescription [] root → (S : Store) (a : Address) (shape : ShapeTree) → IfOk (answer S (at_place root a (whole_at shape))) (λ v. ValueHas v shape)
