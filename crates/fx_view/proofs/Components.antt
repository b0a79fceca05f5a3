-- Names that are gathered from a way of components, and parts that pass a test.
use Rattle.std.proofs.Common.{◌≡◌, ◌∙◌, ℕ, List, [], ◌∷◌, ◌++◌, map, Option, Some, None, option_map, ap, refl}
use Rattle.fx_store.specs.Resolve as rule
use Rattle.fx_store.specs.Resolve.{names_only}
use Rattle.fx_view.specs.declared.component.Component.{Component}
use Rattle.fx_view.specs.Ways.{way}

-- the names so far, with those of the rest, if the rest holds names alone
abbrev pub gathered : List (List ℕ) → List Component → Option (List (List ℕ))
gathered names rest = option_map (λ ns. names ++ ns) (names_only (way rest))

more_by : (n : List ℕ) (ns : List (List ℕ)) (o : Option (List (List ℕ))) → option_map (λ ms. n ∷ ms) (option_map (λ ms. ms ++ ns) o) ≡ option_map (λ ms. ms ++ ns) (option_map (λ ms. n ∷ ms) o)
more_by n ns None = refl
more_by n ns (Some ms) = refl

names_alone : (ns : List (List ℕ)) → names_only (map rule.Normal ns) ≡ Some ns
names_alone [] = refl
names_alone (n ∷ ns) = ap (option_map (λ ms. n ∷ ms)) (names_alone ns)

-- names behind a way come behind its names
pub names_then : (parts : List rule.Component) (ns : List (List ℕ)) → names_only (parts ++ map rule.Normal ns) ≡ option_map (λ ms. ms ++ ns) (names_only parts)
names_then [] ns = names_alone ns
names_then (rule.CurDir ∷ parts) ns = refl
names_then (rule.ParentDir ∷ parts) ns = refl
names_then (rule.Normal n ∷ parts) ns = ap (option_map (λ ms. n ∷ ms)) (names_then parts ns) ∙ more_by n ns (names_only parts)
