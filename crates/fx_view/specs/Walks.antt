-- Walks of resolution, as the code keeps them: the rule of what is left of a walk.
use Rattle.std.specs.Prelude.{◌≡◌, ℕ, ◌+◌, ◌*◌, ◌<◌, List, ◌∷◌, ◌++◌, length, Option, Some, None, ⊤}
use Rattle.fx_store.specs.declared.node.Node.{Node}
use Rattle.fx_store.specs.declared.node.Landing.{Landing}
use Rattle.fx_store.specs.Rule.{Ask, Answer, Look}
use Rattle.fx_store.specs.Resolve.{Normal, ◌/ₚ◌, at_name, at_link, goes_along, start, components_of, walk, along}
use Rattle.fx_view.specs.declared.walk.Walk.{Walk}
use Rattle.fx_view.specs.declared.walk.Next.{Next}
use Rattle.fx_view.specs.declared.walk.Next.TheVariants.{Lands, Goes, Looks}

-- what is left of a walk
unfoldable pub rule_of : Walk → Ask Landing
rule_of w = walk (along w.links w.follow) w.follow w.here w.rest

-- what is left of it once it knows what is at the entry of this name
unfoldable pub rule_at : Walk → List ℕ → Option Node → Ask Landing
rule_at w name =
    at_name w.follow w.here name w.rest (walk (along w.links w.follow) w.follow (w.here /ₚ name) w.rest) (along w.links w.follow)

-- what is left of it at a name, whose entry comes next
unfoldable pub rule_named : Walk → List ℕ → Ask Landing
rule_named w name = walk (along w.links w.follow) w.follow w.here (Normal name ∷ w.rest)

-- what is left of it at a link with this text
unfoldable pub rule_linked : Walk → List (List ℕ) → List ℕ → Ask Landing
rule_linked w path text =
    at_link (goes_along w.follow w.rest) path (along w.links w.follow (start w.here text) (components_of text ++ w.rest))

-- what is left of it after a component was taken
abbrev pub rule_then : Walk → Next → Ask Landing
rule_then w (Lands l) = Answer l
rule_then w Goes = rule_of w
rule_then w (Looks name path) = Look path (rule_at w name)

-- what is left of it after a look: nothing, where it has landed
abbrev pub rule_after : Walk → Option Landing → Ask Landing
rule_after w None = rule_of w
rule_after w (Some l) = Answer l

-- the components that are left, where each link that may be followed counts as many as it can bring
abbrev pub left : Walk → ℕ
left w = 65 * w.links + length w.rest

-- a walk that goes on has fewer components left, and looks at an entry of the directory where it is
abbrev pub GoesOn : Walk → Walk → Next → Type 0
GoesOn old new (Lands l) = ⊤
GoesOn old new Goes = left new < left old
GoesOn old new (Looks name path) = (path ≡ new.here /ₚ name) × (left new < left old)

-- a look at a name is at its entry of the directory where the walk is; else the walk lands
abbrev pub LooksAt : Walk → List ℕ → Next → Type 0
LooksAt w name (Lands l) = ⊤
LooksAt w name Goes = ⊥
LooksAt w name (Looks n path) = (n ≡ name) × (path ≡ w.here /ₚ name)
