-- Components, and ways of them, as the code of resolution keeps them.
use Rattle.std.specs.Prelude.{List, map}
use Rattle.fx_store.specs.Resolve as rule
use Rattle.fx_view.specs.declared.component.Component.{Component}
use Rattle.fx_view.specs.declared.component.Component.TheVariants as kept

-- a component, as the rule of resolution has it
abbrev pub meant : Component → rule.Component
meant kept.CurDir = rule.CurDir
meant kept.ParentDir = rule.ParentDir
meant (kept.Normal name) = rule.Normal name

-- a way of components, as the rule has it
abbrev pub way : List Component → List rule.Component
way components = map meant components
