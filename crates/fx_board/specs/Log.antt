-- A log as contracts see it: its base, and its commit order.
use Rattle.std.specs.Prelude.{List, refl}
use Rattle.std.specs.Coded.{Coded, code_by, coded×, coded_list, coded_ℕ}
use Rattle.std.specs.FinMap as map
use Rattle.fx_store.specs.Whole.{Nodes}
use Rattle.fx_store.specs.contracts.node.Node as node
use Rattle.fx_store.specs.Filestore.{path_code}
use Rattle.fx_spec.specs.SpecTree.{SpecTree}
use Rattle.fx_spec.specs.CommandTree.{CommandTree}
use Rattle.fx_spec.specs.Codes.{coded_spec, coded_commands}
use Rattle.fx_spec.specs.Plans.{Turn}
use Rattle.fx_spec.specs.Order.{BaseTree}

pub record Log : Type 0 where
  pub base : BaseTree
  pub order : List Turn

abbrev pub plan_code : Coded (List (List (List CommandTree)))
plan_code = coded_list (coded_list coded_commands)

abbrev pub nodes_code : Coded Nodes
nodes_code = map.code path_code (node.the_row).coded

abbrev pub base_code : Coded BaseTree
base_code =
    code_by (SpecTree × (List (List (List CommandTree)) × Nodes)) (coded× coded_spec (coded× plan_code nodes_code))
    (λ b. (b.description, (b.plan, b.loaded))) (λ p. record { description = p.0; plan = p.1.0; loaded = p.1.1 }) (λ _. refl)

abbrev pub log_code : Coded Log
log_code = code_by (BaseTree × List Turn) (coded× base_code (coded_list (coded× coded_ℕ coded_ℕ))) (λ l. (l.base, l.order)) (λ p. record { base = p.0; order = p.1 }) (λ _. refl)
