-- A run as contracts see it: its base, the state of the machine, and the retries of each shell.
use Rattle.std.specs.Prelude.{List, refl}
use Rattle.std.specs.Coded.{Coded, code_by, coded×, coded_list, coded_ℕ}
use Rattle.fx_spec.specs.Plans.{Turn}
use Rattle.fx_spec.specs.Order.{BaseTree}
use Rattle.fx_machine.specs.Machine.{Machine, Look}
use Rattle.fx_machine.specs.declared.retry.Retry.{Retry}
use Rattle.fx_machine.specs.contracts.retry.Retry as retry
use Rattle.fx_board.specs.Log.{base_code}

pub record Running : Type 0 where
  pub base : BaseTree
  pub machine : Machine
  pub retries : List (List Retry)

abbrev look_code : Coded Look
look_code = coded× (coded_list (coded_list coded_ℕ)) coded_ℕ

abbrev pub machine_code : Coded Machine
machine_code =
    code_by (List Turn × List (List Look)) (coded× (coded_list (coded× coded_ℕ coded_ℕ)) (coded_list (coded_list look_code))) (λ m. (m.order, m.looks)) (λ p. record { order = p.0; looks = p.1 }) (λ _. refl)

abbrev pub running_code : Coded Running
running_code =
    code_by (BaseTree × (Machine × List (List Retry))) (coded× base_code (coded× machine_code (coded_list (coded_list (retry.the_row).coded)))) (λ r. (r.base, (r.machine, r.retries)))
    (λ p. record { base = p.0; machine = p.1.0; retries = p.1.1 }) (λ _. refl)
