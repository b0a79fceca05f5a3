-- Laws of what a journal keeps.
use Rattle.std.specs.Prelude.{ℕ, List}
use Rattle.std.specs.FinMap.{get}
use Rattle.fx_store.specs.Whole.{IsWhole}
use Rattle.fx_spec.specs.Order.{BaseTree}
use Rattle.fx_machine.specs.Machine.{Machine}
use Rattle.fx_journaling.specs.Written.{HasWritten, IsFrontOfOutput}

abbrev pub WrittenIsFront : Type 0
WrittenIsFront =
    (base : BaseTree) (schedule : List ℕ) (m : Machine) (bytes : List ℕ) → IsWhole (get base.loaded) → HasWritten base schedule m bytes → IsFrontOfOutput base schedule bytes
