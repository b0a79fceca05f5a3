use Rattle.std.proofs.Common.{◌++◌, List, ℕ, [], ◌∷◌, ap}
use Rattle.fx_text.proofs.Order.{ascending_one}
use Rattle.test_low.proofs.values.copied_names.Goals as goal

pub add-requires : goal.add-requires
add-requires c = ascending_one _ _ (ap (λ (l : List (List ℕ)). l ++ c.new.result ∷ []) c.new-names.ensures)
