-- What a pass knows of its own entries.
use Rattle.std.specs.Prelude.{◌≡◌, ℕ, Some}
use Rattle.std.proofs.Common.{sym, ap, ◌∙◌}
use Rattle.fx_spec.specs.Plans.{Turn}
use Rattle.fx_machine.specs.Machine.{next_number}
use Rattle.fx_turn.specs.Histories.{own}
use Rattle.fx_shared.specs.Passes.{LogView}
use Rattle.fx_board.proofs.Counts.{count_own}

-- a shell's pass counts the entries of its shell among those that it has seen
pub counts_own_entries : (v : LogView) (shell : ℕ) → own (λ (turn : Turn). turn.0) v.number v.seen ≡ v.mine → v.number ≡ Some shell → next_number v.seen shell ≡ v.mine
counts_own_entries v shell mine number = sym (count_own shell v.seen) ∙ (ap (λ n. own (λ (turn : Turn). turn.0) n v.seen) (sym number) ∙ mine)
