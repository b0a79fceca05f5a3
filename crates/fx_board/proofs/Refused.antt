-- What a refusal leaves.
use Rattle.std.proofs.Common.{◌≡◌}
use Rattle.fx_machine.specs.declared.attempt.Attempt.{Attempt}
use Rattle.fx_board.specs.declared.board.Settle.{Settle}
use Rattle.fx_board.specs.declared.board.Settle.TheVariants.{Conflict, NoMemory}
use Rattle.fx_board.specs.Board.{RefusedAs}
use Rattle.fx_board.specs.Log.{Log}

-- a refusal leaves the log
pub left_as : (old new : Log) (a : Attempt) (refusal : Settle) → RefusedAs old new a refusal → new ≡ old
left_as old new a (Conflict entry path back) r = r.1
left_as old new a (NoMemory back) r = r.1
