-- Reads that go on from some others by what stands in a log.
use Rattle.std.specs.Prelude.{◌≡◌, ◌∷◌, ◌++◌, [], ⊤, length}
use Rattle.std.proofs.Common.{sym}
use Rattle.std.specs.FinMap.{get}
use Rattle.std.proofs.lemmas.List.{append-nil}
use Rattle.fx_view.specs.ReadList.{ReadList}
use Rattle.fx_board.specs.Board.{last_state}
use Rattle.fx_board.specs.Log.{Log}

-- each of the reads is what stands at its path after all entries, and its position is their number
abbrev pub AreCurrent : Log → ReadList → Type 0
AreCurrent log [] = ⊤
AreCurrent log (r ∷ reads) = ((r.1.0 ≡ get (last_state log) r.0) × (r.1.1 ≡ length log.order)) × AreCurrent log reads

-- the later reads are the earlier ones, and then some of what stands there now
pub record IsNowIn (log : Log) (old new : ReadList) : Type 0 where
  pub more : ReadList
  pub kept : new ≡ old ++ more
  pub now : AreCurrent log more

pub nothing_new : (log : Log) (reads : ReadList) → IsNowIn log reads reads
nothing_new log reads = record { more = []; kept = sym (append-nil reads); now = tt }
