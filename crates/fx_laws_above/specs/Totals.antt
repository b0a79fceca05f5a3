-- What `large` tells of a number, in words of the number alone.
use Rattle.std.specs.Prelude.{◌≡◌, ℕ, ◌+◌, pos, List, ◌++◌, codes, length}
use Rattle.std.specs.Fmt.{decimal}
use Rattle.fx_store.specs.Whole.{Nodes}
use Rattle.fx_spec.specs.Order.{IsComplete, state}
use Rattle.fx_spec.specs.Plans.{Turn}
use Rattle.fx_gen.specs.Scripts.{counting_of, logging_of}
use Rattle.fx_large_commands.specs.Base.{generated_base}
use Rattle.fx_large_commands.specs.Summary.{done_of, counted_in, logged_in, node_count, summary}

-- how many of the 1600 transactions of the eight scripts count, and how many log
abbrev pub counting_total : ℕ → ℕ
counting_total number = counting_of number 1600

abbrev pub logs : ℕ → ℕ
logs number = logging_of number 1600

-- The five lines. All transactions are done. Each that counts has added one to a count. Each that logs has added a name to a
-- log, which is one node more than the first 195.
abbrev pub five_lines : ℕ → List ℕ
five_lines number =
    codes "transactions 1600\ndone 1600\ncounted " ++ decimal (counting_total number) ++ codes "\nlogged " ++ decimal (logs number) ++ codes "\nnodes " ++ decimal (195 + logs number) ++ codes "\n"

-- the filestore after all transactions of an order
abbrev pub last_generated : ℕ → List Turn → Nodes
last_generated number o = state (generated_base number) o (length o)

-- an order is summed up to these numbers
pub record SumsUp (number : ℕ) (o : List Turn) : Type 0 where
  pub transactions : length o ≡ 1600
  pub done : done_of (generated_base number) o ≡ 1600
  pub counted : counted_in (last_generated number o) ≡ pos (counting_total number)
  pub logged : logged_in (last_generated number o) ≡ logs number
  pub nodes : node_count (last_generated number o) ≡ 195 + logs number
  pub printed : summary (generated_base number) o ≡ five_lines number

-- so is each complete order, of whatever number; and each transaction counts or logs
pub record LargeTellsTheSame : Type 0 where
  pub each : (number : ℕ) (o : List Turn) → IsComplete (generated_base number) o → SumsUp number o
  pub together : (number : ℕ) → counting_total number + logs number ≡ 1600
