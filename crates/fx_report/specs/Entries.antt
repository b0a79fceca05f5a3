-- The report of a commit order: its entries by the meaning of the transactions, run whole, one after another.
use Rattle.std.specs.Prelude.{ℕ, suc, List, [], ◌∷◌, Option, Some, None}
use Rattle.std.specs.FinMap.{get}
use Rattle.fx_spec.specs.CommandTree.{CommandTree}
use Rattle.fx_spec.specs.Plans.{Turn, txn_of}
use Rattle.fx_spec.specs.Order.{BaseTree, state}
use Rattle.fx_spec.specs.Transaction.{outputs, end}
use Rattle.fx_machine.specs.declared.entry.Entry.{Entry}
use Rattle.fx_machine.specs.declared.retry.Retry.{Retry}
use Rattle.fx_report.specs.declared.printed.PrintedEntry.{PrintedEntry}
use Rattle.fx_report.specs.Report.{report_text}

-- an entry of a log, as it is printed
abbrev pub printed : Entry → PrintedEntry
printed e = record { shell = e.shell; txn = e.txn; outputs = e.outputs; end = e.end }

-- the commands of a transaction; of one that the plan has not there are none
abbrev pub commands_or_none : Option (List CommandTree) → List CommandTree
commands_or_none None = []
commands_or_none (Some commands) = commands

-- the entry of number `i`: what the transaction gives, run whole on the filestore after those before it
abbrev pub entry : BaseTree → List Turn → ℕ → Turn → PrintedEntry
entry base o i turn =
    let t = commands_or_none (txn_of base.plan turn) in
    record {
      shell = turn.0;
      txn = turn.1;
      outputs = outputs base.description t (get (state base o i));
      end = end base.description t (get (state base o i));
    }

abbrev pub entries_from : BaseTree → List Turn → ℕ → List Turn → List PrintedEntry
entries_from base o i [] = []
entries_from base o i (turn ∷ turns) = entry base o i turn ∷ entries_from base o (suc i) turns

unfoldable pub entries_of : BaseTree → List Turn → List PrintedEntry
entries_of base o = entries_from base o 0 o

-- the report of an order and its retries
abbrev pub report : BaseTree → List Turn → List Retry → List ℕ
report base o retries = report_text (entries_of base o) retries
