-- What a run of a generated case is summed up to: how many transactions there were and how many of them were done, the sum
-- of the projects' counts, the number of names in their logs, and the number of nodes of the last filestore.
use Rattle.std.specs.Prelude.{ℕ, zero, suc, ◌+◌, ℤ, pos, ◌+ℤ◌, List, [], ◌∷◌, ◌++◌, codes, length, Option, Some, Ok, Err}
use Rattle.std.specs.Fmt.{decimal, signed_decimal}
use Rattle.std.specs.FinMap.{get, entries}
use Rattle.std.specs.List.{count_by}
use Rattle.fx_expr.specs.declared.expr.UnOp.{UnOp}
use Rattle.fx_expr.specs.ExprTree.{ExprTree}
use Rattle.fx_expr.specs.Eval.{Outcome, integer_in, read_integer}
use Rattle.fx_store.specs.declared.node.Node.{Node}
use Rattle.fx_store.specs.declared.node.Node.TheVariants.{File, Dir}
use Rattle.fx_store.specs.Whole.{Nodes}
use Rattle.fx_spec.specs.Order.{BaseTree, state}
use Rattle.fx_spec.specs.Plans.{Turn}
pub use Rattle.fx_spec.specs.Transaction.{is_done}
use Rattle.fx_report.specs.declared.printed.PrintedEntry.{PrintedEntry}
use Rattle.fx_report.specs.Entries.{entries_of}
use Rattle.fx_gen.specs.Notes.{project}

-- how many transactions of the order are done, each by its meaning on the state before it
abbrev pub done_of : BaseTree → List Turn → ℕ
done_of base o = count_by (λ (e : PrintedEntry). is_done e.end) (entries_of base o)

-- the expression that reads the integer that a text spells
abbrev pub int_of : List ℕ → ExprTree
int_of text = ExprTree.un UnOp.Int (ExprTree.str text)

-- the integer that a text spells; one that spells none adds 0
abbrev pub integer_or_zero : Outcome → ℤ
integer_or_zero (Ok v) = integer_in v
integer_or_zero (Err fault) = pos 0

-- what a count adds, if it is a file
abbrev pub counted_at : Option Node → ℤ
counted_at (Some (File bytes exec)) = integer_or_zero (read_integer bytes)
counted_at _ = pos 0

-- how many names a log has, if it is a directory
abbrev pub logged_at : Option Node → ℕ
logged_at (Some (Dir names)) = length names
logged_at _ = 0

-- in the first n projects
unfoldable pub counted_to : Nodes → ℕ → ℤ
counted_to nodes zero = pos 0
counted_to nodes (suc n) = counted_to nodes n +ℤ counted_at (get nodes (project n ∷ codes "count" ∷ []))

unfoldable pub logged_to : Nodes → ℕ → ℕ
logged_to nodes zero = 0
logged_to nodes (suc n) = logged_to nodes n + logged_at (get nodes (project n ∷ codes "log" ∷ []))

-- in all sixteen
abbrev pub counted_in : Nodes → ℤ
counted_in nodes = counted_to nodes 16

abbrev pub logged_in : Nodes → ℕ
logged_in nodes = logged_to nodes 16

-- the root counts as a node
abbrev pub node_count : Nodes → ℕ
node_count nodes = length (entries nodes)

-- the five lines, by the numbers of transactions and of those done, and the filestore
unfoldable pub lines : ℕ → ℕ → Nodes → List ℕ
lines transactions done nodes =
    codes "transactions " ++ decimal transactions ++ codes "\ndone " ++ decimal done ++ codes "\ncounted " ++ signed_decimal (counted_in nodes) ++ codes "\nlogged " ++ decimal (logged_in nodes) ++ codes "\nnodes " ++ decimal (node_count nodes) ++ codes "\n"

-- the summary of an order
abbrev pub summary : BaseTree → List Turn → List ℕ
summary base o = lines (length o) (done_of base o) (state base o (length o))
