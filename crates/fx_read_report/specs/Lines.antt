-- The lines of a report, one by one.
use Rattle.std.specs.Prelude.{◌≡◌, ℕ, ◌^◌, ◌<◌, List, Option, Some, None, codes}
use Rattle.fx_expr.specs.Tree.{Tree}
use Rattle.fx_expr.specs.Views.{tree_of}
use Rattle.fx_spec.specs.declared.refusal.End.{End}
use Rattle.fx_machine.specs.declared.retry.Retry.{Retry}
use Rattle.fx_report.specs.Report.{entry_words, field, print_words, retry_words}
use Rattle.fx_read_report.specs.Values.{IsPrinted}
use Rattle.fx_read_report.specs.declared.values.TheConstants.{VALUE_LEVELS}
use Rattle.fx_read_report.specs.declared.lines.Line as lines
use Rattle.fx_read_report.specs.declared.lines.Line.TheVariants as held
use Rattle.fx_read_report.specs.Form.{IsFormEnd, IsFormRetry}

pub data Line : Type 0 where
  head : Line
  entries : ℕ → Line
  entry : ℕ → ℕ → ℕ → End → Line
  print : Tree → Line
  retries : ℕ → Line
  retry : Retry → Line
  final : Line

-- a line without its line feed
abbrev pub line_text : Line → List ℕ
line_text head = codes "forest report 1"
line_text (entries n) = field (codes "entries ") n
line_text (entry i shell txn end) = entry_words i shell txn end
line_text (print v) = print_words v
line_text (retries n) = field (codes "retries ") n
line_text (retry r) = retry_words r
line_text final = codes "end"

-- the numbers of a line fit, and what it prints can be printed
abbrev pub IsLine : Line → Type 0
IsLine head = Unit {0}
IsLine (entries n) = n < 2 ^ 64
IsLine (entry i shell txn end) = (i < 2 ^ 64) × (shell < 2 ^ 32) × (txn < 2 ^ 32) × IsFormEnd end
IsLine (print v) = IsPrinted VALUE_LEVELS v
IsLine (retries n) = n < 2 ^ 64
IsLine (retry r) = IsFormRetry r
IsLine final = Unit {0}

-- the bytes are this line, or no line
abbrev pub FindsLine : List ℕ → Option Line → Type 0
FindsLine text None = (l : Line) → IsLine l → text ≡ line_text l → ⊥
FindsLine text (Some l) = IsLine l × (text ≡ line_text l)

-- the line that the program holds
abbrev pub held_line : lines.Line → Line
held_line held.Head = head
held_line (held.Entries n) = entries n
held_line (held.Entry i shell txn end) = entry i shell txn end
held_line (held.Print v) = print (tree_of v)
held_line (held.Retries n) = retries n
held_line (held.Retry r) = retry r
held_line held.Final = final
