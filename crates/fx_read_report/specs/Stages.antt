-- How far a report is read, and which line may follow.
use Rattle.std.specs.Prelude.{◌≡◌, ℕ, Bool, true, false, cond, Option, Some, None, ◌&&◌, nat_eq, nat_lt, List, [], ◌∷◌, ◌++◌, length}
use Rattle.fx_expr.specs.Tree.{Tree}
use Rattle.fx_spec.specs.declared.refusal.End.{End}
use Rattle.fx_machine.specs.declared.retry.Retry.{Retry}
use Rattle.fx_report.specs.declared.printed.PrintedEntry.{PrintedEntry}
use Rattle.fx_read_report.specs.Lines.{Line, IsLine, line_text, head, entries, entry, print, retries, retry, final}
use Rattle.fx_read_report.specs.declared.reading.Stage.{Stage}
use Rattle.fx_read_report.specs.declared.reading.Stage.TheVariants as stage
use Rattle.fx_read_report.specs.declared.reading.Reading.{Reading}

-- a report up to a line: the stage, the entries and the retries
pub record State : Type 0 where
  pub stage : Stage
  pub entries : List PrintedEntry
  pub retries : List Retry

abbrev pub at : Stage → List PrintedEntry → List Retry → State
at g es rs = record { stage = g; entries = es; retries = rs }

abbrev pub state_of : Reading → State
state_of r = at r.stage r.entries.items r.retries

abbrev pub start_state : State
start_state = at stage.Start [] []

abbrev pub is_ended : Stage → Bool
is_ended stage.Ended = true
is_ended other = false

abbrev pub entry_begun : ℕ → ℕ → End → PrintedEntry
entry_begun shell txn end = record { shell = shell; txn = txn; outputs = []; end = end }

-- the last entry with one output more
abbrev pub with_last_output : List PrintedEntry → Tree → List PrintedEntry
with_last_output [] v = []
with_last_output (e ∷ []) v = record { shell = e.shell; txn = e.txn; outputs = e.outputs ++ v ∷ []; end = e.end } ∷ []
with_last_output (e ∷ f ∷ rest) v = e ∷ with_last_output (f ∷ rest) v

-- A report with one line more, if this line may follow: the head, the count of entries, the entries numbered from 0 up to
-- it, each with its outputs behind it, the count of retries, as many of them, and a last line.
abbrev pub next_at : Stage → List PrintedEntry → List Retry → Line → Option State
next_at stage.Start es rs head = Some (at stage.Headed es rs)
next_at stage.Headed es rs (entries n) = Some (at (stage.Entries n) es rs)
next_at (stage.Entries n) es rs (entry i shell txn end) = cond (nat_eq i (length es) && nat_lt (length es) n) (Some (at (stage.Entries n) (es ++ entry_begun shell txn end ∷ []) rs)) None
next_at (stage.Entries n) es rs (print v) = cond (nat_lt 0 (length es)) (Some (at (stage.Entries n) (with_last_output es v) rs)) None
next_at (stage.Entries n) es rs (retries m) = cond (nat_eq (length es) n) (Some (at (stage.Retries m) es rs)) None
next_at (stage.Retries n) es rs (retry r) = cond (nat_lt (length rs) n) (Some (at (stage.Retries n) es (rs ++ r ∷ []))) None
next_at (stage.Retries n) es rs final = cond (nat_eq (length rs) n) (Some (at stage.Ended es rs)) None
next_at g es rs l = None

abbrev pub with_line : State → Line → Option State
with_line s l = next_at s.stage s.entries s.retries l

-- a text is taken as a line, or is none that may follow
abbrev pub TakesText : State → List ℕ → State → Bool → Type 0
TakesText old text new true = (l : Line) × IsLine l × (text ≡ line_text l) × (with_line old l ≡ Some new)
TakesText old text new false = (l : Line) → IsLine l → text ≡ line_text l → with_line old l ≡ None
