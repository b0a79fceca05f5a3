-- The lines of a value and of the report of a run.
use Rattle.std.specs.Prelude.{ℕ, ◌+◌, List, [], ◌∷◌, ◌++◌, codes, length}
use Rattle.std.specs.Fmt.{decimal}
use Rattle.std.specs.List.{flat_map}
use Rattle.fx_expr.specs.Tree.{Tree}
use Rattle.fx_expr.specs.Faults.{fault_text}
use Rattle.fx_spec.specs.Refusals.{refusal_number}
use Rattle.fx_spec.specs.declared.refusal.Refusal.{Refusal}
use Rattle.fx_spec.specs.declared.refusal.Refusal.TheVariants.{NoStep, NoElement, NoPlace, Lacks, WrongForm, Blocked, TooDeep, BadName, NoDefault, Expr, Absent, Exists, TooUnfolded}
use Rattle.fx_spec.specs.declared.refusal.End.{End}
use Rattle.fx_spec.specs.declared.refusal.End.TheVariants.{Done, Stopped, Aborted}
use Rattle.fx_store.specs.Names.{path_text}
use Rattle.fx_report.specs.Print.{quote, value_text}
use Rattle.fx_report.specs.declared.printed.PrintedEntry.{PrintedEntry}
use Rattle.fx_machine.specs.declared.retry.Retry.{Retry}

-- a line ends by one line feed
abbrev pub line : List ℕ → List ℕ
line text = text ++ codes "\n"

-- words, and the number after them
unfoldable pub field : List ℕ → ℕ → List ℕ
field words number = words ++ decimal number

-- the name of a refusal, with what it carries after it
abbrev pub refusal_text : Refusal → List ℕ
refusal_text NoStep = codes "NoStep"
refusal_text NoElement = codes "NoElement"
refusal_text NoPlace = codes "NoPlace"
refusal_text Lacks = codes "Lacks"
refusal_text WrongForm = codes "WrongForm"
refusal_text (Blocked path) = codes "Blocked " ++ quote (path_text path)
refusal_text TooDeep = codes "TooDeep"
refusal_text BadName = codes "BadName"
refusal_text NoDefault = codes "NoDefault"
refusal_text (Expr fault) = codes "Expr " ++ fault_text fault
refusal_text Absent = codes "Absent"
refusal_text Exists = codes "Exists"
refusal_text TooUnfolded = codes "TooUnfolded"

-- how a transaction ended: a stop has the command's number, and the refusal's number before its name
abbrev pub end_text : End → List ℕ
end_text Done = codes "done"
end_text (Stopped command refusal) =
    field (codes "stopped ") command ++ field (codes " ") (refusal_number refusal) ++ codes " " ++ refusal_text refusal
end_text Aborted = codes "aborted"

-- the line of an entry, which is numbered, without its line feed
abbrev pub entry_words : ℕ → ℕ → ℕ → End → List ℕ
entry_words i shell txn end =
    field (codes "entry ") i ++ field (codes " shell ") shell ++ field (codes " txn ") txn ++ codes " " ++ end_text end

unfoldable pub entry_line : ℕ → ℕ → ℕ → End → List ℕ
entry_line i shell txn end = line (entry_words i shell txn end)

-- the line of one output, without its line feed
abbrev pub print_words : Tree → List ℕ
print_words value = codes "print " ++ value_text value

unfoldable pub print_line : Tree → List ℕ
print_line value = line (print_words value)

-- the lines of an entry: its own, then one for each output in order
unfoldable pub entry_text : ℕ → PrintedEntry → List ℕ
entry_text i e = entry_line i e.shell e.txn e.end ++ flat_map print_line e.outputs

-- the lines of entries that are numbered from i
abbrev pub entries_text : ℕ → List PrintedEntry → List ℕ
entries_text i [] = []
entries_text i (e ∷ rest) = entry_text i e ++ entries_text (i + 1) rest

-- the line of a retry, without its line feed: whose it was, the entry that stood in its way, and the path that this entry
-- changed
abbrev pub retry_words : Retry → List ℕ
retry_words r =
    field (codes "retry shell ") r.shell ++ field (codes " txn ") r.txn ++ field (codes " entry ") r.entry ++ codes " path " ++ quote (path_text r.path)

unfoldable pub retry_line : Retry → List ℕ
retry_line r = line (retry_words r)

-- the report of a run: its entries in their order, numbered from 0, then its retries
unfoldable pub report_text : List PrintedEntry → List Retry → List ℕ
report_text entries retries =
    line (codes "forest report 1") ++ line (field (codes "entries ") (length entries)) ++ entries_text 0 entries ++ line (field (codes "retries ") (length retries)) ++ flat_map retry_line retries ++ line (codes "end")

-- the line that shows a value
unfoldable pub value_line : Tree → List ℕ
value_line value = line (codes "value " ++ value_text value)
