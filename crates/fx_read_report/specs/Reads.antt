-- How the parts of a line are read.
use Rattle.std.specs.Prelude.{ℕ, ◌^◌, cond, List, nat_eq, nat_lt, bytes_eq, Option, Some, None, codes}
use Rattle.std.specs.Option.{option_map, option_and_then}
use Rattle.fx_expr.specs.declared.fault.ExprFault.TheVariants as fault
use Rattle.fx_spec.specs.declared.refusal.Refusal.{Refusal}
use Rattle.fx_spec.specs.declared.refusal.Refusal.TheVariants as refusal
use Rattle.fx_spec.specs.declared.refusal.End.{End}
use Rattle.fx_spec.specs.declared.refusal.End.TheVariants as end
use Rattle.fx_read_report.specs.declared.lines.Kind.{Kind}
use Rattle.fx_read_report.specs.declared.lines.Kind.TheVariants as kind
use Rattle.fx_read_report.specs.Kinds.{kind_of}
use Rattle.fx_read_report.specs.Limits.{Limits}
use Rattle.fx_read_report.specs.Lines.{Line, entries, entry, final, head, print, retries, retry}
use Rattle.fx_read_report.specs.Numbers.{after, leading_number}
use Rattle.fx_read_report.specs.Quotes.{unquoted}
use Rattle.fx_read_report.specs.Values.{alone, value_at}

-- the number behind words, and what stands behind it
unfoldable pub field_at : List ℕ → List ℕ → Option (ℕ × List ℕ)
field_at words bytes = option_and_then leading_number (after words bytes)

-- the number of 32 bits behind words, and what stands behind it
unfoldable pub small_at : List ℕ → List ℕ → Option (ℕ × List ℕ)
small_at words bytes = option_and_then (λ r. cond (nat_lt r.0 (2 ^ 32)) (Some r) None) (field_at words bytes)

-- the number behind words, with nothing behind it
unfoldable pub last_at : List ℕ → List ℕ → Option ℕ
last_at words bytes = alone (field_at words bytes)

-- the path of a quote, with nothing behind it
unfoldable pub path_at : Limits → List ℕ → Option (List (List ℕ))
path_at limits bytes = option_and_then limits.path_of (alone (unquoted bytes))

-- the refusals that carry nothing, by their numbers
abbrev pub plain_of : ℕ → Option Refusal
plain_of n =
    cond (nat_eq n 1) (Some refusal.NoStep) (cond (nat_eq n 2) (Some refusal.NoElement) (cond (nat_eq n 3) (Some refusal.NoPlace) (cond (nat_eq n 4) (Some refusal.Lacks) (cond (nat_eq n 5) (Some refusal.WrongForm) (cond (nat_eq n 7) (Some refusal.TooDeep) (cond (nat_eq n 8) (Some refusal.BadName) (cond (nat_eq n 9) (Some refusal.NoDefault) (cond (nat_eq n 11) (Some refusal.Absent) (cond (nat_eq n 12) (Some refusal.Exists) (cond (nat_eq n 13) (Some refusal.TooUnfolded) None))))))))))

-- the refusal of an expression's fault
unfoldable pub fault_at : List ℕ → Option Refusal
fault_at name =
    cond (bytes_eq name (codes "Expr TooLong")) (Some (refusal.Expr fault.TooLong)) (cond (bytes_eq name (codes "Expr Overflow")) (Some (refusal.Expr fault.Overflow)) (cond (bytes_eq name (codes "Expr NotNumber")) (Some (refusal.Expr fault.NotNumber)) None))

unfoldable pub blocked_at : Limits → List ℕ → Option Refusal
blocked_at limits name = option_map refusal.Blocked (option_and_then (path_at limits) (after (codes "Blocked ") name))

-- the refusal of this number, and of this name where it carries something
unfoldable pub refusal_at : Limits → ℕ → List ℕ → Option Refusal
refusal_at limits n name = cond (nat_eq n 6) (blocked_at limits name) (cond (nat_eq n 10) (fault_at name) (plain_of n))

-- where a transaction stopped
unfoldable pub stop_at : Limits → List ℕ → Option End
stop_at limits bytes =
    option_and_then (λ c. option_and_then (λ n. option_and_then (λ name. option_map (λ r. end.Stopped c.0 r) (refusal_at limits n.0 name)) (after (codes " ") n.1)) (field_at (codes " ") c.1)) (small_at (codes "stopped ") bytes)

unfoldable pub end_at : Limits → List ℕ → Option End
end_at limits bytes = cond (bytes_eq bytes (codes "done")) (Some end.Done) (cond (bytes_eq bytes (codes "aborted")) (Some end.Aborted) (stop_at limits bytes))

unfoldable pub head_at : List ℕ → Option Line
head_at text = cond (bytes_eq text (codes "forest report 1")) (Some head) None

unfoldable pub entries_at : List ℕ → Option Line
entries_at text = option_map entries (last_at (codes "entries ") text)

unfoldable pub retries_at : List ℕ → Option Line
retries_at text = option_map retries (last_at (codes "retries ") text)

unfoldable pub final_at : List ℕ → Option Line
final_at text = cond (bytes_eq text (codes "end")) (Some final) None

-- the line of an entry
unfoldable pub entry_at : Limits → List ℕ → Option Line
entry_at limits text =
    option_and_then (λ i. option_and_then (λ k. option_and_then (λ j. option_and_then (λ rest. option_map (λ e. entry i.0 k.0 j.0 e) (end_at limits rest)) (after (codes " ") j.1)) (small_at (codes " txn ") k.1)) (small_at (codes " shell ") i.1)) (field_at (codes "entry ") text)

-- the line of a retry
unfoldable pub retry_at : Limits → List ℕ → Option Line
retry_at limits text =
    option_and_then (λ k. option_and_then (λ j. option_and_then (λ i. option_and_then (λ rest. option_map (λ p. retry (record { shell = k.0; txn = j.0; entry = i.0; path = p })) (path_at limits rest)) (after (codes " path ") i.1)) (field_at (codes " entry ") j.1)) (small_at (codes " txn ") k.1)) (small_at (codes "retry shell ") text)

-- the line of an output, whose value nests at most so deep
unfoldable pub print_at : Limits → ℕ → List ℕ → Option Line
print_at limits levels text = option_map print (option_and_then (λ rest. alone (value_at limits levels rest)) (after (codes "print ") text))

abbrev pub line_by : Limits → ℕ → Kind → List ℕ → Option Line
line_by limits levels kind.Head text = head_at text
line_by limits levels kind.Entries text = entries_at text
line_by limits levels kind.Entry text = entry_at limits text
line_by limits levels kind.Print text = print_at limits levels text
line_by limits levels kind.Retries text = retries_at text
line_by limits levels kind.Retry text = retry_at limits text
line_by limits levels kind.Final text = final_at text

-- the only line that the bytes can be
abbrev pub only_line : Limits → ℕ → List ℕ → Option Line
only_line limits levels text = line_by limits levels (kind_of text) text
