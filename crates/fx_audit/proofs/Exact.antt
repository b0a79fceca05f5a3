-- The verdict is yes exactly on the reports of complete orders with good retries.
use Rattle.std.proofs.Common.{◌≡◌, ℕ, suc, ◌+◌, List, map, Result, Ok, Err, IfOk, refl, sym, ap, subst, ◌∙◌}
use Rattle.std.specs.Prelude.{◌↔◌}
use Rattle.fx_spec.specs.Order.{BaseTree, IsComplete, RetriesOk}
use Rattle.fx_machine.specs.declared.retry.Retry.{Retry}
use Rattle.fx_machine.specs.Tried.{retry_tree}
use Rattle.fx_report.specs.declared.printed.PrintedEntry.{PrintedEntry}
use Rattle.fx_report.specs.Entries.{entries_of}
use Rattle.fx_read_report.specs.Form.{IsReportOf}
use Rattle.fx_read_report.proofs.Readable.{one_report}
use Rattle.fx_audit.specs.declared.verdict.Verdict.{Verdict}
use Rattle.fx_audit.specs.declared.verdict.Verdict.TheVariants as verdict
use Rattle.fx_audit.specs.Audits.{IsReadAs, IsTrueReport, IsVerdictOn}
use Rattle.fx_audit.specs.Verdicts.{order_told, AllAnswered, IsVerdict}
use Rattle.fx_audit.proofs.Answering.{answers_are, entries_answered, order_of_entries}
use Rattle.fx_audit.proofs.Legal.{legal_take}
use Rattle.fx_audit.proofs.Trying.{ok_take}

-- ---- yes

yes_true : (base : BaseTree) (bytes : List ℕ) → IsReadAs base bytes verdict.Yes → IsTrueReport base bytes
yes_true base bytes read = record {
  order = order_told read.entries;
  retries = read.retries;
  complete = read.said.0;
  tried = read.said.2;
  report = subst (λ es. IsReportOf bytes es read.retries) (answers_are base read.entries read.said.1) read.report;
}

-- what was read of a true report
record IsTold (base : BaseTree) (entries : List PrintedEntry) (retries : List Retry) : Type 0 where
  complete : IsComplete base (order_told entries)
  answered : AllAnswered base entries
  tried : RetriesOk base (order_told entries) (map retry_tree retries)

told : (base : BaseTree) (bytes : List ℕ) (es : List PrintedEntry) (rs : List Retry) → IsReportOf bytes es rs → IsTrueReport base bytes → IsTold base es rs
told base bytes es rs read is =
    let both = one_report bytes (entries_of base is.order) es is.retries rs is.report read in
    let order : is.order ≡ order_told es = sym (order_of_entries base is.order) ∙ ap order_told both.0 in
    record {
      complete = subst (IsComplete base) order is.complete;
      answered = subst (AllAnswered base) both.0 (entries_answered base is.order);
      tried = subst (λ rs. RetriesOk base (order_told es) (map retry_tree rs)) both.1 (subst (λ o. RetriesOk base o (map retry_tree is.retries)) order is.tried);
    }

only_yes : (base : BaseTree) (bytes : List ℕ) (v : Verdict) → IsVerdictOn base bytes v → IsTrueReport base bytes → v ≡ verdict.Yes
only_yes base bytes verdict.Yes said is = refl
only_yes base bytes (verdict.BadLine n) said is = absurd (said.none (entries_of base is.order) is.retries is.report)
only_yes base bytes (verdict.Order i) said is =
    let t = told base bytes said.entries said.retries said.report is in absurd (said.said.here (legal_take base (order_told said.entries) (i + 1) t.complete.legal))
only_yes base bytes (verdict.Answer i) said is =
    let t = told base bytes said.entries said.retries said.report is in absurd (said.said.1.here (t.answered i))
only_yes base bytes (verdict.Missing shell txn) said is =
    let t = told base bytes said.entries said.retries said.report is in absurd (said.said.2.lacks (t.complete.all shell txn said.said.2.planned))
only_yes base bytes (verdict.Retry m) said is =
    let t = told base bytes said.entries said.retries said.report is in absurd (said.said.2.here (ok_take base (order_told said.entries) said.retries (suc m) t.tried))

true_if_yes : (base : BaseTree) (bytes : List ℕ) (v : Verdict) → IsVerdictOn base bytes v → v ≡ verdict.Yes → IsTrueReport base bytes
true_if_yes base bytes v said yes_ = yes_true base bytes (subst (IsVerdictOn base bytes) yes_ said)

pub exact_is : (base : BaseTree) (bytes : List ℕ) (v : Verdict) → IsVerdictOn base bytes v → (v ≡ verdict.Yes) ↔ IsTrueReport base bytes
exact_is base bytes v said = (λ yes_. true_if_yes base bytes v said yes_, λ is. only_yes base bytes v said is)

pub said_on : (base : BaseTree) (bytes : List ℕ) (es : List PrintedEntry) (rs : List Retry) (v : Verdict) → IsReportOf bytes es rs → IsVerdict base es rs v → IsVerdictOn base bytes v
said_on base bytes es rs verdict.Yes read said = record { entries = es; retries = rs; report = read; said = said }
said_on base bytes es rs (verdict.BadLine n) read said = absurd said
said_on base bytes es rs (verdict.Order i) read said = record { entries = es; retries = rs; report = read; said = said }
said_on base bytes es rs (verdict.Answer i) read said = record { entries = es; retries = rs; report = read; said = said }
said_on base bytes es rs (verdict.Missing k j) read said = record { entries = es; retries = rs; report = read; said = said }
said_on base bytes es rs (verdict.Retry m) read said = record { entries = es; retries = rs; report = read; said = said }

pub said_result : {E : Type 0} (base : BaseTree) (bytes : List ℕ) (es : List PrintedEntry) (rs : List Retry) (r : Result Verdict E) → IsReportOf bytes es rs → IfOk r (IsVerdict base es rs) → IfOk r (IsVerdictOn base bytes)
said_result base bytes es rs (Ok v) read said = said_on base bytes es rs v read said
said_result base bytes es rs (Err e) read said = tt

pub exact_result : {E : Type 0} (base : BaseTree) (bytes : List ℕ) (r : Result Verdict E) → IfOk r (IsVerdictOn base bytes) → IfOk r (λ v. (v ≡ verdict.Yes) ↔ IsTrueReport base bytes)
exact_result base bytes (Ok v) said = exact_is base bytes v said
exact_result base bytes (Err e) said = tt
