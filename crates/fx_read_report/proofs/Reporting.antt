-- Bytes are read as a report, or have a first line that goes wrong.
use Rattle.std.proofs.Common.{◌≡◌, ℕ, true, false, List, [], take, Bool, cond, Some, None, Result, Ok, Err, IfOk, refl, sym, ap, subst, ◌∙◌}
use Rattle.std.specs.List.{AllByRecursion}
use Rattle.fx_machine.specs.declared.retry.Retry.{Retry}
use Rattle.fx_report.specs.declared.printed.PrintedEntry.{PrintedEntry}
use Rattle.fx_read_report.specs.Feeds.{IsFeedAt, LacksFeed}
use Rattle.fx_read_report.specs.Form.{BeginsReport, IsFirstWrongLine, IsReportOf}
use Rattle.fx_read_report.specs.Lines.{FindsLine, IsLine, Line}
use Rattle.fx_read_report.specs.Stages.{State, TakesText, at, is_ended, with_line}
use Rattle.fx_read_report.specs.declared.reading.Stage.{Stage}
use Rattle.fx_read_report.specs.declared.reading.Stage.TheVariants as stage
use Rattle.fx_read_report.proofs.Advances.{lines_at, read}
use Rattle.fx_read_report.proofs.Completes.{goes_on}
use Rattle.fx_read_report.proofs.FirstBad.{Begins, GoesOn, IsFirstBad, Reached, Whole, bad_end, bad_text, whole_read}
use Rattle.fx_read_report.proofs.LineLaws.{one_line}
use Rattle.fx_read_report.proofs.Running.{report_runs}
use Rattle.fx_read_report.proofs.Texts.{bytes_of, report_form, report_is, report_lines, report_lines_are, reports}

-- ---- the bytes that the machine reads are the reports

report_whole : (bytes : List ℕ) (es : List PrintedEntry) (rs : List Retry) → IsReportOf bytes es rs → Whole reports bytes
report_whole bytes es rs is = record { lines = report_lines es rs; end = at stage.Ended es rs; are = report_lines_are es rs is.form; parts = is.spelled ∙ report_is es rs; ran = report_runs es rs; ends = refl }

ended_lines : (g : Stage) (es : List PrintedEntry) (rs : List Retry) → is_ended g ≡ true → lines_at g es rs ≡ report_lines es rs
ended_lines stage.Ended es rs e = refl
ended_lines g es rs e = absurd (cc)

pub whole_report : (bytes : List ℕ) (w : Whole reports bytes) → IsReportOf bytes w.end.entries w.end.retries
whole_report bytes w =
    let es = w.end.entries in
    let rs = w.end.retries in
    let lines = (read w.end w.lines w.ran).lines ∙ ended_lines w.end.stage es rs w.ends in
    record { form = report_form es rs (subst (AllByRecursion IsLine) lines w.are); spelled = w.parts ∙ (ap bytes_of lines ∙ sym (report_is es rs)) }

begins_report : (bytes : List ℕ) (number : ℕ) → Begins reports bytes number → BeginsReport bytes number
begins_report bytes number b =
    record { lines = b.lines; rest = b.rest; parts = b.parts; count = b.count; whole = b.lack; entries = b.whole.end.entries; retries = b.whole.end.retries; later = b.later; report = whole_report _ b.whole }

report_begins : (bytes : List ℕ) (number : ℕ) → BeginsReport bytes number → Begins reports bytes number
report_begins bytes number b =
    record { lines = b.lines; rest = b.rest; parts = b.parts; count = b.count; lack = b.whole; later = b.later; whole = report_whole _ b.entries b.retries b.report }

first_bad : (bytes : List ℕ) (number : ℕ) → IsFirstBad reports bytes number → IsFirstWrongLine bytes number
first_bad bytes number bad =
    record {
      none = λ es rs is. bad.none (report_whole bytes es rs is);
      positive = bad.positive;
      before = λ k less. begins_report bytes k (bad.before k less);
      stops = λ b. bad.stops (report_begins bytes number b);
    }

-- ---- the steps of the reader

on : (bytes : List ℕ) (s : State) (x : List ℕ) (number : ℕ) → Reached reports bytes s x number → GoesOn reports s
on bytes s x number r = let is = read s r.lines r.ran in goes_on s.stage s.entries s.retries is.fits (subst (AllByRecursion IsLine) is.lines r.are)

pub bad_line : (bytes : List ℕ) (s t : State) (x : List ℕ) (number i : ℕ) → Reached reports bytes s x number → IsFeedAt x i → TakesText s (take i x) t false → IsFirstWrongLine bytes number
bad_line bytes s t x number i r f refused = first_bad bytes number (bad_text reports bytes s t x number i r (on bytes s x number r) f refused)

pub bad_rest : (bytes : List ℕ) (s : State) (x : List ℕ) (number : ℕ) → Reached reports bytes s x number → LacksFeed x → (x ≡ [] → is_ended s.stage ≡ true → ⊥) → IsFirstWrongLine bytes number
bad_rest bytes s x number r lacks open_ = first_bad bytes number (bad_end reports bytes s x number r (on bytes s x number r) lacks open_)

pub read_as : (bytes : List ℕ) (s : State) (number : ℕ) (es : List PrintedEntry) (rs : List Retry) → Reached reports bytes s [] number → is_ended s.stage ≡ true → es ≡ s.entries → rs ≡ s.retries → IsReportOf bytes es rs
unfolding whole_read
read_as bytes s number es rs r ended e f =
    subst (λ (a : List PrintedEntry). IsReportOf bytes a rs) (sym e) (subst (λ (b : List Retry). IsReportOf bytes s.entries b) (sym f) (whole_report bytes (whole_read reports bytes s number r ended)))

-- a line that was read is taken, or none that may follow is these bytes
pub takes : {E : Type 0} (s t : State) (text : List ℕ) (l : Line) (r : Result Bool E) → FindsLine text (Some l) → IfOk r (λ taken. with_line s l ≡ cond taken (Some t) None) → IfOk r (TakesText s text t)
takes s t text l (Ok true) found e = (l, found.0, found.1, e)
takes s t text l (Ok false) found e = λ k is spelled. ap (with_line s) (one_line k l is found.0 (sym spelled ∙ found.1)) ∙ e
takes s t text l (Err e) found taken = tt
