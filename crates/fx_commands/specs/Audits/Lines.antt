-- The line that tells a verdict.
use Rattle.std.specs.Prelude.{ℕ, ◌++◌, List, codes}
use Rattle.std.specs.Fmt.{decimal}
use Rattle.fx_report.specs.Report.{line}
use Rattle.fx_audit.specs.declared.verdict.Verdict.{Verdict}
use Rattle.fx_audit.specs.declared.verdict.Verdict.TheVariants as verdict

abbrev pub verdict_words : Verdict → List ℕ
verdict_words verdict.Yes = codes "audit yes"
verdict_words (verdict.BadLine n) = codes "audit no BadLine " ++ decimal n
verdict_words (verdict.Order i) = codes "audit no Order " ++ decimal i
verdict_words (verdict.Answer i) = codes "audit no Answer " ++ decimal i
verdict_words (verdict.Missing shell txn) = codes "audit no Missing " ++ decimal shell ++ codes " " ++ decimal txn
verdict_words (verdict.Retry m) = codes "audit no Retry " ++ decimal m

abbrev pub verdict_line : Verdict → List ℕ
verdict_line v = line (verdict_words v)
