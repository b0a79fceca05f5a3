-- The kinds of lines, which two of their bytes tell.
use Rattle.std.specs.Prelude.{ℕ, cond, List, nat_eq, slice_index}
use Rattle.fx_read_report.specs.declared.lines.Kind.{Kind}
use Rattle.fx_read_report.specs.declared.lines.Kind.TheVariants as kind

-- 102 is `f`, 105 is `i`, 112 is `p`, 114 is `r`, 121 is `y`
abbrev pub kind_by : ℕ → ℕ → Kind
kind_by first fifth =
    cond (nat_eq first 102) kind.Head (cond (nat_eq first 112) kind.Print (cond (nat_eq first 114) (cond (nat_eq fifth 121) kind.Retry kind.Retries) (cond (nat_eq fifth 121) kind.Entry (cond (nat_eq fifth 105) kind.Entries kind.Final))))

-- the kind that a line must have, if it is one
unfoldable pub kind_of : List ℕ → Kind
kind_of text = kind_by (slice_index text 0) (slice_index text 4)
