use Rattle.std.proofs.Common.{◌≡◌, ◌-◌, length}
use Rattle.fx_parse.specs.Reader.{kinds, read_expr}
use Rattle.fx_source_parse.specs.Descriptions.Lists.{others_at, rest_at}
use Rattle.fx_source_parse.proofs.spec.args.rest_at.Given as goal

abbrev pub invariant-loop-i : goal.invariant-loop-i
invariant-loop-i l = rest_at (read_expr l.left) l.initial.args (kinds l.tokens) ≡ others_at (read_expr l.left) (length l.tokens - l._i) l.args (kinds l.rest)
