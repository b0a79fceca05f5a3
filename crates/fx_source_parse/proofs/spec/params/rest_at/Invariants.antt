use Rattle.std.proofs.Common.{◌≡◌, ◌-◌, length}
use Rattle.fx_parse.specs.Reader.{kinds}
use Rattle.fx_parse.specs.ShapeReader.{read_shape}
use Rattle.fx_source_parse.specs.Descriptions.Lists.{others_at, rest_at}
use Rattle.fx_source_parse.specs.Descriptions.Reader.{param_at}
use Rattle.fx_source_parse.proofs.spec.params.rest_at.Given as goal

abbrev pub invariant-loop-i : goal.invariant-loop-i
invariant-loop-i l = rest_at (param_at (read_shape l.left)) l.initial.params (kinds l.tokens) ≡ others_at (param_at (read_shape l.left)) (length l.tokens - l._i) l.params (kinds l.rest)
