use Rattle.std.proofs.Common.{arith, sym, ◌∙◌, ap, ◌+◌}
use Rattle.std.proofs.lemmas.List.Splits.{length-slice_split}
use Rattle.std.proofs.lemmas.List.Sums.{count_by-le-length}
use Rattle.fx_store.specs.Names.{is_slash}
use Rattle.fx_store.proofs.parts.count_parts.Goals as goal

pub overflow_add-result : goal.overflow_add-result
overflow_add-result c = omega (arith, count_by-le-length is_slash c.args.text.now, c.count_slashes.ensures)

pub returns : goal.returns
returns c = ap (λ n. n + 1) c.count_slashes.ensures ∙ sym (length-slice_split is_slash c.args.text.now)
