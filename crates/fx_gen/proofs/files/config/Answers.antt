use Rattle.std.proofs.Common.{◌++◌, map, ap, ◌∙◌, codes}
use Rattle.fx_gen.specs.Notes.{project}
use Rattle.std.specs.List.{flat_map, range_with_len}
use Rattle.fx_gen.proofs.Ranges.{config_more}
use Rattle.fx_gen.proofs.files.config.Goals as goal

pub loop-number-preserved : goal.loop-number-preserved
loop-number-preserved c =
    let n = c.loop-number.number in
    let before = flat_map (λ name. name ++ codes "\n") (map project (range_with_len 0 n)) in
    c.in_ok-add_bytes-2.ensures
    ∙ ap (λ l. l ++ codes "\n") (c.in_ok-add_bytes.ensures ∙ ap (λ l. l ++ c.project.result) c.loop-number.invariant ∙ ap (λ l. before ++ l) c.project.ensures)
    ∙ config_more n
