use Rattle.std.proofs.Common.{◌≡◌, false, cond, Some, [], sym, ap, ◌∙◌}
use Rattle.std.specs.Prelude.{is_some, codes}
use Rattle.std.specs.Str.{bytes_eq}
use Rattle.std.specs.List.{slice_split}
use Rattle.fx_words.specs.Job.{is_comma, shells_named}
use Rattle.fx_words.proofs.Lists.{all_named}
use Rattle.fx_words.proofs.schedule.is_schedule.Goals as goal

pub returns : goal.returns
returns c =
    let parts = slice_split is_comma c.args.text.now in
    let isnt : bytes_eq c.args.text.now (codes "none") ≡ false = sym (ap (bytes_eq c.args.text.now) c.as_slice.ensures) ∙ sym c.eq.ensures ∙ c.if-eq.false in
    c.are_shells.ensures ∙ all_named c.args.count parts ∙ ap (λ b. is_some (cond b (Some []) (shells_named c.args.count parts))) (sym isnt)
