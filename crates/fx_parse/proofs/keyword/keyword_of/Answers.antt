use Rattle.std.proofs.Common.{ap, ◌∙◌, arith}
use Rattle.fx_parse.specs.Keywords.{found_in}
use Rattle.fx_parse.proofs.FirstBytes.{first_is}
use Rattle.fx_parse.proofs.keyword.keyword_of.Goals as goal

pub returns-in-len1-up : goal.returns-in-len1-up
returns-in-len1-up c =
    let word = c.args.word.now in
    c.found.ensures ∙ ap (λ words. found_in words word) c.beginning_with.ensures ∙ first_is word (omega (arith, c.in-len1-up.len_at_least))
