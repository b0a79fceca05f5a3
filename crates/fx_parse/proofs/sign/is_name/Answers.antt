use Rattle.std.proofs.Common.{◌≡◌, Bool, true, false, not, is_none, is_some, ap, sym, ◌∙◌}
use Rattle.fx_parse.proofs.Finds.{is_no_keyword}
use Rattle.fx_parse.proofs.sign.is_name.Goals as goal

other_way : (r s : Bool) → s ≡ not r → r ≡ not s
other_way true s e = sym (ap not e)
other_way false s e = sym (ap not e)

pub returns : goal.returns
returns c =
    other_way c.is_none.result (is_some c.keyword_of.result) c.is_none.ensures ∙ ap is_none c.keyword_of.ensures ∙ sym (is_no_keyword c.args.word.now)
