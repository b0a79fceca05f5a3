use Rattle.fx_laws_above.proofs.Viewed.{views_are_entries}
use Rattle.fx_laws_above.proofs.views.a_view_is_an_entry.Goals as goal

pub returns : goal.returns
returns c = views_are_entries
