use Rattle.fx_table.proofs.PlaceTexts.{place_behind}
use Rattle.fx_table.proofs.parent.Parent.text_of.Goals as goal

pub returns : goal.returns
returns c = rw (c.from_string.ensures, c.in_ok-text.ensures, c.as_str.ensures.value, c.deref.ensures, c.as_str-2.ensures, ← c.self.view_is) (place_behind _ _ c.args.name.now c.self.invariant)
