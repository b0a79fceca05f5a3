use Rattle.std.proofs.Common.{sym, ap, ◌∙◌}
use Rattle.std.specs.Str.{bytes_eq}
use Rattle.fx_words.proofs.Lists.{are_shells, schedule_is}
use Rattle.fx_words.proofs.schedule.read_schedule.Goals as goal

pub shells_of-requires-clause-shells : goal.shells_of-requires-clause-shells
shells_of-requires-clause-shells c =
    are_shells c.args.count c.args.text.now c.requires.schedule (sym (ap (bytes_eq c.args.text.now) c.as_slice.ensures) ∙ sym c.eq.ensures ∙ c.if-eq.false)

pub returns : goal.returns
returns c =
    schedule_is c.args.count c.args.text.now c.in_ok-shells.shells.items (sym (ap (bytes_eq c.args.text.now) c.as_slice.ensures) ∙ sym c.eq.ensures ∙ c.if-eq.false) c.in_ok-shells.ensures
