use Rattle.std.proofs.Common.{sym, ◌∙◌}
use Rattle.fx_store.specs.declared.node.Node.TheVariants.{Dir}
use Rattle.fx_spec.specs.Edit as edit
use Rattle.fx_edit.specs.Values.{name_read}
use Rattle.fx_edit.proofs.Naming.{naming_first, naming_next, naming_wrong, naming_all, naming_set, naming_ends, told_on}
use Rattle.fx_edit.proofs.nodes.names_of.Goals as goal

pub loop-text-init : goal.loop-text-init
loop-text-init c = naming_first c.args.texts.now c.in_ok-names.names.items c.into_iter-text-iterator.result c.in_ok-names.ensures.items (c.into_iter-text-iterator.ensures.into_iter_gives ∙ c.iter-text-items.ensures)

pub loop-text-preserved : goal.loop-text-preserved
loop-text-preserved c =
    naming_next c.args.texts.now c.loop-text.names.items c.push.new.self.items c.loop-text.text-iterator c.next.new.self c.in-Some.text.now c.in_ok-next_name.field-0 c.loop-text.invariant c.in-Some.ensures.steps c.in_ok-next_name.ensures c.in_ok-push.ensures.items

pub returns-in_err-next_name-clause-names : goal.returns-in_err-next_name-clause-names
returns-in_err-next_name-clause-names c =
    told_on (λ name. name) (λ names. Dir names) (name_read c.in-Some.text.now) (edit.names_node c.args.texts.now) (λ refusal is. naming_wrong c.args.texts.now c.loop-text.names.items c.loop-text.text-iterator c.next.new.self c.in-Some.text.now refusal c.loop-text.invariant c.in-Some.ensures.steps is) c.from_residual-in_err-next_name.result c.in_err-next_name.field-0.0 c.from_residual-in_err-next_name.ensures.1 c.in_err-next_name.ensures

pub from_parts-requires-clause-set : goal.from_parts-requires-clause-set
from_parts-requires-clause-set c = naming_set c.args.texts.now c.loop-text.names.items c.loop-text.text-iterator c.loop-text.invariant c.in-None.ensures.steps.0 c.len-len.ensures.order

pub from_parts-requires-clause-same : goal.from_parts-requires-clause-same
from_parts-requires-clause-same c = sym (naming_all c.args.texts.now c.loop-text.names.items c.loop-text.text-iterator c.loop-text.invariant c.in-None.ensures.steps.0)

pub returns-clause-names : goal.returns-clause-names
returns-clause-names c =
    naming_ends c.args.texts.now c.loop-text.names.items c.loop-text.text-iterator c.loop-text.invariant c.in-None.ensures.steps.0 c.in_ok-from_parts.field-0 c.in_ok-from_parts.ensures
