use Rattle.std.proofs.Common.{◌≡◌, ◌∙◌, [], ap, sym, subst}
use Rattle.std.specs.Prelude.{is_ok}
use Rattle.fx_expr.specs.Views.{shape_tree}
use Rattle.fx_spec.specs.TextViews.{written}
use Rattle.fx_spec.specs.Views.{spec_tree}
use Rattle.fx_spec.specs.WellShaped.{IsChecked, AreDefs, IsWritten, written_shape}
use Rattle.fx_spec.specs.Written.{TextTree, text_tree}
use Rattle.fx_check.proofs.Texts.{text_is, defs_fit}
use Rattle.fx_check.proofs.text.check.Goals as goal

pub settled_defs-requires : goal.settled_defs-requires
settled_defs-requires c =
    let t : TextTree = written c.args.description in
    defs_fit t.defs [] t.defs (text_is t (shape_tree c.in-Ok.shape) c.in-Ok.ensures).0

pub settled-requires : goal.settled-requires
settled-requires c =
    let t : TextTree = written c.args.description in
    (t.defs, [], (text_is t (shape_tree c.in-Ok.shape) c.in-Ok.ensures).1)

pub of-requires : goal.of-requires
of-requires c =
    let t : TextTree = written c.args.description in
    let found : AreDefs t.defs [] t.defs × IsWritten t.defs [] t.root × (shape_tree c.in-Ok.shape ≡ written_shape t.root) = text_is t (shape_tree c.in-Ok.shape) c.in-Ok.ensures in
    let settled : TextTree = record { defs = c.in_ok-defs-in-Ok.defs; root = spec_tree c.in_ok-root-in-Ok.root } in
    let same : settled ≡ t = λ i. record { defs = c.in_ok-defs-in-Ok.ensures i; root = c.in_ok-root-in-Ok.ensures i } in
    subst (λ (w : TextTree). IsChecked w) (sym same) (record { defs = found.0; root = found.1; nested = c.requires })

pub returns-in_ok-checked-in-Ok : goal.returns-in_ok-checked-in-Ok
returns-in_ok-checked-in-Ok c =
    let t : TextTree = written c.args.description in
    let settled : TextTree = record { defs = c.in_ok-defs-in-Ok.defs; root = spec_tree c.in_ok-root-in-Ok.root } in
    let same : settled ≡ t = λ i. record { defs = c.in_ok-defs-in-Ok.ensures i; root = c.in_ok-root-in-Ok.ensures i } in
    (c.in_ok-checked-in-Ok.ensures ∙ ap text_tree same, ap is_ok c.in-Ok.ensures)
