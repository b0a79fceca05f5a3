use Rattle.std.proofs.Common.{◌∷◌, [], ◌++◌, ◌∙◌}
use Rattle.fx_spec.specs.Edit.{set_to}
use Rattle.fx_edit.proofs.Makes.{files_next, files_short, files_end}
use Rattle.fx_edit.proofs.making.add_files.Goals as goal

pub child-requires : goal.child-requires
child-requires c = files_short c.args.path.now c.args.names.now c.args.edits.now c.loop-name.edits c.loop-name.name-iterator c.loop-name.invariant c.in-Some.name.now c.next.new.self c.in-Some.ensures.steps c.requires

pub loop-name-preserved : goal.loop-name-preserved
loop-name-preserved c =
    files_next c.args.path.now c.args.names.now c.args.edits.now c.loop-name.edits c.loop-name.name-iterator c.loop-name.invariant c.set.new.self c.in-Some.name.now c.next.new.self c.in-Some.ensures.steps
    (c.in_ok-set.ensures ∙ (λ j. c.loop-name.edits ++ set_to (c.in_ok-child.ensures j) (c.empty_file.ensures j) ∷ []))

pub returns : goal.returns
returns c = files_end c.args.path.now c.args.names.now c.args.edits.now c.loop-name.edits c.loop-name.name-iterator c.loop-name.invariant c.in-None.ensures.steps.0
