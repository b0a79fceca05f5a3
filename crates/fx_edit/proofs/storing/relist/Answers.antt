use Rattle.std.proofs.Common.{◌≡◌, false, ◌∙◌}
use Rattle.fx_store.specs.declared.node.Node.TheVariants.{Dir}
use Rattle.fx_spec.specs.Edit as edit
use Rattle.fx_edit.proofs.Addings.{new_names-is}
use Rattle.fx_edit.proofs.Edited.{unless_deep-room, edit_stops, edit_done}
use Rattle.fx_edit.proofs.storing.relist.Goals as goal

pub returns-in_err-relisted : goal.returns-in_err-relisted
returns-in_err-relisted g c =
    record {
      follows =
          let room : edit.lacks_room c.args.list.path (Dir c.args.list.new) ≡ false = cc in
          let is = unless_deep-room (edit.lacks_room c.args.list.path (Dir c.args.list.new)) (edit.new_names c.args.list.path c.args.list.old c.args.list.new) room ∙ new_names-is c.args.list.path c.args.list.old c.args.list.new in
          edit_stops is c.from_residual.result c.from_residual.ensures.1 c.in_err-relisted.ensures.follows;
    }

pub returns : goal.returns
returns g c =
    record {
      follows =
          let room : edit.lacks_room c.args.list.path (Dir c.args.list.new) ≡ false = cc in
          let is = unless_deep-room (edit.lacks_room c.args.list.path (Dir c.args.list.new)) (edit.new_names c.args.list.path c.args.list.old c.args.list.new) room ∙ new_names-is c.args.list.path c.args.list.old c.args.list.new in
          edit_done is c.in_ok-relisted.ensures.follows;
    }
