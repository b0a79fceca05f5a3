use Rattle.fx_folder.proofs.Prelude.{◌<◌, ◌∷◌, [], length, arith, in_below, table_name, path_below}
use Rattle.fx_folder.proofs.Texts.{parts_table, lets_table}
use Rattle.fx_folder.proofs.Writes.{put_in, unless_empty}
use Rattle.fx_folder.proofs.saving.add_table.Goals as goal

pub returns : goal.returns
returns g c =
    let folder = c.args.folder.now in
    let some : 0 < length c.args.text.now = omega (arith, c.len.ensures) in
    put_in folder (path_below folder table_name) c.in_ok-place.place (table_name ∷ []) _ _ (g.H.Host.view c.args.host.now) (g.H.Host.view c.put_file.new.host) c.put_file.result c.in_ok-place.ensures (parts_table folder) (in_below folder table_name) (lets_table (g.H.Host.view c.args.host.now).guard.may_write folder) (unless_empty c.as_slice.result.now c.args.text.now c.as_slice.ensures some) c.put_file.ensures
