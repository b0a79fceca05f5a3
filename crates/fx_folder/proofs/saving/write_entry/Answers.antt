use Rattle.fx_folder.proofs.Prelude.{◌++◌, refl, place_of}
use Rattle.fx_folder.proofs.Texts.{parts_place, lets_place}
use Rattle.fx_folder.proofs.Writes.{put_in, in_place}
use Rattle.fx_folder.proofs.saving.write_entry.Goals as goal

pub returns : goal.returns
returns g c =
    let folder = c.args.folder.now in
    let path = c.args.entry.now.path in
    let names = c.in_ok-place.ensures.path.names in
    put_in folder (folder ++ place_of path) c.in_ok-place.place path _ _ (g.H.Host.view c.args.host.now) (g.H.Host.view c.write_node.new.host) c.write_node.result c.in_ok-place.ensures.place (parts_place folder path names) (in_place folder path) (λ all. lets_place (g.H.Host.view c.args.host.now).guard.may_write folder path all names) refl c.write_node.ensures
