-- A file replaces a file, and a link replaces a link.
use Rattle.std.proofs.Common.{◌≡◌, ℕ, Bool, true, List, [], ◌∷◌, Option, Some, None, Ok, refl}
use Rattle.fx_store.specs.declared.node.Node.{Node}
use Rattle.fx_store.specs.declared.node.Node.TheVariants.{File, Dir, Link}
use Rattle.fx_store.specs.Rule.{Answer}
use Rattle.fx_spec.specs.Edit.{set_to, renewed, replaced}
use Rattle.fx_store.specs.Kinds.{is_file, is_link}
use Rattle.fx_edit.specs.Kinds.{old_file}

abbrev Path : Type 0
Path = List (List ℕ)

pub replaced-file : (flag : Bool) (q : Path) (bytes : List ℕ) (exec : Bool) (found : Option Node) → is_file found ≡ true → replaced flag q (File bytes exec) found ≡ Answer (Ok (set_to q (renewed flag (File bytes exec) (old_file found)) ∷ []))
replaced-file flag q b exec None e = cc
replaced-file flag q b exec (Some (File c was)) e = refl
replaced-file flag q b exec (Some (Dir c)) e = cc
replaced-file flag q b exec (Some (Link c)) e = cc

pub replaced-link : (flag : Bool) (q : Path) (text : List ℕ) (found : Option Node) → is_link found ≡ true → replaced flag q (Link text) found ≡ Answer (Ok (set_to q (Link text) ∷ []))
replaced-link flag q b None e = cc
replaced-link flag q b (Some (File c exec)) e = cc
replaced-link flag q b (Some (Dir c)) e = cc
replaced-link flag q b (Some (Link c)) e = refl
