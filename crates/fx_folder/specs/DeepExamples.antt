-- Small folders of some depth, and what they are loaded as.
use Rattle.std.specs.Prelude.{◌≡◌, ℕ, true, false, List, [], ◌∷◌, ◌++◌, codes, Ok, Err}
use Rattle.fx_outside.specs.declared.kind.HostKind.TheVariants.{Other}
use Rattle.fx_outside.specs.Tree.{Entry, file, folder}
use Rattle.fx_store.specs.declared.node.Node.TheVariants.{File, Dir, Link}
use Rattle.fx_table.specs.declared.fault.FolderCause.TheVariants.{BadName, Strange, BadTable}
use Rattle.fx_table.specs.Places.{table_name}
use Rattle.fx_folder.specs.Deep.{Held, loaded}

abbrev pub strange : Entry
strange = record { kind = Other; bytes = [] }

abbrev pub held_table : List ℕ → Held
held_table text = (table_name ∷ [], file text)

-- a file `a`, and a folder `d` with a file `f`, with these between the two
abbrev pub with_between : List Held → List Held
with_between hs = (codes "a" ∷ [], file (codes "1")) ∷ hs ++ (codes "d" ∷ [], folder) ∷ (codes "d" ∷ codes "f" ∷ [], file (codes "hi")) ∷ []

abbrev pub ended_line : List ℕ → List ℕ
ended_line text = text ++ 10 ∷ []

pub record DeepExamples : Type 0 where
  pub nothing : loaded [] ≡ Ok (([], Dir []) ∷ [])
  pub files : loaded (with_between [])
      ≡ Ok (([], Dir (codes "a" ∷ codes "d" ∷ [])) ∷ (codes "a" ∷ [], File (codes "1") false) ∷ (codes "d" ∷ [], Dir (codes "f" ∷ [])) ∷ (codes "d" ∷ codes "f" ∷ [], File (codes "hi") false) ∷ [])
  pub links : loaded (held_table (ended_line (codes "/b -> a") ++ ended_line (codes "/d/up -> /")) ∷ with_between [])
      ≡ Ok (([], Dir (codes "a" ∷ codes "b" ∷ codes "d" ∷ [])) ∷ (codes "a" ∷ [], File (codes "1") false) ∷ (codes "b" ∷ [], Link (codes "a")) ∷ (codes "d" ∷ [], Dir (codes "f" ∷ codes "up" ∷ [])) ∷ (codes "d" ∷ codes "f" ∷ [], File (codes "hi") false) ∷ (codes "d" ∷ codes "up" ∷ [], Link (codes "/")) ∷ [])
  pub bad_line : loaded (held_table (ended_line (codes "/b -> a") ++ ended_line (codes "/a -> d")) ∷ with_between []) ≡ Err (BadTable 2)
  pub table_folder : loaded ((table_name ∷ [], folder) ∷ (table_name ∷ codes "x" ∷ [], file []) ∷ with_between []) ≡ Err (Strange (codes "/.forest-links"))
  pub deep_table : loaded (with_between ((codes "b" ∷ [], folder) ∷ (codes "b" ∷ table_name ∷ [], file []) ∷ [])) ≡ Err (BadName (codes "/b/.forest-links"))
  pub first : loaded (with_between ((codes "b" ∷ [], folder) ∷ (codes "b" ∷ codes "g" ∷ [], strange) ∷ (codes "c" ∷ [], strange) ∷ [])) ≡ Err (Strange (codes "/b/g"))
  pub flags : loaded (held_table (ended_line (codes "version 2") ++ ended_line (codes "/b -> a") ++ ended_line (codes "/d/f *")) ∷ with_between [])
      ≡ Ok (([], Dir (codes "a" ∷ codes "b" ∷ codes "d" ∷ [])) ∷ (codes "a" ∷ [], File (codes "1") false) ∷ (codes "b" ∷ [], Link (codes "a")) ∷ (codes "d" ∷ [], Dir (codes "f" ∷ [])) ∷ (codes "d" ∷ codes "f" ∷ [], File (codes "hi") true) ∷ [])
  pub flag_of_folder : loaded (held_table (ended_line (codes "version 2") ++ ended_line (codes "/d *")) ∷ with_between []) ≡ Err (BadTable 2)
  pub no_flags : loaded (held_table (ended_line (codes "version 2") ++ ended_line (codes "/b -> a")) ∷ with_between []) ≡ Err (BadTable 1)
