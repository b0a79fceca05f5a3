-- The worked transactions of two shells, computed.
use Rattle.std.proofs.Common.{false, refl, [], ◌∷◌, codes}
use Rattle.std.specs.Str.{is_utf8, chars}
use lib.Utf8.{encode}
use Rattle.fx_store.specs.Names.{is_name}
use Rattle.fx_store.specs.Resolve.{resolve}
use Rattle.fx_spec.specs.Describe.{value}
use Rattle.fx_spec.specs.Place.{place}
use Rattle.fx_spec.specs.Edit.{clear}
use Rattle.fx_spec.specs.Transaction.{transaction}
use Rattle.fx_store.specs.declared.node.Node.TheVariants.{File, Dir, Link}
use Rattle.fx_store.specs.Examples.{store_of}
use Rattle.fx_spec.specs.Edit.{set_to, removed}
use Rattle.fx_laws.specs.Shorthands.{into, next, down, create, remove}
use Rattle.fx_laws.specs.Retried.{two_files, with_files, x_to_y, y_to_x, text_files, one_text, two_texts, add_text, through_link, with_current, turn, maybe_file, nothing_there, one_entry, all_files, one_file, EachReadsAndWrites, NamesAreAdded, LinkIsTurned, EntryIsMade, ElementIsRemoved}
use Rattle.fx_laws.proofs.Left.{leaves_kept, same_stores}

pub each_reads_and_writes : EachReadsAndWrites
unfolding is_utf8 chars encode is_name resolve value place clear transaction
each_reads_and_writes = record {
  first = record { does = record { outputs = refl; end = refl; way = refl; kept = refl }; leaves = leaves_kept (two_files) (x_to_y) (store_of (with_files (codes "1") (codes "1"))) (store_of (with_files (codes "1") (codes "10"))) (set_to (codes "y" ∷ []) (File (codes "10") false) ∷ []) refl (same_stores (with_files (codes "1") (codes "1")) (with_files (codes "1") (codes "10")) (set_to (codes "y" ∷ []) (File (codes "10") false) ∷ []) (refl, (refl, (refl, tt))) (refl, (refl, (refl, tt))) (refl, tt)) };
  second = record { does = record { outputs = refl; end = refl; way = refl; kept = refl }; leaves = leaves_kept (two_files) (y_to_x) (store_of (with_files (codes "1") (codes "1"))) (store_of (with_files (codes "10") (codes "1"))) (set_to (codes "x" ∷ []) (File (codes "10") false) ∷ []) refl (same_stores (with_files (codes "1") (codes "1")) (with_files (codes "10") (codes "1")) (set_to (codes "x" ∷ []) (File (codes "10") false) ∷ []) (refl, (refl, (refl, tt))) (refl, (refl, (refl, tt))) (refl, tt)) };
  again = record { does = record { outputs = refl; end = refl; way = refl; kept = refl }; leaves = leaves_kept (two_files) (y_to_x) (store_of (with_files (codes "1") (codes "10"))) (store_of (with_files (codes "100") (codes "10"))) (set_to (codes "x" ∷ []) (File (codes "100") false) ∷ []) refl (same_stores (with_files (codes "1") (codes "10")) (with_files (codes "100") (codes "10")) (set_to (codes "x" ∷ []) (File (codes "100") false) ∷ []) (refl, (refl, (refl, tt))) (refl, (refl, (refl, tt))) (refl, tt)) };
}

pub names_are_added : NamesAreAdded
unfolding is_utf8 chars encode is_name resolve value place clear transaction
names_are_added = record {
  counted = record { outputs = refl; end = refl; way = refl; kept = refl };
  added = record { does = record { outputs = refl; end = refl; way = refl; kept = refl }; leaves = leaves_kept (text_files) (add_text) (store_of (one_text)) (store_of (two_texts)) (set_to [] (Dir (codes "a.txt" ∷ codes "b.txt" ∷ [])) ∷ set_to (codes "b.txt" ∷ []) (File [] false) ∷ []) refl (same_stores (one_text) (two_texts) (set_to [] (Dir (codes "a.txt" ∷ codes "b.txt" ∷ [])) ∷ set_to (codes "b.txt" ∷ []) (File [] false) ∷ []) (refl, (refl, tt)) (refl, (refl, (refl, tt))) (refl, (refl, tt))) };
  again = record { outputs = refl; end = refl; way = refl; kept = refl };
}

pub link_is_turned : LinkIsTurned
unfolding is_utf8 chars encode is_name resolve value place clear transaction
link_is_turned = record {
  read = record { outputs = refl; end = refl; way = refl; kept = refl };
  turned = record { does = record { outputs = refl; end = refl; way = refl; kept = refl }; leaves = leaves_kept (through_link) (turn) (store_of (with_current (codes "p"))) (store_of (with_current (codes "q"))) (set_to (codes "cur" ∷ []) (Link (codes "q")) ∷ []) refl (same_stores (with_current (codes "p")) (with_current (codes "q")) (set_to (codes "cur" ∷ []) (Link (codes "q")) ∷ []) (refl, (refl, (refl, (refl, (refl, (refl, tt)))))) (refl, (refl, (refl, (refl, (refl, (refl, tt)))))) (refl, tt)) };
  again = record { outputs = refl; end = refl; way = refl; kept = refl };
}

pub entry_is_made : EntryIsMade
unfolding is_utf8 chars encode is_name resolve value place clear transaction
entry_is_made = record {
  missing = record { outputs = refl; end = refl; way = refl; kept = refl };
  made = record { does = record { outputs = refl; end = refl; way = refl; kept = refl }; leaves = leaves_kept (maybe_file) (down ∷ create ∷ []) (store_of (nothing_there)) (store_of (one_entry)) (set_to [] (Dir (codes "m" ∷ [])) ∷ set_to (codes "m" ∷ []) (File [] false) ∷ []) refl (same_stores (nothing_there) (one_entry) (set_to [] (Dir (codes "m" ∷ [])) ∷ set_to (codes "m" ∷ []) (File [] false) ∷ []) (refl, tt) (refl, (refl, tt)) (refl, (refl, tt))) };
  again = record { outputs = refl; end = refl; way = refl; kept = refl };
}

pub element_is_removed : ElementIsRemoved
unfolding is_utf8 chars encode is_name resolve value place clear transaction
element_is_removed = record {
  read = record { outputs = refl; end = refl; way = refl; kept = refl };
  removed = record { does = record { outputs = refl; end = refl; way = refl; kept = refl }; leaves = leaves_kept (all_files) (into ∷ next ∷ into ∷ down ∷ remove ∷ []) (store_of (one_file)) (store_of (nothing_there)) (set_to [] (Dir []) ∷ removed (codes "a" ∷ []) ∷ []) refl (same_stores (one_file) (nothing_there) (set_to [] (Dir []) ∷ removed (codes "a" ∷ []) ∷ []) (refl, (refl, tt)) (refl, tt) (refl, (refl, tt))) };
  halfway = record { outputs = refl; end = refl; way = refl; kept = refl };
  again = record { outputs = refl; end = refl; way = refl; kept = refl };
}
