-- The worked transactions of one shell, computed.
use Rattle.std.proofs.Common.{false, refl, [], ◌∷◌, codes}
use Rattle.std.specs.Str.{is_utf8, chars}
use lib.Utf8.{encode}
use Rattle.fx_store.specs.Names.{is_name}
use Rattle.fx_store.specs.Resolve.{resolve}
use Rattle.fx_spec.specs.Describe.{value}
use Rattle.fx_spec.specs.Place.{place}
use Rattle.fx_spec.specs.Edit.{clear}
use Rattle.fx_spec.specs.Transaction.{transaction}
use Rattle.fx_store.specs.declared.node.Node.TheVariants.{File, Dir}
use Rattle.fx_store.specs.Examples.{store_of}
use Rattle.fx_spec.specs.Edit.{set_to, removed}
use Rattle.fx_spec.specs.SpecTree.{SpecTree}
use Rattle.fx_spec.specs.CommandTree.{ActTree}
use Rattle.fx_laws.specs.Shorthands.{union, set_of_one, into, next, down, store, remove, try_and_show}
use Rattle.fx_laws.specs.Retried.{all_files}
use Rattle.fx_laws.specs.Scripted.{a_and_b, b_alone, nested_and_g, g_and_h, LeavesNoPlace, DropsSubtree, JoinsChosenFiles, NumbersFault, RefusedAtRoot, TakesItsWayAway}
use Rattle.fx_laws.proofs.Left.{leaves_kept, same_stores}

pub leaves_no_place : LeavesNoPlace
unfolding is_utf8 chars encode is_name resolve value place clear transaction
leaves_no_place = record { does = record { outputs = refl; end = refl; way = refl; kept = refl }; leaves = leaves_kept (all_files) (into ∷ next ∷ into ∷ down ∷ remove ∷ try_and_show (codes "e") ActTree.down (try_and_show (codes "f") ActTree.up (try_and_show (codes "g") ActTree.next (try_and_show (codes "h") ActTree.out (try_and_show (codes "i") ActTree.top []))))) (store_of (a_and_b)) (store_of (b_alone)) (set_to [] (Dir (codes "b" ∷ [])) ∷ removed (codes "a" ∷ []) ∷ []) refl (same_stores (a_and_b) (b_alone) (set_to [] (Dir (codes "b" ∷ [])) ∷ removed (codes "a" ∷ []) ∷ []) (refl, (refl, (refl, tt))) (refl, (refl, tt)) (refl, (refl, tt))) }

pub drops_subtree : DropsSubtree
unfolding is_utf8 chars encode is_name resolve value place clear transaction
drops_subtree = record { does = record { outputs = refl; end = refl; way = refl; kept = refl }; leaves = leaves_kept (SpecTree.dir) (store (union (set_of_one (codes "g")) (set_of_one (codes "h"))) ∷ []) (store_of (nested_and_g)) (store_of (g_and_h)) (set_to [] (Dir (codes "g" ∷ codes "h" ∷ [])) ∷ removed (codes "d" ∷ []) ∷ removed (codes "d" ∷ codes "e" ∷ []) ∷ removed (codes "d" ∷ codes "e" ∷ codes "f" ∷ []) ∷ set_to (codes "h" ∷ []) (File [] false) ∷ []) refl (same_stores (nested_and_g) (g_and_h) (set_to [] (Dir (codes "g" ∷ codes "h" ∷ [])) ∷ removed (codes "d" ∷ []) ∷ removed (codes "d" ∷ codes "e" ∷ []) ∷ removed (codes "d" ∷ codes "e" ∷ codes "f" ∷ []) ∷ set_to (codes "h" ∷ []) (File [] false) ∷ []) (refl, (refl, (refl, (refl, (refl, tt))))) (refl, (refl, (refl, tt))) (refl, (refl, (refl, (refl, (refl, tt)))))) }

pub joins_chosen_files : JoinsChosenFiles
unfolding is_utf8 chars encode is_name resolve value place clear transaction
joins_chosen_files = record { outputs = refl; end = refl; way = refl; kept = refl }

pub numbers_fault : NumbersFault
unfolding is_utf8 chars encode is_name resolve value place clear transaction
numbers_fault = record {
  greatest = record { outputs = refl; end = refl; way = refl; kept = refl };
  no_number = record { outputs = refl; end = refl; way = refl; kept = refl };
}

pub refused_at_root : RefusedAtRoot
unfolding is_utf8 chars encode is_name resolve value place clear transaction
refused_at_root = record { outputs = refl; end = refl; way = refl; kept = refl }

pub takes_its_way_away : TakesItsWayAway
unfolding is_utf8 chars encode is_name resolve value place clear transaction
takes_its_way_away = record {
  directory = record { outputs = refl; end = refl; way = refl; kept = refl };
  link = record { outputs = refl; end = refl; way = refl; kept = refl };
}
