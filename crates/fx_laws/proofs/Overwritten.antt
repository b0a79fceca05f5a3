-- A second store at a file leaves nothing of the first.
use Rattle.std.proofs.Common.{◌≡◌, ℕ, Bool, true, false, refl, ap, sym, ◌∙◌, List, [], ◌∷◌, Some, Ok}
use Rattle.std.proofs.lemmas.Bool.{true≢false}
use Rattle.fx_base.proofs.Results.{same_Ok}
use Rattle.fx_store.specs.declared.node.Node.{Node}
use Rattle.fx_store.specs.declared.node.Node.TheVariants.{File}
use Rattle.fx_store.specs.declared.changes.Change.{Change}
use Rattle.fx_store.specs.Rule.{answer}
use Rattle.fx_store.specs.Whole.{Store, over}
use Rattle.fx_expr.specs.Tree.{Tree}
use Rattle.fx_spec.specs.SpecTree.{SpecTree}
use Rattle.fx_spec.specs.Edit.{set_to, replaced, stored_node, store_at}
use Rattle.fx_spec.specs.Place.{PlaceTree}
use Rattle.fx_spec.proofs.EditsWhole.{overwritten, update_here}
use Rattle.fx_laws.specs.Fetched.{IsFilePlace}
use Rattle.fx_laws.specs.Overwritten.{LeavesAlone, Overwrites, FileStoresOverwrite}
use Rattle.fx_laws.proofs.Among.{Path}
use Rattle.fx_laws.proofs.Fetched.{Replaced, flagged, filled, was_replaced, node_at, store_replaces, lands_at_file}
use Rattle.fx_laws.proofs.Stored.{file_node, flag_node}

-- what two replacements of a node leave
module _ (S : Store) (at : PlaceTree) (q : Path) (w : Tree) (a b : Node) (first second : List Change) where
  leaves_alone : first ≡ set_to q a ∷ [] → second ≡ set_to q b ∷ [] → answer S (store_at w at) ≡ Ok (set_to q b ∷ []) → LeavesAlone S at w (over (over S first) second)
  leaves_alone one two stores = record {
    changes = set_to q b ∷ [];
    stores = stores;
    same = λ p. ap (λ cs. over (over S cs) second p) one ∙ (ap (λ cs. over (over S (set_to q a ∷ [])) cs p) two ∙ ap (λ (T : Store). T p) (overwritten S q (Some a) (Some b) []));
  }

pub bytes_overwrite : (S : Store) (at : PlaceTree) (q : Path) → IsFilePlace S at q → (v w : List ℕ) → Overwrites S at (Tree.str v) (Tree.str w)
bytes_overwrite S at q is v w first second e f =
    let stores = node_at S at SpecTree.file (Tree.str v) (File v false) is.form (file_node v) first e in
    let again = node_at (over S first) at SpecTree.file (Tree.str w) (File w false) is.form (file_node w) second f in
    by again (was_replaced S q false v false first (sym (store_replaces S at q (Tree.str v) (File v false) is.landing stores) ∙ e))
  where
    by : stored_node at.spec (Tree.str w) ≡ Ok (File w false) → Replaced S q false v false first → LeavesAlone S at (Tree.str w) (over (over S first) second)
    by again (flagged not_so old was there given) = absurd (true≢false (sym not_so))
    by again (filled so old was there given) =
        let U : Store = over S (set_to q (File v was) ∷ []) in
        let landing = lands_at_file S at q old v was was there is.landing in
        let twice : answer U (store_at (Tree.str w) at) ≡ Ok (set_to q (File w was) ∷ []) =
        store_replaces U at q (Tree.str w) (File w false) landing again ∙ ap (λ n. answer U (replaced false q (File w false) n)) (update_here S (set_to q (File v was)) q refl) in
        let at_once : answer S (store_at (Tree.str w) at) ≡ Ok (set_to q (File w was) ∷ []) =
        store_replaces S at q (Tree.str w) (File w false) is.landing again ∙ ap (λ n. answer S (replaced false q (File w false) n)) there in
        leaves_alone S at q (Tree.str w) (File v was) (File w was) first second given
        (same_Ok second (set_to q (File w was) ∷ []) (sym f ∙ (ap (λ cs. answer (over S cs) (store_at (Tree.str w) at)) given ∙ twice))) at_once

pub flags_overwrite : (S : Store) (at : PlaceTree) (q : Path) → IsFilePlace S at q → (v w : Bool) → Overwrites S at (Tree.bool v) (Tree.bool w)
flags_overwrite S at q is v w first second e f =
    let stores = node_at S at SpecTree.file (Tree.bool v) (File [] v) is.form (flag_node v) first e in
    let again = node_at (over S first) at SpecTree.file (Tree.bool w) (File [] w) is.form (flag_node w) second f in
    by again (was_replaced S q true [] v first (sym (store_replaces S at q (Tree.bool v) (File [] v) is.landing stores) ∙ e))
  where
    by : stored_node at.spec (Tree.bool w) ≡ Ok (File [] w) → Replaced S q true [] v first → LeavesAlone S at (Tree.bool w) (over (over S first) second)
    by again (filled not_so old was there given) = absurd (true≢false not_so)
    by again (flagged so old was there given) =
        let U : Store = over S (set_to q (File old v) ∷ []) in
        let landing = lands_at_file S at q old old was v there is.landing in
        let twice : answer U (store_at (Tree.bool w) at) ≡ Ok (set_to q (File old w) ∷ []) =
        store_replaces U at q (Tree.bool w) (File [] w) landing again ∙ ap (λ n. answer U (replaced true q (File [] w) n)) (update_here S (set_to q (File old v)) q refl) in
        let at_once : answer S (store_at (Tree.bool w) at) ≡ Ok (set_to q (File old w) ∷ []) =
        store_replaces S at q (Tree.bool w) (File [] w) is.landing again ∙ ap (λ n. answer S (replaced true q (File [] w) n)) there in
        leaves_alone S at q (Tree.bool w) (File old v) (File old w) first second given
        (same_Ok second (set_to q (File old w) ∷ []) (sym f ∙ (ap (λ cs. answer (over S cs) (store_at (Tree.bool w) at)) given ∙ twice))) at_once

pub file_stores_overwrite : FileStoresOverwrite
file_stores_overwrite = record { bytes = bytes_overwrite; flag = flags_overwrite }
