-- What is stored is fetched: where resolution leads to what was stored.
use Rattle.std.proofs.Common.{◌≡◌, ◌≢◌, ℕ, Bool, true, false, cond, refl, ap, subst, sym, ◌∙◌, List, [], ◌∷◌, ◌++◌, Option, Some, None, Ok}
use Rattle.std.proofs.lemmas.Bool.{true≢false}
use Rattle.std.specs.Ordering.{eq_by_cmp}
use Rattle.fx_base.proofs.Names.{path_itself}
use Rattle.fx_store.specs.declared.node.Node.{Node}
use Rattle.fx_store.specs.declared.node.Node.TheVariants.{File, Dir, Link}
use Rattle.fx_store.specs.declared.node.Landing.TheVariants.{At, Absent}
use Rattle.fx_store.specs.declared.changes.Change.{Change}
use Rattle.fx_store.specs.Landings.{IsTrueOf}
use Rattle.fx_store.specs.Names.{path_cmp}
use Rattle.fx_store.specs.Orders.{path_eq_same}
use Rattle.fx_store.specs.Resolve.{resolve, lands, looks}
use Rattle.fx_store.specs.Rule.{Answer, answer, ◌>>=◌}
use Rattle.fx_store.specs.Whole.{Store, IsWhole, over}
use Rattle.fx_store.proofs.Asks.{answer-bind}
use Rattle.fx_store.proofs.Landings.{landings_are_true}
use Rattle.fx_expr.specs.ShapeTree.{ShapeTree}
use Rattle.fx_expr.specs.Tree.{Tree}
use Rattle.fx_spec.specs.declared.refusal.Refusal.{Refusal}
use Rattle.fx_spec.specs.SpecTree.{SpecTree}
use Rattle.fx_spec.specs.Describe.{file_value, flag_value, dir_value, link_value, landed_value, content}
use Rattle.fx_spec.specs.Edit.{set_to, replaced, stored_node, follows_last, is_flag, store_landed, store_at}
use Rattle.fx_spec.specs.Move.{unrefused, needed, fetch_at}
use Rattle.fx_spec.specs.Place.{PlaceTree}
use Rattle.fx_spec.proofs.EditLaws.{edits_keep_whole}
use Rattle.fx_spec.proofs.EditsWhole.{update_here, update_away}
use Rattle.fx_laws.specs.Fetched.{IsFilePlace, IsFetched, FileStoresAreFetched, IsNewPlace, NewStoresAreFetched, LinkStoresAreFetched, DirectoryStoresAreFetched}
use Rattle.fx_laws.specs.Edited.{HasNodeMade}
use Rattle.fx_laws.proofs.Among.{Path, Each}
use Rattle.fx_laws.proofs.Edited.{stores_make, stores_relist}
use Rattle.fx_laws.proofs.Landed.{made_lands}
use Rattle.fx_laws.proofs.Stored.{node_of, file_node, flag_node, dir_node, link_node_is}
use Rattle.fx_laws.proofs.Ways.{Alike, alike_itself, AlikeAt, lands_alike, each_of_all, each_from_all, lands_still}

-- ---- one node in another's place

-- a file in a file's place
one_file : (S : Store) (q : Path) (old bytes : List ℕ) (was exec : Bool) → S q ≡ Some (File old was) → (p : Path) → Alike (S p) (over S (set_to q (File bytes exec) ∷ []) p)
one_file S q old bytes was exec e p = at (eq_by_cmp path_cmp p q) refl
  where
    at : (t : Bool) → eq_by_cmp path_cmp p q ≡ t → Alike (S p) (cond t (Some (File bytes exec)) (S p))
    at true f = subst (λ n. Alike n (Some (File bytes exec))) (sym (ap S (path_eq_same p q f) ∙ e)) (bytes, exec, refl)
    at false f = alike_itself (S p)

-- ---- what a fetch gives at the landing

module _ (U : Store) (at : PlaceTree) (q : Path) (v : Tree) where
  held_at : (held : Option Node → Option Tree) (follow : Bool) → lands U at.path follow ≡ At q → held (U q) ≡ Some v → answer U (content held follow at.path >>= λ v. Answer (needed Refusal.Lacks v)) ≡ Ok v
  held_at held follow landing is =
      answer-bind U (content held follow at.path) (λ v. Answer (needed Refusal.Lacks v))
      ∙ ap (needed Refusal.Lacks) (answer-bind U (resolve at.path follow) (landed_value held) ∙ (ap (λ l. answer U (landed_value held l)) landing ∙ is))

  of_form : (shape : ShapeTree) (form : SpecTree) → at.spec ≡ form → answer U (fetch_at shape (record { path = at.path; env = at.env; spec = form })) ≡ Ok v → answer U (fetch_at shape at) ≡ Ok v
  of_form shape form is given = ap (λ s. answer U (fetch_at shape (record { path = at.path; env = at.env; spec = s }))) is ∙ given

  bytes_held : at.spec ≡ SpecTree.file → lands U at.path true ≡ At q → file_value (U q) ≡ Some v → answer U (fetch_at ShapeTree.str at) ≡ Ok v
  bytes_held form landing is = of_form ShapeTree.str SpecTree.file form (held_at file_value true landing is)

  flag_held : at.spec ≡ SpecTree.file → lands U at.path true ≡ At q → flag_value (U q) ≡ Some v → answer U (fetch_at ShapeTree.bool at) ≡ Ok v
  flag_held form landing is = of_form ShapeTree.bool SpecTree.file form (held_at flag_value true landing is)

  names_held : at.spec ≡ SpecTree.dir → lands U at.path true ≡ At q → dir_value (U q) ≡ Some v → answer U (fetch_at ShapeTree.names at) ≡ Ok v
  names_held form landing is = of_form ShapeTree.names SpecTree.dir form (held_at dir_value true landing is)

  text_held : at.spec ≡ SpecTree.link → lands U at.path false ≡ At q → link_value (U q) ≡ Some v → answer U (fetch_at ShapeTree.str at) ≡ Ok v
  text_held form landing is = of_form ShapeTree.str SpecTree.link form (held_at link_value false landing is)

-- ---- the node that a store makes

-- the node by the place's form
pub node_at : (S : Store) (at : PlaceTree) (form : SpecTree) (v : Tree) (node : Node) → at.spec ≡ form → ((made : Node) → stored_node form v ≡ Ok made → made ≡ node) → (cs : List Change) → answer S (store_at v at) ≡ Ok cs → stored_node at.spec v ≡ Ok node
node_at S at form v node is only cs e =
    let made = node_of S at v cs e in
    made.1 ∙ ap Ok (only made.0 (ap (λ s. stored_node s v) (sym is) ∙ made.1))

-- a store where its path lands at something replaces the node
pub store_replaces : (S : Store) (at : PlaceTree) (q : Path) (v : Tree) (node : Node) → lands S at.path (follows_last node) ≡ At q → stored_node at.spec v ≡ Ok node → answer S (store_at v at) ≡ answer S (replaced (is_flag v) q node (S q))
store_replaces S at q v node landing stores =
    ap (λ x. answer S (unrefused (λ node. resolve at.path (follows_last node) >>= store_landed (is_flag v) at.path node) x)) stores
    ∙ (answer-bind S (resolve at.path (follows_last node)) (store_landed (is_flag v) at.path node) ∙ ap (λ l. answer S (store_landed (is_flag v) at.path node l)) landing)

-- ---- a file that is there

-- what a replaced file holds, by what was stored
pub data Replaced (S : Store) (q : Path) (flag : Bool) (bytes : List ℕ) (exec : Bool) (cs : List Change) : Type 0 where
  flagged : flag ≡ true → (old : List ℕ) (was : Bool) → S q ≡ Some (File old was) → cs ≡ set_to q (File old exec) ∷ [] → Replaced S q flag bytes exec cs
  filled : flag ≡ false → (old : List ℕ) (was : Bool) → S q ≡ Some (File old was) → cs ≡ set_to q (File bytes was) ∷ [] → Replaced S q flag bytes exec cs

pub was_replaced : (S : Store) (q : Path) (flag : Bool) (bytes : List ℕ) (exec : Bool) (cs : List Change) → answer S (replaced flag q (File bytes exec) (S q)) ≡ Ok cs → Replaced S q flag bytes exec cs
was_replaced S q flag bytes exec cs e = at (S q) refl flag refl e
  where
    at : (n : Option Node) → S q ≡ n → (f : Bool) → flag ≡ f → answer S (replaced f q (File bytes exec) n) ≡ Ok cs → Replaced S q flag bytes exec cs
    at None is f same e = cc
    at (Some (Dir names)) is f same e = cc
    at (Some (Link text)) is f same e = cc
    at (Some (File old was)) is true same e = flagged same old was is (let given : (set_to q (File old exec) ∷ []) ≡ cs = cc in sym given)
    at (Some (File old was)) is false same e = filled same old was is (let given : (set_to q (File bytes was) ∷ []) ≡ cs = cc in sym given)

-- the path lands at the file as before
pub lands_at_file : (S : Store) (at : PlaceTree) (q : Path) (old bytes : List ℕ) (was exec : Bool) → S q ≡ Some (File old was) → lands S at.path true ≡ At q → lands (over S (set_to q (File bytes exec) ∷ [])) at.path true ≡ At q
lands_at_file S at q old bytes was exec there landing =
    let U : Store = over S (set_to q (File bytes exec) ∷ []) in
    lands_alike S U at.path true (each_of_all (AlikeAt S U) (one_file S q old bytes was exec there) (looks S at.path true)) ∙ landing

pub bytes_fetched : (S : Store) (at : PlaceTree) (q : Path) → IsFilePlace S at q → (bytes : List ℕ) → IsFetched S at (Tree.str bytes) ShapeTree.str
bytes_fetched S at q is bytes cs e =
    let stores = node_at S at SpecTree.file (Tree.str bytes) (File bytes false) is.form (file_node bytes) cs e in
    by (was_replaced S q false bytes false cs (sym (store_replaces S at q (Tree.str bytes) (File bytes false) is.landing stores) ∙ e))
  where
    by : Replaced S q false bytes false cs → answer (over S cs) (fetch_at ShapeTree.str at) ≡ Ok (Tree.str bytes)
    by (flagged not_so old was there given) = absurd (true≢false (sym not_so))
    by (filled so old was there given) =
        let U : Store = over S (set_to q (File bytes was) ∷ []) in
        ap (λ cs. answer (over S cs) (fetch_at ShapeTree.str at)) given
        ∙ bytes_held U at q (Tree.str bytes) is.form (lands_at_file S at q old bytes was was there is.landing) (ap file_value (update_here S (set_to q (File bytes was)) q refl))

pub flag_fetched : (S : Store) (at : PlaceTree) (q : Path) → IsFilePlace S at q → (exec : Bool) → IsFetched S at (Tree.bool exec) ShapeTree.bool
flag_fetched S at q is exec cs e =
    let stores = node_at S at SpecTree.file (Tree.bool exec) (File [] exec) is.form (flag_node exec) cs e in
    by (was_replaced S q true [] exec cs (sym (store_replaces S at q (Tree.bool exec) (File [] exec) is.landing stores) ∙ e))
  where
    by : Replaced S q true [] exec cs → answer (over S cs) (fetch_at ShapeTree.bool at) ≡ Ok (Tree.bool exec)
    by (filled not_so old was there given) = absurd (true≢false not_so)
    by (flagged so old was there given) =
        let U : Store = over S (set_to q (File old exec) ∷ []) in
        ap (λ cs. answer (over S cs) (fetch_at ShapeTree.bool at)) given
        ∙ flag_held U at q (Tree.bool exec) is.form (lands_at_file S at q old old was exec there is.landing) (ap flag_value (update_here S (set_to q (File old exec)) q refl))

pub file_stores_are_fetched : FileStoresAreFetched
file_stores_are_fetched = record { bytes = bytes_fetched; flag = flag_fetched }

-- ---- where nothing is

-- the store makes its node where the path lands from then on
pub record IsThere (T : Store) (path : Path) (node : Node) : Type 0 where
  pub at : Path
  pub landing : lands T path (follows_last node) ≡ At at
  pub there : T at ≡ Some node

new_there : (S : Store) (at : PlaceTree) (form : SpecTree) (v : Tree) (node : Node) → IsNewPlace S at form (follows_last node) → stored_node at.spec v ≡ Ok node → (cs : List Change) → answer S (store_at v at) ≡ Ok cs → IsThere (over S cs) at.path node
new_there S at form v node is stores cs e = by is.names is.landing (subst (IsTrueOf S) is.landing (landings_are_true S is.whole at.path (follows_last node)))
  where
    by : (names : Path) → lands S at.path (follows_last node) ≡ Absent is.here names → IsTrueOf S (Absent is.here names) → IsThere (over S cs) at.path node
    by [] landing wrong = absurd wrong
    by (n ∷ names) landing stands =
        let made : HasNodeMade S (over S cs) is.here n names node = stores_make S at v node is.here n names stores landing cs e in
        let kept : IsWhole (over S cs) = edits_keep_whole.store S is.whole at is.path v cs e in
        record {
          at = is.here ++ n ∷ names;
          landing = made_lands S (over S cs) is.whole kept is.here n names node made stands.0.0 stands.0.1 stands.1 (follows_last node) (λ text same. ap follows_last same) at.path landing;
          there = made.there;
        }

pub new_stores_are_fetched : NewStoresAreFetched
new_stores_are_fetched = record {
  bytes = λ S at is bytes cs e.
      let w = new_there S at SpecTree.file (Tree.str bytes) (File bytes false) is (node_at S at SpecTree.file (Tree.str bytes) (File bytes false) is.form (file_node bytes) cs e) cs e in
      bytes_held (over S cs) at w.at (Tree.str bytes) is.form w.landing (ap file_value w.there);
  flag = λ S at is exec cs e.
      let w = new_there S at SpecTree.file (Tree.bool exec) (File [] exec) is (node_at S at SpecTree.file (Tree.bool exec) (File [] exec) is.form (flag_node exec) cs e) cs e in
      flag_held (over S cs) at w.at (Tree.bool exec) is.form w.landing (ap flag_value w.there);
  names = λ S at is names cs e.
      let w = new_there S at SpecTree.dir (Tree.names names) (Dir names) is (node_at S at SpecTree.dir (Tree.names names) (Dir names) is.form (dir_node names) cs e) cs e in
      names_held (over S cs) at w.at (Tree.names names) is.form w.landing (ap dir_value w.there);
  text = λ S at is text cs e.
      let w = new_there S at SpecTree.link (Tree.str text) (Link text) is (node_at S at SpecTree.link (Tree.str text) (Link text) is.form (link_node_is text) cs e) cs e in
      text_held (over S cs) at w.at (Tree.str text) is.form w.landing (ap link_value w.there);
}

-- ---- a directory that is there

pub directory_stores_are_fetched : DirectoryStoresAreFetched
directory_stores_are_fetched S whole at q is names cs e keeps =
    let stores = node_at S at SpecTree.dir (Tree.names names) (Dir names) is.form (dir_node names) cs e in
    let w = stores_relist S whole at (Tree.names names) names q stores is.landing cs e in
    let same : lands (over S cs) at.path true ≡ At q = lands_alike S (over S cs) at.path true (alike_on w.0 w.1.0 w.1.1.lists (looks S at.path true) (each_from_all (λ r. r ≢ q → over S cs r ≡ S r) (looks S at.path true) keeps)) ∙ is.landing in
    names_held (over S cs) at q (Tree.names names) is.form same (ap dir_value w.1.1.lists)
  where
    alike_at : (old : Path) → S q ≡ Some (Dir old) → over S cs q ≡ Some (Dir names) → (r : Path) → (r ≢ q → over S cs r ≡ S r) → Alike (S r) (over S cs r)
    alike_at old was now r kept = by (eq_by_cmp path_cmp r q) refl
      where
        by : (b : Bool) → eq_by_cmp path_cmp r q ≡ b → Alike (S r) (over S cs r)
        by true f = let same : r ≡ q = path_eq_same r q f in subst (λ n. Alike n (over S cs r)) (sym (ap S same ∙ was)) (names, ap (over S cs) same ∙ now)
        by false f = subst (λ n. Alike (S r) n) (sym (kept (λ same. true≢false (sym (path_itself q) ∙ (ap (λ p. eq_by_cmp path_cmp p q) (sym same) ∙ f))))) (alike_itself (S r))

    alike_on : (old : Path) → S q ≡ Some (Dir old) → over S cs q ≡ Some (Dir names) → (ps : List Path) → Each (λ r. r ≢ q → over S cs r ≡ S r) ps → Each (AlikeAt S (over S cs)) ps
    alike_on old was now [] all = tt
    alike_on old was now (r ∷ ps) all = (alike_at old was now r all.0, alike_on old was now ps all.1)

-- ---- a link that is there

-- what a replaced link held, and what it holds
was_turned : (S : Store) (q : Path) (text : List ℕ) (cs : List Change) → answer S (replaced false q (Link text) (S q)) ≡ Ok cs → (old : List ℕ) × (S q ≡ Some (Link old)) × (cs ≡ set_to q (Link text) ∷ [])
was_turned S q text cs e = at (S q) refl e
  where
    at : (n : Option Node) → S q ≡ n → answer S (replaced false q (Link text) n) ≡ Ok cs → (old : List ℕ) × (S q ≡ Some (Link old)) × (cs ≡ set_to q (Link text) ∷ [])
    at None is e = cc
    at (Some (File bytes exec)) is e = cc
    at (Some (Dir names)) is e = cc
    at (Some (Link old)) is e = let given : (set_to q (Link text) ∷ []) ≡ cs = cc in (old, is, sym given)

pub link_stores_are_fetched : LinkStoresAreFetched
link_stores_are_fetched S at q is last text cs e =
    let stores = node_at S at SpecTree.link (Tree.str text) (Link text) is.form (link_node_is text) cs e in
    let turned = was_turned S q text cs (sym (store_replaces S at q (Tree.str text) (Link text) is.landing stores) ∙ e) in
    let U : Store = over S (set_to q (Link text) ∷ []) in
    let now : U q ≡ Some (Link text) = update_here S (set_to q (Link text)) q refl in
    let landing : lands U at.path false ≡ At q = lands_still S U q turned.0 text turned.1 now (λ p apart. update_away S (set_to q (Link text)) p apart) at.path last.front last.looked (each_from_all (λ r. r ≢ q) last.front last.once) is.landing in
    ap (λ cs. answer (over S cs) (fetch_at ShapeTree.str at)) turned.2 ∙ text_held U at q (Tree.str text) is.form landing (ap link_value now)
