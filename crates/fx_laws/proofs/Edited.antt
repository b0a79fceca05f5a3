-- What edits leave of a whole filestore.
use Rattle.std.proofs.Common.{◌≡◌, ◌≢◌, ℕ, ◌<◌, Bool, true, false, List, [], ◌∷◌, ◌++◌, map, length, Option, Some, None, Ok, refl, sym, subst, ap, ◌∙◌, append_assoc}
use Rattle.std.proofs.lemmas.List.{append-nil}
use Rattle.std.specs.Ordering.{eq_by_cmp}
use Rattle.fx_base.proofs.Results.{same_Ok}
use Rattle.fx_base.proofs.Names.{name_is}
use Rattle.fx_base.specs.Sets.{without_name}
use Rattle.fx_store.specs.declared.node.Node.{Node}
use Rattle.fx_store.specs.declared.node.Node.TheVariants.{File, Dir, Link}
use Rattle.fx_store.specs.declared.node.Landing.{Landing}
use Rattle.fx_store.specs.declared.node.Landing.TheVariants.{At, Absent, Blocked, TooManyLinks}
use Rattle.fx_store.specs.declared.changes.Change.{Change}
use Rattle.fx_store.specs.Changes.{changed_paths}
use Rattle.fx_store.specs.Landings.{IsTrueOf}
use Rattle.fx_store.specs.Names.{name_cmp, IsNameSet, rest_of}
use Rattle.fx_store.specs.Relisted.{relist_at, relisted}
use Rattle.fx_store.specs.Resolve.{◌/ₚ◌, parent, resolve, lands}
use Rattle.fx_store.specs.Rule.{Ask, answer, look_all, ◌>>=◌}
use Rattle.fx_store.specs.Whole.{Store, IsWhole, update, over}
use Rattle.fx_store.proofs.Asks.{answer-bind}
use Rattle.fx_store.proofs.Landings.{landings_are_true}
use Rattle.fx_store.proofs.PathLists.{rest_append, rest_is}
use Rattle.fx_expr.specs.Sets.{with_text}
use Rattle.fx_spec.specs.Edit.{set_to, names_of, children, made, make, is_too_deep, create_landed, last_name, lacks_room, unless_deep, new_names, replaced, store_landed, follows_last, remove_landed, is_flag}
use Rattle.fx_spec.specs.declared.refusal.Refusal.{Refusal}
use Rattle.fx_spec.specs.Move.{Answered, unrefused, needed}
use Rattle.fx_spec.proofs.EditLaws.{stored_node_ok, unless-ok, has_room}
use Rattle.fx_spec.proofs.EditsKeep.{new_names_relist, removal_relists, can_remove, remove_is, ends_in, without_own, without_other}
use Rattle.fx_spec.proofs.EditsWhole.{kept_target, longer, update_here, update_away}
use Rattle.fx_laws.specs.Edited.{IsWithin, IsWithout, IsRelisted, HasNodeMade, RemovalsRemove, StoresRelist, StoresMake, CreationsMake}

abbrev Path : Type 0
Path = List (List ℕ)

-- ---- a directory that lists other names

module _ (S : Store) (q old new : Path) (fresh : List ℕ → Node) where
  below_dir : (t : Path) → relisted S q old new fresh (q ++ t) ≡ relist_at S old new fresh (q ++ t) (Some t)
  below_dir t = ap (relist_at S old new fresh (q ++ t)) (rest_append q t)

  at_dir : relisted S q old new fresh q ≡ Some (Dir new)
  at_dir = ap (relist_at S old new fresh q) (ap (rest_of q) (sym (append-nil q)) ∙ rest_append q [])

  away : (r : Path) → (IsWithin q r → ⊥) → relisted S q old new fresh r ≡ S r
  away r not_within = at (rest_of q r) refl
    where
      at : (o : Option Path) → rest_of q r ≡ o → relist_at S old new fresh r o ≡ S r
      at None e = refl
      at (Some t) e = absurd (not_within (t, rest_is q r t e))

module _ (S T : Store) (q old new : Path) (names : IsNameSet new) (is : (r : Path) → T r ≡ relisted S q old new (λ n. File [] false) r) where
  is_relisted : IsRelisted S T q old new
  is_relisted = record {
    ascending = names;
    lists = is q ∙ at_dir S q old new (λ n. File [] false);
    added = λ n h g. is (q /ₚ n) ∙ below_dir S q old new (λ n. File [] false) (n ∷ []) ∙ rw (h, g);
    dropped = λ n rest h. is (q ++ n ∷ rest) ∙ below_dir S q old new (λ n. File [] false) (n ∷ rest) ∙ rw h;
    stays = λ n rest h g. is (q ++ n ∷ rest) ∙ below_dir S q old new (λ n. File [] false) (n ∷ rest) ∙ rw (h, g);
    others = λ r not_within. is r ∙ away S q old new (λ n. File [] false) r not_within;
  }

-- ---- a removal

module _ (S T : Store) (q old : Path) (whole : IsWhole S) (some : 0 < length q) (dir : S (parent q) ≡ Some (Dir old)) (is : (r : Path) → T r ≡ relisted S (parent q) old (without_name (last_name q) old) (λ n. File [] false) r) where
  abbrev up : Path
  up = parent q

  abbrev n : List ℕ
  n = last_name q

  abbrev new : Path
  new = without_name n old

  split : (rest : Path) → q ++ rest ≡ up ++ n ∷ rest
  split rest = ap (λ p. p ++ rest) (ends_in q some) ∙ append_assoc up (n ∷ []) rest

  gone_below : (rest : Path) → T (up ++ n ∷ rest) ≡ None
  gone_below rest = is (up ++ n ∷ rest) ∙ below_dir S up old new (λ n. File [] false) (n ∷ rest) ∙ rw (without_own n old)

  others_stay : (r : Path) → r ≢ up → (IsWithin q r → ⊥) → T r ≡ S r
  others_stay r not_up not_within = is r ∙ at (rest_of up r) refl
    where
      stays : (m : List ℕ) (rest : Path) → r ≡ up ++ m ∷ rest → (b : Bool) → eq_by_cmp name_cmp m n ≡ b → relist_at S old new (λ n. File [] false) r (Some (m ∷ rest)) ≡ S r
      stays m rest there true e = absurd (not_within (rest, there ∙ ap (λ k. up ++ k ∷ rest) (name_is m n e) ∙ sym (split rest)))
      stays m rest there false e =
          subst (λ p. relist_at S old new (λ n. File [] false) p (Some (m ∷ rest)) ≡ S p) (sym there)
          (sym (kept_target S up old new (λ n. File [] false) (can_remove S up n old whole dir) m rest (without_other n m old e)))

      at : (o : Option Path) → rest_of up r ≡ o → relist_at S old new (λ n. File [] false) r o ≡ S r
      at None e = refl
      at (Some []) e = absurd (not_up (rest_is up r [] e ∙ append-nil up))
      at (Some (m ∷ rest)) e = stays m rest (rest_is up r (m ∷ rest) e) (eq_by_cmp name_cmp m n) refl

  is_without : IsWithout S T q
  is_without = record {
    gone = λ rest. ap T (split rest) ∙ gone_below rest;
    above = λ names e. let same : names ≡ old = listed names (sym e ∙ dir) in is up ∙ at_dir S up old new (λ n. File [] false) ∙ ap (λ ns. Some (Dir (without_name n ns))) (sym same);
    others = others_stay;
  }
    where
      listed : (names : Path) → ◌≡◌ {A = Option Node} (Some (Dir names)) (Some (Dir old)) → names ≡ old
      listed names e = cc

pub removals_remove : RemovalsRemove
removals_remove S whole at cs e =
    go (lands S at.path false) refl (landings_are_true S whole at.path false) (sym (answer-bind S (resolve at.path false) (remove_landed at.path)) ∙ e)
  where
    go : (l : Landing) → lands S at.path false ≡ l → IsTrueOf S l → answer S (remove_landed at.path l) ≡ Ok cs → (q : Path) × ((lands S at.path false ≡ At q) × IsWithout S (over S cs) q)
    go (At q) is there f =
        let w = remove_is S whole q there cs f in
        let relists : (r : Path) → over S cs r ≡ relisted S (parent q) w.1.0 (without_name (last_name q) w.1.0) (λ n. File [] false) r =
        λ r. ap (λ cs. over S cs r) (sym w.1.1.1) ∙ removal_relists S (parent q) (last_name q) w.1.0 whole w.1.1.0 r in
        (q, (is, is_without S (over S cs) q w.1.0 whole w.0 w.1.1.0 relists))
    go (Absent here names) is there f = cc
    go (Blocked q) is there f = cc
    go TooManyLinks is there f = cc

-- ---- a store of names

pub stores_relist : StoresRelist
stores_relist S whole at v new q stores landed cs e =
    let stored : answer S (resolve at.path true >>= store_landed (is_flag v) at.path (Dir new)) ≡ Ok cs = sym (ap (λ a. answer S (unrefused (λ node. resolve at.path (follows_last node) >>= store_landed (is_flag v) at.path node) a)) stores) ∙ e in
    let there : answer S (store_landed (is_flag v) at.path (Dir new) (At q)) ≡ Ok cs = sym (answer-bind S (resolve at.path true) (store_landed (is_flag v) at.path (Dir new)) ∙ ap (λ l. answer S (store_landed (is_flag v) at.path (Dir new) l)) landed) ∙ stored in
    go (S q) refl there
  where
    names : IsNameSet new
    names = stored_node_ok at.spec v (Dir new) stores

    go : (x : Option Node) → S q ≡ x → answer S (replaced (is_flag v) q (Dir new) x) ≡ Ok cs → (old : Path) × ((S q ≡ Some (Dir old)) × IsRelisted S (over S cs) q old new)
    go None is f = cc
    go (Some (File b exec)) is f = cc
    go (Some (Link t)) is f = cc
    go (Some (Dir old)) is f =
        let w = unless-ok (lacks_room q (Dir new)) S (new_names q old new) cs f in
        (old, (is, is_relisted S (over S cs) q old new names (new_names_relist S q old new whole is names (λ full. has_room q new w.0 full) cs w.1)))

-- ---- a node that is made

files_away : (U : Store) (q names r : Path) → ((k : List ℕ) → r ≢ q /ₚ k) → over U (map (λ n. set_to (q /ₚ n) (File [] false)) names) r ≡ U r
files_away U q [] r apart = refl
files_away U q (k ∷ names) r apart = files_away (update U (set_to (q /ₚ k) (File [] false))) q names r apart ∙ update_away U (set_to (q /ₚ k) (File [] false)) r (apart k)

children_away : (U : Store) (q : Path) (node : Node) (r : Path) → ((k : List ℕ) → r ≢ q /ₚ k) → over U (children q node) r ≡ U r
children_away U q (File bytes exec) r apart = refl
children_away U q (Dir names) r apart = files_away U q names r apart
children_away U q (Link text) r apart = refl

made_away : (U : Store) (here : Path) (n : List ℕ) (names : Path) (node : Node) (r : Path) → (IsWithin (here /ₚ n) r → ⊥) → over U (made here n names node) r ≡ U r
made_away U here n [] node r apart =
    children_away (update U (set_to (here /ₚ n) node)) (here /ₚ n) node r (λ k e. apart (k ∷ [], e)) ∙ update_away U (set_to (here /ₚ n) node) r (λ e. apart ([], e ∙ sym (append-nil (here /ₚ n))))
made_away U here n (m ∷ names) node r apart =
    made_away (update U (set_to (here /ₚ n) (Dir (m ∷ [])))) (here /ₚ n) m names node r (λ w. apart (m ∷ w.0, w.1 ∙ append_assoc (here /ₚ n) (m ∷ []) w.0))
    ∙ update_away U (set_to (here /ₚ n) (Dir (m ∷ []))) r (λ e. apart ([], e ∙ sym (append-nil (here /ₚ n))))

made_there : (U : Store) (here : Path) (n : List ℕ) (names : Path) (node : Node) → over U (made here n names node) (here ++ n ∷ names) ≡ Some node
made_there U here n [] node =
    children_away (update U (set_to (here /ₚ n) node)) (here /ₚ n) node (here /ₚ n) (λ k e. longer (here /ₚ n) [] k e) ∙ update_here U (set_to (here /ₚ n) node) (here /ₚ n) refl
made_there U here n (m ∷ names) node =
    ap (λ p. over U (made here n (m ∷ names) node) p) (sym (append_assoc here (n ∷ []) (m ∷ names))) ∙ made_there (update U (set_to (here /ₚ n) (Dir (m ∷ [])))) (here /ₚ n) m names node

answer-look_all : {A : Type 0} (S : Store) (ps : List Path) (rule : Ask A) → answer S (look_all ps rule) ≡ answer S rule
answer-look_all S [] rule = refl
answer-look_all S (p ∷ ps) rule = answer-look_all S ps rule

module _ (S : Store) (here : Path) (n : List ℕ) (names : Path) (node : Node) where
  abbrev listed_more : Change
  listed_more = set_to here (Dir (with_text n (names_of (S here))))

  is_made : HasNodeMade S (over S (listed_more ∷ made here n names node)) here n names node
  is_made = record {
    there = made_there (update S listed_more) here n names node;
    above = λ old e. made_away (update S listed_more) here n names node here (λ w. longer here w.0 n (w.1 ∙ append_assoc here (n ∷ []) w.0)) ∙ update_here S listed_more here refl ∙ ap (λ x. Some (Dir (with_text n (names_of x)))) e;
    others = λ r not_here apart. made_away (update S listed_more) here n names node r apart ∙ update_away S listed_more r not_here;
  }

  made_by : (cs : List Change) → answer S (make here (n ∷ names) node) ≡ Ok cs → HasNodeMade S (over S cs) here n names node
  made_by cs e =
      let is : answer S (make here (n ∷ names) node) ≡ Ok (listed_more ∷ made here n names node) = answer-look_all S (changed_paths (made here n names node)) _ in
      subst (λ cs. HasNodeMade S (over S cs) here n names node) (same_Ok (listed_more ∷ made here n names node) cs (sym is ∙ e)) is_made

  made_unless_deep : (cs : List Change) → answer S (unless_deep (is_too_deep here (n ∷ names) node) (make here (n ∷ names) node)) ≡ Ok cs → HasNodeMade S (over S cs) here n names node
  made_unless_deep cs e = made_by cs (unless-ok (is_too_deep here (n ∷ names) node) S (make here (n ∷ names) node) cs e).1

pub stores_make : StoresMake
stores_make S at v node here n names stores landed cs e =
    let rule : Ask (Answered (List Change)) = resolve at.path (follows_last node) >>= store_landed (is_flag v) at.path node in
    let stored : answer S rule ≡ Ok cs = sym (ap (λ a. answer S (unrefused (λ node. resolve at.path (follows_last node) >>= store_landed (is_flag v) at.path node) a)) stores) ∙ e in
    made_unless_deep S here n names node cs (sym (answer-bind S (resolve at.path (follows_last node)) (store_landed (is_flag v) at.path node) ∙ ap (λ l. answer S (store_landed (is_flag v) at.path node l)) landed) ∙ stored)

pub creations_make : CreationsMake
creations_make S at node here n names bare landed cs e =
    let created : answer S (resolve at.path false >>= create_landed at.path node) ≡ Ok cs = sym (ap (λ b. answer S (unrefused (λ node. resolve at.path false >>= create_landed at.path node) (needed Refusal.NoDefault b))) bare) ∙ e in
    made_unless_deep S here n names node cs (sym (answer-bind S (resolve at.path false) (create_landed at.path node) ∙ ap (λ l. answer S (create_landed at.path node l)) landed) ∙ created)
