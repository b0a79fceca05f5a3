-- On a whole filestore the store of what is fetched is accepted.
use Rattle.std.proofs.Common.{◌≡◌, ℕ, ◌<◌, ◌≤◌, nat_lt, nat_le, Bool, true, false, cond, ◌&&◌, refl, ap, sym, ◌∙◌, List, [], ◌∷◌, length, Some, Ok, Err, nat_eq, arith, lt-ltb, le-leb}
use Rattle.std.proofs.lemmas.Bool.{true≢false, leb-true, ltb-true, and_from}
use Rattle.std.proofs.lemmas.List.Elements.{All-head, All-tail}
use Rattle.std.specs.Cmp.Lexicographic.{pointwise}
use Rattle.std.specs.List.{All, list_all}
use Rattle.fx_base.proofs.Orders.{bytes_itself}
use Rattle.fx_store.specs.declared.node.Node.{Node}
use Rattle.fx_store.specs.declared.node.Node.TheVariants.{File, Dir, Link}
use Rattle.fx_store.specs.declared.node.Landing.TheVariants.{At}
use Rattle.fx_store.specs.declared.name.PathFault.TheVariants.{BadName, TooDeep}
use Rattle.fx_store.specs.Faults.{read_link}
use Rattle.fx_store.specs.Names.{is_name, IsName, IsContent, IsNameSet, IsLinkText, is_component, components}
use Rattle.fx_store.specs.Resolve.{lands}
use Rattle.fx_store.specs.Rule.{Ask, answer}
use Rattle.fx_store.specs.Whole.{Store, IsWhole, IsNode}
use Rattle.fx_store.proofs.Stores.{node_at}
use Rattle.fx_expr.specs.Sets.{set_of}
use Rattle.fx_expr.specs.Tree.{Tree}
use Rattle.fx_text.proofs.Canon.{ascending_set, has_set, same_sets}
use Rattle.fx_spec.specs.declared.refusal.Refusal.{Refusal}
use Rattle.fx_spec.specs.SpecTree.{SpecTree}
use Rattle.fx_spec.specs.Describe.{file_value, flag_value, dir_value, link_value}
use Rattle.fx_spec.specs.Move.{Answered, fetch_shape, has_fetch_shape, fetched, of_shape, asks_flag, flag_at}
use Rattle.fx_spec.specs.Edit.{set_to, names_node, link_node, is_content, stored_node, store_at}
use Rattle.fx_spec.specs.Place.{PlaceTree}
use Rattle.fx_laws.specs.Stored.{IsHeldValue, has_content, FetchedIsAccepted}
use Rattle.fx_laws.proofs.Stored.{content_there, file_there, flag_there, dir_there, link_there, held_of, flag_of_file, of_its_shape, same_content_is_accepted}

each_passes : {A : Type 0} (P : A → Type 0) (test : A → Bool) → ((x : A) → P x → test x ≡ true) → (xs : List A) → All P xs → list_all test xs ≡ true
each_passes P test h [] all = refl
each_passes P test h (x ∷ xs) all = and_from (test x) (list_all test xs) (h x (All-head P x xs all)) (each_passes P test h xs (All-tail P x xs all))

pub same_texts : (xs : List (List ℕ)) → pointwise (pointwise nat_eq) xs xs ≡ true
same_texts [] = refl
same_texts (x ∷ xs) = and_from (pointwise nat_eq x x) (pointwise (pointwise nat_eq) xs xs) (bytes_itself x) (same_texts xs)

-- content within its limits can be stored
pub content_passes : (bytes : List ℕ) → length bytes ≤ 1048576 → All (λ b. b < 256) bytes → is_content bytes ≡ true
content_passes bytes short all =
    and_from (nat_le (length bytes) 1048576) (list_all (λ b. nat_lt b 256) bytes) (le-leb (length bytes) 1048576 short) (each_passes (λ b. b < 256) (λ b. nat_lt b 256) (λ b l. lt-ltb b 256 l) bytes all)

pub file_stored : (bytes : List ℕ) → IsContent bytes → stored_node SpecTree.file (Tree.str bytes) ≡ Ok (File bytes false)
file_stored bytes ok = ap (λ b. cond b (Ok (File bytes false)) (Err Refusal.WrongForm)) (content_passes bytes ok.short ok.bytes)

pub dir_stored : (names : List (List ℕ)) → IsNameSet names → stored_node SpecTree.dir (Tree.names names) ≡ Ok (Dir names)
dir_stored names ok =
    let set : set_of names ≡ names = same_sets (set_of names) names (ascending_set names) ok.ascending (λ z. has_set z names) in
    ap (λ b. cond b (names_node names) (Err Refusal.WrongForm)) (ap (λ s. pointwise (pointwise nat_eq) s names) set ∙ same_texts names)
    ∙ ap (λ b. cond b (Ok (Dir names)) (Err Refusal.BadName)) (each_passes IsName is_name (λ n h. h) names ok.names)

pub in_first : (a b c : Bool) → (a && b && c) ≡ true → b ≡ true
in_first true true c e = refl
in_first true false c e = e
in_first false b c e = absurd (true≢false (sym e))

not_more : (n : ℕ) → n ≤ 64 → nat_lt 64 n ≡ false
not_more n short = at (nat_lt 64 n) refl
  where
    at : (b : Bool) → nat_lt 64 n ≡ b → b ≡ false
    at true e = absurd (let long : 64 < n = ltb-true 64 n e in omega (arith, long, short))
    at false e = refl

link_stored : (text : List ℕ) → IsLinkText text → stored_node SpecTree.link (Tree.str text) ≡ Ok (Link text)
link_stored text ok =
    let short : length text ≤ 4096 = leb-true (length text) 4096 (in_first (nat_lt 0 (length text)) (nat_le (length text) 4096) (list_all is_component (components text)) ok.form) in
    ap (λ b. cond b (link_node (read_link text)) (Err Refusal.WrongForm)) (content_passes text (omega (arith, short)) ok.bytes)
    ∙ ap link_node (ap (λ b. cond b (cond (nat_lt 64 (length (components text))) (Err TooDeep) (Ok text)) (Err BadName)) ok.form ∙ ap (λ b. cond b (Err TooDeep) (Ok text)) (not_more (length (components text)) ok.short))

-- what is stored there is what is there
abbrev Accepts : Store → PlaceTree → Tree → Type 0
Accepts S at v = (q : List (List ℕ)) × (node : Node) × (S q ≡ Some node) × (answer S (store_at v at) ≡ Ok (set_to q node ∷ []))

accepted : (S : Store) → IsWhole S → (at : PlaceTree) (v : Tree) (node : Node) (q : List (List ℕ)) → IsHeldValue S at v node q → Accepts S at v
accepted S whole at v node q held = (q, node, held.stands, same_content_is_accepted S whole at v node q held)

by_form : (S : Store) → IsWhole S → (at : PlaceTree) (v : Tree) (spec : SpecTree) → at.spec ≡ spec → has_content spec ≡ true → answer S (fetched at.path at.env spec) ≡ Ok v → Accepts S at v
by_form S whole at v SpecTree.file is form e =
    let c : (q : List (List ℕ)) × (lands S at.path true ≡ At q) × (file_value (S q) ≡ Some v) = content_there S file_value true at.path v e in
    let t : (bytes : List ℕ) × (exec : Bool) × (v ≡ Tree.str bytes) × (S c.0 ≡ Some (File bytes exec)) = file_there (S c.0) v c.2 in
    accepted S whole at v (File t.0 t.1) c.0 (held_of S at v (Tree.str t.0) (File t.0 false) (File t.0 false) (File t.0 t.1) c.0 ((λ i. stored_node (is i) (t.2 i)) ∙ file_stored t.0 (node_at S whole c.0 (File t.0 t.1) t.3)) refl t.2 refl c.1 t.3)
by_form S whole at v SpecTree.dir is form e =
    let c : (q : List (List ℕ)) × (lands S at.path true ≡ At q) × (dir_value (S q) ≡ Some v) = content_there S dir_value true at.path v e in
    let t : (names : List (List ℕ)) × (v ≡ Tree.names names) × (S c.0 ≡ Some (Dir names)) = dir_there (S c.0) v c.2 in
    let ok : IsNode c.0 (Dir t.0) = node_at S whole c.0 (Dir t.0) t.2 in
    accepted S whole at v (Dir t.0) c.0 (held_of S at v (Tree.names t.0) (Dir t.0) (Dir t.0) (Dir t.0) c.0 ((λ i. stored_node (is i) (t.1 i)) ∙ dir_stored t.0 ok.0) refl t.1 refl c.1 t.2)
by_form S whole at v SpecTree.link is form e =
    let c : (q : List (List ℕ)) × (lands S at.path false ≡ At q) × (link_value (S q) ≡ Some v) = content_there S link_value false at.path v e in
    let t : (text : List ℕ) × (v ≡ Tree.str text) × (S c.0 ≡ Some (Link text)) = link_there (S c.0) v c.2 in
    accepted S whole at v (Link t.0) c.0 (held_of S at v (Tree.str t.0) (Link t.0) (Link t.0) (Link t.0) c.0 ((λ i. stored_node (is i) (t.1 i)) ∙ link_stored t.0 (node_at S whole c.0 (Link t.0) t.2)) refl t.1 refl c.1 t.2)
by_form S whole at v (SpecTree.focus t s) is form e = absurd (true≢false (sym form))
by_form S whole at v (SpecTree.pair x a b) is form e = absurd (true≢false (sym form))
by_form S whole at v (SpecTree.comp s x t) is form e = absurd (true≢false (sym form))
by_form S whole at v (SpecTree.opt s) is form e = absurd (true≢false (sym form))
by_form S whole at v (SpecTree.pred t) is form e = absurd (true≢false (sym form))
by_form S whole at v (SpecTree.call es ps s) is form e = absurd (true≢false (sym form))
by_form S whole at v (SpecTree.last es ps) is form e = absurd (true≢false (sym form))

-- a flag can be stored at each file
by_flag : (S : Store) → IsWhole S → (at : PlaceTree) (v : Tree) → at.spec ≡ SpecTree.file → answer S (flag_at at.path) ≡ Ok v → Accepts S at v
by_flag S whole at v is e =
    let c : (q : List (List ℕ)) × (lands S at.path true ≡ At q) × (flag_value (S q) ≡ Some v) = content_there S flag_value true at.path v e in
    let t : (bytes : List ℕ) × (exec : Bool) × (v ≡ Tree.bool exec) × (S c.0 ≡ Some (File bytes exec)) = flag_there (S c.0) v c.2 in
    accepted S whole at v (File t.0 t.1) c.0 (held_of S at v (Tree.bool t.1) (File [] t.1) (File [] t.1) (File t.0 t.1) c.0 (λ i. stored_node (is i) (t.2 i)) refl t.2 refl c.1 t.3)

pub fetched_is_accepted : FetchedIsAccepted
fetched_is_accepted S whole at shape v content e = by (asks_flag shape at.spec) refl e
  where
    form : Ask (Answered Tree)
    form = of_shape (has_fetch_shape shape (fetch_shape at.spec)) (fetched at.path at.env at.spec)

    by : (b : Bool) → asks_flag shape at.spec ≡ b → answer S (cond b (flag_at at.path) form) ≡ Ok v → Accepts S at v
    by true asks g = by_flag S whole at v (flag_of_file shape at.spec asks) g
    by false asks g = by_form S whole at v at.spec refl content (of_its_shape S (has_fetch_shape shape (fetch_shape at.spec)) (fetched at.path at.env at.spec) v g)
