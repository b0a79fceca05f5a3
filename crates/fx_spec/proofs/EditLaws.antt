-- Places have paths, and each edit that is not refused leaves a whole filestore whole.
use Rattle.std.proofs.Common.{◌≡◌, ℕ, ◌<◌, get_or, nat_eq, suc, ◌+◌, ◌≤◌, Bool, true, false, cond, ◌&&◌, refl, subst, sym, ◌∙◌, List, [], ◌∷◌, ◌++◌, length, Option, Some, None, Result, Ok, Err, nat_lt, nat_le, arith}
use Rattle.std.proofs.lemmas.List.Elements.{All-nil, All-cons, All-append}
use Rattle.std.proofs.lemmas.Bool.{true≢false, ltb-true, ltb-false, leb-true, lt-ltb}
use Rattle.std.specs.Cmp.Lexicographic.{pointwise}
use Rattle.std.specs.List.{All, list_all, slice_split}
use Rattle.std.specs.Option.{option_map, IfSome}
use Rattle.std.proofs.lemmas.Option.{same_Some}
use Rattle.fx_base.proofs.Booleans.{second_true, first_true}
use Rattle.fx_base.proofs.Orders.{texts_exact}
use Rattle.fx_base.proofs.Lists.{all_pass}
use Rattle.fx_store.specs.declared.node.Node.{Node}
use Rattle.fx_store.specs.declared.node.Node.TheVariants.{File, Dir, Link}
use Rattle.fx_store.specs.declared.node.Landing.{Landing}
use Rattle.fx_store.specs.declared.node.Landing.TheVariants.{At, Absent, Blocked, TooManyLinks}
use Rattle.fx_store.specs.declared.changes.Change.{Change}
use Rattle.fx_store.specs.declared.name.PathFault.{PathFault}
use Rattle.fx_store.specs.declared.name.PathFault.TheVariants.{BadName, TooDeep, NoMemory}
use Rattle.fx_store.specs.Faults.{extended, path_of, read_link}
use Rattle.fx_store.specs.Names.{is_slash, is_name, IsName, IsPath, IsNameSet, IsContent, IsLinkText, components, has_link_form}
use Rattle.fx_store.specs.Landings.{Resolves, arrived, stays, rises, lacks, enters, ends_at_file, stops_at_file, ends_at_link, follows, tires, IsTrueOf}
use Rattle.fx_store.specs.Resolve.{Component, CurDir, ParentDir, Normal, components_of, names_only, absent, ◌/ₚ◌, is_full, resolve, lands}
use Rattle.fx_store.specs.Rule.{Ask, Answer, answer, ◌>>=◌}
use Rattle.fx_store.specs.Whole.{Store, IsWhole, IsNode, lists, over}
use Rattle.fx_store.proofs.Asks.{answer-bind}
use Rattle.fx_store.proofs.Landings.{lands_by_the_rules, landings_are_true}
use Rattle.fx_store.proofs.Components.{AreNamed, named_append, link_named, path_named}
use Rattle.fx_store.proofs.WholeStores.{IsPath-root}
use Rattle.fx_expr.specs.Bindings.{bind}
use Rattle.fx_expr.specs.Eval.{Outcome, eval_of, text_in}
use Rattle.fx_expr.specs.Sets.{IsAscending, set_of}
use Rattle.fx_expr.specs.declared.fault.ExprFault.{ExprFault}
use Rattle.fx_expr.specs.ShapeTree.{ShapeTree}
use Rattle.fx_expr.specs.Tree.{Tree}
use Rattle.fx_text.proofs.Canon.{ascending_set}
use Rattle.fx_spec.specs.declared.refusal.Refusal.{Refusal}
use Rattle.fx_spec.specs.SpecTree.{SpecTree}
use Rattle.fx_spec.specs.Describe.{Bindings, with_some, exists, extension, focus_path, arguments, argument_evals, with_values, value}
use Rattle.fx_spec.specs.Place.{Step, First, Second, Inside, Down, Body, Elem, PlaceTree, placed, where_true, has_element, at_path, in_body, lead, place}
use Rattle.fx_spec.specs.Move.{Answered, unrefused, needed}
use Rattle.fx_spec.specs.Edit.{set_to, replaced, lacks_room, unless_deep, is_too_deep, new_names, renewed, is_flag, make, store_landed, names_node, link_node, form_node, is_content, is_storable, stored_node, follows_last, store_at, bare_node, create_landed, create_at, remove_landed}
use Rattle.fx_spec.specs.Laws.{KeepsWhole, EditsKeepWhole, PlacesHavePaths}
use Rattle.fx_spec.proofs.Behind.{answer-behind}
use Rattle.fx_spec.proofs.EditsWhole.{IsWhole-put}
use Rattle.fx_spec.proofs.EditsKeep.{same_ok, new_names_keep, remove_keeps}
use Rattle.fx_spec.proofs.EditsMake.{CanMake, make_keeps}

-- ------------------------------------------------------------------------------------------------------------- places

extended_path : (p : List (List ℕ)) (text : List ℕ) (q : List (List ℕ)) → IsPath p → extended p text ≡ Ok q → IsPath q
extended_path p text q ok e = at (list_all is_name (slice_split is_slash text)) refl e
  where
    long : (b : Bool) → nat_lt 64 (length (p ++ slice_split is_slash text)) ≡ b → All IsName (slice_split is_slash text) → ◌≡◌ {A = Result (List (List ℕ)) PathFault} (cond b (Err TooDeep) (Ok (p ++ slice_split is_slash text))) (Ok q) → IsPath q
    long true f names e = cc
    long false f names e =
        let same : p ++ slice_split is_slash text ≡ q = cc in
        subst IsPath same (record { names = All-append IsName p (slice_split is_slash text) ok.names names; short = ltb-false 64 (length (p ++ slice_split is_slash text)) f })

    at : (b : Bool) → list_all is_name (slice_split is_slash text) ≡ b → ◌≡◌ {A = Result (List (List ℕ)) PathFault} (cond b (path_of (p ++ slice_split is_slash text)) (Err BadName)) (Ok q) → IsPath q
    at true f e = long (nat_lt 64 (length (p ++ slice_split is_slash text))) refl (all_pass is_name (slice_split is_slash text) f) e
    at false f e = cc

focus_has_path : (p : List (List ℕ)) (o : Outcome) (env : Bindings) (s : SpecTree) (at : PlaceTree) → IsPath p → at_path env s (focus_path p o) ≡ Some at → IsPath at.path
focus_has_path p (Ok v) env s at ok e = by_extended (extended p (text_in v)) refl e
  where
    by_extended : (x : Result (List (List ℕ)) PathFault) → extended p (text_in v) ≡ x → at_path env s (extension x) ≡ Some at → IsPath at.path
    by_extended (Ok q) f e = subst (λ (a : PlaceTree). IsPath a.path) (same_Some (placed q env s) at e) (extended_path p (text_in v) q ok f)
    by_extended (Err BadName) f e = cc
    by_extended (Err TooDeep) f e = cc
    by_extended (Err NoMemory) f e = cc
focus_has_path p (Err f) env s at ok e = cc

option_path : (p : List (List ℕ)) (o : Option Tree) (place_of : Tree → PlaceTree) (at : PlaceTree) → ((v : Tree) → (place_of v).path ≡ p) → IsPath p → option_map place_of o ≡ Some at → IsPath at.path
option_path p None place_of at same ok e = cc
option_path p (Some v) place_of at same ok e = subst (λ (a : PlaceTree). IsPath a.path) (same_Some (place_of v) at e) (subst IsPath (sym (same v)) ok)

true_path : (b : Bool) (here at : PlaceTree) → IsPath here.path → where_true b here ≡ Some at → IsPath at.path
true_path true here at ok e = subst (λ (a : PlaceTree). IsPath a.path) (same_Some here at e) ok
true_path false here at ok e = cc

body_path : (p : List (List ℕ)) (params : List (List ℕ × ShapeTree)) (s : SpecTree) (vs : Result (List Tree) ExprFault) (at : PlaceTree) → IsPath p → in_body p params s vs ≡ Some at → IsPath at.path
body_path p params s (Ok vs) at ok e = subst (λ (a : PlaceTree). IsPath a.path) (same_Some (placed p (with_values params vs) s) at e) ok
body_path p params s (Err f) at ok e = cc

leads_to_path : (S : Store) (step : Step) (p : List (List ℕ)) (env : Bindings) (spec : SpecTree) (at : PlaceTree) → IsPath p → answer S (lead step p env spec) ≡ Some at → IsPath at.path
leads_to_path S First p env (SpecTree.pair x a b) at ok e = subst (λ (a : PlaceTree). IsPath a.path) (same_Some _ at e) ok
leads_to_path S Second p env (SpecTree.pair x a b) at ok e =
    option_path p (answer S (value p env a)) (λ v. placed p (bind env x v) b) at (λ v. refl) ok (sym (answer-bind S (value p env a) (λ v. Answer (option_map (λ v. placed p (bind env x v) b) v))) ∙ e)
leads_to_path S (Elem t) p env (SpecTree.comp s x e) at ok h = true_path (has_element t (eval_of env e)) (placed p (bind env x (Tree.str t)) s) at ok h
leads_to_path S Inside p env (SpecTree.opt s) at ok e =
    true_path (answer S (exists p)) (placed p env s) at ok (sym (answer-bind S (exists p) (λ there. Answer (where_true there (placed p env s)))) ∙ e)
leads_to_path S Down p env (SpecTree.focus e s) at ok h = focus_has_path p (eval_of env e) env s at ok h
leads_to_path S Body p env (SpecTree.call args params s) at ok h =
    body_path p params s (arguments env args) at ok (sym (answer-behind S (argument_evals env args) (Answer (in_body p params s (arguments env args)))) ∙ h)
leads_to_path S _ p env _ at ok e = cc

pub places_have_paths : PlacesHavePaths
unfolding place
places_have_paths S root [] at e = subst (λ (a : PlaceTree). IsPath a.path) (same_Some (placed [] [] root) at e) IsPath-root
places_have_paths S root (step ∷ above) at e =
    go (answer S (place root above)) (λ up f. places_have_paths S root above up f) refl (sym (answer-bind S (place root above) (with_some λ at. lead step at.path at.env at.spec)) ∙ e)
  where
    go : (o : Option PlaceTree) → ((up : PlaceTree) → answer S (place root above) ≡ Some up → IsPath up.path) → answer S (place root above) ≡ o → answer S (with_some (λ (at : PlaceTree). lead step at.path at.env at.spec) o) ≡ Some at → IsPath at.path
    go None next f e = cc
    go (Some up) next f e = leads_to_path S step up.path up.env up.spec at (next up f) e

-- ------------------------------------------------------------------------------------- the names of an absent landing

abbrev AllNames : List (List ℕ) → Type 0
AllNames [] = Unit {0}
AllNames (n ∷ names) = IsName n × AllNames names

abbrev HasNames : Landing → Type 0
HasNames (At q) = Unit {0}
HasNames (Absent here names) = AllNames names
HasNames (Blocked q) = Unit {0}
HasNames TooManyLinks = Unit {0}

names_only_are : (rest : List Component) (names : List (List ℕ)) → AreNamed rest → names_only rest ≡ Some names → AllNames names
names_only_are [] names ok e = subst AllNames (same_Some [] names e) tt
names_only_are (CurDir ∷ rest) names ok e = cc
names_only_are (ParentDir ∷ rest) names ok e = cc
names_only_are (Normal n ∷ rest) names ok e = at (names_only rest) refl e (λ more f. names_only_are rest more ok.1 f)
  where
    at : (o : Option (List (List ℕ))) → names_only rest ≡ o → option_map (λ ns. n ∷ ns) o ≡ Some names → ((more : List (List ℕ)) → names_only rest ≡ Some more → AllNames more) → AllNames names
    at None f e next = cc
    at (Some more) f e next = subst AllNames (same_Some (n ∷ more) names e) (ok.0, next more f)

missing_names : (here : List (List ℕ)) (rest : List Component) → AreNamed rest → HasNames (absent here (names_only rest))
missing_names here rest ok = at (names_only rest) refl
  where
    at : (o : Option (List (List ℕ))) → names_only rest ≡ o → HasNames (absent here o)
    at None e = tt
    at (Some names) e = names_only_are rest names ok e

resolved_names : (S : Store) → IsWhole S → (follow : Bool) {links : ℕ} {here : List (List ℕ)} {rest : List Component} {l : Landing} → Resolves S follow links here rest l → AreNamed rest → HasNames l
resolved_names S whole follow arrived ok = tt
resolved_names S whole follow (stays r) ok = resolved_names S whole follow r ok
resolved_names S whole follow (rises r) ok = resolved_names S whole follow r ok
resolved_names S whole follow (lacks {here = here} {n} {rest} e) ok = missing_names here (Normal n ∷ rest) ok
resolved_names S whole follow (enters e r) ok = resolved_names S whole follow r ok.1
resolved_names S whole follow (ends_at_file e) ok = tt
resolved_names S whole follow (stops_at_file e) ok = tt
resolved_names S whole follow (ends_at_link e g) ok = tt
resolved_names S whole follow (follows {here = here} {n} {text} {rest} e g r) ok =
    let link : IsLinkText text = subst (λ x. IfSome x (IsNode (here /ₚ n))) e (whole.nodes (here /ₚ n)) in
    resolved_names S whole follow r (named_append (components_of text) rest (link_named text link) ok.1)
resolved_names S whole follow (tires e g) ok = tt

pub landing_names : (S : Store) → IsWhole S → (p : List (List ℕ)) (follow : Bool) → IsPath p → HasNames (lands S p follow)
landing_names S whole p follow ok = resolved_names S whole follow ((lands_by_the_rules S whole p follow (lands S p follow)).1 refl) (path_named p ok.names)

all_names : (names : List (List ℕ)) → AllNames names → All IsName names
all_names [] ok = All-nil IsName
all_names (n ∷ names) ok = All-cons IsName n names ok.0 (all_names names ok.1)

-- ---------------------------------------------------------------------------------------------------------------- edits

-- a node within its limits wherever it stands
abbrev pub NodeOk : Node → Type 0
NodeOk (File bytes exec) = IsContent bytes
NodeOk (Dir names) = IsNameSet names
NodeOk (Link text) = IsLinkText text

names_node_ok : (names : List (List ℕ)) → IsAscending names → (node : Node) → names_node names ≡ Ok node → NodeOk node
names_node_ok names ascending node e = at (list_all is_name names) refl e
  where
    at : (b : Bool) → list_all is_name names ≡ b → ◌≡◌ {A = Answered Node} (cond b (Ok (Dir names)) (Err Refusal.BadName)) (Ok node) → NodeOk node
    at true f h = subst NodeOk (same_ok (Dir names) node h) (record { names = all_pass is_name names f; ascending = ascending })
    at false f h = cc

link_node_ok : (text : List ℕ) → IsContent text → (node : Node) → link_node (read_link text) ≡ Ok node → NodeOk node
link_node_ok text content node e = at (has_link_form text) (nat_lt 64 (length (components text))) refl refl e
  where
    at : (a b : Bool) → has_link_form text ≡ a → nat_lt 64 (length (components text)) ≡ b → link_node (cond a (cond b (Err TooDeep) (Ok text)) (Err BadName)) ≡ Ok node → NodeOk node
    at true true f g h = cc
    at true false f g h = subst NodeOk (same_ok (Link text) node h) (record { form = f; short = ltb-false 64 (length (components text)) g; bytes = content.bytes })
    at false b f g h = cc

content_ok : (bytes : List ℕ) → is_content bytes ≡ true → IsContent bytes
content_ok bytes e = record { short = leb-true (length bytes) 1048576 (first_true (nat_le (length bytes) 1048576) (list_all (λ b. nat_lt b 256) bytes) e); bytes = small bytes (second_true (nat_le (length bytes) 1048576) (list_all (λ b. nat_lt b 256) bytes) e) }
  where
    small : (bytes : List ℕ) → list_all (λ b. nat_lt b 256) bytes ≡ true → All (λ b. b < 256) bytes
    small bytes e = λ k d l. ltb-true (get_or bytes k d) 256 (all_pass (λ b. nat_lt b 256) bytes e k d l)

ascending_ok : (names : List (List ℕ)) → pointwise (pointwise nat_eq) (set_of names) names ≡ true → IsAscending names
ascending_ok names e = subst IsAscending (texts_exact (set_of names) names e) (ascending_set names)

form_node_ok : (spec : SpecTree) (v : Tree) → is_storable v ≡ true → (node : Node) → form_node spec v ≡ Ok node → NodeOk node
form_node_ok SpecTree.file (Tree.str bytes) ok node e = subst NodeOk (same_ok (File bytes false) node e) (content_ok bytes ok)
form_node_ok SpecTree.file (Tree.bool exec) ok node e = subst NodeOk (same_ok (File [] exec) node e) (record { short = omega arith; bytes = All-nil _ })
form_node_ok SpecTree.dir (Tree.names names) ok node e = names_node_ok names (ascending_ok names ok) node e
form_node_ok SpecTree.link (Tree.str text) ok node e = link_node_ok text (content_ok text ok) node e
form_node_ok _ v ok node e = cc

pub stored_node_ok : (spec : SpecTree) (v : Tree) (node : Node) → stored_node spec v ≡ Ok node → NodeOk node
stored_node_ok spec v node e = at (is_storable v) refl e
  where
    at : (b : Bool) → is_storable v ≡ b → ◌≡◌ {A = Answered Node} (cond b (form_node spec v) (Err Refusal.WrongForm)) (Ok node) → NodeOk node
    at true f h = form_node_ok spec v f node h
    at false f h = cc

both_false : (a b : Bool) → (a && b) ≡ false → (a ≡ true) → b ≡ false
both_false true b e h = e
both_false false b e h = absurd (true≢false (sym h))

-- a directory's names have room where the test says so
pub has_room : (q names : List (List ℕ)) → lacks_room q (Dir names) ≡ false → length q ≡ 64 → names ≡ []
has_room q [] e full = refl
has_room q (n ∷ names) e full =
    absurd (true≢false (sym (lt-ltb 0 (suc (length names)) (omega arith)) ∙ both_false (is_full q) (nat_lt 0 (length (n ∷ names))) e (lt-ltb 63 (length q) (omega (arith, full)))))

pub unless-ok : (b : Bool) (S : Store) (rule : Ask (Answered (List Change))) (cs : List Change) → answer S (unless_deep b rule) ≡ Ok cs → (b ≡ false) × (answer S rule ≡ Ok cs)
unless-ok true S rule cs e = cc
unless-ok false S rule cs e = (refl, e)

-- the content of a node that is there
pub renewed_node : (flag : Bool) (q : List (List ℕ)) (bytes old : List ℕ) (exec was : Bool) → IsContent bytes → IsContent old → IsNode q (renewed flag (File bytes exec) (File old was))
renewed_node true q bytes old exec was new h = h
renewed_node false q bytes old exec was new h = new

renewed_childless : (flag : Bool) (bytes old : List ℕ) (exec was : Bool) (n : List ℕ) → lists (Some (renewed flag (File bytes exec) (File old was))) n ≡ false
renewed_childless true bytes old exec was n = refl
renewed_childless false bytes old exec was n = refl

replaced_keeps : (S : Store) → IsWhole S → (flag : Bool) (q : List (List ℕ)) (node : Node) → NodeOk node → (x : Option Node) → S q ≡ x → (cs : List Change) → answer S (replaced flag q node x) ≡ Ok cs → IsWhole (over S cs)
replaced_keeps S whole flag q (File bytes exec) ok (Some (File old was)) there cs e =
    let held : IsContent old = subst (λ o. IfSome o (IsNode q)) there (whole.nodes q) in
    subst (λ cs. IsWhole (over S cs)) (same_ok (set_to q (renewed flag (File bytes exec) (File old was)) ∷ []) cs e) (
    IsWhole-put S q (File old was) (renewed flag (File bytes exec) (File old was)) whole there (λ names f. file_no_dir names f) (λ n. refl) (record { childless = λ n. renewed_childless flag bytes old exec was n; limits = renewed_node flag q bytes old exec was ok held }))
  where
    file_no_dir : (names : List (List ℕ)) → File old was ≡ Dir names → ⊥
    file_no_dir names f = cc
replaced_keeps S whole flag q (Link text) ok (Some (Link old)) there cs e =
    subst (λ cs. IsWhole (over S cs)) (same_ok (set_to q (Link text) ∷ []) cs e) (
    IsWhole-put S q (Link old) (Link text) whole there (λ names f. link_no_dir old names f) (λ n. refl) (record { childless = λ n. refl; limits = ok }))
  where
    link_no_dir : (old : List ℕ) (names : List (List ℕ)) → Link old ≡ Dir names → ⊥
    link_no_dir old names f = cc
replaced_keeps S whole flag q (Dir names) ok (Some (Dir old)) there cs e =
    let w : (lacks_room q (Dir names) ≡ false) × (answer S (new_names q old names) ≡ Ok cs) = unless-ok (lacks_room q (Dir names)) S (new_names q old names) cs e in
    new_names_keep S q old names whole there ok (λ full. has_room q names w.0 full) cs w.1
replaced_keeps S whole flag q node ok x there cs e = cc

can_make : (q : List (List ℕ)) (node : Node) → NodeOk node → lacks_room q node ≡ false → CanMake q node
can_make q (File bytes exec) ok e = ok
can_make q (Dir names) ok e = (ok, λ full. has_room q names e full)
can_make q (Link text) ok e = ok

pub not_too_deep : (here names : List (List ℕ)) (node : Node) → is_too_deep here names node ≡ false → (length here + length names ≤ 64) × (lacks_room (here ++ names) node ≡ false)
not_too_deep here names node e = at (nat_lt 64 (length here + length names)) refl e
  where
    at : (b : Bool) → nat_lt 64 (length here + length names) ≡ b → cond b true (lacks_room (here ++ names) node) ≡ false → (length here + length names ≤ 64) × (lacks_room (here ++ names) node ≡ false)
    at true f h = absurd (true≢false h)
    at false f h = (ltb-false 64 (length here + length names) f, h)

-- the node made at an absent landing
absent_keeps : (S : Store) → IsWhole S → (here names : List (List ℕ)) (node : Node) → NodeOk node → IsTrueOf S (Absent here names) → AllNames names → KeepsWhole S (unless_deep (is_too_deep here names node) (make here names node))
absent_keeps S whole here [] node ok true_of valid cs e = absurd true_of
absent_keeps S whole here (n ∷ names) node ok true_of valid cs e =
    let w : (is_too_deep here (n ∷ names) node ≡ false) × (answer S (make here (n ∷ names) node) ≡ Ok cs) = unless-ok (is_too_deep here (n ∷ names) node) S (make here (n ∷ names) node) cs e in
    let room : (length here + length (n ∷ names) ≤ 64) × (lacks_room (here ++ n ∷ names) node ≡ false) = not_too_deep here (n ∷ names) node w.0 in
    make_keeps S here n names node whole true_of.0.0 true_of.0.1 true_of.1 (all_names (n ∷ names) valid) (omega (arith, room.0)) (can_make (here ++ n ∷ names) node ok room.1) cs w.1

store_landed_keeps : (S : Store) → IsWhole S → (flag : Bool) (p : List (List ℕ)) (node : Node) → NodeOk node → (l : Landing) → IsTrueOf S l → HasNames l → KeepsWhole S (store_landed flag p node l)
store_landed_keeps S whole flag p node ok (At q) true_of names cs e = replaced_keeps S whole flag q node ok (S q) refl cs e
store_landed_keeps S whole flag p node ok (Absent here names) true_of valid cs e = absent_keeps S whole here names node ok true_of valid cs e
store_landed_keeps S whole flag p node ok (Blocked q) true_of names cs e = cc
store_landed_keeps S whole flag p node ok TooManyLinks true_of names cs e = cc

create_landed_keeps : (S : Store) → IsWhole S → (p : List (List ℕ)) (node : Node) → NodeOk node → (l : Landing) → IsTrueOf S l → HasNames l → KeepsWhole S (create_landed p node l)
create_landed_keeps S whole p node ok (At q) true_of names cs e = cc
create_landed_keeps S whole p node ok (Absent here names) true_of valid cs e = absent_keeps S whole here names node ok true_of valid cs e
create_landed_keeps S whole p node ok (Blocked q) true_of names cs e = cc
create_landed_keeps S whole p node ok TooManyLinks true_of names cs e = cc

remove_landed_keeps : (S : Store) → IsWhole S → (p : List (List ℕ)) (l : Landing) → IsTrueOf S l → KeepsWhole S (remove_landed p l)
remove_landed_keeps S whole p (At q) true_of cs e = remove_keeps S whole q true_of cs e
remove_landed_keeps S whole p (Absent here names) true_of cs e = cc
remove_landed_keeps S whole p (Blocked q) true_of cs e = cc
remove_landed_keeps S whole p TooManyLinks true_of cs e = cc

pub bare_node_ok : (spec : SpecTree) (node : Node) → needed Refusal.NoDefault (bare_node spec) ≡ Ok node → NodeOk node
bare_node_ok SpecTree.file node e = subst NodeOk (same_ok (File [] false) node e) (record { short = omega arith; bytes = All-nil _ })
bare_node_ok SpecTree.dir node e = subst NodeOk (same_ok (Dir []) node e) (record { names = All-nil _; ascending = ascending_set [] })
bare_node_ok (SpecTree.pair x a b) node e = bare_node_ok a node e
bare_node_ok (SpecTree.opt s) node e = bare_node_ok s node e
bare_node_ok _ node e = cc

store_keeps : (S : Store) → IsWhole S → (at : PlaceTree) → IsPath at.path → (v : Tree) → KeepsWhole S (store_at v at)
store_keeps S whole at ok v cs e = go (stored_node at.spec v) refl e
  where
    go : (x : Answered Node) → stored_node at.spec v ≡ x → answer S (unrefused (λ node. resolve at.path (follows_last node) >>= store_landed (is_flag v) at.path node) x) ≡ Ok cs → IsWhole (over S cs)
    go (Err f) g h = cc
    go (Ok node) g h =
        store_landed_keeps S whole (is_flag v) at.path node (stored_node_ok at.spec v node g) (lands S at.path (follows_last node)) (landings_are_true S whole at.path (follows_last node)) (landing_names S whole at.path (follows_last node) ok)
        cs (sym (answer-bind S (resolve at.path (follows_last node)) (store_landed (is_flag v) at.path node)) ∙ h)

create_keeps : (S : Store) → IsWhole S → (at : PlaceTree) → IsPath at.path → KeepsWhole S (create_at at)
create_keeps S whole at ok cs e = go (needed Refusal.NoDefault (bare_node at.spec)) refl e
  where
    go : (x : Answered Node) → needed Refusal.NoDefault (bare_node at.spec) ≡ x → answer S (unrefused (λ node. resolve at.path false >>= create_landed at.path node) x) ≡ Ok cs → IsWhole (over S cs)
    go (Err f) g h = cc
    go (Ok node) g h =
        create_landed_keeps S whole at.path node (bare_node_ok at.spec node g) (lands S at.path false) (landings_are_true S whole at.path false) (landing_names S whole at.path false ok)
        cs (sym (answer-bind S (resolve at.path false) (create_landed at.path node)) ∙ h)

pub edits_keep_whole : EditsKeepWhole
edits_keep_whole = record {
  store = store_keeps;
  create = create_keeps;
  remove = λ S whole at ok cs e. remove_landed_keeps S whole at.path (lands S at.path false) (landings_are_true S whole at.path false) cs (sym (answer-bind S (resolve at.path false) (remove_landed at.path)) ∙ e);
}
