-- An edit looks at each path that it changes.
use Rattle.std.proofs.Common.{◌≡◌, ℕ, zero, suc, ◌-◌, Bool, true, false, cond, refl, sym, subst, List, [], ◌∷◌, ◌++◌, length, Option, Some, None, Ok, Err}
use Rattle.std.specs.Prelude.{IsSome}
use Rattle.fx_store.specs.declared.node.Node.{Node}
use Rattle.fx_store.specs.declared.node.Node.TheVariants.{File, Dir, Link}
use Rattle.fx_store.specs.declared.node.Landing.{Landing}
use Rattle.fx_store.specs.declared.node.Landing.TheVariants.{At, Absent, Blocked, TooManyLinks}
use Rattle.fx_store.specs.declared.changes.Change.{Change}
use Rattle.fx_store.specs.Changes.{changed_paths}
use Rattle.fx_store.specs.Names.{has}
use Rattle.fx_store.specs.Resolve.{resolve, ◌/ₚ◌, parent}
use Rattle.fx_store.specs.Rule.{Ask, Answer, Look, Tick, Known, Found, seen, if_known, follow, look_all, AllKnown, ◌>>=◌}
use Rattle.fx_expr.specs.Sets.{set_of, with_text}
use Rattle.fx_expr.specs.Tree.{Tree}
use Rattle.fx_spec.specs.declared.refusal.Refusal.{Refusal}
use Rattle.fx_spec.specs.Edit.{renewed, is_flag, set_to, removed, names_of, cleared, clear_levels, clear, entry, entries, new_names, lacks_room, unless_deep, replaced, made, make, is_too_deep, store_landed, stored_node, follows_last, store_at, bare_node, create_landed, create_at, last_name, remove_entry, remove_landed, remove_at}
use Rattle.fx_spec.specs.EditLooks.{EditsLookAtChanges}
use Rattle.fx_spec.specs.Move.{Answered, unrefused, needed}
use Rattle.fx_spec.specs.Place.{PlaceTree}
use Rattle.fx_base.specs.Sets.{without_name}

abbrev Path : Type 0
Path = List (List ℕ)

module _ (known own : Known) where
  -- whatever the rule answers by what is known is so
  abbrev Gives : {A : Type 0} → Ask A → (A → Type 0) → Type 0
  Gives {A} rule P = (x : A) → follow known own rule ≡ Found x → P x

  gives_then : {A B : Type 0} (rule : Ask A) (f : A → Ask B) (P : A → Type 0) (Q : B → Type 0) → Gives rule P → ((x : A) → P x → Gives (f x) Q) → Gives (rule >>= f) Q
  gives_then (Answer a) f P Q first next y e = next a (first a refl) y e
  gives_then (Tick rule) f P Q first next y e = gives_then rule f P Q first next y e
  gives_then {A} {B} (Look p rule) f P Q first next y e = by (known p) (λ n. gives_then (rule (seen (own p) n)) f P Q) first e
    where
      by : (k : Option (Option Node)) → ((n : Option Node) → Gives (rule (seen (own p) n)) P → ((x : A) → P x → Gives (f x) Q) → Gives (rule (seen (own p) n) >>= f) Q)
          → ((x : A) → if_known p k (λ n. follow known own (rule (seen (own p) n))) ≡ Found x → P x)
          → if_known p k (λ n. follow known own (rule (seen (own p) n) >>= f)) ≡ Found y → Q y
      by None rest first e = cc
      by (Some n) rest first e = rest n first next y e

  gives_look : {A : Type 0} (p : Path) (next : Option Node → Ask A) (Q : A → Type 0) → ((n : Option Node) → IsSome (known p) → Gives (next n) Q) → Gives (Look p next) Q
  gives_look {A} p next Q rest x e = by (known p) refl e
    where
      by : (k : Option (Option Node)) → known p ≡ k → if_known p k (λ n. follow known own (next (seen (own p) n))) ≡ Found x → Q x
      by None at e = cc
      by (Some n) at e = rest (seen (own p) n) (subst (λ o. IsSome o) (sym at) refl) x e

  -- what is answered of any rule
  gives_any : {A : Type 0} (rule : Ask A) → Gives rule (λ _. Unit {0})
  gives_any rule x e = tt

  abbrev AreKnown : List Change → Type 0
  AreKnown cs = AllKnown known (changed_paths cs)

  -- the changes of an edit that is not refused
  abbrev AreKnownOf : Answered (List Change) → Type 0
  AreKnownOf (Ok cs) = AreKnown cs
  AreKnownOf (Err refusal) = Unit {0}

  gives_changes : (cs : List Change) → AreKnown cs → Gives (Answer cs) AreKnown
  gives_changes cs all x e = let same : cs ≡ x = cc in subst (λ cs. AllKnown known (changed_paths cs)) same all

  gives_ok : (cs : List Change) → AreKnown cs → Gives (Answer (Ok cs)) AreKnownOf
  gives_ok cs all (Ok x) e = let same : cs ≡ x = cc in subst (λ cs. AllKnown known (changed_paths cs)) same all
  gives_ok cs all (Err r) e = tt

  gives_refusal : (refusal : Refusal) → Gives (Answer (Err refusal)) AreKnownOf
  gives_refusal refusal (Ok x) e = cc
  gives_refusal refusal (Err r) e = tt

  both_known : (a b : List Change) → AreKnown a → AreKnown b → AreKnown (a ++ b)
  both_known [] b first rest = rest
  both_known (c ∷ a) b first rest = (first.0, both_known a b first.1 rest)

  -- ---- removals

  clears_all : (clear : Path → Ask (List Change)) (q : Path) (names : List (List ℕ)) → ((p : Path) → Gives (clear p) AreKnown) → Gives (entries (λ n. clear (q /ₚ n)) names) AreKnown
  clears_all clear q [] each = gives_changes [] tt
  clears_all clear q (n ∷ names) each =
      gives_then (clear (q /ₚ n)) (λ first. entries (λ n. clear (q /ₚ n)) names >>= λ rest. Answer (first ++ rest)) AreKnown AreKnown (each (q /ₚ n)) (λ first is.
      gives_then (entries (λ n. clear (q /ₚ n)) names) (λ rest. Answer (first ++ rest)) AreKnown AreKnown (clears_all clear q names each) (λ rest are. gives_changes (first ++ rest) (both_known first rest is are)))

  cleared_known : (clear : Path → Ask (List Change)) (q : Path) (node : Option Node) → ((p : Path) → Gives (clear p) AreKnown) → IsSome (known q) → Gives (cleared q clear node) AreKnown
  cleared_known clear q None each is = gives_changes [] tt
  cleared_known clear q (Some node) each is =
      gives_then (entries (λ n. clear (q /ₚ n)) (names_of (Some node))) (λ below. Answer (removed q ∷ below)) AreKnown AreKnown (clears_all clear q (names_of (Some node)) each) (λ below are. gives_changes (removed q ∷ below) (is, are))

  clears : (levels : ℕ) (q : Path) → Gives (clear_levels levels q) AreKnown
  clears zero q = gives_changes [] tt
  clears (suc levels) q =
      gives_look q (cleared q (λ p. clear_levels levels p)) AreKnown (λ node is. cleared_known (λ p. clear_levels levels p) q node (λ p. clears levels p) is)

  clear_known : (q : Path) → Gives (clear q) AreKnown
  unfolding clear
  clear_known q = clears (65 - length q) q

  -- ---- a directory's new names

  entry_known : (q : Path) (old new : List (List ℕ)) (n : List ℕ) → Gives (entry q old new n) AreKnown
  entry_known q old new n = by (has new n) (has old n)
    where
      by : (a b : Bool) → Gives (cond a (cond b (Answer []) (Look (q /ₚ n) (λ node. Answer (set_to (q /ₚ n) (File [] false) ∷ [])))) (clear (q /ₚ n))) AreKnown
      by true true = gives_changes [] tt
      by true false = gives_look (q /ₚ n) (λ node. Answer (set_to (q /ₚ n) (File [] false) ∷ [])) AreKnown (λ node is. gives_changes (set_to (q /ₚ n) (File [] false) ∷ []) (is, tt))
      by false b = clear_known (q /ₚ n)

  entries_known : (change : List ℕ → Ask (List Change)) (names : List (List ℕ)) → ((n : List ℕ) → Gives (change n) AreKnown) → Gives (entries change names) AreKnown
  entries_known change [] each = gives_changes [] tt
  entries_known change (n ∷ names) each =
      gives_then (change n) (λ first. entries change names >>= λ rest. Answer (first ++ rest)) AreKnown AreKnown (each n) (λ first is.
      gives_then (entries change names) (λ rest. Answer (first ++ rest)) AreKnown AreKnown (entries_known change names each) (λ rest are. gives_changes (first ++ rest) (both_known first rest is are)))

  unless_deep_known : (b : Bool) (rule : Ask (Answered (List Change))) → Gives rule AreKnownOf → Gives (unless_deep b rule) AreKnownOf
  unless_deep_known true rule given = gives_refusal Refusal.TooDeep
  unless_deep_known false rule given = given

  new_names_known : (q : Path) (old new : List (List ℕ)) → IsSome (known q) → Gives (new_names q old new) AreKnownOf
  new_names_known q old new is =
      gives_then (entries (entry q old new) (set_of (old ++ new))) (λ below. Answer (Ok (set_to q (Dir new) ∷ below))) AreKnown AreKnownOf (entries_known (entry q old new) (set_of (old ++ new)) (λ n. entry_known q old new n)) (λ below are. gives_ok (set_to q (Dir new) ∷ below) (is, are))

  -- ---- stores

  replaced_known : (flag : Bool) (q : Path) (node : Node) (found : Option Node) → IsSome (known q) → Gives (replaced flag q node found) AreKnownOf
  replaced_known flag q (File bytes exec) (Some (File old exec2)) is = gives_ok (set_to q (renewed flag (File bytes exec) (File old exec2)) ∷ []) (is, tt)
  replaced_known flag q (File bytes exec) (Some (Dir old)) is = gives_refusal (Refusal.Blocked q)
  replaced_known flag q (File bytes exec) (Some (Link old)) is = gives_refusal (Refusal.Blocked q)
  replaced_known flag q (File bytes exec) None is = gives_refusal (Refusal.Blocked q)
  replaced_known flag q (Dir names) (Some (File old exec)) is = gives_refusal (Refusal.Blocked q)
  replaced_known flag q (Dir names) (Some (Dir old)) is = unless_deep_known (lacks_room q (Dir names)) (new_names q old names) (new_names_known q old names is)
  replaced_known flag q (Dir names) (Some (Link old)) is = gives_refusal (Refusal.Blocked q)
  replaced_known flag q (Dir names) None is = gives_refusal (Refusal.Blocked q)
  replaced_known flag q (Link text) (Some (File old exec)) is = gives_refusal (Refusal.Blocked q)
  replaced_known flag q (Link text) (Some (Dir old)) is = gives_refusal (Refusal.Blocked q)
  replaced_known flag q (Link text) (Some (Link old)) is = gives_ok (set_to q (Link text) ∷ []) (is, tt)
  replaced_known flag q (Link text) None is = gives_refusal (Refusal.Blocked q)

  look_all_known : {A : Type 0} (ps : List Path) (rule : Ask A) (Q : A → Type 0) → (AllKnown known ps → Gives rule Q) → Gives (look_all ps rule) Q
  look_all_known [] rule Q given = given tt
  look_all_known (p ∷ ps) rule Q given = gives_look p (λ n. look_all ps rule) Q (λ n is. look_all_known ps rule Q (λ all. given (is, all)))

  make_known : (here : Path) (names : List (List ℕ)) (node : Node) → Gives (make here names node) AreKnownOf
  make_known here [] node = gives_refusal (Refusal.Blocked here)
  make_known here (n ∷ names) node =
      let changes : List Change = made here n names node in
      gives_look here (λ found. look_all (changed_paths changes) (Answer (Ok (set_to here (Dir (with_text n (names_of found))) ∷ changes)))) AreKnownOf (λ found is.
      look_all_known (changed_paths changes) (Answer (Ok (set_to here (Dir (with_text n (names_of found))) ∷ changes))) AreKnownOf (λ all. gives_ok (set_to here (Dir (with_text n (names_of found))) ∷ changes) (is, all)))

  store_landed_known : (flag : Bool) (p : Path) (node : Node) (landing : Landing) → Gives (store_landed flag p node landing) AreKnownOf
  store_landed_known flag p node (At q) = gives_look q (replaced flag q node) AreKnownOf (λ found is. replaced_known flag q node found is)
  store_landed_known flag p node (Absent here names) = unless_deep_known (is_too_deep here names node) (make here names node) (make_known here names node)
  store_landed_known flag p node (Blocked q) = gives_refusal (Refusal.Blocked q)
  store_landed_known flag p node TooManyLinks = gives_refusal (Refusal.Blocked p)

  create_landed_known : (p : Path) (node : Node) (landing : Landing) → Gives (create_landed p node landing) AreKnownOf
  create_landed_known p node (At q) = gives_refusal Refusal.Exists
  create_landed_known p node (Absent here names) = unless_deep_known (is_too_deep here names node) (make here names node) (make_known here names node)
  create_landed_known p node (Blocked q) = gives_refusal (Refusal.Blocked q)
  create_landed_known p node TooManyLinks = gives_refusal (Refusal.Blocked p)

  -- ---- the edits

  landed : (rule : Ask Landing) (next : Landing → Ask (Answered (List Change))) → ((l : Landing) → Gives (next l) AreKnownOf) → Gives (rule >>= next) AreKnownOf
  landed rule next each = gives_then rule next (λ _. Unit {0}) AreKnownOf (gives_any rule) (λ l _. each l)

  unrefused_known : {A : Type 0} (next : A → Ask (Answered (List Change))) (found : Answered A) → ((a : A) → Gives (next a) AreKnownOf) → Gives (unrefused next found) AreKnownOf
  unrefused_known next (Ok a) each = each a
  unrefused_known next (Err refusal) each = gives_refusal refusal

  store_known : (v : Tree) (at : PlaceTree) → Gives (store_at v at) AreKnownOf
  store_known v at =
      unrefused_known (λ node. resolve at.path (follows_last node) >>= store_landed (is_flag v) at.path node) (stored_node at.spec v) (λ node. landed (resolve at.path (follows_last node)) (store_landed (is_flag v) at.path node) (store_landed_known (is_flag v) at.path node))

  create_known : (at : PlaceTree) → Gives (create_at at) AreKnownOf
  create_known at =
      unrefused_known (λ node. resolve at.path false >>= create_landed at.path node) (needed Refusal.NoDefault (bare_node at.spec)) (λ node. landed (resolve at.path false) (create_landed at.path node) (create_landed_known at.path node))

  remove_entry_known : (q : Path) → Gives (remove_entry q) AreKnownOf
  remove_entry_known [] = gives_refusal (Refusal.Blocked [])
  remove_entry_known (n ∷ names) =
      let q : Path = n ∷ names in
      gives_look (parent q) (λ above. clear q >>= λ below. Answer (Ok (set_to (parent q) (Dir (without_name (last_name q) (names_of above))) ∷ below))) AreKnownOf (λ above is.
      gives_then (clear q) (λ below. Answer (Ok (set_to (parent q) (Dir (without_name (last_name q) (names_of above))) ∷ below))) AreKnown AreKnownOf (clear_known q) (λ below are. gives_ok (set_to (parent q) (Dir (without_name (last_name q) (names_of above))) ∷ below) (is, are)))

  remove_landed_known : (p : Path) (landing : Landing) → Gives (remove_landed p landing) AreKnownOf
  remove_landed_known p (At q) = remove_entry_known q
  remove_landed_known p (Absent here names) = gives_refusal Refusal.Absent
  remove_landed_known p (Blocked q) = gives_refusal (Refusal.Blocked q)
  remove_landed_known p TooManyLinks = gives_refusal (Refusal.Blocked p)

  remove_known : (at : PlaceTree) → Gives (remove_at at) AreKnownOf
  remove_known at = landed (resolve at.path false) (remove_landed at.path) (remove_landed_known at.path)

pub edits_look_at_changes : EditsLookAtChanges
edits_look_at_changes = record {
  store = λ known own v at changes e. store_known known own v at (Ok changes) e;
  create = λ known own at changes e. create_known known own at (Ok changes) e;
  remove = λ known own at changes e. remove_known known own at (Ok changes) e;
}
