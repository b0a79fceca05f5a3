-- What is made at missing names, step by step.
use Rattle.std.proofs.Common.{◌≡◌, ℕ, ◌+◌, ◌<◌, ◌≤◌, Bool, true, false, cond, List, [], ◌∷◌, ◌++◌, map, length, drop, Option, Some, None, Ok, Err, refl, sym, ap, ◌∙◌, arith, append_assoc, length-append, length-drop}
use Rattle.std.specs.Prelude.{slice_get, nat_lt, ◌&&◌}
use Rattle.std.proofs.lemmas.Bool.Decides.{nat_tests}
use Rattle.std.proofs.lemmas.List.{append-nil, drop_all}
use mathlib.Core.Path.{fun_ext}
use Rattle.fx_base.proofs.Lists.{drop_next}
use Rattle.fx_store.specs.declared.node.Node.{Node}
use Rattle.fx_store.specs.declared.node.Node.TheVariants.{File, Dir, Link}
use Rattle.fx_store.specs.declared.changes.Change.{Change}
use Rattle.fx_store.specs.Changes.{changed_paths}
use Rattle.fx_store.specs.Resolve.{◌/ₚ◌, is_full}
use Rattle.fx_store.specs.Rule.{Ask, Answer, Look, ◌>>=◌, look_all}
use Rattle.fx_expr.specs.Sets.{with_text}
use Rattle.fx_spec.specs.declared.refusal.Refusal.{Refusal}
use Rattle.fx_spec.specs.Edit.{set_to, names_of, children, made, make, lacks_room, is_too_deep}
use Rattle.fx_spec.specs.Move.{Answered}
use Rattle.fx_view.proofs.Lists.{drop_past}
use Rattle.fx_edit.specs.Kinds.{lists_some}
use Rattle.fx_edit.specs.Rules.{edit_answer, looking, made_node, made_along, made_all, made_in, IsNextMade}

abbrev Path : Type 0
Path = List (List ℕ)

-- ---- the rules

made-is : (here : Path) (n : List ℕ) (names : List (List ℕ)) (node : Node) → made here n names node ≡ made_all here (n ∷ names) node
made-is here n [] node = refl
made-is here n (m ∷ names) node =
    ap (λ (cs : List Change). set_to (here /ₚ n) (Dir (m ∷ [])) ∷ cs)
    (made-is (here /ₚ n) m names node ∙ ap (λ (p : Path). made_along (here /ₚ n) (m ∷ names) node ++ children p node) (append_assoc here (n ∷ []) (m ∷ names)))

look_all-bind : {A B : Type 0} (ps : List Path) (x : A) (f : A → Ask B) → (look_all ps (Answer x) >>= f) ≡ look_all ps (f x)
look_all-bind [] x f = refl
look_all-bind {A} {B} (p ∷ ps) x f = ap (λ (r : Ask B). Look p (λ n. r)) (look_all-bind ps x f)

-- the looks, and then an answer of an edit
looks-editing : (ps : List Path) (x : List Change) → (looking ps >>= λ u. Answer x) >>= (λ cs. Answer (Ok cs)) ≡ look_all {A = Answered (List Change)} ps (Answer (Ok x))
looks-editing ps x = ap (λ (r : Ask (List Change)). r >>= λ cs. Answer (Ok cs)) (look_all-bind ps tt (λ u. Answer x)) ∙ look_all-bind ps x (λ cs. Answer (Ok cs))

pub make-is : (here : Path) (names : List (List ℕ)) (n : List ℕ) (node : Node) → slice_get names 0 ≡ Some n → make here names node ≡ edit_answer (made_in here n (made_all here names node))
make-is here [] n node first = cc
make-is here (m ∷ names) n node first =
    let same : m ≡ n = cc in
    ap (λ (f : Option Node → Ask (Answered (List Change))). Look here f) (fun_ext (λ found.
    ap (λ (cs : List Change). look_all {A = Answered (List Change)} (changed_paths cs) (Answer (Ok (set_to here (Dir (with_text m (names_of found))) ∷ cs)))) (made-is here m names node)
    ∙ (ap (λ (l : List ℕ). look_all {A = Answered (List Change)} (changed_paths (made_all here (m ∷ names) node)) (Answer (Ok (set_to here (Dir (with_text l (names_of found))) ∷ made_all here (m ∷ names) node)))) same
    ∙ sym (looks-editing (changed_paths (made_all here (m ∷ names) node)) (set_to here (Dir (with_text n (names_of found))) ∷ made_all here (m ∷ names) node)))))

pub make-none : (here : Path) (names : List (List ℕ)) (node : Node) → slice_get names 0 ≡ None → make here names node ≡ Answer (Err (Refusal.Blocked here))
make-none here [] node first = refl
make-none here (m ∷ names) node first = cc

-- ---- how deep

pub deep_over : (here : Path) (names : List (List ℕ)) (node : Node) → 64 < length here + length names → is_too_deep here names node ≡ true
deep_over here names node over = let t : nat_lt 64 (length here + length names) ≡ true = grind (arith, nat_tests) in ap (λ b. cond b true (lacks_room (here ++ names) node)) t

not_deep : (here : Path) (names : List (List ℕ)) (node : Node) → length here + length names ≤ 64 → is_too_deep here names node ≡ lacks_room (here ++ names) node
not_deep here names node short = let f : nat_lt 64 (length here + length names) ≡ false = grind (arith, nat_tests) in ap (λ b. cond b true (lacks_room (here ++ names) node)) f

room_under : (q : Path) (node : Node) → length q < 64 → lacks_room q node ≡ false
room_under q (File bytes exec) short = refl
room_under q (Dir names) short = let f : is_full q ≡ false = grind (arith, nat_tests) in ap (λ b. b && nat_lt 0 (length names)) f
room_under q (Link text) short = refl

room_at : (q : Path) (node : Node) → 64 ≤ length q → lacks_room q node ≡ lists_some node
room_at q (File bytes exec) full = refl
room_at q (Dir names) full = let t : is_full q ≡ true = grind (arith, nat_tests) in ap (λ b. b && nat_lt 0 (length names)) t
room_at q (Link text) full = refl

pub deep_under : (here : Path) (names : List (List ℕ)) (node : Node) → length here + length names < 64 → is_too_deep here names node ≡ false
deep_under here names node short = not_deep here names node (omega arith) ∙ room_under (here ++ names) node (omega (arith, length-append here names))

pub deep_at : (here : Path) (names : List (List ℕ)) (node : Node) → length here + length names ≤ 64 → 64 ≤ length here + length names → is_too_deep here names node ≡ lists_some node
deep_at here names node short full = not_deep here names node short ∙ room_at (here ++ names) node (omega (arith, length-append here names))

-- a directory with a name, where there is room, has a path of less than 64 names
pub room_short : (q : Path) (names : List (List ℕ)) → lacks_room q (Dir names) ≡ false → 0 < length names → length q < 64
room_short q names e some = at (is_full q) refl e
  where
    one : nat_lt 0 (length names) ≡ true
    one = grind (arith, nat_tests)

    at : (b : Bool) → is_full q ≡ b → b && nat_lt 0 (length names) ≡ false → length q < 64
    at true f e = let bad : true ≡ false = sym one ∙ e in cc
    at false f e = grind (arith, nat_tests)

-- ---- along the names

-- so many of the names are made
pub record IsMaking (here : Path) (names : List (List ℕ)) (node : Node) (begun : List Change) (path : Path) (so_far : List Change) (i : ℕ) : Type 0 where
  pub rest : so_far ++ made_along path (drop i names) node ≡ begun ++ made_along here names node
  pub whole : path ++ drop i names ≡ here ++ names

module _ (here : Path) (names : List (List ℕ)) (node : Node) (begun : List Change) where
  pub making_next : (path more : Path) (so_far longer : List Change) (i : ℕ) → IsMaking here names node begun path so_far i → IsNextMade names i node path more so_far longer → IsMaking here names node begun more longer (i + 1)
  making_next path more so_far longer i is next =
      let n = next.name in
      let rest = drop (i + 1) names in
      let here_is : drop i names ≡ n ∷ rest = drop_next names i n next.here in
      record {
        rest =
            ap (λ cs. cs ++ made_along more rest node) next.added
            ∙ (append_assoc so_far (set_to more (made_node rest node) ∷ []) (made_along more rest node)
            ∙ (ap (λ p. so_far ++ set_to p (made_node rest node) ∷ made_along p rest node) next.longer
            ∙ (ap (λ ns. so_far ++ made_along path ns node) (sym here_is) ∙ is.rest)));
        whole = ap (λ p. p ++ rest) next.longer ∙ (append_assoc path (n ∷ []) rest ∙ (ap (λ ns. path ++ ns) (sym here_is) ∙ is.whole));
      }

  pub making_short : (path : Path) (so_far : List Change) (i : ℕ) → IsMaking here names node begun path so_far i → length here + length names ≤ 64 → i < length names → length path < 64
  making_short path so_far i is short within =
      let same : length path + length (drop i names) ≡ length here + length names = sym (length-append path (drop i names)) ∙ (ap (λ (p : Path). length p) is.whole ∙ length-append here names) in
      omega (arith, length-drop i names)

  pub making_ends : (path : Path) (so_far : List Change) (i : ℕ) → IsMaking here names node begun path so_far i → length names ≤ i → (path ≡ here ++ names) × (so_far ≡ begun ++ made_along here names node)
  making_ends path so_far i is past =
      let none : drop i names ≡ [] = drop_all i names past in (
        sym (append-nil path) ∙ (ap (λ ns. path ++ ns) (sym none) ∙ is.whole),
        sym (append-nil so_far) ∙ (ap (λ ns. so_far ++ made_along path ns node) (sym none) ∙ is.rest),
      )

-- ---- what is made at one name

module _ (names : List (List ℕ)) (i : ℕ) (node : Node) where
  pub before_some : (m : List ℕ) (one : List (List ℕ)) → slice_get names i ≡ Some m → one ≡ m ∷ [] → Dir one ≡ made_node (drop i names) node
  before_some m one here is = ap (λ (ns : List (List ℕ)). Dir ns) is ∙ ap (λ ns. made_node ns node) (sym (drop_next names i m here))

  pub before_none : (copied : Node) → slice_get names i ≡ None → copied ≡ node → copied ≡ made_node (drop i names) node
  before_none copied past is = is ∙ ap (λ ns. made_node ns node) (sym (drop_past names i past))

-- ---- the files that a new directory lists

abbrev pub file_at : Path → List ℕ → Change
file_at path n = set_to (path /ₚ n) (File [] false)

-- these names are left
pub record AreFiles (path : Path) (names : List (List ℕ)) (begun so_far : List Change) (left : List (List ℕ)) : Type 0 where
  pub rest : so_far ++ map (file_at path) left ≡ begun ++ map (file_at path) names
  pub few : length left ≤ length names

module _ (path : Path) (names : List (List ℕ)) (begun so_far : List Change) (left : List (List ℕ)) (is : AreFiles path names begun so_far left) where
  pub files_next : (longer : List Change) (n : List ℕ) (more : List (List ℕ)) → left ≡ n ∷ more → longer ≡ so_far ++ file_at path n ∷ [] → AreFiles path names begun longer more
  files_next longer n more here added = record {
    rest =
        ap (λ cs. cs ++ map (file_at path) more) added
        ∙ (append_assoc so_far (file_at path n ∷ []) (map (file_at path) more)
        ∙ (ap (λ ns. so_far ++ map (file_at path) ns) (sym here) ∙ is.rest));
    few = omega (arith, ap (λ (ns : List (List ℕ)). length ns) here, is.few);
  }

  pub files_short : (n : List ℕ) (more : List (List ℕ)) → left ≡ n ∷ more → lacks_room path (Dir names) ≡ false → length path < 64
  files_short n more here room = room_short path names room (omega (arith, ap (λ (ns : List (List ℕ)). length ns) here, is.few))

  pub files_end : left ≡ [] → so_far ≡ begun ++ map (file_at path) names
  files_end none = sym (append-nil so_far) ∙ (ap (λ ns. so_far ++ map (file_at path) ns) (sym none) ∙ is.rest)
