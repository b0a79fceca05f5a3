-- Worked transactions at the limits of resolution and of paths.
use Rattle.std.specs.Prelude.{◌≡◌, ℕ, zero, suc, true, false, List, [], ◌∷◌, ◌++◌, map, take, drop, reverse, codes}
use Rattle.std.specs.List.{flat_map, join_with_byte}
use Rattle.fx_store.specs.declared.node.Node.{Node}
use Rattle.fx_store.specs.declared.node.Node.TheVariants.{File, Dir, Link}
use Rattle.fx_store.specs.declared.node.Landing.TheVariants.{At, TooManyLinks}
use Rattle.fx_store.specs.declared.changes.Change.{Change}
use Rattle.fx_store.specs.Examples.{store_of}
use Rattle.fx_store.specs.Resolve.{lands}
use Rattle.fx_store.specs.Whole.{Store, over}
use Rattle.fx_spec.specs.declared.refusal.Refusal.{Refusal}
use Rattle.fx_spec.specs.declared.refusal.End.{End}
use Rattle.fx_spec.specs.SpecTree.{SpecTree}
use Rattle.fx_spec.specs.CommandTree.{ActTree}
use Rattle.fx_spec.specs.Edit.{set_to}
use Rattle.fx_spec.specs.Examples.{Does, text}
use Rattle.fx_laws.specs.Left.{Leaves}
use Rattle.fx_laws.specs.Shorthands.{file_at, into, next, down, store, create, fetch_text, show, try_and_show, texts, numbers}

-- ---- a chain of links

-- the names l01 to l41
abbrev pub link_names : List (List ℕ)
link_names = take 41 (drop 1 (flat_map (λ tens. map (λ units. 108 ∷ tens ∷ units ∷ []) (codes "0123456789")) (codes "01234")))

-- links with these names, each to the one before it
abbrev pub chain : List ℕ → List (List ℕ) → List (List (List ℕ) × Node)
chain before [] = []
chain before (n ∷ names) = (n ∷ [], Link before) ∷ chain n names

-- the file `f`, a chain of links to it, and other entries
abbrev pub with_chain : List (List ℕ) → List (List (List ℕ) × Node) → Store
with_chain names others = store_of (([], Dir (codes "f" ∷ names)) ∷ (codes "f" ∷ [], File (codes "x") false) ∷ others)

-- 41 links, one after another
abbrev pub long_chain : Store
long_chain = with_chain link_names (chain (codes "f") link_names)

-- in place of the last link of the chain one to itself
abbrev pub with_loop : Store
with_loop = with_chain (take 40 link_names ++ codes "s" ∷ []) (chain (codes "f") (take 40 link_names) ++ (codes "s" ∷ [], Link (codes "s")) ∷ [])

-- the file at the end of 40 links, and another one
abbrev pub chained : List ℕ → SpecTree
chained other = SpecTree.pair (codes "a") (file_at (codes "l40")) (file_at other)

-- the paths from the fortieth link on to the file
abbrev pub forty_links : List (List (List ℕ))
forty_links = map (λ n. n ∷ []) (reverse (take 40 link_names)) ++ (codes "f" ∷ []) ∷ []

-- a file is read past 40 links; another path, which more links or a link to itself lead on from, lands nowhere: nothing is
-- fetched or stored there
pub record FollowsForty (S : Store) (other : List ℕ) : Type 0 where
  pub landed : lands S (codes "l40" ∷ []) true ≡ At (codes "f" ∷ [])
  pub lost : lands S (other ∷ []) true ≡ TooManyLinks
  pub link_itself : lands S (other ∷ []) false ≡ At (other ∷ [])
  pub read : Does (chained other) S (into ∷ down ∷ fetch_text (codes "v") ∷ show (codes "v") ∷ []) (texts (codes "x" ∷ [])) End.Done forty_links []
  pub fetched : Does (chained other) S (into ∷ next ∷ down ∷ fetch_text (codes "v") ∷ []) [] (End.Stopped 3 Refusal.Lacks) (forty_links ++ (other ∷ []) ∷ []) []
  pub stored : Does (chained other) S (into ∷ next ∷ down ∷ store (text (codes "y")) ∷ []) [] (End.Stopped 3 (Refusal.Blocked (other ∷ []))) (forty_links ++ (other ∷ []) ∷ []) []

-- the 41st link is not followed
abbrev pub StopsAfterForty : Type 0
StopsAfterForty = FollowsForty long_chain (codes "l41")

-- nor is a link to itself, for ever
abbrev pub StopsAtLoop : Type 0
StopsAtLoop = FollowsForty with_loop (codes "s")

-- ---- a path of 64 names

-- the path of so many names `a`
abbrev pub deep : ℕ → List (List ℕ)
deep zero = []
deep (suc n) = codes "a" ∷ deep n

-- the paths of n such names, of one more and so on
abbrev pub deeper : ℕ → ℕ → List (List (List ℕ))
deeper n zero = []
deeper n (suc count) = deep n ∷ deeper (suc n) count

-- the text of such a path, as a focus has it
abbrev pub deep_text : ℕ → List ℕ
deep_text n = join_with_byte 47 (deep n)

-- an optional file at 64 names, and one at 65
abbrev pub deep_files : SpecTree
deep_files = SpecTree.pair (codes "x") (SpecTree.focus (text (deep_text 64)) (SpecTree.opt SpecTree.file)) (SpecTree.focus (text (deep_text 65)) (SpecTree.opt SpecTree.file))

-- directories, each in the one above it, and a file in the last one
abbrev pub nested_file : List Change
nested_file = map (λ p. set_to p (Dir (codes "a" ∷ []))) (deeper 0 64) ++ set_to (deep 64) (File [] false) ∷ []

-- the file and all directories above it are made; each of their paths is consulted
abbrev pub MakesDeepFile : Type 0
MakesDeepFile = Does deep_files (store_of (([], Dir []) ∷ [])) (into ∷ down ∷ create ∷ []) [] End.Done (deep 1 ∷ [] ∷ deeper 2 63) nested_file

-- they are all that is there then
abbrev pub LeavesDeepFile : Type 0
LeavesDeepFile = Leaves deep_files (store_of (([], Dir []) ∷ [])) (into ∷ down ∷ create ∷ []) (over (store_of (([], Dir []) ∷ [])) nested_file)

-- no place has a path of 65 names
abbrev pub GoesNoDeeper : Type 0
GoesNoDeeper = Does deep_files (over (store_of (([], Dir []) ∷ [])) nested_file) (into ∷ next ∷ try_and_show (codes "e") ActTree.down []) (numbers (7 ∷ [])) End.Done (deeper 1 64) []
