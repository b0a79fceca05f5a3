-- Reads: what was read at a path.
use Rattle.std.specs.Prelude.{ℕ, zero, suc, Bool, true, false, cond, List, [], ◌∷◌, map, Option, Some, None, IsSome}
use Rattle.std.specs.List.{IsDistinct}
use Rattle.std.specs.Map.{keys_of}
use Rattle.std.specs.Option.{option_map}
use Rattle.std.specs.Ordering.{eq_by_cmp}
use Rattle.fx_store.specs.declared.node.Node.{Node}
use Rattle.fx_store.specs.Names.{path_cmp}
use Rattle.fx_store.specs.Rule.{Known, AgreesWith}
use Rattle.fx_store.specs.Whole.{Store}
use Rattle.fx_view.specs.OwnList.{OwnList}
use Rattle.fx_view.specs.ReadList.{ReadList}

-- each path once
abbrev pub IsReads : ReadList → Type 0
IsReads reads = IsDistinct (eq_by_cmp path_cmp) (keys_of reads)

-- what was read at the path, and the position of that look
abbrev pub read_at : ReadList → List (List ℕ) → Option (Option Node × ℕ)
read_at [] path = None
read_at (e ∷ es) path = cond (eq_by_cmp path_cmp path e.0) (Some e.1) (read_at es path)

-- what is known by the reads
abbrev pub known_of : ReadList → Known
known_of reads path = option_map (λ r. r.0) (read_at reads path)

-- the reads, where the look of the one at `i` has this position
abbrev pub placed : ℕ → ℕ → ReadList → ReadList
placed i position [] = []
placed zero position (e ∷ es) = (e.0, (e.1.0, position)) ∷ es
placed (suc i) position (e ∷ es) = e ∷ placed i position es

-- the reads without the positions of their looks
abbrev pub nodes_in : ReadList → OwnList
nodes_in reads = map (λ r. (r.0, r.1.0)) reads

-- whether the path is one of these
abbrev pub is_among : List (List (List ℕ)) → List (List ℕ) → Bool
is_among [] path = false
is_among (p ∷ ps) path = cond (eq_by_cmp path_cmp p path) true (is_among ps path)

-- how many reads come before the first at one of the paths; all, where there is none
abbrev pub count_before : List (List (List ℕ)) → ReadList → ℕ
count_before paths [] = 0
count_before paths (e ∷ es) = cond (is_among paths e.0) 0 (suc (count_before paths es))

-- something was read at the path
abbrev pub IsRead : ReadList → List (List ℕ) → Type 0
IsRead reads path = IsSome (read_at reads path)

-- the filestore has at each read path what was read there
abbrev pub Agrees : ReadList → Store → Type 0
Agrees reads S = AgreesWith (known_of reads) S
