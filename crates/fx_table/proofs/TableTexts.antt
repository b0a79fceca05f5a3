-- The text of a table, while a walk writes it.
use Rattle.fx_table.proofs.Prelude.{◌≡◌, ℕ, Bool, true, false, ◌||◌, refl, sym, append_assoc, List, [], ◌∷◌, ◌++◌, Some, ◌∙◌, ap, filter_map, same_Some, Node, File, Dir, Link, Nodes, TableLine, line_at, lines_of, lines_text, has_flags, Entry, Level, TableText, line_text_at, is_executable, lines_so_far, flags_so_far, AddsLine, left_of, AreLevels, IsLeftBelow, TakesEntry}

-- the lines of nodes
abbrev pub lines_among : List (List (List ℕ) × Node) → List TableLine
lines_among es = filter_map line_at es

-- the text has the lines of all but those that are left, and the flag tells whether one of them says that a file is executable
pub record IsListing (text : TableText) (nodes : Nodes) (levels : List Level) : Type 0 where
  pub are : AreLevels nodes levels
  pub lines : lines_so_far text ++ lines_text (lines_among (left_of nodes levels)) ≡ lines_text (lines_of nodes)
  pub flagged : (flags_so_far text || has_flags (lines_among (left_of nodes levels))) ≡ has_flags (lines_of nodes)

pub listing_starts : (nodes : Nodes) (text : TableText) (levels : List Level) → AreLevels nodes levels → IsLeftBelow nodes (left_of nodes levels) → lines_so_far text ≡ [] → flags_so_far text ≡ false → IsListing text nodes levels
listing_starts nodes text levels are left none plain = record {
  are = are;
  lines = ap (λ t. t ++ lines_text (lines_among (left_of nodes levels))) none ∙ ap (λ es. lines_text (lines_among es)) (sym left.2);
  flagged = ap (λ b. b || has_flags (lines_among (left_of nodes levels))) plain ∙ ap (λ es. has_flags (lines_among es)) (sym left.2);
}

-- what one node more adds
first_line : (path : List (List ℕ)) (node : Node) (es : List (List (List ℕ) × Node)) → lines_text (lines_among ((path, node) ∷ es)) ≡ line_text_at path (Some node) ++ lines_text (lines_among es)
first_line path (File bytes true) es = refl
first_line path (File bytes false) es = refl
first_line path (Dir names) es = refl
first_line path (Link text) es = refl

first_flag : (path : List (List ℕ)) (node : Node) (es : List (List (List ℕ) × Node)) → has_flags (lines_among ((path, node) ∷ es)) ≡ (is_executable (Some node) || has_flags (lines_among es))
first_flag path (File bytes true) es = refl
first_flag path (File bytes false) es = refl
first_flag path (Dir names) es = refl
first_flag path (Link text) es = refl

or_assoc : (a b c : Bool) → ((a || b) || c) ≡ (a || (b || c))
or_assoc true b c = refl
or_assoc false b c = refl

pub listing_more : (nodes : Nodes) (text new : TableText) (levels levels' : List Level) (e : Entry) → IsListing text nodes levels → AreLevels nodes levels' → TakesEntry nodes (left_of nodes levels) (left_of nodes levels') e → AddsLine text e.path e.node.now new → IsListing new nodes levels'
listing_more nodes text new levels levels' e was are comes adds =
    let path = e.path in
    let next = comes.next in
    let left = left_of nodes levels' in
    let same : e.node.now ≡ next.0 = same_Some e.node.now next.0 (sym comes.node ∙ next.1) in
    let so = lines_so_far text in
    let flags = flags_so_far text in
    record {
      are = are;
      lines =
          ap (λ t. t ++ lines_text (lines_among left)) (adds.lines ∙ ap (λ n. so ++ line_text_at path (Some n)) same)
          ∙ (append_assoc so (line_text_at path (Some next.0)) (lines_text (lines_among left))
          ∙ (ap (λ t. so ++ t) (sym (first_line path next.0 left) ∙ ap (λ es. lines_text (lines_among es)) (sym next.2)) ∙ was.lines));
      flagged =
          ap (λ b. b || has_flags (lines_among left)) (adds.flags ∙ ap (λ n. flags || is_executable (Some n)) same)
          ∙ (or_assoc flags (is_executable (Some next.0)) (has_flags (lines_among left))
          ∙ (ap (λ b. flags || b) (sym (first_flag path next.0 left) ∙ ap (λ es. has_flags (lines_among es)) (sym next.2)) ∙ was.flagged));
    }

-- the front of a path and its next name
