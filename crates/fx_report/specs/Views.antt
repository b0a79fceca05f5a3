-- The lines of views.
use Rattle.std.specs.Prelude.{ℕ, ◌+◌, List, [], ◌∷◌, ◌++◌, codes, length}
use Rattle.std.specs.List.{flat_map}
use Rattle.fx_spec.specs.declared.refusal.End.{End}
use Rattle.fx_report.specs.Report.{end_text, field, line, print_line}
use Rattle.fx_report.specs.declared.printed.View.{View}

-- the line of a view, which is numbered: after how many entries it looked, and how it ended
unfoldable pub view_line : ℕ → ℕ → End → List ℕ
view_line j position end = line (field (codes "view ") j ++ field (codes " at ") position ++ codes " " ++ end_text end)

-- the lines of a view: its own, then one for each output in order
unfoldable pub view_text : ℕ → View → List ℕ
view_text j v = view_line j v.position v.end ++ flat_map print_line v.outputs

-- the lines of views that are numbered from j
abbrev pub view_texts : ℕ → List View → List ℕ
view_texts j [] = []
view_texts j (v ∷ rest) = view_text j v ++ view_texts (j + 1) rest

-- what is printed of views: how many there are, then each, numbered from 0
unfoldable pub views_text : List View → List ℕ
views_text views = line (field (codes "views ") (length views)) ++ view_texts 0 views ++ line (codes "end")
