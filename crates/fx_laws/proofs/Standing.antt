-- Directories and what they list.
use Rattle.std.proofs.Common.{◌≡◌, ℕ, true, List, Some, Contains, ap, sym, ◌∙◌}
use Rattle.std.proofs.lemmas.Map.Keys.{any_passes_from_place}
use Rattle.std.proofs.lemmas.Map.Views.{Contains-from_any}
use Rattle.std.proofs.lemmas.Option.{slice_get-get_or}
use Rattle.std.specs.Ordering.{eq_by_cmp}
use Rattle.fx_base.proofs.Names.{name_is, name_itself}
use Rattle.fx_store.specs.Names.{name_cmp, has}
use Rattle.fx_store.specs.Whole.{lists}
use Rattle.fx_store.proofs.Landings.{listing_is_dir}
use Rattle.fx_laws.specs.Standing.{DirectoriesListAll, AllIsListed}

contains : (names : List (List ℕ)) (n : List ℕ) → has names n ≡ true → Contains names n
contains names n h = Contains-from_any (λ a b e. name_is a b e) n names h

listed : (names : List (List ℕ)) (n : List ℕ) → Contains names n → has names n ≡ true
listed names n c = any_passes_from_place (eq_by_cmp name_cmp n) names c.0 n (slice_get-get_or names c.0 n c.1 ∙ ap Some c.2) (name_itself n)

pub directories_list_all : DirectoriesListAll
directories_list_all S whole q names dir n =
    (λ c. whole.listed q n ∙ (ap (λ x. lists x n) dir ∙ listed names n c), λ some. contains names n (sym (whole.listed q n ∙ ap (λ x. lists x n) dir) ∙ some))

pub all_is_listed : AllIsListed
all_is_listed S whole q n some =
    let w = listing_is_dir (S q) n (sym (whole.listed q n) ∙ some) in
    (w.0, w.1, (directories_list_all S whole q w.0 w.1 n).1 some)
