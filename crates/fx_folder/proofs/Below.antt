-- A path at which a folder stands is fit.
use Rattle.fx_folder.proofs.Prelude.{◌≡◌, List, ℕ, Bool, true, false, cond, None, refl, ap, option_map_or, get, parts, is_fit, Tree, is_folder_at, is_folder_kind}

pub folder_fit : (tree : Tree) (path : List ℕ) → is_folder_at tree path ≡ true → is_fit path ≡ true
folder_fit tree path e = go (is_fit path) refl
  where
    go : (b : Bool) → is_fit path ≡ b → is_fit path ≡ true
    go true is = is
    go false is =
        let none : is_folder_at tree path ≡ false = ap (λ b. option_map_or (λ e. is_folder_kind e.kind) (cond b (get tree (parts path)) None) false) is in
        cc
