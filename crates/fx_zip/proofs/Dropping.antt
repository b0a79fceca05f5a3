-- The frames that are dropped after an edit.
use Rattle.fx_zip.proofs.Prelude.{◌≡◌, ℕ, true, false, cond, drop, List, [], ◌∷◌, refl, sym, ap, ◌∙◌, Known, ReadList, IsFresh, are_told, shorter, told_of, told_by, ZipTree, Frame}

-- dropping from here on gives what dropping from the start gives, and the frames are still those that were found
pub record IsDropping (untouched : ℕ) (initial now : ZipTree) : Type 0 where
  pub kept : told_by untouched now ≡ told_by untouched initial
  pub root : now.root ≡ initial.root
  pub address : now.address ≡ initial.address
  pub fresh : (reads : ReadList) (own : Known) → IsFresh reads own initial → IsFresh reads own now

-- where not all frames are told, the last one goes
pub untold_dropped : (n : ℕ) (z : ZipTree) → are_told n z.frames ≡ false → told_by n z ≡ told_by n (shorter z)
untold_dropped n z untold = at z.frames refl untold
  where
    at : (fs : List Frame) → z.frames ≡ fs → are_told n fs ≡ false → told_of n fs z ≡ told_by n (shorter z)
    at [] is untold = absurd (cc)
    at (f ∷ fs) is untold = ap (λ b. cond b z (told_of n fs (shorter z))) untold ∙ ap (λ gs. told_of n (drop 1 gs) (shorter z)) (sym is)

-- where all are told, none goes
pub told_stays : (n : ℕ) (z : ZipTree) → are_told n z.frames ≡ true → told_by n z ≡ z
told_stays n z told = at z.frames told
  where
    at : (fs : List Frame) → are_told n fs ≡ true → told_of n fs z ≡ z
    at [] told = refl
    at (f ∷ fs) told = ap (λ b. cond b z (told_of n fs (shorter z))) told
