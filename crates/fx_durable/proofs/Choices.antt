-- How calls on a disk go on where a file is chosen.
use Rattle.std.proofs.Common.{◌≡◌, true, ℕ, List, refl, ◌∙◌, ap}
use Rattle.fx_durable.specs.Disk.{Choice, DiskView, AsksChosen, ChoosesFirst}

-- no call
pub unasked : (path : List ℕ) (disk : DiskView) → ChoosesFirst path disk disk
unasked path disk = record { others = λ _. refl; early = refl }

-- some calls, and then some more
pub asks_over : (old mid new : DiskView) → AsksChosen old mid → AsksChosen mid new → AsksChosen old new
asks_over old mid new first then' chosen = then' (ap (λ (c : Choice). c.chosen) (first chosen) ∙ chosen) ∙ first chosen

-- where a file was chosen, and calls came after
pub early_over : (old mid new : DiskView) → mid.choice.early ≡ old.choice.early → mid.choice.chosen ≡ true → AsksChosen mid new → new.choice.early ≡ old.choice.early
early_over old mid new first chosen asks = ap (λ (c : Choice). c.early) (asks chosen) ∙ first
