-- One attempt to match a glob at the start of a text, up to the glob's first `*`.
use Rattle.std.specs.Prelude.{◌≡◌, ◌≢◌, ℕ, ◌<◌, ◌≤◌, true, false, List, drop, length, slice_index}
use Rattle.fx_eval.specs.declared.glob.Attempt.{Attempt}
use Rattle.fx_eval.specs.declared.glob.Attempt.TheVariants.{Whole, Fails, Star}
use Rattle.fx_expr.specs.Globs.{glob_matches}

-- the first `*` of the glob stands at n, and the bytes before it match as many bytes of the text
pub record HasStar (glob text : List ℕ) (n : ℕ) : Type 0 where
  pub within : n < length glob
  pub room : n ≤ length text
  pub star : slice_index glob n ≡ 42
  pub plain : (k : ℕ) → k < n → slice_index glob k ≢ 42
  pub matched : glob_matches glob text ≡ glob_matches (drop n glob) (drop n text)

abbrev pub Attempted : Attempt → List ℕ → List ℕ → Type 0
Attempted Whole glob text = glob_matches glob text ≡ true
Attempted Fails glob text = glob_matches glob text ≡ false
Attempted (Star n) glob text = HasStar glob text n
