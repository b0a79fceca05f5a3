-- Where reading stops, with so many tokens left.
use Rattle.std.specs.Prelude.{◌≡◌, ℕ, Result, Ok, Err}
use Rattle.fx_parse.specs.declared.stop.Stop.{Stop}
use Rattle.fx_parse.specs.declared.stop.Stop.TheVariants as stop

pub data Stuck : Type 0 where
  Unexpected : ℕ → Stuck
  TooNested : ℕ → Stuck

infixl 10 ◌>>=◌
abbrev pub ◌>>=◌ : {A B : Type 0} → Result A Stuck → (A → Result B Stuck) → Result B Stuck
(Ok x) >>= f = f x
(Err e) >>= f = Err e

-- what a function returned is what reading gives, unless memory ran out
abbrev pub Stops : {Y : Type 0} → Stop → Result Y Stuck → Type 0
Stops (stop.Unexpected k) read = read ≡ Err (Unexpected k)
Stops (stop.TooNested k) read = read ≡ Err (TooNested k)
Stops stop.NoMemory read = Unit {0}

abbrev pub Gives : {X Y : Type 0} → (X → Y) → Result X Stop → Result Y Stuck → Type 0
Gives view (Ok x) read = read ≡ Ok (view x)
Gives view (Err e) read = Stops e read
