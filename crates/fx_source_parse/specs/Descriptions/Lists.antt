-- Reading parts with commas between them, up to the bracket that closes them.
use Rattle.std.specs.Prelude.{ℕ, zero, suc, Option, Some, None, Result, Ok, List, [], ◌∷◌, ◌++◌, length}
use Rattle.fx_lex.specs.declared.token.Token.{Token}
use Rattle.fx_parse.specs.declared.sign.Sign.TheVariants as sign
use Rattle.fx_parse.specs.Stuck.{Stuck, ◌>>=◌}
use Rattle.fx_parse.specs.Reader.{unexpected, expect}
use Rattle.fx_parse.specs.Signs as signs
use Rattle.fx_source_parse.specs.Reading.{Read}

-- behind `)`
abbrev pub closed : List Token → Option (List Token)
closed ts = signs.closed sign.RightParen ts

abbrev pub ended_or : {Part : Type 0} → Option (List Token) → List Part → Result (List Part × List Token) Stuck → Result (List Part × List Token) Stuck
ended_or None done more = more
ended_or (Some rest) done more = Ok (done, rest)

-- one part more behind those that were read
unfoldable pub added_at : {Part : Type 0} → Read Part → List Part → Read (List Part)
added_at part done ts = do
  p ← part ts
  Ok (done ++ p.0 ∷ [], p.1)

-- `, part`
unfoldable pub another_at : {Part : Type 0} → Read Part → List Part → Read (List Part)
another_at part done ts = do
  next ← expect (signs.is_sign sign.Comma) ts
  added_at part done next

-- further parts up to the bracket, so many at most
unfoldable pub others_at : {Part : Type 0} → Read Part → ℕ → List Part → Read (List Part)
others_at part zero done ts = unexpected ts
others_at part (suc n) done ts = ended_or (closed ts) done (another_at part done ts >>= (λ c. others_at part n c.0 c.1))

-- further parts up to the bracket: each has a token at least
unfoldable pub rest_at : {Part : Type 0} → Read Part → List Part → Read (List Part)
rest_at part done ts = others_at part (length ts) done ts

-- the parts up to the bracket
unfoldable pub listed_at : {Part : Type 0} → Read Part → Read (List Part)
listed_at part ts = ended_or (closed ts) [] (added_at part [] ts >>= (λ c. rest_at part c.0 c.1))
