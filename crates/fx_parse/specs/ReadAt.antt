-- What a parser on the tokens of a text answers.
use Rattle.std.specs.Prelude.{◌≡◌, ◌-◌, ◌≤◌, ℕ, drop, length, slice_get}
use Rattle.std.specs.Option.{option_map_or}
use Rattle.fx_lex.specs.TokenList.{TokenList}
use Rattle.fx_parse.specs.declared.fault.ParseFault.{ParseFault}
use Rattle.fx_parse.specs.declared.fault.ParseFault.TheVariants as fault
use Rattle.fx_parse.specs.declared.stop.Stop.{Stop}
use Rattle.fx_parse.specs.declared.stop.Stop.TheVariants as stop
use Rattle.fx_parse.specs.Readable.{Grammar, Stands, IsUnexpected, IsTooNested}
use Rattle.fx_parse.specs.Reader.{kinds}

-- the byte at which so many tokens are left: where the first of them begins, or else the end of the text
abbrev pub place_left : TokenList → ℕ → ℕ
place_left list k = option_map_or (λ s. s.start) (slice_get list.spanned (length list.spanned - k)) list.text_len

-- the refusal where reading stops
abbrev pub fault_at : TokenList → Stop → ParseFault
fault_at list (stop.Unexpected k) = fault.Unexpected (place_left list k)
fault_at list (stop.TooNested k) = fault.TooNested (place_left list k)
fault_at list stop.NoMemory = fault.NoMemory

module _ {Tree : Type 0} (g : Grammar Tree) where
  -- from a token on stands the tree, and behind it the token at next
  pub record IsReadAt (depth : ℕ) (list : TokenList) (from : ℕ) (t : Tree) (next : ℕ) : Type 0 where
    pub within : next ≤ length list.spanned
    pub stands : Stands g depth (kinds (drop from list.spanned)) t (kinds (drop next list.spanned))

  -- a refusal names the first place at which reading goes wrong, unless memory ran out
  abbrev pub IsParseFault : ℕ → TokenList → ℕ → ParseFault → Type 0
  IsParseFault depth list from (fault.Unexpected place) = (k : ℕ) × IsUnexpected g depth (kinds (drop from list.spanned)) k × (place ≡ place_left list k)
  IsParseFault depth list from (fault.TooNested place) = (k : ℕ) × IsTooNested g depth (kinds (drop from list.spanned)) k × (place ≡ place_left list k)
  IsParseFault depth list from fault.NoMemory = Unit {0}
  IsParseFault depth list from fault.TooLarge = ⊥
  IsParseFault depth list from (fault.BadToken place) = ⊥
