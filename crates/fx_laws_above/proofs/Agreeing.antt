-- What two crates say is the same.
use Rattle.std.proofs.Common.{◌≡◌, ℕ, ◌<◌, Bool, true, false, cond, ◌&&◌, nat_le, nat_lt, refl, ap, ◌∙◌, List, length, Option, Some, None, Ok, Err, arith}
use Rattle.std.specs.Option.{option_or}
use Rattle.std.proofs.lemmas.Bool.{leb-true}
use Rattle.fx_outside.specs.Path.{Parts}
use Rattle.fx_outside.specs.Tree.{Entry}
use Rattle.fx_store.specs.Names.{IsName}
use Rattle.fx_spec.specs.Edit.{clear}
use Rattle.fx_folder.specs.Deep.{last_name, refused_kind, refused_bytes, refused_entry}
use Rattle.fx_folder.specs.declared.limits.TheConstants.{MAX_NODES}
use Rattle.fx_table.specs.declared.fault.FolderCause.{FolderCause}
use Rattle.fx_table.specs.Places.{place_of}
use Rattle.fx_spec.proofs.Meaning.{part_shape}
use Rattle.fx_table.specs.declared.fault.FolderCause.TheVariants.{BadName, BadTable, TooLarge}
use Rattle.fx_table.specs.declared.line.TableLine.{TableLine}
use Rattle.fx_table.specs.Table.{lacks_flags}
use Rattle.fx_laws_above.specs.Twice.{bad_line, SaidTwice, NumeralsAreLimits}

lacking : (lines : List TableLine) (b : Bool) → cond b (Some (BadTable 1)) None ≡ bad_line (cond b (Err 1) (Ok lines))
lacking lines true = refl
lacking lines false = refl

pub said_twice : SaidTwice
said_twice = record {
  order_of_names = refl;
  order_of_paths = refl;
  path_above = refl;
  last_name = refl;
  shape = part_shape;
  lacking_flags = λ text lines. lacking lines (lacks_flags text lines);
}

-- a path of too many names is refused as too large, if its last name is one
too_long : (nodes left : ℕ) (names : Parts) (e : Entry) → IsName (last_name names) → 64 < length names → refused_entry nodes left (names, e) ≡ Some (TooLarge (place_of names))
too_long nodes left names e name long =
    let far : nat_le (length names) 64 ≡ false = not_le (nat_le (length names) 64) refl in
    let cause : Option FolderCause = option_or (refused_kind names e.kind) (refused_bytes left names e.bytes) in
    ap (λ b. cond b (cond (nat_le (length names) 64 && nat_lt nodes MAX_NODES) cause (Some (TooLarge (place_of names)))) (Some (BadName (place_of names)))) name
    ∙ ap (λ b. cond (b && nat_lt nodes MAX_NODES) cause (Some (TooLarge (place_of names)))) far
  where
    not_le : (b : Bool) → nat_le (length names) 64 ≡ b → b ≡ false
    not_le true h = absurd (let short = leb-true (length names) 64 h in omega (arith, short, long))
    not_le false h = refl

pub numerals_are_limits : NumeralsAreLimits
unfolding clear
numerals_are_limits = record {
  content = λ bytes. refl;
  full = λ path. refl;
  levels = λ path. refl;
  deep = λ here names node. refl;
  loaded = too_long;
}
