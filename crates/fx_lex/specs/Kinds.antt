-- What a byte begins.
use Rattle.std.specs.Prelude.{◌≡◌, ℕ, Option, Some, None, ◌==◌, if◌then◌else◌}
use Rattle.fx_expr.specs.Bytes.{begins_word}
use Rattle.fx_lex.specs.Spelling.{is_digit}
use Rattle.fx_lex.specs.declared.token.Mark.{Mark}
use Rattle.fx_lex.specs.declared.byte.Kind.{Kind}
use Rattle.fx_lex.specs.declared.byte.Kind.TheVariants as kind
use Rattle.fx_lex.specs.Reading.{is_blank}
use Rattle.fx_lex.specs.Marks.{mark_of_one}

-- 0 a blank, 1 a comment, 2 a word, 3 a number, 4 a string, 5 at most a mark
abbrev pub byte_kind : ℕ → ℕ
byte_kind b =
    if is_blank b then 0
    else (if b == 35 then 1
    else (if begins_word b then 2
    else (if is_digit b then 3
    else (if b == 34 then 4
    else 5))))

-- the kind by its number and by the mark that is the one byte
abbrev pub IsKind : ℕ → Option Mark → Kind → Type 0
IsKind n mark kind.Blank = n ≡ 0
IsKind n mark kind.Comment = n ≡ 1
IsKind n mark kind.Word = n ≡ 2
IsKind n mark kind.Number = n ≡ 3
IsKind n mark kind.Quote = n ≡ 4
IsKind n mark (kind.Mark it) = (n ≡ 5) × (mark ≡ Some it)
IsKind n mark kind.Nothing = (n ≡ 5) × (mark ≡ None)

abbrev pub IsKindOf : ℕ → Kind → Type 0
IsKindOf b k = IsKind (byte_kind b) (mark_of_one b) k
