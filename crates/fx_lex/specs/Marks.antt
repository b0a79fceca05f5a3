-- The marks by their bytes.
use Rattle.std.specs.Prelude.{ℕ, Option, Some, None, ◌==◌, if◌then◌else◌}
use Rattle.fx_lex.specs.declared.token.Mark.{Mark}
use Rattle.fx_lex.specs.declared.token.Mark.TheVariants.{LeftParen, RightParen, LeftBrace, RightBrace, LeftAngle, RightAngle, Comma, Colon, ColonColon, Bar, Equal, EqualEqual, Plus, PlusPlus, Minus}

-- the mark that is this one byte
abbrev pub mark_of_one : ℕ → Option Mark
mark_of_one b =
    if b == 40 then Some LeftParen
    else (if b == 41 then Some RightParen
    else (if b == 123 then Some LeftBrace
    else (if b == 125 then Some RightBrace
    else (if b == 60 then Some LeftAngle
    else (if b == 62 then Some RightAngle
    else (if b == 44 then Some Comma
    else (if b == 58 then Some Colon
    else (if b == 124 then Some Bar
    else (if b == 61 then Some Equal
    else (if b == 43 then Some Plus
    else (if b == 45 then Some Minus
    else None)))))))))))

-- the mark that is this byte twice
abbrev pub mark_of_two : ℕ → Option Mark
mark_of_two b =
    if b == 58 then Some ColonColon
    else (if b == 61 then Some EqualEqual
    else (if b == 43 then Some PlusPlus
    else None))
