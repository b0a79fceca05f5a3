use Rattle.std.proofs.Common.{◌+◌, ap, ◌∙◌, arith}
use Rattle.std.specs.List.{prefix_len}
use Rattle.std.proofs.lemmas.List.{take_rest}
use Rattle.std.proofs.lemmas.List.Sums.{prefix_len-le-length}
use Rattle.fx_expr.specs.Bytes.{is_word_byte}
use Rattle.fx_lex.proofs.Stands.{word_stands, word_none, word_more}
use Rattle.fx_lex.proofs.scan.word_at.Goals as goal

pub overflow_add-len : goal.overflow_add-len
overflow_add-len c =
    let bytes = c.args.bytes.now in
    let run = word_more bytes c.word_len-rest.result c.requires (c.word_len-rest.ensures ∙ ap (λ l. prefix_len is_word_byte l) (take_rest bytes 1)) in
    omega (arith, run, prefix_len-le-length is_word_byte bytes)

pub returns-then-len-gt-WORD_LIMIT : goal.returns-then-len-gt-WORD_LIMIT
returns-then-len-gt-WORD_LIMIT c =
    let bytes = c.args.bytes.now in
    let run = word_more bytes c.word_len-rest.result c.requires (c.word_len-rest.ensures ∙ ap (λ l. prefix_len is_word_byte l) (take_rest bytes 1)) in
    word_none bytes (1 + c.word_len-rest.result) c.requires run c.if-len-gt-WORD_LIMIT.true

pub returns : goal.returns
returns c =
    let bytes = c.args.bytes.now in
    let run = word_more bytes c.word_len-rest.result c.requires (c.word_len-rest.ensures ∙ ap (λ l. prefix_len is_word_byte l) (take_rest bytes 1)) in
    let stands = word_stands bytes (1 + c.word_len-rest.result) c.requires run c.if-len-gt-WORD_LIMIT.false in
    (omega arith, omega (arith, run, prefix_len-le-length is_word_byte bytes), stands)
