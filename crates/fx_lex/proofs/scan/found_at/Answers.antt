use Rattle.std.proofs.Common.{get_or, subst}
use Rattle.fx_lex.specs.Kinds.{IsKindOf}
use Rattle.fx_lex.proofs.Gaps.{comment_found}
use Rattle.fx_lex.proofs.Marks.{none_here}
use Rattle.fx_lex.proofs.Table.{comment_told, string_told}
use Rattle.fx_lex.proofs.scan.found_at.Goals as goal

pub returns-in-Comment : goal.returns-in-Comment
returns-in-Comment c =
    let bytes = c.args.bytes.now in
    let kind = subst (λ k. IsKindOf (get_or bytes 0 0) k) c.in-Comment.is c.kind_of.ensures in
    comment_found bytes c.line_len.result c.requires (comment_told (get_or bytes 0 0) kind) c.line_len.ensures

pub returns-in-Quote : goal.returns-in-Quote
returns-in-Quote c =
    let first = get_or c.args.bytes.now 0 0 in
    string_told first (subst (λ k. IsKindOf first k) c.in-Quote.is c.kind_of.ensures)

pub returns-in-Nothing : goal.returns-in-Nothing
returns-in-Nothing c =
    let bytes = c.args.bytes.now in
    let kind = subst (λ k. IsKindOf (get_or bytes 0 0) k) c.in-Nothing.is c.kind_of.ensures in
    none_here bytes c.requires kind.0 kind.1
