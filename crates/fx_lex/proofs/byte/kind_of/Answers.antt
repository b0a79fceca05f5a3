use Rattle.std.proofs.Common.{get_or, sym, subst, arith}
use Rattle.fx_lex.specs.declared.byte.Kind.TheVariants as kind
use Rattle.fx_lex.specs.declared.byte.TheConstants.{KINDS}
use Rattle.fx_lex.specs.Kinds.{IsKindOf}
use Rattle.fx_lex.proofs.Table.{kind_at}
use Rattle.fx_lex.proofs.byte.kind_of.Goals as goal

pub returns : goal.returns
returns c = subst (λ n. IsKindOf c.args.b (get_or KINDS n kind.Blank)) (sym c.from.ensures) (kind_at c.args.b (omega arith))
