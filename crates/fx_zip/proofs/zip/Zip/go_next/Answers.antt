use Rattle.fx_zip.proofs.Prelude.{sym, ◌∙◌, own_at, go_next, next_at, sideways_evals}
use Rattle.fx_zip.proofs.Around.{moved_next, moved_greater, first_of_true}
use Rattle.fx_zip.proofs.Places.{moves_unfound}
use Rattle.fx_zip.proofs.zip.Zip.go_next.Goals as goal
use Rattle.fx_zip.proofs.Around.{next_rule}

pub returns-in_err-find : goal.returns-in_err-find
returns-in_err-find g c = record {
  moves = moves_unfound g.R.Reader.meaning c.args.self.now c.find.new.self c.args.session.now c.find.new.session (next_at c.args.self.now.root c.args.self.now.address) (go_next c.args.self.now.root c.args.self.now.address) (next_rule c.args.self.now.root c.args.self.now.address) (sideways_evals c.args.self.now c.args.self.now.address) c.in_err-find.field-0.0 c.from_residual.result c.from_residual.ensures.1 c.in_err-find.ensures;
}

pub to_second-requires : goal.to_second-requires
to_second-requires g c = record { stands = c.in_ok-find.ensures.stands; first = (first_of_true _ (sym c.is_at_first.ensures ∙ c.if-is_at_first.true)) }

pub returns-then-is_at_first : goal.returns-then-is_at_first
returns-then-is_at_first g c = record { moves = moved_next g.R.Reader.meaning c.args.self.now c.find.new.self c.args.session.now c.find.new.session c.in_ok-find.ensures c.to_second.new.self c.to_second.result c.to_second.new.session c.to_second.ensures.turns }

pub returns-else-is_at_first : goal.returns-else-is_at_first
returns-else-is_at_first g c = record { moves = moved_greater g.R.Reader.meaning c.args.self.now c.find.new.self c.args.session.now c.find.new.session c.in_ok-find.ensures c.to_greater.new.self c.to_greater.result (sym c.is_at_first.ensures ∙ c.if-is_at_first.false) (c.to_greater.ensures (g.R.Reader.meaning.reads c.find.new.session.reader.now) (own_at c.find.new.session.own) c.in_ok-find.ensures.stands) }
