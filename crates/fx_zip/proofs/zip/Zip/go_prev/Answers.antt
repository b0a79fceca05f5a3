use Rattle.fx_zip.proofs.Prelude.{sym, ◌∙◌, own_at, go_prev, prev_at}
use Rattle.fx_zip.proofs.Around.{moved_first, moved_smaller, second_of_true}
use Rattle.fx_zip.proofs.Places.{moves_unfound}
use Rattle.fx_zip.proofs.zip.Zip.go_prev.Goals as goal
use Rattle.fx_zip.proofs.Around.{prev_rule}

pub returns-in_err-find : goal.returns-in_err-find
returns-in_err-find g c = record {
  moves = moves_unfound g.R.Reader.meaning c.args.self.now c.find.new.self c.args.session.now c.find.new.session (prev_at c.args.self.now.root c.args.self.now.address) (go_prev c.args.self.now.root c.args.self.now.address) (prev_rule c.args.self.now.root c.args.self.now.address) (λ S. 0) c.in_err-find.field-0.0 c.from_residual.result c.from_residual.ensures.1 c.in_err-find.ensures;
}

pub to_first-requires : goal.to_first-requires
to_first-requires g c = record { second = (second_of_true _ (sym c.is_at_second.ensures ∙ c.if-is_at_second.true)) }

pub returns-then-is_at_second : goal.returns-then-is_at_second
returns-then-is_at_second g c = record { moves = moved_first g.R.Reader.meaning c.args.self.now c.find.new.self c.args.session.now c.find.new.session c.in_ok-find.ensures c.to_first.new.self c.to_first.result (c.to_first.ensures (g.R.Reader.meaning.reads c.find.new.session.reader.now) (own_at c.find.new.session.own) c.in_ok-find.ensures.stands) }

pub returns-else-is_at_second : goal.returns-else-is_at_second
returns-else-is_at_second g c = record { moves = moved_smaller g.R.Reader.meaning c.args.self.now c.find.new.self c.args.session.now c.find.new.session c.in_ok-find.ensures c.to_smaller.new.self c.to_smaller.result (sym c.is_at_second.ensures ∙ c.if-is_at_second.false) (c.to_smaller.ensures (g.R.Reader.meaning.reads c.find.new.session.reader.now) (own_at c.find.new.session.own) c.in_ok-find.ensures.stands) }
