use Rattle.std.proofs.Common.{List, sym, ap}
use Rattle.fx_store.specs.declared.changes.Change.{Change}
use Rattle.fx_edit.specs.Rules.{adding, changed_entries}
use Rattle.fx_edit.proofs.Exits.{by_rule, gathered, ungathered}
use Rattle.fx_edit.proofs.relisting.relisted.Goals as goal

pub returns-in_err-change_entries : goal.returns-in_err-change_entries
returns-in_err-change_entries g c =
    record {
      follows =
          let rest = changed_entries c.args.list.now.path c.args.list.now.old c.args.list.now.new in
          by_rule (ap (λ (first : List Change). adding first rest) (sym c.in_ok-edits.ensures))
          (ungathered c.from_residual-in_err-change_entries.result c.from_residual-in_err-change_entries.ensures.1 c.in_err-change_entries.ensures.follows);
    }

pub returns : goal.returns
returns g c =
    record {
      follows =
          let rest = changed_entries c.args.list.now.path c.args.list.now.old c.args.list.now.new in
          by_rule (ap (λ (first : List Change). adding first rest) (sym c.in_ok-edits.ensures)) (gathered c.in_ok-change_entries.ensures.follows);
    }
