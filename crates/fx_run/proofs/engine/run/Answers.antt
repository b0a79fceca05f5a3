use Rattle.std.proofs.Common.{◌≡◌, Some, subst}
use Rattle.fx_spec.specs.declared.base.Base.{Base}
use Rattle.fx_spec.specs.Plans.{txn_of}
use Rattle.fx_spec.specs.Bases.{base_tree}
use Rattle.fx_run.proofs.Attempts.{run_explained, run_foretold, run_stopped}
use Rattle.fx_run.proofs.engine.run.Goals as goal

pub returns-clause-explained : goal.returns-clause-explained
returns-clause-explained g c =
    let r = g.R.Reader in
    run_explained r.meaning (base_tree c.args.base.now.value) c.args.shell c.args.txn c.commands_of-commands.result.now (subst (λ (b : Base). txn_of b.plan (c.args.shell, c.args.txn) ≡ Some c.commands_of-commands.result.now) c.deref.ensures c.commands_of-commands.ensures.txn) c.args.reader.now c.attempt.new.reader c.requires.fit c.attempt.result c.attempt.ensures

pub returns-clause-stopped : goal.returns-clause-stopped
returns-clause-stopped g c =
    let r = g.R.Reader in
    run_stopped r.meaning (base_tree c.args.base.now.value) c.args.shell c.args.txn c.commands_of-commands.result.now (subst (λ (b : Base). txn_of b.plan (c.args.shell, c.args.txn) ≡ Some c.commands_of-commands.result.now) c.deref.ensures c.commands_of-commands.ensures.txn) c.args.reader.now c.attempt.new.reader c.requires.fit c.attempt.result c.attempt.ensures

pub returns-clause-foretold : goal.returns-clause-foretold
returns-clause-foretold g c =
    let r = g.R.Reader in
    run_foretold r.meaning (base_tree c.args.base.now.value) c.args.shell c.args.txn c.commands_of-commands.result.now (subst (λ (b : Base). txn_of b.plan (c.args.shell, c.args.txn) ≡ Some c.commands_of-commands.result.now) c.deref.ensures c.commands_of-commands.ensures.txn) c.args.reader.now c.attempt.new.reader c.requires.fit c.attempt.result c.attempt.ensures
