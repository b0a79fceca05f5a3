use Rattle.std.proofs.Common.{◌≡◌, ◌+◌, ◌<◌, ◌≤◌, ◌^◌, Ok, refl, ap, ◌∙◌, rules, arith}
use Rattle.std.proofs.lemmas.List.{drop_all}
use Rattle.fx_expr.specs.Tree.{Tree}
use Rattle.fx_expr.specs.Views.{expr_tree}
use Rattle.fx_spec.specs.CommandTree.{block, count, count_block}
use Rattle.fx_spec.specs.Transaction.{binding, run_block}
use Rattle.fx_spec.specs.Views.{command_tree}
use Rattle.fx_spec.specs.declared.command.Command.{Command}
use Rattle.fx_run.specs.Scopes.{HasBlock, HasCommand, HasTurn}
use Rattle.fx_run.specs.Works.{root_of, standing_of, IsSound}
use Rattle.fx_run.proofs.Counts.{below_all}
use Rattle.fx_run.proofs.Cycles.{turn_from, within_ends, within_leaves, obeying_starts, command_comes, few_come, obeying_leaves, obeying_on, obeying_ends, opens_ends, turning_starts, turn_comes, turning_ends, turning_keeps, turning_leaves, turning_on}
use Rattle.fx_run.proofs.Obeyed.{obeys_quiet}
use Rattle.fx_run.proofs.Quiet.{quiet_none}
use Rattle.fx_run.proofs.Choices.{behind, sound_on, choice_leaves, chosen_yes, chosen_no, each_leaves, repeated}
use Rattle.fx_run.proofs.Scoped.{cut_by, branch_shaped, yes_shaped, no_shaped, each_shaped, turn_shaped, turn_bound, scopes_each, keeps_cut, keeps_turn}
use Rattle.fx_run.proofs.Written.{comes_as, counts_as, scopes_as, obeys_as, quiet_as}
use Rattle.fx_run.proofs.obeying.+obey.Goals as goal

pub obey-act-requires-clause-shaped : goal.obey-act-requires-clause-shaped
obey-act-requires-clause-shaped g t c = comes_as c.args.command.now (Command.Do c.in-Do.deed) c.in-Do.is c.args.work.now.variables c.requires.shaped

pub obey-returns-in-Do-clause-obeys : goal.obey-returns-in-Do-clause-obeys
obey-returns-in-Do-clause-obeys g t c = obeys_as c.args.command.now (Command.Do c.in-Do.deed) c.in-Do.is c.args.number c.act.ensures.obeys

pub obey-returns-in-Do-clause-scope : goal.obey-returns-in-Do-clause-scope
obey-returns-in-Do-clause-scope g t c = scopes_as c.args.command.now (Command.Do c.in-Do.deed) c.in-Do.is c.args.work.now.variables c.act.new.work.variables c.act.result c.act.ensures.scope

pub obey-attempt-requires-clause-shaped : goal.obey-attempt-requires-clause-shaped
obey-attempt-requires-clause-shaped g t c = comes_as c.args.command.now (Command.Attempt c.in-Attempt.word c.in-Attempt.deed) c.in-Attempt.is c.args.work.now.variables c.requires.shaped

pub obey-returns-in-Attempt-clause-obeys : goal.obey-returns-in-Attempt-clause-obeys
obey-returns-in-Attempt-clause-obeys g t c = obeys_as c.args.command.now (Command.Attempt c.in-Attempt.word c.in-Attempt.deed) c.in-Attempt.is c.args.number (c.attempt.ensures.obeys c.args.number)

pub obey-returns-in-Attempt-clause-scope : goal.obey-returns-in-Attempt-clause-scope
obey-returns-in-Attempt-clause-scope g t c = scopes_as c.args.command.now (Command.Attempt c.in-Attempt.word c.in-Attempt.deed) c.in-Attempt.is c.args.work.now.variables c.attempt.new.work.variables c.attempt.result c.attempt.ensures.scope

pub obey-bind-requires : goal.obey-bind-requires
obey-bind-requires g t c = comes_as c.args.command.now (Command.Bind c.in-Bind.word c.in-Bind.expr) c.in-Bind.is c.args.work.now.variables c.requires.shaped

pub obey-returns-in-Bind-clause-obeys : goal.obey-returns-in-Bind-clause-obeys
obey-returns-in-Bind-clause-obeys g t c = quiet_as c.args.command.now (Command.Bind c.in-Bind.word c.in-Bind.expr) c.in-Bind.is c.args.number c.requires.sound c.bind.ensures.quiet

pub obey-returns-in-Bind-clause-scope : goal.obey-returns-in-Bind-clause-scope
obey-returns-in-Bind-clause-scope g t c = scopes_as c.args.command.now (Command.Bind c.in-Bind.word c.in-Bind.expr) c.in-Bind.is c.args.work.now.variables c.bind.new.work.variables c.bind.result c.bind.ensures.scope

pub obey-assign-requires : goal.obey-assign-requires
obey-assign-requires g t c = comes_as c.args.command.now (Command.Assign c.in-Assign.word c.in-Assign.expr) c.in-Assign.is c.args.work.now.variables c.requires.shaped

pub obey-returns-in-Assign-clause-obeys : goal.obey-returns-in-Assign-clause-obeys
obey-returns-in-Assign-clause-obeys g t c = quiet_as c.args.command.now (Command.Assign c.in-Assign.word c.in-Assign.expr) c.in-Assign.is c.args.number c.requires.sound c.assign.ensures.quiet

pub obey-returns-in-Assign-clause-scope : goal.obey-returns-in-Assign-clause-scope
obey-returns-in-Assign-clause-scope g t c = scopes_as c.args.command.now (Command.Assign c.in-Assign.word c.in-Assign.expr) c.in-Assign.is c.args.work.now.variables c.assign.new.work.variables c.assign.result c.assign.ensures.scope

pub obey-returns-in-Fetch-clause-obeys : goal.obey-returns-in-Fetch-clause-obeys
obey-returns-in-Fetch-clause-obeys g t c = obeys_as c.args.command.now (Command.Fetch c.in-Fetch.word c.in-Fetch.shape) c.in-Fetch.is c.args.number c.ask.ensures.obeys

pub obey-returns-in-Fetch-clause-scope : goal.obey-returns-in-Fetch-clause-scope
obey-returns-in-Fetch-clause-scope g t c = scopes_as c.args.command.now (Command.Fetch c.in-Fetch.word c.in-Fetch.shape) c.in-Fetch.is c.args.work.now.variables c.ask.new.work.variables c.ask.result c.ask.ensures.scope

pub obey-returns-in-Whole-clause-obeys : goal.obey-returns-in-Whole-clause-obeys
obey-returns-in-Whole-clause-obeys g t c = obeys_as c.args.command.now (Command.Whole c.in-Whole.word c.in-Whole.shape) c.in-Whole.is c.args.number c.ask-in-Whole.ensures.obeys

pub obey-returns-in-Whole-clause-scope : goal.obey-returns-in-Whole-clause-scope
obey-returns-in-Whole-clause-scope g t c = scopes_as c.args.command.now (Command.Whole c.in-Whole.word c.in-Whole.shape) c.in-Whole.is c.args.work.now.variables c.ask-in-Whole.new.work.variables c.ask-in-Whole.result c.ask-in-Whole.ensures.scope

pub obey-returns-in-Validate-clause-obeys : goal.obey-returns-in-Validate-clause-obeys
obey-returns-in-Validate-clause-obeys g t c = obeys_as c.args.command.now (Command.Validate c.in-Validate.word) c.in-Validate.is c.args.number c.ask-in-Validate.ensures.obeys

pub obey-returns-in-Validate-clause-scope : goal.obey-returns-in-Validate-clause-scope
obey-returns-in-Validate-clause-scope g t c = scopes_as c.args.command.now (Command.Validate c.in-Validate.word) c.in-Validate.is c.args.work.now.variables c.ask-in-Validate.new.work.variables c.ask-in-Validate.result c.ask-in-Validate.ensures.scope

pub obey-print-requires : goal.obey-print-requires
obey-print-requires g t c = comes_as c.args.command.now (Command.Print c.in-Print.expr) c.in-Print.is c.args.work.now.variables c.requires.shaped

pub obey-returns-in-Print-clause-obeys : goal.obey-returns-in-Print-clause-obeys
obey-returns-in-Print-clause-obeys g t c = quiet_as c.args.command.now (Command.Print c.in-Print.expr) c.in-Print.is c.args.number c.requires.sound c.print.ensures.quiet

pub obey-returns-in-Print-clause-scope : goal.obey-returns-in-Print-clause-scope
obey-returns-in-Print-clause-scope g t c = scopes_as c.args.command.now (Command.Print c.in-Print.expr) c.in-Print.is c.args.work.now.variables c.print.new.work.variables c.print.result c.print.ensures.scope

pub obey-choose-requires : goal.obey-choose-requires
obey-choose-requires g t c =
    let shaped : HasCommand c.args.work.now.variables (command_tree (Command.Branch c.in-Branch.test c.in-Branch.yes c.in-Branch.no)) = comes_as c.args.command.now (Command.Branch c.in-Branch.test c.in-Branch.yes c.in-Branch.no) c.in-Branch.is c.args.work.now.variables c.requires.shaped in
    let counted : count (command_tree c.args.command.now) ≡ count (command_tree (Command.Branch c.in-Branch.test c.in-Branch.yes c.in-Branch.no)) = counts_as c.args.command.now (Command.Branch c.in-Branch.test c.in-Branch.yes c.in-Branch.no) c.in-Branch.is in
    let few : c.args.number + count (command_tree (Command.Branch c.in-Branch.test c.in-Branch.yes c.in-Branch.no)) < 2 ^ 32 = omega (arith, counted, c.requires.few) in
    search rules

pub obey-returns-in-Branch-clause-obeys : goal.obey-returns-in-Branch-clause-obeys
obey-returns-in-Branch-clause-obeys g t c = obeys_as c.args.command.now (Command.Branch c.in-Branch.test c.in-Branch.yes c.in-Branch.no) c.in-Branch.is c.args.number c.choose.ensures.obeys

pub obey-returns-in-Branch-clause-scope : goal.obey-returns-in-Branch-clause-scope
obey-returns-in-Branch-clause-scope g t c = scopes_as c.args.command.now (Command.Branch c.in-Branch.test c.in-Branch.yes c.in-Branch.no) c.in-Branch.is c.args.work.now.variables c.choose.new.work.variables c.choose.result c.choose.ensures.scope

pub obey-each-requires : goal.obey-each-requires
obey-each-requires g t c =
    let shaped : HasCommand c.args.work.now.variables (command_tree (Command.Each c.in-Each.word c.in-Each.set c.in-Each.body)) = comes_as c.args.command.now (Command.Each c.in-Each.word c.in-Each.set c.in-Each.body) c.in-Each.is c.args.work.now.variables c.requires.shaped in
    let counted : count (command_tree c.args.command.now) ≡ count (command_tree (Command.Each c.in-Each.word c.in-Each.set c.in-Each.body)) = counts_as c.args.command.now (Command.Each c.in-Each.word c.in-Each.set c.in-Each.body) c.in-Each.is in
    let few : c.args.number + count (command_tree (Command.Each c.in-Each.word c.in-Each.set c.in-Each.body)) < 2 ^ 32 = omega (arith, counted, c.requires.few) in
    search rules

pub obey-returns-in-Each-clause-obeys : goal.obey-returns-in-Each-clause-obeys
obey-returns-in-Each-clause-obeys g t c = obeys_as c.args.command.now (Command.Each c.in-Each.word c.in-Each.set c.in-Each.body) c.in-Each.is c.args.number c.each.ensures.obeys

pub obey-returns-in-Each-clause-scope : goal.obey-returns-in-Each-clause-scope
obey-returns-in-Each-clause-scope g t c = scopes_as c.args.command.now (Command.Each c.in-Each.word c.in-Each.set c.in-Each.body) c.in-Each.is c.args.work.now.variables c.each.new.work.variables c.each.result c.each.ensures.scope

pub obey-returns-in-Abort-clause-obeys : goal.obey-returns-in-Abort-clause-obeys
obey-returns-in-Abort-clause-obeys g t c = quiet_as c.args.command.now Command.Abort c.in-Abort.is c.args.number c.requires.sound (record { ends = refl; walk = record { zip = refl; own = refl; reader = refl } })

-- ---- obey_all

pub obey_all-obeying-init : goal.obey_all-obeying-init
obey_all-obeying-init g t c = obeying_starts c.requires.sound

pub obey_all-obey-requires : goal.obey_all-obey-requires
obey_all-obey-requires g t c =
    let was = c.obeying.invariant in
    let k = command_tree c.command_at-command.result.now in
    let shaped : HasCommand c.obeying.work.variables (command_tree c.command_at-command.result.now) = command_comes was k c.command_at-command.ensures c.requires.shaped in
    let few : c.obeying.next + count (command_tree c.command_at-command.result.now) < 2 ^ 32 = few_come was k c.command_at-command.ensures c.requires.few in
    let smaller : count (command_tree c.command_at-command.result.now) ≤ count_block (block c.args.commands.now) = below_all c.args.commands.now c.obeying.i k c.command_at-command.ensures in
    search rules

pub obey_all-returns-in_err-obey-clause-obeys : goal.obey_all-returns-in_err-obey-clause-obeys
obey_all-returns-in_err-obey-clause-obeys g t c =
    obeying_leaves c.obeying.invariant (command_tree c.command_at-command.result.now) c.command_at-command.ensures c.from_residual.ensures.1 c.in_err-obey.ensures.obeys

pub obey_all-number_of-next-requires : goal.obey_all-number_of-next-requires
obey_all-number_of-next-requires g t c =
    let few = few_come c.obeying.invariant (command_tree c.command_at-command.result.now) c.command_at-command.ensures c.requires.few in
    omega (arith, few)

pub obey_all-overflow_add-next : goal.obey_all-overflow_add-next
obey_all-overflow_add-next g t c =
    let few = few_come c.obeying.invariant (command_tree c.command_at-command.result.now) c.command_at-command.ensures c.requires.few in
    omega (arith, few, c.number_of-next.ensures.count)

pub obey_all-obeying-preserved : goal.obey_all-obeying-preserved
obey_all-obeying-preserved g t c =
    obeying_on c.obeying.invariant (command_tree c.command_at-command.result.now) c.command_at-command.ensures (c.obeying.next + c.number_of-next.result) (ap (λ n. c.obeying.next + n) c.number_of-next.ensures.count) c.in_ok-obey.ensures.obeys c.in_ok-obey.ensures.scope

pub obey_all-returns-clause-obeys : goal.obey_all-returns-clause-obeys
obey_all-returns-clause-obeys g t c =
    obeying_ends c.obeying.invariant (drop_all c.obeying.i c.args.commands.now (omega (arith, c.obeying-test.false, c.len-i-end.ensures)))

pub obey_all-returns-clause-scope : goal.obey_all-returns-clause-scope
obey_all-returns-clause-scope g t c =
    opens_ends c.obeying.invariant (drop_all c.obeying.i c.args.commands.now (omega (arith, c.obeying-test.false, c.len-i-end.ensures)))

-- ---- within_block

pub within_block-obey_all-requires : goal.within_block-obey_all-requires
within_block-obey_all-requires g t c = search rules

pub within_block-returns-in_err-obey_all-clause-obeys : goal.within_block-returns-in_err-obey_all-clause-obeys
within_block-returns-in_err-obey_all-clause-obeys g t c =
    let w = c.args.work.now in
    within_leaves (standing_of w) (run_block (root_of w) c.args.number (block c.args.commands.now) (standing_of w)) c.from_residual.ensures.1 c.in_err-obey_all.ensures.obeys

pub within_block-returns-clause-obeys : goal.within_block-returns-clause-obeys
within_block-returns-clause-obeys g t c =
    let w = c.args.work.now in
    let h = c.in_ok-obey_all.ensures.obeys in
    within_ends (run_block (root_of w) c.args.number (block c.args.commands.now) (standing_of w)) h h.sound refl refl (cut_by c.len-len.result w.variables c.obey_all.new.work.variables c.cut.new.self c.cut.ensures c.len-len.ensures)

pub within_block-returns-clause-keeps : goal.within_block-returns-clause-keeps
within_block-returns-clause-keeps g t c =
    keeps_cut c.args.work.now.variables c.obey_all.new.work.variables c.cut.new.self (block c.args.commands.now) c.in_ok-obey_all.ensures.scope (cut_by c.len-len.result c.args.work.now.variables c.obey_all.new.work.variables c.cut.new.self c.cut.ensures c.len-len.ensures)

-- ---- choose

pub choose-truth_of-requires : goal.choose-truth_of-requires
choose-truth_of-requires g t c = branch_shaped c.args.work.now.variables (expr_tree c.args.test.now) (block c.args.yes.now) (block c.args.no.now) c.requires.shaped

pub choose-returns-in_err-truth_of-clause-obeys : goal.choose-returns-in_err-truth_of-clause-obeys
choose-returns-in_err-truth_of-clause-obeys g t c =
    choice_leaves c.args.number (expr_tree c.args.test.now) c.args.work.now c.in_err-truth_of.ensures.tick (block c.args.yes.now) (block c.args.no.now) c.in_err-truth_of.field-0.0 c.requires.sound c.in_err-truth_of.ensures.value c.from_residual.ensures.1

pub choose-within_block-requires : goal.choose-within_block-requires
choose-within_block-requires g t c =
    let shaped : HasBlock c.args.work.now.variables (block c.args.yes.now) = yes_shaped c.args.work.now.variables (expr_tree c.args.test.now) (block c.args.yes.now) (block c.args.no.now) c.requires.shaped in
    let sound : IsSound g.R.Reader.meaning (behind c.args.work.now c.truth_of.new.session).walk = sound_on c.args.work.now.walk c.in_ok-truth_of.ensures.tick c.requires.sound in
    let few : c.args.number + 1 + count_block (block c.args.yes.now) < 2 ^ 32 = omega (arith, c.requires.few) in
    search rules

pub choose-returns-then-branch-clause-obeys : goal.choose-returns-then-branch-clause-obeys
choose-returns-then-branch-clause-obeys g t c =
    chosen_yes c.args.number (expr_tree c.args.test.now) c.args.work.now c.in_ok-truth_of.ensures.tick (block c.args.yes.now) (block c.args.no.now) (c.args.number + 1) (omega arith) (c.in_ok-truth_of.ensures.value ∙ ap (λ b. Ok b) c.if-branch.true) c.within_block.ensures.obeys

pub choose-within_block-requires-else-branch : goal.choose-within_block-requires-else-branch
choose-within_block-requires-else-branch g t c =
    let shaped : HasBlock c.args.work.now.variables (block c.args.no.now) = no_shaped c.args.work.now.variables (expr_tree c.args.test.now) (block c.args.yes.now) (block c.args.no.now) c.requires.shaped in
    let sound : IsSound g.R.Reader.meaning (behind c.args.work.now c.truth_of.new.session).walk = sound_on c.args.work.now.walk c.in_ok-truth_of.ensures.tick c.requires.sound in
    let few : c.args.number + 1 + c.number_of_all.result + count_block (block c.args.no.now) < 2 ^ 32 = omega (arith, c.requires.few, c.number_of_all.ensures.count) in
    search rules

pub choose-returns-else-branch-clause-obeys : goal.choose-returns-else-branch-clause-obeys
choose-returns-else-branch-clause-obeys g t c =
    chosen_no c.args.number (expr_tree c.args.test.now) c.args.work.now c.in_ok-truth_of.ensures.tick (block c.args.yes.now) (block c.args.no.now) (c.args.number + 1 + c.number_of_all.result) (omega (arith, c.number_of_all.ensures.count)) (c.in_ok-truth_of.ensures.value ∙ ap (λ b. Ok b) c.if-branch.false) c.within_block-else-branch.ensures.obeys

-- ---- each

pub each-names_of-requires : goal.each-names_of-requires
each-names_of-requires g t c = each_shaped c.args.work.now.variables c.args.word.now (expr_tree c.args.set.now) (block c.args.body.now) c.requires.shaped

pub each-returns-in_err-texts-clause-obeys : goal.each-returns-in_err-texts-clause-obeys
each-returns-in_err-texts-clause-obeys g t c =
    each_leaves c.args.number (expr_tree c.args.set.now) c.args.work.now c.in_err-texts.ensures.tick c.args.word.now (block c.args.body.now) c.in_err-texts.field-0.0 c.requires.sound c.in_err-texts.ensures.value c.from_residual.ensures.1

pub each-repeat-requires : goal.each-repeat-requires
each-repeat-requires g t c =
    let shaped : HasTurn c.args.work.now.variables c.args.word.now (block c.args.body.now) = turn_shaped c.args.work.now.variables c.args.word.now (expr_tree c.args.set.now) (block c.args.body.now) c.requires.shaped in
    let sound : IsSound g.R.Reader.meaning (behind c.args.work.now c.names_of.new.session).walk = sound_on c.args.work.now.walk c.in_ok-texts.ensures.tick c.requires.sound in
    let few : c.args.number + 1 + count_block (block c.args.body.now) < 2 ^ 32 = omega (arith, c.requires.few) in
    search rules

pub each-returns-clause-obeys : goal.each-returns-clause-obeys
each-returns-clause-obeys g t c =
    repeated c.args.number (expr_tree c.args.set.now) c.args.work.now c.in_ok-texts.ensures.tick c.args.word.now (block c.args.body.now) (c.args.number + 1) c.in_ok-texts.texts (omega arith) c.in_ok-texts.ensures.value c.repeat.ensures.obeys

pub each-returns-clause-scope : goal.each-returns-clause-scope
each-returns-clause-scope g t c = scopes_each c.args.work.now.variables c.repeat.new.work.variables c.repeat.result c.args.word.now (expr_tree c.args.set.now) (block c.args.body.now) c.repeat.ensures.keeps

-- ---- repeat

pub repeat-repeating-init : goal.repeat-repeating-init
repeat-repeating-init g t c = turning_starts c.requires.sound

pub repeat-turn-requires : goal.repeat-turn-requires
repeat-turn-requires g t c =
    let shaped : HasTurn c.repeating.work.variables c.args.word.now (block c.args.body.now) = turn_comes c.repeating.invariant c.requires.shaped in
    let sound : IsSound g.R.Reader.meaning c.repeating.work.walk = c.repeating.invariant.sound in
    search rules

pub repeat-returns-in_err-turn-clause-obeys : goal.repeat-returns-in_err-turn-clause-obeys
repeat-returns-in_err-turn-clause-obeys g t c =
    turning_leaves c.repeating.invariant c.text_at.result.now c.text_at.ensures c.from_residual.ensures.1 c.in_err-turn.ensures.obeys

pub repeat-repeating-preserved : goal.repeat-repeating-preserved
repeat-repeating-preserved g t c =
    turning_on c.repeating.invariant c.text_at.result.now c.text_at.ensures c.in_ok-turn.ensures.obeys c.in_ok-turn.ensures.keeps

pub repeat-returns-clause-obeys : goal.repeat-returns-clause-obeys
repeat-returns-clause-obeys g t c =
    turning_ends c.repeating.invariant (drop_all c.repeating.i c.args.texts.now (omega (arith, c.repeating-test.false, c.len-i-end.ensures.value)))

pub repeat-returns-clause-keeps : goal.repeat-returns-clause-keeps
repeat-returns-clause-keeps g t c = turning_keeps c.repeating.invariant

-- ---- turn

pub turn-returns-in_err-bind_text-clause-obeys : goal.turn-returns-in_err-bind_text-clause-obeys
turn-returns-in_err-bind_text-clause-obeys g t c = obeys_quiet c.requires.sound (quiet_none c.from_residual.ensures.1 (record { zip = refl; own = refl; reader = refl }))

pub turn-obey_all-requires : goal.turn-obey_all-requires
turn-obey_all-requires g t c =
    let shaped : HasBlock c.bind_text.new.variables (block c.args.body.now) = turn_bound c.args.work.now.variables c.args.word.now (block c.args.body.now) c.args.text.now c.bind_text.new.variables c.in_ok-bind_text.ensures c.requires.shaped in
    search rules

pub turn-returns-in_err-obey_all-clause-obeys : goal.turn-returns-in_err-obey_all-clause-obeys
turn-returns-in_err-obey_all-clause-obeys g t c =
    let w = c.args.work.now in
    within_leaves (standing_of w) (run_block (root_of w) c.args.number (block c.args.body.now) (binding (standing_of w) c.args.word.now (Tree.str c.args.text.now))) c.from_residual-in_err-obey_all.ensures.1
    (turn_from c.args.number (block c.args.body.now) c.args.word.now c.args.text.now refl refl c.in_ok-bind_text.ensures c.in_err-obey_all.ensures.obeys)

pub turn-returns-clause-obeys : goal.turn-returns-clause-obeys
turn-returns-clause-obeys g t c =
    let w = c.args.work.now in
    within_ends (run_block (root_of w) c.args.number (block c.args.body.now) (binding (standing_of w) c.args.word.now (Tree.str c.args.text.now)))
    (turn_from c.args.number (block c.args.body.now) c.args.word.now c.args.text.now refl refl c.in_ok-bind_text.ensures c.in_ok-obey_all.ensures.obeys)
    c.in_ok-obey_all.ensures.obeys.sound refl refl (cut_by c.len-len.result w.variables c.obey_all.new.work.variables c.cut.new.self c.cut.ensures c.len-len.ensures)

pub turn-returns-clause-keeps : goal.turn-returns-clause-keeps
turn-returns-clause-keeps g t c =
    keeps_turn c.args.work.now.variables c.bind_text.new.variables c.obey_all.new.work.variables c.cut.new.self c.args.word.now c.args.text.now (block c.args.body.now) c.in_ok-bind_text.ensures c.in_ok-obey_all.ensures.scope (cut_by c.len-len.result c.args.work.now.variables c.obey_all.new.work.variables c.cut.new.self c.cut.ensures c.len-len.ensures)
