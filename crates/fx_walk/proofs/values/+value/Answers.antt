use Rattle.std.proofs.Common.{◌≡◌, ◌++◌, ◌∷◌, [], length, refl, sym, ap, subst, ◌∙◌, rules, arith, length-append}
use Rattle.fx_expr.specs.Bindings.{bind}
use Rattle.fx_expr.specs.Tree.{Tree}
use Rattle.fx_expr.specs.Views.{tree_of}
use Rattle.fx_expr.specs.declared.value.Value as values
use Rattle.fx_expr.specs.declared.value.Value.TheVariants.{Nothing}
use Rattle.fx_spec.specs.Describe.{Bindings, is_true, value}
use Rattle.fx_spec.specs.SpecTree.{SpecTree}
use Rattle.fx_spec.specs.Parts.{part_of}
use Rattle.fx_session.proofs.Calls.{refused, found_as}
use Rattle.fx_session.specs.Scopes.{HasScope, HasTextScope}
use Rattle.fx_session.specs.Arguments.{inner_names}
use Rattle.fx_walk.specs.Given.{mapped, Pairs}
use Rattle.fx_walk.proofs.Forms.{of_env, of_tree, file_follows, dir_follows, link_follows, focus_refused, focus_none, focus_follows, table_refused, table_none, table_follows, pred_follows, pair_stops, pair_none, pair_follows, option_stops, option_none, option_follows, call_refused, call_none, call_follows, last_none, mapped_stops, mapped_refused, mapped_answers, pairs_follow}
use Rattle.fx_session.proofs.ArgumentsLemmas.{fault_given}
use Rattle.fx_walk.proofs.Rows.{at_first, cut_back, row_refused, rows_end, row_stops, row_none, row_next}
use Rattle.fx_walk.proofs.Shapes.{focus_part, pair_first, pair_second, comp_part, opt_part, call_body}
use Rattle.fx_walk.proofs.values.+value.Goals as goal

pub value_in-returns-in-File-clause-follows : goal.value_in-returns-in-File-clause-follows
value_in-returns-in-File-clause-follows g t c =
    let tree : part_of c.args.spec.now ≡ SpecTree.file = c.in-File.ensures.form in
    of_tree c.args.path.now c.args.env.now tree (file_follows c.args.path.now c.args.env.now c.file_content.ensures.follows)

pub value_in-returns-in-Dir-clause-follows : goal.value_in-returns-in-Dir-clause-follows
value_in-returns-in-Dir-clause-follows g t c =
    let tree : part_of c.args.spec.now ≡ SpecTree.dir = c.in-Dir.ensures.form in
    of_tree c.args.path.now c.args.env.now tree (dir_follows c.args.path.now c.args.env.now c.dir_content.ensures.follows)

pub value_in-returns-in-Link-clause-follows : goal.value_in-returns-in-Link-clause-follows
value_in-returns-in-Link-clause-follows g t c =
    let tree : part_of c.args.spec.now ≡ SpecTree.link = c.in-Link.ensures.form in
    of_tree c.args.path.now c.args.env.now tree (link_follows c.args.path.now c.args.env.now c.link_content.ensures.follows)

pub value_in-returns-in-Pred-clause-follows : goal.value_in-returns-in-Pred-clause-follows
value_in-returns-in-Pred-clause-follows g t c =
    of_tree c.args.path.now c.args.env.now c.in-Pred.ensures.form
    (pred_follows c.args.path.now c.args.env.now c.truth_of.ensures.tick c.in-Pred.test.now c.truth_of.result c.truth_of.ensures.truth c.truth_of.ensures.refused)

pub value_in-returns-in-Last-clause-follows : goal.value_in-returns-in-Last-clause-follows
value_in-returns-in-Last-clause-follows g t c = of_tree c.args.path.now c.args.env.now c.in-Last.ensures.form.1 (last_none c.args.path.now c.args.env.now _ c.in-Last.ensures.form.0)

pub focus_in-returns-in_err-inner-clause-follows : goal.focus_in-returns-in_err-inner-clause-follows
focus_in-returns-in_err-inner-clause-follows g t c =
    focus_refused c.args.path.now c.args.env.now c.in_err-inner.ensures.tick c.args.text.now (part_of c.args.part.now) c.from_residual.result c.from_residual.ensures.1

pub focus_in-value_in-requires : goal.focus_in-value_in-requires
focus_in-value_in-requires g t c =
    let part : HasScope c.args.env.now (part_of c.args.part.now) = focus_part c.args.env.now c.args.text.now (part_of c.args.part.now) c.requires.described in
    search rules

pub focus_in-returns-in-Some-clause-follows : goal.focus_in-returns-in-Some-clause-follows
focus_in-returns-in-Some-clause-follows g t c =
    focus_follows c.args.path.now c.args.env.now c.in_ok-inner.ensures.tick c.args.text.now (part_of c.args.part.now) c.in-Some.inner (sym c.in-Some.is ∙ c.in_ok-inner.ensures.path) c.value_in.ensures.follows

pub focus_in-returns-in-None-clause-follows : goal.focus_in-returns-in-None-clause-follows
focus_in-returns-in-None-clause-follows g t c =
    focus_none c.args.path.now c.args.env.now c.in_ok-inner.ensures.tick c.args.text.now (part_of c.args.part.now) (sym c.in-None.is ∙ c.in_ok-inner.ensures.path)

pub pair_in-value_in-requires : goal.pair_in-value_in-requires
pair_in-value_in-requires g t c =
    let first : HasScope c.args.env.now (part_of c.args.first.now) = pair_first c.args.env.now c.args.name.now (part_of c.args.first.now) (part_of c.args.second.now) c.requires.described in
    search rules

pub pair_in-returns-in_err-value-clause-follows : goal.pair_in-returns-in_err-value-clause-follows
pair_in-returns-in_err-value-clause-follows g t c =
    pair_stops c.args.path.now c.args.env.now c.args.name.now (part_of c.args.first.now) (part_of c.args.second.now) c.from_residual.result c.from_residual.ensures.1 c.in_err-value.ensures.follows

pub pair_in-second_in-requires : goal.pair_in-second_in-requires
pair_in-second_in-requires g t c =
    let second : HasScope (bind c.args.env.now c.args.name.now (tree_of c.in-Some.value)) (part_of c.args.second.now) =
    pair_second c.args.env.now c.args.path.now c.args.name.now (part_of c.args.first.now) (part_of c.args.second.now) c.in-Some.value c.requires.described
    (found_as c.in-Some.is c.in_ok-value.ensures.follows) in
    let part : HasScope (bind c.value_in.new.env c.args.name.now (tree_of c.in-Some.value)) (part_of c.args.second.now) =
    subst (λ (e : Bindings). HasScope (bind e c.args.name.now (tree_of c.in-Some.value)) (part_of c.args.second.now)) (sym c.in_ok-value.ensures.env) second in
    search rules

pub pair_in-returns-in-Some-clause-follows : goal.pair_in-returns-in-Some-clause-follows
pair_in-returns-in-Some-clause-follows g t c =
    pair_follows c.args.path.now c.args.env.now c.args.name.now (part_of c.args.first.now) (part_of c.args.second.now) c.in-Some.value c.in_ok-value.ensures.env
    (found_as c.in-Some.is c.in_ok-value.ensures.follows) c.second_in.ensures.follows

pub pair_in-returns-in-None-clause-follows : goal.pair_in-returns-in-None-clause-follows
pair_in-returns-in-None-clause-follows g t c =
    pair_none c.args.path.now c.args.env.now c.args.name.now (part_of c.args.first.now) (part_of c.args.second.now)
    (found_as c.in-None.is c.in_ok-value.ensures.follows)

pub second_in-returns-in_err-bind_value-clause-follows : goal.second_in-returns-in_err-bind_value-clause-follows
second_in-returns-in_err-bind_value-clause-follows g t c =
    refused (mapped (Tree.pair (tree_of c.args.first)) (value c.args.path.now (bind c.args.env.now c.args.name.now (tree_of c.args.first)) (part_of c.args.part.now))) c.from_residual.result c.from_residual.ensures.1

pub second_in-value_in-second-requires : goal.second_in-value_in-second-requires
second_in-value_in-second-requires g t c =
    let part : HasScope c.bind_value.new.env (part_of c.args.part.now) =
    subst (λ (e : Bindings). HasScope e (part_of c.args.part.now)) (sym c.in_ok-bind_value.ensures.bound) c.requires.described in
    search rules

pub second_in-unbind-requires : goal.second_in-unbind-requires
second_in-unbind-requires g t c =
    let grown : c.value_in-second.new.env ≡ bind c.args.env.now c.args.name.now (tree_of c.args.first) = c.value_in-second.ensures.env ∙ c.in_ok-bind_value.ensures.bound in
    omega (arith, ap length grown, length-append c.args.env.now ((c.args.name.now, tree_of c.args.first) ∷ []))

pub second_in-returns-clause-env : goal.second_in-returns-clause-env
second_in-returns-clause-env g t c =
    let grown : c.value_in-second.new.env ≡ bind c.args.env.now c.args.name.now (tree_of c.args.first) = c.value_in-second.ensures.env ∙ c.in_ok-bind_value.ensures.bound in
    c.unbind.ensures.around c.args.env.now c.args.name.now (tree_of c.args.first) grown

pub second_in-returns-clause-follows : goal.second_in-returns-clause-follows
second_in-returns-clause-follows g t c =
    let grown : c.value_in-second.new.env ≡ bind c.args.env.now c.args.name.now (tree_of c.args.first) = c.value_in-second.ensures.env ∙ c.in_ok-bind_value.ensures.bound in
    pairs_follow (value c.args.path.now (bind c.args.env.now c.args.name.now (tree_of c.args.first)) (part_of c.args.part.now)) (tree_of c.args.first) c.value_in-second.result c.paired.result
    (subst (λ (v : Tree). Pairs v c.value_in-second.result c.paired.result) (c.unbind.ensures.value c.args.env.now c.args.name.now (tree_of c.args.first) grown) c.paired.ensures)
    (of_env c.args.path.now (part_of c.args.part.now) c.in_ok-bind_value.ensures.bound c.value_in-second.ensures.follows)

pub table_in-returns-in_err-set-clause-follows : goal.table_in-returns-in_err-set-clause-follows
table_in-returns-in_err-set-clause-follows g t c =
    table_refused c.args.path.now c.args.env.now c.in_err-set.ensures.tick (part_of c.args.part.now) c.args.name.now c.args.set.now c.from_residual.result c.from_residual.ensures.1

pub table_in-rows_in-requires : goal.table_in-rows_in-requires
table_in-rows_in-requires g t c =
    let part : HasTextScope c.args.env.now c.args.name.now (part_of c.args.part.now) = comp_part c.args.env.now (part_of c.args.part.now) c.args.name.now c.args.set.now c.requires.described in
    search rules

pub table_in-returns-in-Some-clause-follows : goal.table_in-returns-in-Some-clause-follows
table_in-returns-in-Some-clause-follows g t c =
    table_follows c.args.path.now c.args.env.now c.in_ok-set.ensures.tick (part_of c.args.part.now) c.args.name.now c.args.set.now c.in-Some.set (sym c.in-Some.is ∙ c.in_ok-set.ensures.set) c.rows_in.ensures.follows

pub table_in-returns-in-None-clause-follows : goal.table_in-returns-in-None-clause-follows
table_in-returns-in-None-clause-follows g t c =
    table_none c.args.path.now c.args.env.now c.in_ok-set.ensures.tick (part_of c.args.part.now) c.args.name.now c.args.set.now (sym c.in-None.is ∙ c.in_ok-set.ensures.set)

pub rows_in-loop-i-init : goal.rows_in-loop-i-init
rows_in-loop-i-init g t c = at_first c.new-values.result.items c.new-values.ensures.items

pub rows_in-row_in-requires : goal.rows_in-row_in-requires
rows_in-row_in-requires g t c =
    let part : HasScope (bind c.loop-i.env c.args.name.now (Tree.str c.element-text.result.now)) (part_of c.args.part.now) =
    subst (λ (e : Bindings). HasScope (bind e c.args.name.now (Tree.str c.element-text.result.now)) (part_of c.args.part.now)) (sym c.loop-i.invariant.same) (c.requires.described c.element-text.result.now) in
    search rules

pub rows_in-returns-in_err-value-clause-env : goal.rows_in-returns-in_err-value-clause-env
rows_in-returns-in_err-value-clause-env g t c = c.in_err-value.ensures.env ∙ c.loop-i.invariant.same

pub rows_in-returns-in_err-value-clause-follows : goal.rows_in-returns-in_err-value-clause-follows
rows_in-returns-in_err-value-clause-follows g t c =
    row_stops c.loop-i.invariant c.element-text.result.now c.element-text.ensures c.from_residual.result c.from_residual.ensures.1 c.in_err-value.ensures.follows

pub rows_in-returns-in-None-clause-env : goal.rows_in-returns-in-None-clause-env
rows_in-returns-in-None-clause-env g t c = c.in_ok-value.ensures.env ∙ c.loop-i.invariant.same

pub rows_in-returns-in-None-clause-follows : goal.rows_in-returns-in-None-clause-follows
rows_in-returns-in-None-clause-follows g t c =
    row_none c.loop-i.invariant c.element-text.result.now c.element-text.ensures (found_as c.in-None.is c.in_ok-value.ensures.follows)

pub rows_in-returns-in_err-push-in-Some-clause-env : goal.rows_in-returns-in_err-push-in-Some-clause-env
rows_in-returns-in_err-push-in-Some-clause-env g t c = c.in_ok-value.ensures.env ∙ c.loop-i.invariant.same

pub rows_in-returns-in_err-push-in-Some-clause-follows : goal.rows_in-returns-in_err-push-in-Some-clause-follows
rows_in-returns-in_err-push-in-Some-clause-follows g t c =
    row_refused
    (row_next c.loop-i.invariant c.element-text.result.now c.element-text.ensures c.in-Some.value (c.loop-i.values.items ++ c.in-Some.value ∷ []) c.row_in.new.env (found_as c.in-Some.is c.in_ok-value.ensures.follows) refl c.in_ok-value.ensures.env)
    c.from_residual-in_err-push-in-Some.result c.from_residual-in_err-push-in-Some.ensures.1

pub rows_in-loop-i-preserved : goal.rows_in-loop-i-preserved
rows_in-loop-i-preserved g t c =
    let pushed : c.push.new.self.items ≡ c.loop-i.values.items ++ c.in-Some.value ∷ [] = search rules in
    row_next c.loop-i.invariant c.element-text.result.now c.element-text.ensures c.in-Some.value c.push.new.self.items c.row_in.new.env (found_as c.in-Some.is c.in_ok-value.ensures.follows) pushed c.in_ok-value.ensures.env

pub rows_in-table_of-requires : goal.rows_in-table_of-requires
rows_in-table_of-requires g t c =
    let all : length c.args.set.now ≡ c.loop-i.i = omega (arith, c.len-i-end.ensures.value, c.loop-i.auto.i-end, c.loop-i-test.false) in
    c.loop-i.invariant.long ∙ sym all

pub rows_in-returns-in_err-table_of-clause-env : goal.rows_in-returns-in_err-table_of-clause-env
rows_in-returns-in_err-table_of-clause-env g t c = c.loop-i.invariant.same

pub rows_in-returns-in_err-table_of-clause-follows : goal.rows_in-returns-in_err-table_of-clause-follows
rows_in-returns-in_err-table_of-clause-follows g t c =
    row_refused c.loop-i.invariant c.from_residual-in_err-table_of.result c.from_residual-in_err-table_of.ensures.1

pub rows_in-returns-clause-env : goal.rows_in-returns-clause-env
rows_in-returns-clause-env g t c = c.loop-i.invariant.same

pub rows_in-returns-clause-follows : goal.rows_in-returns-clause-follows
rows_in-returns-clause-follows g t c =
    let all : length c.args.set.now ≡ c.loop-i.i = omega (arith, c.len-i-end.ensures.value, c.loop-i.auto.i-end, c.loop-i-test.false) in
    rows_end c.loop-i.invariant c.in_ok-table_of.field-0 all c.in_ok-table_of.ensures

pub row_in-returns-in_err-bind_text-clause-follows : goal.row_in-returns-in_err-bind_text-clause-follows
row_in-returns-in_err-bind_text-clause-follows g t c = refused (value c.args.path.now (bind c.args.env.now c.args.name.now (Tree.str c.args.text.now)) (part_of c.args.part.now)) c.from_residual.result c.from_residual.ensures.1

pub row_in-value_in-value-requires : goal.row_in-value_in-value-requires
row_in-value_in-value-requires g t c =
    let part : HasScope c.bind_text.new.env (part_of c.args.part.now) =
    subst (λ (e : Bindings). HasScope e (part_of c.args.part.now)) (sym c.in_ok-bind_text.ensures.bound) c.requires.described in
    search rules

pub row_in-returns-clause-env : goal.row_in-returns-clause-env
row_in-returns-clause-env g t c =
    let grown : c.value_in-value.new.env ≡ bind c.args.env.now c.args.name.now (Tree.str c.args.text.now) = c.value_in-value.ensures.env ∙ c.in_ok-bind_text.ensures.bound in
    cut_back c.args.env.now c.value_in-value.new.env c.cut.new.self c.args.name.now (Tree.str c.args.text.now) c.len-len.result c.cut.ensures grown c.len-len.ensures

pub row_in-returns-clause-follows : goal.row_in-returns-clause-follows
row_in-returns-clause-follows g t c =
    of_env c.args.path.now (part_of c.args.part.now) c.in_ok-bind_text.ensures.bound c.value_in-value.ensures.follows

pub option_in-returns-in_err-exists-clause-follows : goal.option_in-returns-in_err-exists-clause-follows
option_in-returns-in_err-exists-clause-follows g t c =
    option_stops c.args.path.now c.args.env.now (part_of c.args.part.now) c.from_residual.result c.from_residual.ensures.1 c.in_err-exists.ensures.follows

pub option_in-some_in-requires : goal.option_in-some_in-requires
option_in-some_in-requires g t c =
    let part : HasScope c.args.env.now (part_of c.args.part.now) = opt_part c.args.env.now (part_of c.args.part.now) c.requires.described in
    search rules

pub option_in-returns-then-branch-clause-follows : goal.option_in-returns-then-branch-clause-follows
option_in-returns-then-branch-clause-follows g t c =
    option_follows c.args.path.now c.args.env.now (part_of c.args.part.now) c.if-branch.true c.in_ok-exists.ensures.follows c.some_in.ensures.follows

pub option_in-returns-else-branch-clause-follows : goal.option_in-returns-else-branch-clause-follows
option_in-returns-else-branch-clause-follows g t c =
    let none : tree_of Nothing ≡ Tree.nothing = search (rules, values.the_lemmas) in
    option_none c.args.path.now c.args.env.now (part_of c.args.part.now) Nothing c.if-branch.false none c.in_ok-exists.ensures.follows

pub some_in-returns-in_err-value-clause-follows : goal.some_in-returns-in_err-value-clause-follows
some_in-returns-in_err-value-clause-follows g t c = mapped_stops (value c.args.path.now c.args.env.now (part_of c.args.part.now)) Tree.some c.from_residual.result c.from_residual.ensures.1 c.in_err-value.ensures.follows

pub some_in-returns-in_err-optional-clause-follows : goal.some_in-returns-in_err-optional-clause-follows
some_in-returns-in_err-optional-clause-follows g t c = mapped_refused (value c.args.path.now c.args.env.now (part_of c.args.part.now)) Tree.some c.from_residual-in_err-optional.result c.from_residual-in_err-optional.ensures.1 c.in_ok-value.ensures.follows

pub some_in-returns-clause-follows : goal.some_in-returns-clause-follows
some_in-returns-clause-follows g t c = mapped_answers (value c.args.path.now c.args.env.now (part_of c.args.part.now)) Tree.some c.in_ok-optional.field-0 c.in_ok-optional.ensures c.in_ok-value.ensures.follows

pub call_in-body_in-requires : goal.call_in-body_in-requires
call_in-body_in-requires g t c =
    let body : HasScope c.in-Ok.inner (part_of c.args.body.now) = call_body c.args.env.now c.args.args.now c.args.params.now (part_of c.args.body.now) c.in-Ok.inner c.requires.described c.in-Ok.ensures.names in
    search rules

pub call_in-returns-in-Ok : goal.call_in-returns-in-Ok
call_in-returns-in-Ok g t c = record {
  follows = call_follows c.args.path.now c.args.env.now c.args.args.now c.args.params.now (part_of c.args.body.now) c.in-Ok.ensures.most c.in-Ok.inner c.in-Ok.ensures.names c.body_in.ensures.follows;
}

pub call_in-returns-in-Err-Fault : goal.call_in-returns-in-Err-Fault
call_in-returns-in-Err-Fault g t c = record {
  follows =
      call_none c.args.path.now c.args.env.now c.args.args.now c.args.params.now (part_of c.args.body.now) c.in-Err-Fault.ensures.most c.in-Err-Fault.field-0-0
      (fault_given (inner_names c.args.env.now c.args.params.now c.args.args.now) c.in-Err-Fault.field-0 c.in-Err-Fault.field-0-0 c.in-Err-Fault.field-0-is c.in-Err-Fault.ensures.names);
}

pub call_in-returns-in-Err-NoMemory : goal.call_in-returns-in-Err-NoMemory
call_in-returns-in-Err-NoMemory g t c = record { follows = call_refused c.args.path.now c.args.env.now c.args.args.now c.args.params.now (part_of c.args.body.now) c.in-Err-NoMemory.ensures.most }

pub body_in-returns-in_err-value : goal.body_in-returns-in_err-value
body_in-returns-in_err-value g t c = record {
  follows = mapped_stops (value c.args.path.now c.args.env (part_of c.args.body.now)) is_true c.from_residual.result c.from_residual.ensures.1 c.in_err-value.ensures.follows;
}

pub body_in-returns : goal.body_in-returns
body_in-returns g t c = record { follows = mapped_answers (value c.args.path.now c.args.env (part_of c.args.body.now)) is_true c.true_of.result c.true_of.ensures c.in_ok-value.ensures.follows }
