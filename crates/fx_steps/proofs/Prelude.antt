-- The words that most proofs of this crate cite.
pub use Rattle.std.proofs.Common.{Bool, Err, IsSome, List, None, Ok, Option, Result, Some, [], ap, append_assoc, arith, cond, drop, false, length, length-append, length-drop, option_map, refl, rules, subst, suc, sym, take, take-append-drop, true}
pub use Rattle.std.proofs.Common.{zero, ℕ, ◌&&◌, ◌++◌, ◌+◌, ◌-◌, ◌<◌, ◌∙◌, ◌∷◌, ◌≡◌, ◌≤◌}
pub use Rattle.std.proofs.lemmas.Bool.{and_from}
pub use Rattle.std.proofs.lemmas.List.{take_more}
pub use Rattle.std.proofs.lemmas.Option.{slice_get_read}
pub use Rattle.std.specs.Option.{IfSome, option_copied, option_to_list}
pub use Rattle.std.specs.Prelude.{IfOk, IsErrAnd, MatchOption, nat_le, slice_get}
pub use Rattle.fx_base.proofs.Errors.{err_of}
pub use Rattle.fx_expr.specs.Bindings.{bind}
pub use Rattle.fx_expr.specs.Eval.{Outcome, eval_of, names_in}
pub use Rattle.fx_expr.specs.ExprTree.{ExprTree}
pub use Rattle.fx_expr.specs.Sets.{has_text, least}
pub use Rattle.fx_expr.specs.ShapeTree.{ShapeTree}
pub use Rattle.fx_expr.specs.Shapes.{IsWellShaped}
pub use Rattle.fx_expr.specs.Tree.{Tree}
pub use Rattle.fx_expr.specs.Views.{shape_tree, tree_of}
pub use Rattle.fx_expr.specs.declared.value.Value.{Value}
pub use Rattle.fx_session.proofs.Calls.{answers, stops, then_answers, then_refused}
pub use Rattle.fx_session.specs.Answering.{answered}
pub use Rattle.fx_session.specs.Halts.{split}
pub use Rattle.fx_session.specs.Implements.{Implements, ticked_by}
pub use Rattle.fx_session.specs.declared.halt.Halt.{Halt}
pub use Rattle.fx_session.specs.declared.session.Session.{Session}
pub use Rattle.fx_spec.specs.Describe.{Bindings, argument_evals, arguments, behind, exists, focus_path, then_others, unless_fault, with_values}
pub use Rattle.fx_spec.specs.Move.{Answered, chosen, element, evaluated, go_into, go_to, same_shape, with_arguments}
pub use Rattle.fx_spec.specs.Parts.{part_of}
pub use Rattle.fx_spec.specs.Place.{Address, Body, Down, Elem, First, Inside, PlaceTree, Step, at_path, has_element, in_body, lead, placed, where_true}
pub use Rattle.fx_spec.specs.SpecTree.{SpecTree}
pub use Rattle.fx_spec.specs.WellShaped.{AreArguments}
pub use Rattle.fx_spec.specs.declared.refusal.Refusal.{Refusal}
pub use Rattle.fx_store.specs.Rule.{Answer, Ask, Found, Known, Look, Tick, changed, follow, ticks, ◌>>=◌}
pub use Rattle.fx_store.specs.Whole.{Store}
pub use Rattle.fx_text.proofs.Chosen.{has_least}
pub use Rattle.fx_view.specs.Meaning.{Meaning}
pub use Rattle.fx_view.specs.Own.{own_at}
pub use Rattle.fx_view.specs.OwnList.{OwnList}
pub use Rattle.fx_view.specs.ReadList.{ReadList}
pub use Rattle.fx_view.specs.Reads.{known_of}
pub use Rattle.fx_view.specs.declared.reader.Stop.{Stop}
pub use Rattle.fx_session.specs.Arguments.{HaveShapes, inner_names, with_each}
pub use Rattle.fx_session.specs.Scopes.{HasScope}
pub use Rattle.fx_steps.specs.Around.{HasSet, IsSetOf, around}
pub use Rattle.fx_steps.specs.Frames.{are_told, around_last, last_caller, last_set, last_step, path_of}
pub use Rattle.fx_steps.specs.Parts.{IsNoCall, IsNoOption, child, part}
pub use Rattle.fx_steps.specs.Spots.{BindsNames, BindsText, Chooses, Enters, EntersAt, as_entry, chosen_entry, inner_entry, IsSpot, LeadsAt, LeadsTo, LeadsToSpot, bound_name, caller_in, grown, spot_place}
pub use Rattle.fx_steps.specs.Steps.{step_tree, turned, turned_onto}
pub use Rattle.fx_steps.specs.Telling.{AreWellShaped, OnlyCounts, Says, TellsWithin, arguments_tried, costs, given, names_answer, set_answer, told}
pub use Rattle.fx_steps.specs.declared.frame.Chosen.{Chosen}
pub use Rattle.fx_steps.specs.declared.frame.Entry.{Entry}
pub use Rattle.fx_steps.specs.declared.frame.Frame.{Frame}
pub use Rattle.fx_steps.specs.declared.frame.Spot.{Spot}
