-- The words that most proofs of this crate cite.
pub use Rattle.std.proofs.Common.{Bool, Err, IsSome, List, None, Ok, Option, Result, Some, [], ap, append_assoc, arith, cond, drop, false, get_or, is_some, length, length-append, length-take, option_map, refl, rules, subst, suc, sym, take}
pub use Rattle.std.proofs.Common.{take-append-drop, true, zero, ℕ, ◌++◌, ◌+◌, ◌-◌, ◌<◌, ◌∙◌, ◌∷◌, ◌≡◌, ◌≤◌}
pub use Rattle.std.proofs.lemmas.Bool.{eq-eqb, eqb-false}
pub use Rattle.std.proofs.lemmas.List.{append-nil}
pub use Rattle.std.proofs.lemmas.Option.{slice_get_read, slice_get_within}
pub use Rattle.std.specs.Option.{IfSome, option_copied, unwrap_or}
pub use Rattle.std.specs.Prelude.{IfOk, IsErrAnd, MatchOption, nat_eq, nat_le, slice_get}
pub use Rattle.fx_base.proofs.Errors.{err_of}
pub use Rattle.fx_expr.specs.Bindings.{bind}
pub use Rattle.fx_expr.specs.Eval.{Outcome, eval_of}
pub use Rattle.fx_expr.specs.ExprTree.{ExprTree}
pub use Rattle.fx_expr.specs.Sets.{greatest_below, has_text, least_above}
pub use Rattle.fx_expr.specs.ShapeTree.{ShapeTree}
pub use Rattle.fx_expr.specs.Shapes.{ValueHas}
pub use Rattle.fx_expr.specs.Tree.{Tree}
pub use Rattle.fx_expr.specs.Views.{shape_tree, tree_of}
pub use Rattle.fx_expr.specs.declared.value.Value.{Value}
pub use Rattle.fx_session.proofs.Calls.{answers, refused, same_rule, stops, then_answers, then_on, then_refused}
pub use Rattle.fx_session.proofs.Halting.{step_halt, stop_halts}
pub use Rattle.fx_session.specs.Answering.{answered}
pub use Rattle.fx_session.specs.Halts.{split}
pub use Rattle.fx_session.specs.Implements.{Answers, Implements, ticked}
pub use Rattle.fx_session.specs.declared.halt.Halt.{Halt}
pub use Rattle.fx_session.specs.declared.session.Session.{Session}
pub use Rattle.fx_spec.specs.Describe.{Bindings, content, exists, flag_value, with_some}
unfoldable pub use Rattle.fx_spec.specs.Describe.{value}
pub use Rattle.fx_spec.specs.Move.{Answered, another, asks_flag, at_place, element, evaluated, fetch_at, fetch_shape, fetched, flag_at, go_down, go_into, go_next, go_out, go_prev, go_to, go_up, has_fetch_shape, needed, of_shape, same_shape}
pub use Rattle.fx_spec.specs.Move.{unrefused, value_shape, whole_at}
pub use Rattle.fx_spec.specs.Parts.{part_of}
pub use Rattle.fx_spec.specs.Place.{Address, Body, Down, Elem, First, Inside, PlaceTree, Second, Step, lead, placed}
unfoldable pub use Rattle.fx_spec.specs.Place.{place}
pub use Rattle.fx_spec.specs.Shaped.{IsDescribedPlace}
pub use Rattle.fx_spec.specs.SpecTree.{SpecTree}
pub use Rattle.fx_spec.specs.Transaction.{from_place}
pub use Rattle.fx_spec.specs.WellShaped.{AreDefined, IsDescription}
pub use Rattle.fx_spec.specs.declared.refusal.Refusal.{Refusal}
pub use Rattle.fx_store.specs.Rule.{AgreesWith, Answer, Ask, Found, Known, Look, Tick, answer, changed, follow, if_known, seen, ticks, ◌>>=◌}
pub use Rattle.fx_store.specs.Whole.{Store}
pub use Rattle.fx_store.specs.declared.node.Node.{Node}
pub use Rattle.fx_text.proofs.Chosen.{has_above, has_below}
pub use Rattle.fx_view.proofs.Rules.{follow-bind, found_answer, found_more}
pub use Rattle.fx_view.specs.Meaning.{Meaning}
pub use Rattle.fx_view.specs.Own.{SameOver, own_at}
pub use Rattle.fx_view.specs.OwnList.{OwnList}
pub use Rattle.fx_view.specs.ReadList.{ReadList}
pub use Rattle.fx_view.specs.Reads.{Agrees, known_of}
pub use Rattle.fx_view.specs.declared.reader.Stop.{Stop}
pub use Rattle.fx_session.specs.Scopes.{HasScope}
pub use Rattle.fx_zip.specs.Asking.{IsTruth, asked_at, asked_shape}
pub use Rattle.fx_zip.specs.Calls.{Asks, AsksAtPlace, Besides, Evaluates, Finds, IsSettling, Moves, OnRefused, SaysFound, SettlesFrames, SettlesTo, Turned, Turns, beside, next_at, next_evals, place_evals, place_needed, prev_at, settling_evals}
pub use Rattle.fx_zip.specs.Calls.{sideways_evals, value_needed}
pub use Rattle.fx_zip.specs.Fresh.{AreFound, IsFresh, IsFreshIn, IsNoElement, Stands, StandsIn, around_frame, is_first, is_second_step, left, set_behind, shorter, told_by, told_of}
pub use Rattle.fx_steps.specs.Around.{HasSet, IsHeldSet, IsSetOf, around}
pub use Rattle.fx_steps.specs.Frames.{are_told, around_last, is_element, last_caller, last_set, last_step, path_of}
pub use Rattle.fx_steps.specs.Parts.{IsNoPair, child, comp_name, part}
pub use Rattle.fx_steps.specs.Spots.{BindsValue, Chooses, Enters, LeadsTo, LeadsToSpot, bound_value, framed, grown}
pub use Rattle.fx_zip.specs.Entered.{FirstLeads, LeadsFrom, LeadsNext, entered, kept_too}
pub use Rattle.fx_steps.specs.Steps.{step_tree, turned}
pub use Rattle.fx_steps.specs.Telling.{Says, set_answer}
pub use Rattle.fx_zip.specs.Trees.{IsSettled, ZipTree, here, is_settled}
pub use Rattle.fx_zip.specs.View.{zip_tree}
pub use Rattle.fx_steps.specs.declared.frame.Entry.{Entry}
pub use Rattle.fx_steps.specs.declared.frame.Frame.{Frame}
pub use Rattle.fx_steps.specs.declared.frame.Spot.{Spot}
