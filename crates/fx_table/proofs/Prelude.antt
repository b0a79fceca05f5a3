-- The words that most proofs of this crate cite.
pub use Rattle.fx_base.proofs.Booleans.{first_true, second_true}
pub use Rattle.fx_base.proofs.Errors.{err_of}
pub use Rattle.fx_base.proofs.Lists.{All-at, all_both, all_end, all_front, all_last, all_push, ascending_front, at_index, at_middle, length_keys, no_length, parts_at, same_heads, some_at}
pub use Rattle.fx_base.proofs.Names.{above_pushed, not_before_itself, path_is, same_front}
pub use Rattle.fx_base.proofs.Orders.{is_less}
pub use Rattle.fx_base.proofs.Results.{chosen_ok, chosen_some, none_if_never, none_of, not_some, some_of}
pub use Rattle.fx_outside.proofs.Sorted.{both, find_at, find_gap, first, greater_from_less, less_test, rises, second, sorted_test, strictly_sorted}
pub use Rattle.fx_outside.proofs.Trees.{in_folder_cmp, name_in_folder, name_in_pushed, name_total, parts_same, parts_total, true_test}
pub use Rattle.fx_outside.specs.Path.{Parts, above, name_in, parts_cmp}
pub use Rattle.fx_store.proofs.Ascending.{above_from_ascending, ascending-push}
pub use Rattle.fx_store.proofs.Overlays.{none_above, over-change_at}
pub use Rattle.fx_store.proofs.PathLists.{has_first, path_bytes, read_path_text, rest_append, rest_is, root_first}
pub use Rattle.fx_store.proofs.SpellingLaws.{path_texts_read}
pub use Rattle.fx_store.proofs.Stores.{IsWhole-same, get-over_nodes, node_at, same_nodes}
pub use Rattle.fx_store.proofs.WholeStores.{bare, get-root_only}
pub use Rattle.fx_store.specs.Changes.{IsChanges, change_at, changed_paths}
pub use Rattle.fx_store.specs.Faults.{read_link, read_path}
pub use Rattle.fx_store.specs.Filestore.{root_only}
pub use Rattle.fx_store.specs.Kinds.{is_dir, is_executable, is_file}
pub use Rattle.fx_store.specs.Names.{IsLinkText, IsName, IsNameSet, IsPath, components, has, has_link_form, is_above, name_cmp, path_cmp, path_text, rest_of}
unfoldable pub use Rattle.fx_store.specs.Names.{is_name}
pub use Rattle.fx_store.specs.Orders.{path_eq_same, path_same, path_total}
pub use Rattle.fx_store.specs.Resolve.{parent}
pub use Rattle.fx_store.specs.Whole.{IsNode, IsWhole, Nodes, Store, lists, over_nodes}
pub use Rattle.fx_store.specs.declared.changes.Change.{Change}
pub use Rattle.fx_store.specs.declared.filestore.Filestore.{Filestore}
pub use Rattle.fx_store.specs.declared.name.PathFault.{PathFault}
pub use Rattle.fx_store.specs.declared.name.PathFault.TheVariants.{TooDeep}
pub use Rattle.fx_store.specs.declared.node.Node.{Node}
pub use Rattle.fx_store.specs.declared.node.Node.TheVariants.{Dir, File, Link}
pub use Rattle.fx_table.specs.Flags.{flag_change, flagged_at, links_alone, with_exec}
pub use Rattle.fx_table.specs.Lines.{AreLines, BodyCause, CanFollow, IsCut, IsNextLine, IsStopped, LinesCause, ReadsAll, ReadsBody, ReadsNext, StopsNext, TakesRoom, as_line, is_over_by, line_change, line_in, lines_in, link_bytes, link_change, link_in, links_in, mark_in, mark_node, standing_by}
pub use Rattle.fx_table.specs.Linked.{Keeps, MakesTable, TableCause, changed_flag, differs, emptied_node, kept_change, kept_of, linked_nodes}
pub use Rattle.fx_table.specs.Listed.{Mapped, listed, names_below, with_flag, with_flags, with_lines, with_links, with_names}
pub use Rattle.fx_table.specs.Lists.{HasChildAdded, HasNoFolder, IsAddedAt, IsFolderAt, items_of}
pub use Rattle.fx_table.specs.Mapped.{mapped_of, node_or_dir}
pub use Rattle.fx_table.specs.Merges.{CanMerge, MakeLinks, MakesLink, MovesAll, MovesLinks, StopsAt, pending}
pub use Rattle.fx_table.specs.Remaining.{AreLevels, EntersDirectory, IsLeftBelow, IsLevel, IsNextPath, TakesEntry, TakesPath, from_names, from_path, left_of, names_in}
pub use Rattle.fx_table.specs.Shaped.{AreOfBytes, AreShaped, HaveNameSets, IsNodeBounded, IsOfBytes, IsTreeShaped, ListsAt, change_of, changes_of}
pub use Rattle.fx_table.specs.Table.{AreLinesOver, Executable, IsLine, IsLink, IsMark, IsTable, IsTableBehind, Mark, Setting, TableLine, TableLink, Target, body_of, can_mark, can_stand, first_number, flag_at, flag_by, has_flags, has_place, is_feed, is_flag_mark, is_second, is_space, lacks_flags, line_at, line_of, lines_of, lines_text, link_by, link_in_line, links_among, mark_text, next_line, over, read_body, read_from, read_line, read_lines, read_of, read_on, read_parts, read_table, setting_of, table_text, unless_lacking, version_line, with_first}
pub use Rattle.fx_table.specs.TableLaws.{IsFirstBadLine, IsFirstBadOf, SpellsTable, but_no_link, unlinked}
pub use Rattle.fx_table.specs.TableSpelling.{byte_before, escaped, is_plain_byte, plain_byte, spelled, spelling, unspelled, upper_digit_value}
pub use Rattle.fx_table.specs.Texts.{AddsLine, flags_so_far, line_text_at, lines_so_far}
pub use Rattle.fx_table.specs.Unspells.{SpellsByte}
pub use Rattle.fx_table.specs.declared.descent.Entry.{Entry}
pub use Rattle.fx_table.specs.declared.descent.Level.{Level}
pub use Rattle.fx_table.specs.declared.fault.FolderCause.TheVariants.{BadName, BadTable, Strange, TooLarge}
pub use Rattle.fx_table.specs.declared.fault.LoadFault.{LoadFault}
pub use Rattle.fx_table.specs.declared.fault.LoadFault.TheVariants.{NoMemory, ReadFault, Refused}
pub use Rattle.fx_table.specs.declared.lines.Room.{Room}
pub use Rattle.fx_table.specs.declared.links.TableText.{TableText}
pub use Rattle.std.proofs.Common.{All, Bool, Err, IfOk, IfSome, IsSome, IsTrue, List, None, Ok, Option, Result, Some, T, Vec, [], ap, append-nil, append_assoc, arith, codes, cond, drop, eqb, false, flat_map, get_or, inl, inr, is_none, is_some, length, length-append, length-drop, length-take, map, not, option_map, refl, replicate, reverse, rules, set, subst, suc, sym, take, true, zero, ℕ, ◌%◌, ◌&&◌, ◌*◌, ◌++◌, ◌+◌, ◌-◌, ◌/◌, ◌<◌, ◌==◌, ◌||◌, ◌∙◌, ◌∷◌, ◌≡◌, ◌≤◌, ◌⊎◌}
pub use Rattle.std.proofs.Math.Seq.{take-append_seam, take-length, take-suc}
pub use Rattle.std.proofs.lemmas.Bool.{and_from, cases_Bool, cases_lt, eq-eqb, eqb-true, false≢true, not-false, not-true, or_left, or_parts, or_right}
pub use Rattle.std.proofs.lemmas.Bool.Decides.{nat_tests}
pub use Rattle.std.proofs.lemmas.Fn.{always_returns_same}
pub use Rattle.std.proofs.lemmas.Grind.{common_steps}
pub use Rattle.std.proofs.lemmas.Iterator.{IsFirst-from_position, YieldsList-from_slice}
pub use Rattle.std.proofs.lemmas.Iterator.Adapters.{YieldsList-from_vec}
pub use Rattle.std.proofs.lemmas.Iterator.Consumers.{YieldsList-end}
pub use Rattle.std.proofs.lemmas.List.{append_cancel_left, drop-drop, drop-map, get_or-map, get_or-take, length-map, map-append, map-id, map-set, nil_from_length, reverse-append, take-append-drop, take_all, take_rest}
pub use Rattle.std.proofs.lemmas.List.Elements.{All-append, All-cons, All-from_recursion, All-head, All-nil, All-push, All-tail, All-weaker, filter_map-append}
pub use Rattle.std.proofs.lemmas.List.Splits.{join_with_byte-slice_split, length-slice_split, slice_split_at, slice_split_none}
pub use Rattle.std.proofs.lemmas.List.Sums.{sum_by-cons}
pub use Rattle.std.proofs.lemmas.Option.{same_Some, slice_get-get_or, slice_get-map, slice_get_within}
pub use Rattle.std.proofs.lemmas.Slice.Eq.{bytes_eq-Decides}
pub use Rattle.std.specs.Cmp.{eq_by_cmp_equiv, tied_itself}
pub use Rattle.std.specs.Cmp.Lexicographic.{pointwise}
pub use Rattle.std.specs.FinMap.{entries, entries_sorted, find, from_entries, get, get-entries, get-from_entries, is_sorted, put}
pub use Rattle.std.specs.FinMap.Entries.{below_all, by_order, find-put, find-where_key, is_sorted-put, is_sorted-where_key, same_entries}
pub use Rattle.std.specs.Fmt.{digit_glyph}
pub use Rattle.std.specs.List.{AllByRecursion, AllWithin, HoldsAt, cons_option, filter, filter_map, join_with_byte, list_any, slice_get, slice_set, slice_split}
pub use Rattle.std.specs.List.Sorted.{IsNonDecreasingBy}
unfoldable pub use Rattle.std.specs.List.Sorted.{IsStrictlySortedBy}
pub use Rattle.std.specs.Map.{keys_of}
pub use Rattle.std.specs.Option.{option_and_then, option_or}
pub use Rattle.std.specs.Ordering.{eq_by_cmp, is_eq, is_lt, ordering_index, ordering_reverse, ordering_then}
pub use Rattle.std.specs.Prelude.{bytes_eq, is_ok, nat_lt, option_copied, unwrap_or}
pub use Rattle.std.specs.Result.{result_ok}
pub use Rattle.std.specs.Slice.Iter.{iter_rest}
pub use Rattle.std.specs.declared.cmp.Ordering.{Ordering}
pub use Rattle.std.specs.declared.cmp.Ordering.TheVariants.{Equal, Greater, Less}
