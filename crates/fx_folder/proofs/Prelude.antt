-- The words that most proofs of this crate cite.
pub use Rattle.fx_base.proofs.Booleans.{fifth_true, first_true, never_both, second_true}
pub use Rattle.fx_base.proofs.Errors.{err_of}
pub use Rattle.fx_base.proofs.Lists.{all_both, all_end, all_front, no_length, none_past}
pub use Rattle.fx_base.proofs.Names.{above_pushed, not_before_itself, path_is, path_itself, pushed_some, same_front}
pub use Rattle.fx_base.proofs.Orders.{then_equal_ties, then_greater}
pub use Rattle.fx_base.proofs.Results.{OnErr-from, chosen_some, neither_some, none_if_never, some_of}
pub use Rattle.fx_folder.specs.Deep.{HasFolderOf, Held, all_below, all_bytes, are_too_many, as_nodes, deep_loads, first_refused, folder_entry, held_below, in_table, inside, is_table_place, lacking, last_name, limited, lines_or_cause, linked, loaded, node_of_kind, refused_bytes, refused_entry, refused_kind, table_entry, table_file_lines, table_in, table_lines, unless_refused, unlisted, walked, with_table}
pub use Rattle.fx_folder.specs.DeepExamples.{DeepExamples}
pub use Rattle.fx_folder.specs.Folder.{Absent, Empty, IfTold, IsFrontOf, IsPartOf, IsPartlySaved, IsReady, IsSaved, IsTaken, Out, entry_or, is_written_before}
pub use Rattle.fx_folder.specs.Grown.{AreFoundChanges, FindsItem, HasDir, IsFoundChange, IsFoundNode, IsGrown, IsWalking, paths_ahead}
pub use Rattle.fx_folder.specs.LoadLaws.{FoldersAreLoaded, IsWithinLimits, LoadsAreWhole, counted_bytes, sizes_of}
pub use Rattle.fx_folder.specs.Loads.{AnswersAs, IsRefused, LoadCause, Loads, loads}
pub use Rattle.fx_folder.specs.Places.{host_entry}
pub use Rattle.fx_folder.specs.Reads.{IsReadAt, path_below}
pub use Rattle.fx_folder.specs.RefusalLaws.{EntriesAreListed, FirstCausesAreTold, HasBadLine, HasNoCause, HasTooManyLinks, IsFileCause, IsFirstCause, IsLineCause, IsTableCause, StandsBelow, all_standing, cause_of, exceed_limits, is_one_too_many, is_strange, is_too_much, where_so}
pub use Rattle.fx_folder.specs.Tables.{AnswersFound, AnswersText, HasTable, IsJoined, items_in, room_behind, table_text_or_cause}
pub use Rattle.fx_folder.specs.Walks.{AddsItems, AnswersEntry, AnswersFile, AnswersWalk, AreThere, IsEntered, IsNoRefusal, IsOnWay, IsThere, WalkCause, ahead, below_names, branch, bytes_in, found_as, held_of, item, item_path, items_of, refused_path, root_found, size_of}
pub use Rattle.fx_folder.specs.Written.{HasEntries, IsOpen, MadePart, PutsAt, PutsIn, WroteFront, WrotePart, file_unless_empty, with_entry, with_folder}
pub use Rattle.fx_folder.specs.declared.walking.Item.{Item}
pub use Rattle.fx_folder.specs.declared.walking.Loader.{Loader}
pub use Rattle.fx_outside.proofs.Sorted.{both, first, is_less, less_test, second, sorted_test, strictly_sorted}
pub use Rattle.fx_outside.proofs.Trees.{entries_none, in_folder_cmp, name_same, name_total, parts_same, parts_total, true_test}
pub use Rattle.fx_outside.proofs.Views.{at_then, fault_in, in_below, reads_none, reads_then, writes_then}
pub use Rattle.fx_outside.specs.Host.{AsksAt, AsksIn, FaultIn, HasFailed, HostView, IsIn, LetsIn, ReadsAt, ReadsOnly, WritesIn}
pub use Rattle.fx_outside.specs.Listing.{Names, name_cmp}
pub use Rattle.fx_outside.specs.Path.{Parts, above, has_no_slash, is_fit, is_fit_part, parts, parts_cmp}
pub use Rattle.fx_outside.specs.Tree.{Entry, IsWhole, Lists, Tree, bytes_at, entry_at, file, folder, has_folder, is_file_at, is_file_kind, is_folder_at, is_folder_kind, is_free, is_free_at}
pub use Rattle.fx_outside.specs.declared.kind.HostFault.{HostFault}
pub use Rattle.fx_outside.specs.declared.kind.HostKind.{HostKind}
pub use Rattle.fx_store.proofs.Landings.{listing_is_dir}
pub use Rattle.fx_store.proofs.PathLists.{rest_append, rest_is}
pub use Rattle.fx_store.proofs.Stores.{IsWhole-same}
pub use Rattle.fx_store.specs.Changes.{IsChanges, change_at, changed_paths}
pub use Rattle.fx_store.specs.Kinds.{is_dir, is_file}
pub use Rattle.fx_store.specs.Names.{IsName, IsPath, has, is_name, is_nul, is_reserved, is_slash, path_cmp, rest_of}
pub use Rattle.fx_store.specs.Orders.{path_eq_same, path_same, path_total}
pub use Rattle.fx_store.specs.Resolve.{parent}
pub use Rattle.fx_store.specs.Whole.{IsNode, Nodes, Store, lists}
pub use Rattle.fx_store.specs.declared.changes.Change.{Change}
pub use Rattle.fx_store.specs.declared.filestore.Filestore.{Filestore}
pub use Rattle.fx_store.specs.declared.node.Node.{Node}
pub use Rattle.fx_store.specs.declared.node.Node.TheVariants.{Dir, File, Link}
pub use Rattle.fx_table.proofs.Bodies.{body_said}
pub use Rattle.fx_table.proofs.Descents.{find_append, root_first}
pub use Rattle.fx_table.proofs.Flagging.{bytes_flags, find_flags, lines_made, lines_merge, sorted_flags}
pub use Rattle.fx_table.proofs.Lining.{minus}
pub use Rattle.fx_table.proofs.Linking.{IsLinked, find_linked}
pub use Rattle.fx_table.proofs.Making.{set_at}
pub use Rattle.fx_table.proofs.Naming.{mapped_changes}
pub use Rattle.fx_table.proofs.Reaching.{bytes_linked}
pub use Rattle.fx_table.proofs.Rests.{longer, no_rest, not_at}
pub use Rattle.fx_table.proofs.Shapes.{find_listed, found, has_below, listed_whole, names_ascend, relisted}
pub use Rattle.fx_table.proofs.TableFronts.{before_bad, before_end, lines_before_are, stops_read}
pub use Rattle.fx_table.proofs.TableLines.{SpellsLines, bad_line_is_first, texts_are_lines}
pub use Rattle.fx_table.proofs.TableLinks.{AreFound, all_found, lines_are_tables}
pub use Rattle.fx_table.proofs.TableTexts.{IsListing, listing_more, listing_starts}
pub use Rattle.fx_table.proofs.Versions.{body_read, lacks_in, lacks_none, over_all, stops_in}
pub use Rattle.fx_table.specs.Entered.{levels_of}
pub use Rattle.fx_table.specs.Flags.{with_exec}
pub use Rattle.fx_table.specs.Lines.{AreLines, LinesCause, ReadsAll, is_over, lines_in, link_bytes, standing_by}
pub use Rattle.fx_table.specs.Listed.{Mapped, listed, names_below, with_flag, with_flags, with_lines, with_links}
pub use Rattle.fx_table.specs.Mapped.{mapped_of, node_or_dir}
pub use Rattle.fx_table.specs.Merges.{CanMerge}
pub use Rattle.fx_table.specs.Places.{place_of, table_name}
pub use Rattle.fx_table.specs.Remaining.{IsLeftBelow, TakesPath, left_of}
pub use Rattle.fx_table.specs.Shaped.{AreOfBytes, AreShaped, IsNodeBounded, IsOfBytes, IsTreeShaped, change_of, changes_of}
pub use Rattle.fx_table.specs.Table.{IsLine, IsTable, Setting, TableLink, body_of, can_mark, first_number, flag_at, has_flags, has_place, is_second, lacks_flags, line_at, line_of, lines_before, lines_of, lines_text, link_in_line, links_among, over, read_body, setting_of, table_text, version_line}
pub use Rattle.fx_table.specs.TableLaws.{BeginsWith, IsFirstBadLine, IsFirstBadOf, but_no_link, unlinked}
pub use Rattle.fx_table.specs.declared.fault.FolderCause.{FolderCause}
pub use Rattle.fx_table.specs.declared.fault.FolderCause.TheVariants.{BadName, BadTable, Strange, TooLarge}
pub use Rattle.fx_table.specs.declared.fault.LoadFault.{LoadFault}
pub use Rattle.fx_table.specs.declared.fault.LoadFault.TheVariants.{NoMemory, ReadFault, Refused}
pub use Rattle.fx_table.specs.declared.line.Mark.{Mark}
pub use Rattle.fx_table.specs.declared.line.Mark.TheVariants.{Executable, Target}
pub use Rattle.fx_table.specs.declared.line.TableLine.{TableLine}
pub use Rattle.std.proofs.Common.{All, Bool, Err, IfErr, IfOk, IfSome, IsSome, IsTrue, List, None, Ok, OnErr, OnOk, Option, Result, Some, T, [], ap, append-nil, append_assoc, arith, cond, drop, false, filter, inl, inr, is_none, is_some, length, length-append, length-drop, length-take, map, not, option_map, refl, rules, subst, suc, sum_by, sym, take, true, zero, ℕ, ◌&&◌, ◌++◌, ◌+◌, ◌-◌, ◌<◌, ◌==◌, ◌||◌, ◌∙◌, ◌∷◌, ◌≡◌, ◌≢◌, ◌≤◌, ◌⊎◌}
pub use Rattle.std.proofs.Math.Seq.{take-length, take-suc}
pub use Rattle.std.proofs.lemmas.Bool.{and_from, and_parts, cases_Bool, false≢true, or_parts}
pub use Rattle.std.proofs.lemmas.Bool.Decides.{nat_tests}
pub use Rattle.std.proofs.lemmas.Grind.{common_steps}
pub use Rattle.std.proofs.lemmas.List.{map-append, take_all}
pub use Rattle.std.proofs.lemmas.List.Elements.{All-head, All-nil, All-push, All-tail, filter-append, filter_map-append}
pub use Rattle.std.proofs.lemmas.List.Folds.{list_all-append}
pub use Rattle.std.proofs.lemmas.List.Splits.{length-slice_split}
pub use Rattle.std.proofs.lemmas.List.Sums.{sum_by-append, sum_by-cons, sum_by_push}
pub use Rattle.std.proofs.lemmas.Option.{same_Some}
pub use Rattle.std.proofs.lemmas.Result.{on_ok_weaker}
pub use Rattle.std.proofs.lemmas.Slice.Eq.{bytes_eq-Decides}
pub use Rattle.std.proofs.lemmas.Str.{IsUtf8-append, IsUtf8-from_is_utf8}
pub use Rattle.std.specs.Cmp.{tied_itself}
pub use Rattle.std.specs.Cmp.Lexicographic.{nat_list_cmp_total, texts_ties}
pub use Rattle.std.specs.FinMap.{empty, empty_of_len, entries, entries_sorted, find, from_entries, get, get-empty, get-entries, get-from_entries, get-insert, insert, is_sorted, len, len-entries, put, same_map}
pub use Rattle.std.specs.FinMap.Entries.{below_all, find-append, find-where_key, is_sorted-put, is_sorted-where_key, same_entries, where_key}
pub use Rattle.std.specs.Global.{Global}
pub use Rattle.std.specs.List.{AllByRecursion, cons_option, filter_map, flat_map, list_all, list_any, onto_first, slice_get, slice_index_or, slice_split}
pub use Rattle.std.specs.List.Sorted.{IsStrictlySortedBy}
pub use Rattle.std.specs.Map.{keys_of}
pub use Rattle.std.specs.Option.{option_and_then, option_map_or, option_or}
pub use Rattle.std.specs.Ordering.{eq_by_cmp, is_eq, is_lt, ordering_reverse, ordering_then}
pub use Rattle.std.specs.Prelude.{Vec, bytes_eq, codes, nat_le, nat_lt, unwrap_or, ⊤}
pub use Rattle.std.specs.Slice.Iter.{iter_rest}
pub use Rattle.std.specs.Str.{IsUtf8, is_utf8}
pub use Rattle.std.specs.declared.cmp.Ordering.{Ordering}
pub use Rattle.std.specs.declared.cmp.Ordering.TheVariants.{Equal, Greater, Less}
pub use Rattle.fx_folder.specs.declared.limits.TheConstants.{MAX_BYTES, MAX_NODES, MAX_TABLE}
pub use Rattle.fx_store.specs.declared.limits.TheConstants.{MAX_FILE_BYTES}
