-- The words that the proofs share: those of std, of the model, and of what contracts cite.
pub use Rattle.std.proofs.Common.{Bool, List, None, Option, Some, [], ap, append-nil, append_assoc, arith, cond, drop}
pub use Rattle.std.proofs.Common.{false, get_or, inl, inr, length, length-append, lit<, nat_lt, position, refl, subst}
pub use Rattle.std.proofs.Common.{suc, sym, take, true, zero, ℕ, ◌*◌, ◌++◌, ◌+◌, ◌<◌, ◌^◌, ◌∙◌, ◌∷◌, ◌≡◌, ◌≢◌, ◌≤◌}
pub use Rattle.std.proofs.Common.{◌⊎◌}
pub use Rattle.std.proofs.Math.Seq.{take-append_seam}
pub use Rattle.std.proofs.lemmas.Bool.{and_parts, cases_lt, le-ltb, lt-ltb, ltb-false, not-false, or_parts}
pub use Rattle.std.proofs.lemmas.Bool.Decides.{Decides-eqb, nat_tests}
pub use Rattle.std.proofs.lemmas.Fmt.{decimal_digit, first_decimal}
pub use Rattle.std.proofs.lemmas.Grind.{flat_map-append}
pub use Rattle.std.proofs.lemmas.List.{length-take, map-append, take-append-drop}
pub use Rattle.std.proofs.lemmas.List.Elements.{filter-append}
pub use Rattle.std.proofs.lemmas.List.Folds.{list_all-append}
pub use Rattle.std.proofs.lemmas.List.Quantifiers.{position-Some}
pub use Rattle.std.proofs.lemmas.List.Splits.{join_with_byte-slice_split, slice_split-cons_yes, slice_split_at}
pub use Rattle.std.proofs.lemmas.List.Splits.{slice_split_none}
pub use Rattle.std.proofs.lemmas.Option.{same_Some}
pub use Rattle.std.proofs.lemmas.Slice.Eq.{bytes_eq-Decides}
pub use Rattle.std.specs.Fmt.{decimal}
pub use Rattle.std.specs.List.{All, AllByRecursion, flat_map, join_with_byte, list_all, onto_first, position_or_len}
pub use Rattle.std.specs.List.{repeat, slice_split}
pub use Rattle.std.specs.Option.{is_some}
pub use Rattle.std.specs.Prelude.{Err, Ok, Result, codes, filter, map, nat_le, not, ◌&&◌, ◌==◌, ◌||◌}
pub use Rattle.std.specs.Str.{bytes_eq}
pub use Rattle.layout.specs.declared.shape.Layout.{Layout}
pub use Rattle.model.proofs.Ranges.{page_size_range}
pub use Rattle.model.proofs.Results.{not_refused, same_result}
pub use Rattle.model.specs.Configs.{fits_page, is_page_size}
pub use Rattle.model.specs.declared.config.Config.{Config}
pub use Rattle.model.specs.declared.steps.Actor.{Actor}
pub use Rattle.model.specs.declared.steps.Actor.TheVariants.{Thread, Worker}
pub use Rattle.parser.specs.Faults.{BeginsScript, HaveNoFault, IsFirstFault, IsLineEnd, IsWordEnd, IsWrongWord}
pub use Rattle.parser.specs.Faults.{LacksNewline, StandsAtEnd, StandsInLine, byte_behind, text_of}
pub use Rattle.parser.specs.Headings.{config_of}
unfoldable pub use Rattle.parser.specs.Headings.{heap_in, layout_in, memory_at, page_size_at, sizes_at}
pub use Rattle.parser.specs.Limits.{IsScriptConfig}
pub use Rattle.parser.specs.Orders.{does, first_byte, more_at, order_of, verb_in}
unfoldable pub use Rattle.parser.specs.Orders.{actor_at, numbers_at, numbers_by, operand_at, operands_at, order_at}
unfoldable pub use Rattle.parser.specs.Orders.{register_at}
pub use Rattle.parser.specs.Reading.{CutsLine, ReadSoFar, ScriptValue, closed, end_in, fault_at_start, first_word_in}
pub use Rattle.parser.specs.Reading.{goes_on, in_line, is_full, is_idle, line_after, newline, nothing, script_of}
pub use Rattle.parser.specs.Reading.{times_in, whole, with_command}
unfoldable pub use Rattle.parser.specs.Reading.{command_line, end_line, finished, first_word, heap_line, last_line}
unfoldable pub use Rattle.parser.specs.Reading.{later_line, layout_line, line_in, lines_in, part_line, script_in}
unfoldable pub use Rattle.parser.specs.Reading.{times_line}
pub use Rattle.parser.specs.Scripts.{IsReadOf, ParsedScript}
pub use Rattle.parser.specs.Spelling.{AreMore, IsActor, IsCommand, IsFor, IsLayout, IsOperand, IsOrder, IsPart}
pub use Rattle.parser.specs.Spelling.{IsScript, One, Part, Spells, SpellsHeap, SpellsLimit, Times, actor_word}
pub use Rattle.parser.specs.Spelling.{address_word, command_line_of, layout_line_of, line_of, operand_word}
pub use Rattle.parser.specs.Spelling.{operand_words, order_words, part_commands, part_lines, says_something}
pub use Rattle.parser.specs.Spelling.{size_words, times_line_of, with_newline}
pub use Rattle.parser.specs.Spots.{IsFirstSpot, fault_at, fault_of, is_sought, is_sought_command}
unfoldable pub use Rattle.parser.specs.Spots.{first_spot, second_word, spots_in}
pub use Rattle.parser.specs.Verbs.{row_of}
unfoldable pub use Rattle.parser.specs.Verbs.{verb_of}
pub use Rattle.parser.specs.Words.{address_in, address_number, cut_at, flaw, in_range, is_digit, named_in, offset_in}
pub use Rattle.parser.specs.Words.{or_flaw, page_in, ◌>>=◌}
unfoldable pub use Rattle.parser.specs.Words.{address_at, capped_from, end_at, fixed_at, is_number, named_at}
unfoldable pub use Rattle.parser.specs.Words.{number_at, point_parts, small_at, word_at, word_or}
pub use Rattle.parser.specs.declared.fault.FaultKind.{FaultKind}
pub use Rattle.parser.specs.declared.fault.Flaw.{Flaw}
pub use Rattle.parser.specs.declared.fault.LineFault.{LineFault}
pub use Rattle.parser.specs.declared.fault.ParseFault.{ParseFault}
pub use Rattle.parser.specs.declared.heading.Sizes.{Sizes}
pub use Rattle.parser.specs.declared.limits.TheConstants.{MOST_LAYOUTS}
pub use Rattle.parser.specs.declared.order.Command.{Command}
pub use Rattle.parser.specs.declared.order.Order.{Order}
pub use Rattle.parser.specs.declared.reading.TheConstants.{MOST_COMMANDS, MOST_TURNS}
pub use Rattle.parser.specs.declared.spots.Sought.{Sought}
pub use Rattle.parser.specs.declared.spots.Spots.{Spots}
pub use Rattle.parser.specs.declared.verbs.Kind.{Kind}
pub use Rattle.parser.specs.declared.verbs.Kind.TheVariants.{Address, Long, Nothing, Number, Percent, Register}
pub use Rattle.parser.specs.declared.verbs.Kind.TheVariants.{ThreadName}
pub use Rattle.parser.specs.declared.verbs.Verb.{Verb}
