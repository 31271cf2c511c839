-- The names that proofs of low crates cite most, passed on from one place. Declares nothing.
pub use Rattle.std.specs.Io.KnownBytes.{Appends}
pub use Rattle.std.specs.List.{onto_first, position_or_len}
pub use Rattle.std.specs.List.Sorted.{IsPartitionedBy}
pub use Rattle.std.specs.Prelude.{⊤}
pub use Rattle.std.proofs.Common.{All, Bor, Err, IfErr, IfOk, IfSome, Ok, OnOk, Result, Vec, add-one, add-zero, ap, append-nil}
pub use Rattle.std.proofs.Common.{append_assoc, arith, codes, cond, div-add-mod', drop, drop-cons, drop-drop, drop_at, eq-eqb, eqb}
pub use Rattle.std.proofs.Common.{eqb-true, filter, get_or, get_or-drop, get_or-set_other, get_or-set_same, get_or-take, inl, inr, insert}
pub use Rattle.std.proofs.Common.{is_none, le-ltb, leb-true, length, length-append, length-drop, length-set, length-take, length-take-le}
pub use Rattle.std.proofs.Common.{lit<, lt-ltb, ltb, ltb-false, ltb-true, map, min, nat_eq, ok_or, option_and_then, option_copied}
pub use Rattle.std.proofs.Common.{option_map, option_to_list, position, remove, replicate, rules, set, slice_get, slice_index}
pub use Rattle.std.proofs.Common.{slice_index_or, slice_range, slice_set, string_bytes, subst, suc, sym, take, take-append-drop, take_all}
pub use Rattle.std.proofs.Common.{take_at, true≢false, unwrap_or, vec_capacity, vec_len, zero, ◌%◌, ◌*◌, ◌-◌, ◌/◌, ◌<◌, ◌^◌, ◌∙◌, ◌≢◌, ◌≤◌}
pub use Rattle.std.proofs.KnownBytes.{Appends-trans, Consumes-trans}
pub use Rattle.std.proofs.Math.Seq.{drop-append_seam, take-append-add, take-append_seam}
pub use Rattle.std.proofs.lemmas.Bool.{and_from, and_parts, both_ways, cases_Bool, cases_eq, cases_lt, cond_both, eqb-false, not-false}
pub use Rattle.std.proofs.lemmas.Bool.{not-true, or_from, or_parts, or_right}
pub use Rattle.std.proofs.lemmas.Bool.Decides.{nat_tests}
pub use Rattle.std.proofs.lemmas.Fn.{filter_same}
pub use Rattle.std.proofs.lemmas.Grind.{common_steps}
pub use Rattle.std.proofs.lemmas.List.{drop-append-le, drop_all, drop_more, length-map, length_push, map-append, take-append-le, take-map}
pub use Rattle.std.proofs.lemmas.List.{take_more, take_rest}
pub use Rattle.std.proofs.lemmas.List.Elements.{All-cons, All-head, All-nil, All-push, All-tail}
pub use Rattle.std.proofs.lemmas.List.Folds.{list_all-append}
pub use Rattle.std.proofs.lemmas.List.Quantifiers.{position-Some}
pub use Rattle.std.proofs.lemmas.List.Sorted.{IsPartitionPoint-from_clause}
pub use Rattle.std.proofs.lemmas.List.Splits.{join_with_byte-slice_split, length-slice_split}
pub use Rattle.std.proofs.lemmas.List.Sums.{fails_before_first}
pub use Rattle.std.proofs.lemmas.Nat.{mod_below}
pub use Rattle.std.proofs.lemmas.Option.{same_Some}
pub use Rattle.std.proofs.lemmas.Result.{err_from_is_err_and}
pub use Rattle.cx_base.specs.Prelude.{Bool, Consumes, IsGrid, IsName, IsTrue, List, None, Option, Rises, Shape, Some, Table, acts, are_new}
pub use Rattle.cx_base.specs.Prelude.{are_rising, below, bytes_eq, code_of, comes_before, count_of, digit_value, false, first_twice}
pub use Rattle.cx_base.specs.Prelude.{floor_fits, floor_of, grid_fault, if◌then◌else◌, is_answer_done, is_answer_of, is_ascii_digit}
pub use Rattle.cx_base.specs.Prelude.{is_before, is_done, is_in, is_less, is_name_byte, is_rising, is_used, is_valid_event, join_with_byte}
pub use Rattle.cx_base.specs.Prelude.{kind_text, list_all, list_any, lookup, make_grid, map_after, map_behind, max, nat_le, nat_lt, not}
pub use Rattle.cx_base.specs.Prelude.{noted_for, option_map_or, ready_values, refl, rises, role, same_role, slice_split, still_early}
pub use Rattle.cx_base.specs.Prelude.{still_noted, strip_carriage_return, text_at, true, value_for, with_answer, with_floor, with_note}
pub use Rattle.cx_base.specs.Prelude.{with_text, with_told, ℕ, [], ◌&&◌, ◌++◌, ◌+◌, ◌==◌, ◌||◌, ◌∷◌, ◌≡◌, ◌⊎◌}
pub use Rattle.cx_base.specs.Lists.{numbers}
pub use Rattle.cx_base.specs.Log.{following}
pub use Rattle.cx_base.specs.Role.{kind_of}
pub use Rattle.cx_base.specs.Sets.{is_above}
pub use Rattle.cx_base.proofs.Used.{none_placed, same_client, turned_test}
