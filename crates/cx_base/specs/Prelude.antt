-- The names of std and of this crate that definitions cite most, passed on from one place. Declares nothing.
pub use Rattle.std.specs.Char.{digit_value, is_ascii_digit}
pub use Rattle.std.specs.Io.KnownBytes.{Consumes, IsAtEnd, Keeps}
pub use Rattle.std.specs.List.{AllWithin, after_first, before_first, concat, join_with_byte, list_all, list_any, slice_split}
pub use Rattle.std.specs.Map.{lookup}
pub use Rattle.std.specs.Option.{option_map_or}
pub use Rattle.std.specs.Prelude.{Bool, IsTrue, List, None, Option, Some, bytes_eq, false, if◌then◌else◌, max, nat_le, nat_lt, not, refl}
pub use Rattle.std.specs.Prelude.{true, ℕ, [], ◌&&◌, ◌++◌, ◌+◌, ◌==◌, ◌||◌, ◌∷◌, ◌≡◌, ◌⊎◌}
pub use Rattle.std.specs.Str.Lines.{strip_carriage_return}
pub use Rattle.std.specs.declared.alloc.Global.{Global}
pub use Rattle.cx_base.specs.Asked.{floor_fits, is_valid_event}
pub use Rattle.cx_base.specs.Cluster.{count_of}
pub use Rattle.cx_base.specs.Faults.{Rises, one_more}
pub use Rattle.cx_base.specs.Fold.{acts, commands_of, is_less, map_after, map_appended, map_behind, overtakes, reply_of, text_at, with_text}
pub use Rattle.cx_base.specs.Fold.{without_key}
pub use Rattle.cx_base.specs.Grid.{IsGrid, Shape, are_new, first_twice, grid_fault, is_in, make_grid}
pub use Rattle.cx_base.specs.Lists.{below, rises}
pub use Rattle.cx_base.specs.Log.{ready_values, still_early, value_for}
pub use Rattle.cx_base.specs.Name.{IsName, is_name_byte}
pub use Rattle.cx_base.specs.Noted.{Table, are_rising, comes_before, floor_of, is_answer_done, is_answer_of, is_done, is_used, new_table}
pub use Rattle.cx_base.specs.Noted.{noted_for, still_noted, with_answer, with_floor, with_note, with_told}
pub use Rattle.cx_base.specs.Role.{code_of, kind_text, puts_anew, role, role_text, same_role}
pub use Rattle.cx_base.specs.Round.{is_before}
pub use Rattle.cx_base.specs.Same.{same_op, same_value}
pub use Rattle.cx_base.specs.Sets.{is_rising}
