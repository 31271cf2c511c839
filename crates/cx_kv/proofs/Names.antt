-- Texts that are joined.
use Rattle.cx_base.proofs.Common.{ℕ, ◌+◌, ◌≤◌, List, ◌++◌, length, arith, ◌∙◌, list_all, and_from, length-append, list_all-append, IsName}
use Rattle.cx_base.proofs.Common.{is_name_byte}

pub IsName-append : (limit : ℕ) (one other : List ℕ) → IsName limit one → IsName limit other
    → length one + length other ≤ limit → IsName limit (one ++ other)
IsName-append limit one other h k fits = record {
  some = omega (arith, length-append one other, h.some);
  room = omega (arith, length-append one other);
  each = list_all-append is_name_byte one other ∙ and_from (list_all is_name_byte one) (list_all is_name_byte other) h.each k.each;
}
