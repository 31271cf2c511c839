-- The slots that a leader may still propose at.
use Rattle.std.specs.Prelude.{ℕ, ◌+◌, ◌≤◌, ◌^◌, ◌==◌, Bool, ◌||◌, max, if◌then◌else◌, Option, None, Some}

-- the chosen watermark, and the next free slot
pub record Window : Type 0 where
  pub cw : ℕ
  pub next : ℕ

-- the window has 32 slots from the chosen watermark on, and slots end at 2^40
pub record IsWindow (cw next : ℕ) : Type 0 where
  pub low : cw ≤ next
  pub high : next ≤ cw + 32
  pub end : next ≤ 2 ^ 40

-- whether no slot is free
abbrev pub is_used_up : Window → Bool
is_used_up w = (w.next == w.cw + 32) || (w.next == 1099511627776)

-- the next slot, if there is one, and the window after it
abbrev pub free_slot : Window → Option ℕ
free_slot w = if is_used_up w then None else Some w.next

abbrev pub advanced : Window → Window
advanced w = if is_used_up w then w else record w { next = w.next + 1 }

-- a greater chosen watermark: no slot below it is free
abbrev pub raise_window : ℕ → Window → Window
raise_window cw w = record { cw = max w.cw cw; next = max w.next (max w.cw cw) }
