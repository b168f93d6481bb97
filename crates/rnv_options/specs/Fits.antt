-- Which texts an option takes.
use Rattle.std.specs.Prelude.{ℕ, List, length, codes, Bool, true, ◌&&◌, ◌||◌, ◌==◌, nat_le, nat_lt, is_some}
use Rattle.std.specs.List.{list_all}
use Rattle.std.specs.Str.{bytes_eq}
use Rattle.rnv_schedule.specs.Ages.{age_of}
use Rattle.rnv_schedule.specs.Schedules.{schedule_of}
use Rattle.rnv_options.specs.declared.kind.Texts.{Texts}
use Rattle.rnv_options.specs.declared.kind.Texts.TheVariants.{Any, Strategies, Rebases, Prefixes, Ages, Schedules}

abbrev pub is_strategy : List ℕ → Bool
is_strategy text =
    bytes_eq text (codes "auto") || bytes_eq text (codes "pin") || bytes_eq text (codes "bump") || bytes_eq text (codes "replace")
    || bytes_eq text (codes "widen") || bytes_eq text (codes "in-range-only") || bytes_eq text (codes "update-lockfile")

abbrev pub is_rebase : List ℕ → Bool
is_rebase text = bytes_eq text (codes "auto") || bytes_eq text (codes "behind-base-branch") || bytes_eq text (codes "conflicted") || bytes_eq text (codes "never")

abbrev pub is_prefix_byte : ℕ → Bool
is_prefix_byte b = (nat_le 97 b && nat_le b 122) || (nat_le 48 b && nat_le b 57) || b == 47 || b == 46 || b == 95 || b == 45

-- 1 to 100 of `a-z 0-9 / . _ -`
abbrev pub is_prefix : List ℕ → Bool
is_prefix text = nat_lt 0 (length text) && nat_le (length text) 100 && list_all is_prefix_byte text

abbrev pub fits : Texts → List ℕ → Bool
fits Any text = true
fits Strategies text = is_strategy text
fits Rebases text = is_rebase text
fits Prefixes text = is_prefix text
fits Ages text = is_some (age_of text)
fits Schedules text = is_some (schedule_of text)
