-- Lists of words that have none of the forms of the grammar.
use Rattle.std.proofs.Common.{arith, ◌≡◌, ◌<◌, ◌≤◌, ℕ, List, [], ◌∷◌, length, get_or, refl, None, ◌≢◌}
use denote.Ref.{Bor}
use Rattle.rnv_schedule.specs.Words.{texts}
use Rattle.rnv_schedule.specs.Cron.{cron_of, item_of, range_of, rising, value_of}
use Rattle.rnv_schedule.specs.DayTexts.{every_of, hours_of}
use Rattle.rnv_schedule.specs.declared.field.Field.{Field}

pub no_range : (field : Field) (parts : List (List ℕ)) → 3 ≤ length parts → None ≡ range_of field parts
no_range field [] h = absurd (omega arith)
no_range field (a ∷ []) h = absurd (omega arith)
no_range field (a ∷ b ∷ []) h = absurd (omega arith)
no_range field (a ∷ b ∷ c ∷ parts) h = refl

pub two_parts : (field : Field) (parts : List (Bor (List ℕ))) (d : Bor (List ℕ)) → 2 ≤ length parts → length parts < 3 → rising (value_of field (get_or parts 0 d).now) (value_of field (get_or parts 1 d).now) ≡ range_of field (texts parts)
two_parts field [] d h k = absurd (omega arith)
two_parts field (a ∷ []) d h k = absurd (omega arith)
two_parts field (a ∷ b ∷ []) d h k = refl
two_parts field (a ∷ b ∷ c ∷ parts) d h k = absurd (omega arith)

pub no_item : (field : Field) (parts : List (List ℕ)) → 1 ≢ length parts → 2 ≢ length parts → item_of field parts ≡ None
no_item field [] h k = refl
no_item field (a ∷ []) h k = absurd (omega arith)
no_item field (a ∷ b ∷ []) h k = absurd (omega arith)
no_item field (a ∷ b ∷ c ∷ parts) h k = refl

pub no_fields : (fields : List (List ℕ)) → 4 ≢ length fields → cron_of fields ≡ None
no_fields [] h = refl
no_fields (a ∷ []) h = refl
no_fields (a ∷ b ∷ []) h = refl
no_fields (a ∷ b ∷ c ∷ []) h = refl
no_fields (a ∷ b ∷ c ∷ d ∷ []) h = absurd (omega arith)
no_fields (a ∷ b ∷ c ∷ d ∷ e ∷ fields) h = refl

pub four_fields : (fields : List (Bor (List ℕ))) (d : Bor (List ℕ)) → length fields ≡ 4 → cron_of ((get_or fields 0 d).now ∷ (get_or fields 1 d).now ∷ (get_or fields 2 d).now ∷ (get_or fields 3 d).now ∷ []) ≡ cron_of (texts fields)
four_fields [] d h = absurd (omega arith)
four_fields (a ∷ []) d h = absurd (omega arith)
four_fields (a ∷ b ∷ []) d h = absurd (omega arith)
four_fields (a ∷ b ∷ c ∷ []) d h = absurd (omega arith)
four_fields (a ∷ b ∷ c ∷ e ∷ []) d h = refl
four_fields (a ∷ b ∷ c ∷ e ∷ f ∷ fields) d h = absurd (omega arith)

pub no_hours : (words : List (List ℕ)) → 0 ≢ length words → 2 ≢ length words → 5 ≢ length words → None ≡ hours_of words
no_hours [] h k l = absurd (omega arith)
no_hours (a ∷ []) h k l = refl
no_hours (a ∷ b ∷ []) h k l = absurd (omega arith)
no_hours (a ∷ b ∷ c ∷ []) h k l = refl
no_hours (a ∷ b ∷ c ∷ d ∷ []) h k l = refl
no_hours (a ∷ b ∷ c ∷ d ∷ e ∷ []) h k l = absurd (omega arith)
no_hours (a ∷ b ∷ c ∷ d ∷ e ∷ f ∷ words) h k l = refl

pub no_every : (words : List (List ℕ)) → 1 ≢ length words → every_of words ≡ None
no_every [] h = refl
no_every (a ∷ []) h = absurd (omega arith)
no_every (a ∷ b ∷ words) h = refl
