-- The JSON value of bytes.
use Rattle.std.proofs.Common.{◌≡◌, ◌∙◌, ℕ, List, Some, None, ⊎_elim}
use Rattle.std.specs.Str.{is_utf8, IsUtf8}
use Rattle.std.proofs.lemmas.Str.{IsUtf8-from_is_utf8, is_utf8-from_IsUtf8}
use Rattle.std.proofs.lemmas.Bool.{cases_Bool, cond-true, cond-false}
use Rattle.serde_json.specs.Data.{Data}
use Rattle.serde_json.specs.Read.{read}
use Rattle.rnv_config.specs.Configs.{json_of}

pub json-read : (bytes : List ℕ) (value : Data) → IsUtf8 bytes → read bytes ≡ Some value → json_of bytes ≡ Some value
json-read bytes value text is = cond-true _ _ _ (is_utf8-from_IsUtf8 bytes text) ∙ is

pub json-refused : (bytes : List ℕ) → (IsUtf8 bytes → read bytes ≡ None) → json_of bytes ≡ None
json-refused bytes none =
    ⊎_elim
    (λ yes. cond-true _ _ _ yes ∙ none (IsUtf8-from_is_utf8 bytes yes))
    (λ no. cond-false _ _ _ no)
    (cases_Bool (is_utf8 bytes))
