-- New values are spelled with the characters of ranges, and those of tags may stand between quotes too.
use Rattle.std.proofs.Common.{◌≡◌, ◌∙◌, ℕ, ◌<◌, true, List, length, Some, sym, ap, arith}
use Rattle.std.proofs.lemmas.Bool.Decides.{nat_tests}
use Rattle.std.specs.Prelude.{IsSome, nat_lt}
use Rattle.rnv_base.specs.Values.{is_quotable, is_quotable_byte, is_tag_byte, is_tag_text}
use Rattle.rnv_version.specs.Numbering.{AreSpelled, NewIsMet, NewIsSpelled, Numbering}
use Rattle.rnv_version.proofs.Tags.{all_weaker, and_right, some_is, some_of}

pub new_spelled : {V R : Type 0} (n : Numbering V R) → NewIsMet n → AreSpelled n → NewIsSpelled n
new_spelled n met spelled strategy value version text readable is_version given =
    let v = some_of (n.version_of version) is_version in
    let range = met strategy value version text v.0 readable v.1 given in
    spelled text (some_is (n.range_of text) range.0 range.1)

tag_byte_quotable : (b : ℕ) → is_tag_byte b ≡ true → is_quotable_byte b ≡ true
tag_byte_quotable b h = grind (arith, nat_tests)

pub tag_quotable : (text : List ℕ) → is_tag_text text ≡ true → is_quotable text ≡ true
tag_quotable text h = all_weaker is_tag_byte is_quotable_byte tag_byte_quotable text (and_right (nat_lt 0 (length text)) _ h)
