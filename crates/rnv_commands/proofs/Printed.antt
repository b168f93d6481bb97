-- Pieces that are put at the end, one behind the other.
use Rattle.std.proofs.Common.{◌≡◌, ◌∙◌, ℕ, List, ◌++◌, ap, append_assoc, codes, Result, Ok, Err}
use Rattle.std.specs.Prelude.{IfErr, IfOk, OnOk}
use Rattle.rnv_commands.specs.Import.{import_text}
use Rattle.rnv_commands.specs.Printing.{line_end, with_number}

-- what holds of the result may be said otherwise
pub on_ok : {T E : Type 0} (result : Result T E) (P Q : Type 0) → (P → Q) → OnOk result P → OnOk result Q
on_ok (Ok done) P Q f h = f h
on_ok (Err error) P Q f h = tt

pub if_err : {T E : Type 0} (result : Result T E) (P Q : E → Type 0) → ((error : E) → P error → Q error) → IfErr result P → IfErr result Q
if_err (Ok done) P Q f h = tt
if_err (Err error) P Q f h = f error h

pub if_ok : {T E : Type 0} (result : Result T E) (P Q : T → Type 0) (O : Type 0) → (O → (value : T) → P value → Q value) → OnOk result O → IfOk result P → IfOk result Q
if_ok (Ok value) P Q O f o h = f o value h
if_ok (Err error) P Q O f o h = tt

pub both_ok : {T E : Type 0} (result : Result T E) (P Q : Type 0) → OnOk result P → OnOk result Q → OnOk result (P × Q)
both_ok (Ok value) P Q p q = (p, q)
both_ok (Err error) P Q p q = tt

four_pieces : (out a b c d one two three four : List ℕ) → one ≡ out ++ a → two ≡ one ++ b → three ≡ two ++ c → four ≡ three ++ d → four ≡ out ++ (a ++ (b ++ (c ++ d)))
four_pieces out a b c d one two three four ha hb hc hd =
    hd ∙ ap (λ l. l ++ d) (hc ∙ ap (λ l. l ++ c) (hb ∙ ap (λ l. l ++ b) ha))
    ∙ append_assoc ((out ++ a) ++ b) c d ∙ append_assoc (out ++ a) b (c ++ d) ∙ append_assoc out a (b ++ (c ++ d))

pub import_printed : (out one two three four : List ℕ) (count revision passed : ℕ) → one ≡ out ++ with_number (codes "imported ") count → two ≡ one ++ with_number (codes " files, revision ") revision
    → three ≡ two ++ with_number (codes "\npassed over ") passed → four ≡ three ++ line_end → four ≡ out ++ import_text count revision passed
unfolding import_text
import_printed out one two three four count revision passed ha hb hc hd =
    four_pieces out (with_number (codes "imported ") count) (with_number (codes " files, revision ") revision) (with_number (codes "\npassed over ") passed) line_end one two three four ha hb hc hd
