-- What is read behind what was read before.
use Rattle.std.proofs.Common.{◌≡◌, List, [], ◌∷◌, ◌++◌, Option, Some, None, refl, sym, ap, append-nil, append_assoc}
use Rattle.std.specs.Prelude.{option_map}

abbrev pub behind : {A : Type 0} → List A → Option (List A) → Option (List A)
behind before read = option_map (λ xs. before ++ xs) read

pub behind-more : {A : Type 0} (before : List A) (x : A) (read : Option (List A)) → behind before (option_map (λ xs. x ∷ xs) read) ≡ behind (before ++ x ∷ []) read
behind-more before x None = refl
behind-more before x (Some xs) = ap Some (sym (append_assoc before (x ∷ []) xs))

pub behind-none : {A : Type 0} (read : Option (List A)) → behind [] read ≡ read
behind-none None = refl
behind-none (Some xs) = refl

pub behind-end : {A : Type 0} (before : List A) → behind before (Some []) ≡ Some before
behind-end before = ap Some (append-nil before)
