-- Reading from left to right. Each part takes the finds so far and the bytes, and gives the finds and what follows.
use Rattle.std.specs.Prelude.{◌≡◌, ℕ, zero, suc, ◌-◌, List, [], ◌∷◌, ◌++◌, length, take, ◌&&◌, ◌==◌, if◌then◌else◌, Option, Some, None, option_and_then, Result, Ok, Err}
use denote.Ref.{Bor}
use Rattle.rnv_manager.specs.declared.found.ExtractError.{ExtractError}
use Rattle.rnv_manager.specs.declared.found.ExtractError.TheVariants.{BadSyntax, Memory}
use Rattle.rnv_manager.specs.Finds.{Find}
use Rattle.rnv_manager.specs.Marks.{find_at}
use Rattle.rnv_package_json.specs.declared.text.Within.TheVariants.{Plain}
use Rattle.rnv_package_json.specs.declared.value.Kind.{Kind}
use Rattle.rnv_package_json.specs.declared.value.Kind.TheVariants.{Array, Object}
use Rattle.rnv_package_json.specs.Text.{skip, is_space, after_text}
use Rattle.rnv_package_json.specs.Word.{after_word}
use Rattle.rnv_package_json.specs.Roles.{Standing, top, among, entry, other, named, is_clean, slot}
use Rattle.rnv_package_json.specs.Grammar.{close}

infixl 10 ◌>>=◌
abbrev pub ◌>>=◌ : {A B : Type 0} → Option A → (A → Option B) → Option B
o >>= f = option_and_then f o

-- what follows the byte c
abbrev pub expect : ℕ → List ℕ → Option (List ℕ)
expect c [] = None
expect c (x ∷ xs) = if x == c then Some xs else None

-- the inside of a string, and what follows it
unfoldable pub quoted : List ℕ → Option (List ℕ × List ℕ)
quoted bytes = do
  inside ← expect 34 bytes
  rest ← after_text (Some Plain) inside
  Some (take (length inside - length rest - 1) inside, rest)

-- of a member, what its value is, and what follows its colon
unfoldable pub label : Standing → Kind → List ℕ → Option (Standing × List ℕ)
label standing Array bytes = Some (other, bytes)
label standing Object bytes = do
  name ← quoted (skip is_space bytes)
  rest ← expect 58 (skip is_space name.1)
  Some (named standing name.0, rest)

abbrev pub State : Type 0
State = List Find × List ℕ

abbrev pub Reader : Type 0
Reader = List Find → List ℕ → Option State

unfoldable pub part : (Standing → Reader) → Standing → Kind → Reader
part value standing kind finds bytes = do
  inner ← label standing kind bytes
  after ← value inner.0 finds (skip is_space inner.1)
  Some (after.0, skip is_space after.1)

abbrev pub go_on : Kind → Reader → Reader
go_on kind more finds [] = None
go_on kind more finds (x ∷ xs) = if x == 44 then more finds xs else (if x == close kind then Some (finds, xs) else None)

-- The number bounds the turns. One more than there are bytes is always enough.
unfoldable pub parts : (Standing → Reader) → Standing → Kind → ℕ → Reader
parts value standing kind zero finds bytes = None
parts value standing kind (suc n) finds bytes = part value standing kind finds bytes >>= λ s. go_on kind (parts value standing kind n) s.0 s.1

abbrev pub if_closed : Kind → List Find → List ℕ → Option State → Option State
if_closed kind finds [] more = more
if_closed kind finds (x ∷ xs) more = if x == close kind then Some (finds, xs) else more

unfoldable pub group : (Standing → Reader) → Standing → Kind → Reader
group value standing kind finds bytes = if_closed kind finds (skip is_space bytes) (parts value standing kind (suc (length bytes)) finds bytes)

-- what a text that starts there is to the finds
abbrev pub found_at : Standing → List ℕ → ℕ → List Find
found_at top value start = []
found_at (among place) value start = []
found_at (entry place name) value start = if is_clean name && is_clean value then find_at (slot place name) value start ∷ [] else []
found_at other value start = []

-- the length is that of the file
unfoldable pub string : ℕ → Standing → Reader
string len standing finds bytes = do
  found ← quoted bytes
  Some (finds ++ found_at standing found.0 (len - length found.1 - 1 - length found.0), found.1)

unfoldable pub word : Reader
word finds bytes = do
  rest ← after_word bytes
  Some (finds, rest)

abbrev pub value_with : ℕ → (Standing → Kind → Reader) → Standing → Reader
value_with len inner standing finds [] = None
value_with len inner standing finds (x ∷ xs) =
    if x == 34 then string len standing finds (x ∷ xs) else (if x == 91 then inner standing Array finds xs else (if x == 123 then inner standing Object finds xs else word finds (x ∷ xs)))

-- what follows a value that nests no deeper than the number
unfoldable pub value : ℕ → ℕ → Standing → Reader
value len zero = value_with len (λ standing kind finds bytes. None)
value len (suc depth) = value_with len (group (value len depth))

abbrev pub at_end : List Find → List ℕ → Option (List Find)
at_end finds [] = Some finds
at_end finds (x ∷ xs) = None

-- the finds of a whole file
unfoldable pub file : List ℕ → Option (List Find)
file bytes = do
  inside ← expect 123 (skip is_space bytes)
  s ← group (value (length bytes) 126) top Object [] inside
  at_end s.0 (skip is_space s.1)

-- What a function returned, with all finds, is what reading gives, where None is bad syntax, unless memory ran out.
abbrev pub Gives : List Find → Result (Bor (List ℕ)) ExtractError → Option (List Find × List ℕ) → Type 0
Gives finds (Ok rest) read = read ≡ Some (finds, rest.now)
Gives finds (Err BadSyntax) read = read ≡ None
Gives finds (Err Memory) read = Unit {0}
