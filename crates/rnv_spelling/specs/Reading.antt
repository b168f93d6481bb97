-- Reading from left to right: a reading gives a value and the bytes behind it, or nothing.
use Rattle.std.specs.Prelude.{◌≡◌, ℕ, zero, suc, ◌+◌, ◌*◌, List, [], ◌∷◌, length, take, drop, Option, None, Some, Result, Ok, Err, nat_lt, nat_eq, if◌then◌else◌}
use Rattle.std.specs.Str.{is_utf8}
use Rattle.rnv_base.specs.Files.{NamedFile}
use Rattle.rnv_repo.specs.declared.branch.Branch.{Branch}
use Rattle.rnv_repo.specs.declared.branch.Key.{Key}
use Rattle.rnv_repo.specs.declared.write.Write.{Write}
use Rattle.rnv_repo.specs.declared.write.Write.TheVariants.{SetBase, PutBranch, DropBranch, OpenRequest, EditRequest, Autoclose, Finish}
use Rattle.rnv_repo.specs.Files.{PathChange}
use Rattle.rnv_spelling.specs.declared.spelled.ReadError.{ReadError}
use Rattle.rnv_spelling.specs.declared.spelled.ReadError.TheVariants.{Memory, NotSpelled}

-- What a function returned is what a reading gives, unless memory ran out.
abbrev pub Fails : {Y : Type 0} → ReadError → Option Y → Type 0
Fails Memory read = Unit {0}
Fails NotSpelled read = read ≡ None

abbrev pub Gives : {X Y : Type 0} → (X → Y) → Result X ReadError → Option Y → Type 0
Gives view (Ok x) read = read ≡ Some (view x)
Gives view (Err e) read = Fails e read

abbrev pub Reading : Type 0 → Type 0
Reading X = List ℕ → Option (X × List ℕ)

infixl 10 ◌>>=◌
abbrev pub ◌>>=◌ : {A B : Type 0} → Option A → (A → Option B) → Option B
None >>= f = None
(Some x) >>= f = f x

-- two values, one behind the other
abbrev pub both_at : {A B : Type 0} → Reading A → Reading B → Reading (A × B)
both_at r q bytes = do
  x ← r bytes
  y ← q x.1
  Some ((x.0, y.0), y.1)

-- a value made of what is read
abbrev pub made_at : {A B : Type 0} → (A → B) → Reading A → Reading B
made_at f r bytes = do
  x ← r bytes
  Some (f x.0, x.1)

abbrev pub parts_at : {A : Type 0} → Reading A → ℕ → Reading (List A)
parts_at r zero bytes = Some ([], bytes)
parts_at r (suc n) bytes = do
  x ← r bytes
  xs ← parts_at r n x.1
  Some (x.0 ∷ xs.0, xs.1)

abbrev pub number_in : ℕ → ℕ → ℕ → ℕ → ℕ
number_in a b c d = ((a * 256 + b) * 256 + c) * 256 + d

unfoldable pub number_at : Reading ℕ
number_at (a ∷ b ∷ c ∷ d ∷ rest) = Some (number_in a b c d, rest)
number_at _ = None

unfoldable pub long_at : Reading ℕ
long_at = made_at (λ p. p.0 * 4294967296 + p.1) (both_at number_at number_at)

unfoldable pub bytes_at : Reading (List ℕ)
bytes_at bytes = do
  n ← number_at bytes
  if nat_lt (length n.1) n.0 then None else Some (take n.0 n.1, drop n.0 n.1)

-- bytes that are UTF-8
unfoldable pub text_at : Reading (List ℕ)
text_at bytes = do
  t ← bytes_at bytes
  if is_utf8 t.0 then Some t else None

unfoldable pub list_at : {A : Type 0} → Reading A → Reading (List A)
list_at r bytes = do
  n ← number_at bytes
  parts_at r n.0 n.1

unfoldable pub option_at : {A : Type 0} → Reading A → Reading (Option A)
option_at r [] = None
option_at r (flag ∷ rest) =
    if nat_eq flag 0 then Some (None, rest) else (if nat_eq flag 1 then made_at Some r rest else None)

unfoldable pub key_at : Reading Key
key_at =
    made_at (λ p. record { file = p.0; «package» = p.1.0; new_value = p.1.1 })
    (both_at text_at (both_at text_at text_at))

unfoldable pub file_at : Reading NamedFile
file_at = made_at (λ p. record { path = p.0; bytes = p.1 }) (both_at text_at bytes_at)

unfoldable pub change_at : Reading PathChange
change_at = made_at (λ p. record { path = p.0; bytes = p.1 }) (both_at text_at (option_at bytes_at))

unfoldable pub branch_at : Reading Branch
branch_at =
    made_at (λ p. record { name = p.0; revision = p.1.0; updates = p.1.1.0; files = p.1.1.1.0; problem = p.1.1.1.1 })
    (both_at text_at (both_at number_at (both_at (list_at key_at) (both_at (list_at file_at) text_at))))

unfoldable pub base_at : Reading Write
base_at = made_at (λ p. SetBase p.0 p.1) (both_at text_at (list_at change_at))

unfoldable pub put_at : Reading Write
put_at = made_at (λ p. PutBranch p.0 p.1) (both_at text_at branch_at)

unfoldable pub drop_at : Reading Write
drop_at = made_at (λ p. DropBranch p.0 p.1) (both_at text_at text_at)

unfoldable pub open_at : Reading Write
open_at =
    made_at (λ p. OpenRequest p.0 p.1.0 p.1.1.0 p.1.1.1.0 p.1.1.1.1.0 p.1.1.1.1.1.0 p.1.1.1.1.1.1.0 p.1.1.1.1.1.1.1)
    (both_at text_at (both_at number_at (both_at text_at (both_at (list_at key_at) (both_at text_at (both_at text_at (both_at (list_at text_at) long_at)))))))

unfoldable pub edit_at : Reading Write
edit_at =
    made_at (λ p. EditRequest p.0 p.1.0 p.1.1.0 p.1.1.1.0 p.1.1.1.1.0 p.1.1.1.1.1)
    (both_at text_at (both_at number_at (both_at (list_at key_at) (both_at text_at (both_at text_at (list_at text_at))))))

unfoldable pub close_at : Reading Write
close_at = made_at (λ p. Autoclose p.0 p.1) (both_at text_at number_at)

unfoldable pub finish_at : Reading Write
finish_at = made_at (λ p. Finish p.0 p.1) (both_at text_at (option_at text_at))

-- the fields of a write of this kind
unfoldable pub fields_at : ℕ → Reading Write
fields_at kind bytes =
    if nat_eq kind 1 then base_at bytes else (
    if nat_eq kind 2 then put_at bytes else (
    if nat_eq kind 3 then drop_at bytes else (
    if nat_eq kind 4 then open_at bytes else (
    if nat_eq kind 5 then edit_at bytes else (
    if nat_eq kind 6 then close_at bytes else (
    if nat_eq kind 7 then finish_at bytes else None))))))

unfoldable pub write_at : Reading Write
write_at [] = None
write_at (kind ∷ bytes) = fields_at kind bytes

-- a write that all the bytes spell
unfoldable pub whole_write : List ℕ → Option Write
whole_write bytes = do
  w ← write_at bytes
  if nat_eq (length w.1) 0 then Some w.0 else None
