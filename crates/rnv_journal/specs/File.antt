-- The journal's file: a head, then the entries, each behind a gate that is open (1), and then one more gate,
-- which is not open and ends the list. Any bytes may stand behind it.
use Rattle.std.specs.Prelude.{◌≡◌, ◌≢◌, ◌⊎◌, ◌<◌, ◌≤◌, ℕ, ◌+◌, ◌/◌, ◌%◌, List, [], ◌∷◌, ◌++◌, length, take, drop, codes}

-- A length in four bytes, big end first. Of a length that needs more the first of these is no byte, so no file has it.
unfoldable pub four_bytes : ℕ → List ℕ
four_bytes n = n / 16777216 ∷ n / 65536 % 256 ∷ n / 256 % 256 ∷ n % 256 ∷ []

-- the name and the version, which stand behind the first byte
abbrev pub name_and_version : List ℕ
name_and_version = codes "RNVFORGE" ++ 0 ∷ 0 ∷ 0 ∷ 1 ∷ []

-- the 13 bytes at the front
unfoldable pub head : List ℕ
head = 1 ∷ name_and_version

-- what a file without entries has behind its first byte: the rest of the head, and a gate 0
unfoldable pub made : List ℕ
made = name_and_version ++ 0 ∷ []

-- what stands behind an entry's gate: the length of its payload, and the payload
abbrev pub body : List ℕ → List ℕ
body payload = four_bytes (length payload) ++ payload

-- entries with these payloads, one after another, each behind its open gate
abbrev pub entries : List (List ℕ) → List ℕ
entries [] = []
entries (payload ∷ more) = 1 ∷ body payload ++ entries more

-- the file of these payloads, with this gate at the end, and these bytes behind it
unfoldable pub spelled : List (List ℕ) → ℕ → List ℕ → List ℕ
spelled payloads gate rest = head ++ (entries payloads ++ gate ∷ rest)

-- the offset of the gate at the end: 13 without entries, and for each entry 5 more and its payload
abbrev pub end_of : List (List ℕ) → ℕ
end_of [] = 13
end_of (payload ∷ more) = 5 + length payload + end_of more

-- the length that limits count: up to the gate at the end, and with it
abbrev pub counted : List (List ℕ) → ℕ
counted payloads = end_of payloads + 1

-- the file spells these payloads within the limit, and this gate ends them
pub record IsImage (limit : ℕ) (file : List ℕ) (payloads : List (List ℕ)) (gate : ℕ) (rest : List ℕ) : Type 0 where
  pub spells : file ≡ spelled payloads gate rest
  pub ends : gate ≢ 1
  pub within : counted payloads ≤ limit

-- begun by a byte 0, and not yet longer than a file without entries
pub record IsBegun (file : List ℕ) : Type 0 where
  pub first : take 1 file ≡ 0 ∷ []
  pub short : length file ≤ 14

-- a file without entries but for its first byte
pub record IsAllButFirst (file : List ℕ) : Type 0 where
  pub first : take 1 file ≢ 1 ∷ []
  pub rest : drop 1 file ≡ made

-- what a stop in the making of a file may leave: a start makes it
abbrev pub IsInMaking : List ℕ → Type 0
IsInMaking file = (length file ≤ 1) ⊎ (IsBegun file ⊎ IsAllButFirst file)

-- Neither a whole entry nor a gate that ends the list stands at the front of rest, at this offset, and ends within the limit:
-- the gate is missing, or its entry is, or one of them ends past the limit.
pub record IsNothing (limit offset : ℕ) (rest : List ℕ) : Type 0 where
  pub no_entry : (payload more : List ℕ) → rest ≡ 1 ∷ body payload ++ more → limit < offset + 5 + length payload
  pub no_end : (gate : ℕ) (more : List ℕ) → rest ≡ gate ∷ more → gate ≢ 1 → limit < offset + 1

-- behind the head and some whole entries within the limit, the gate at this offset is the first that is missing, or whose
-- entry is, or that ends, itself or with its entry, past the limit
pub record IsBroken (limit : ℕ) (file : List ℕ) (offset : ℕ) : Type 0 where
  pub payloads : List (List ℕ)
  pub rest : List ℕ
  pub spells : file ≡ head ++ (entries payloads ++ rest)
  pub place : offset ≡ end_of payloads
  pub within : offset ≤ limit
  pub broken : IsNothing limit offset rest

-- not in making, and another head
pub record IsHeadless (file : List ℕ) : Type 0 where
  pub unmade : ¬ IsInMaking file
  pub other : take 13 file ≢ head

-- the file is no image, and the offset says where it goes wrong: 0 where the head is wrong
abbrev pub IsFileWrongAt : ℕ → List ℕ → ℕ → Type 0
IsFileWrongAt limit file offset = (IsHeadless file × (offset ≡ 0)) ⊎ IsBroken limit file offset
