-- The grammar of a body: a JSON object with an id, an event's word, and what that event needs.
use Rattle.std.specs.Prelude.{ℕ, nat_le, Bool, ◌&&◌, if◌then◌else◌, is_some, List, [], ◌∷◌, length, codes, Option, None, Some, Result, Ok, Err, option_and_then, option_map}
use Rattle.std.specs.List.{list_all}
use Rattle.std.specs.Str.{bytes_eq}
use Rattle.serde_json.specs.Data.{Data, null, boolean, number, string, array, object, Members, no_members, member}
use Rattle.serde_json.specs.Find.{get, as_object, as_str, as_number, as_u64}
use Rattle.rnv_repo.specs.declared.delivery.Event.{Event}
use Rattle.rnv_repo.specs.declared.delivery.Event.TheVariants.{Push, Merged, Closed, Page}
use Rattle.rnv_repo.specs.Files.{PathChange}
use Rattle.rnv_repo.specs.Named.{AreInOrder}
use Rattle.rnv_hook.specs.declared.told.Told.{Told}
use Rattle.rnv_hook.specs.declared.told.BodyError.{BodyError}
use Rattle.rnv_hook.specs.declared.told.BodyError.TheVariants.{NotJson, NotObject, BadId, BadEvent, BadChanges, BadNumber, BadText}
use Rattle.rnv_hook.specs.Json.{json_of}
use Rattle.rnv_hook.specs.Paths.{is_path}

-- a character from `!` to `~`
abbrev pub is_visible : ℕ → Bool
is_visible b = nat_le 33 b && nat_le b 126

-- 1 to 128 of them
abbrev pub is_id : List ℕ → Bool
is_id text = nat_le 1 (length text) && nat_le (length text) 128 && list_all is_visible text

-- the text of a member
abbrev pub text_in : List ℕ → Data → Option (List ℕ)
text_in name d = option_and_then as_str (get name d)

abbrev pub id_in : Data → Option (List ℕ)
id_in d = option_and_then (λ text. if is_id text then Some text else None) (text_in (codes "id") d)

-- the new bytes of a file: those of a text, or none where the value is null
abbrev pub bytes_in : Data → Option (Option (List ℕ))
bytes_in null = Some None
bytes_in (boolean b) = None
bytes_in (number n) = None
bytes_in (string s) = Some (Some s)
bytes_in (array ds) = None
bytes_in (object ms) = None

abbrev pub change_in : List ℕ → Data → Option PathChange
change_in path d = if is_path path then option_map (λ bytes. record { path = path; bytes = bytes }) (bytes_in d) else None

-- a change for each member, in the order of the paths
abbrev pub changes_in : Members → Option (List PathChange)
changes_in no_members = Some []
changes_in (member path d ms) = option_and_then (λ c. option_map (λ cs. c ∷ cs) (changes_in ms)) (change_in path d)

-- the changes of the object `changes`
abbrev pub changes_of : Data → Option (List PathChange)
changes_of d = option_and_then changes_in (option_and_then as_object (get (codes "changes") d))

-- a number from 1 to 4294967295
abbrev pub number_in : Data → Option ℕ
number_in d =
    option_and_then (λ n. if nat_le 1 n && nat_le n 4294967295 then Some n else None)
    (option_and_then as_u64 (option_and_then as_number (get (codes "number") d)))

-- what is there, or the cause for which it is refused
abbrev pub or_cause : {T : Type 0} → BodyError → Option T → Result T BodyError
or_cause cause None = Err cause
or_cause cause (Some found) = Ok found

abbrev pub event_named : Option (List ℕ) → Data → Result Event BodyError
event_named None d = Err BadEvent
event_named (Some word) d =
    if bytes_eq word (codes "push") then or_cause BadChanges (option_map Push (changes_of d))
    else (if bytes_eq word (codes "merged") then or_cause BadNumber (option_map Merged (number_in d))
    else (if bytes_eq word (codes "closed") then or_cause BadNumber (option_map Closed (number_in d))
    else (if bytes_eq word (codes "page") then or_cause BadText (option_map Page (text_in (codes "text") d)) else Err BadEvent)))

-- the event that the text `event` names
abbrev pub event_in : Data → Result Event BodyError
event_in d = event_named (text_in (codes "event") d) d

abbrev pub with_id : List ℕ → Result Event BodyError → Result Told BodyError
with_id id (Ok event) = Ok (record { id = id; event = event })
with_id id (Err cause) = Err cause

abbrev pub told_by : Option (List ℕ) → Data → Result Told BodyError
told_by None d = Err BadId
told_by (Some id) d = with_id id (event_in d)

-- other members are passed over
abbrev pub told_in : Data → Result Told BodyError
told_in d = if is_some (as_object d) then told_by (id_in d) d else Err NotObject

abbrev pub reading_in : Option Data → Result Told BodyError
reading_in None = Err NotJson
reading_in (Some d) = told_in d

-- what a body tells, or why it is outside the grammar: the first cause
unfoldable pub reading : List ℕ → Result Told BodyError
reading body = reading_in (json_of body)

-- the changes of a push are of paths, which rise
abbrev pub HasOrder : Event → Type 0
HasOrder (Push cs) = AreInOrder (λ c. c.path) cs
HasOrder (Merged n) = Unit {0}
HasOrder (Closed n) = Unit {0}
HasOrder (Page t) = Unit {0}
