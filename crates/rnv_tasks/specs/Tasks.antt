-- What tasks make of files, by what their programs give.
use Rattle.std.specs.Prelude.{ℕ, ◌==◌, nat_lt, Bool, true, false, not, ◌&&◌, if◌then◌else◌, List, [], ◌∷◌, ◌++◌, length, map, filter, flat_map, codes, Result, Ok, Err}
use Rattle.std.specs.Fmt.{decimal}
use Rattle.std.specs.List.{list_any, slice_split}
use Rattle.std.specs.Cmp.Lexicographic.{pointwise}
use Rattle.rnv_base.specs.Files.{NamedFile}
use Rattle.rnv_tasks.specs.Told.{Answer, Call, End, given_by}
use Rattle.rnv_tasks.specs.declared.command.Command.{Command}
use Rattle.rnv_tasks.specs.declared.done.Tasked.{Tasked}

abbrev pub is_none : {X : Type 0} → List X → Bool
is_none [] = true
is_none (x ∷ xs) = false

-- ---- commands

-- the longest runs of characters other than the space
abbrev pub words_of : List ℕ → List (List ℕ)
words_of text = filter (λ word. not (is_none word)) (slice_split (λ b. b == 32) text)

-- a command may be started: it has a word, and the operator's list has just this text
abbrev pub is_allowed : List (List ℕ) → List ℕ → Bool
is_allowed allowed text = not (is_none (words_of text)) && list_any (λ one. pointwise ◌==◌ one text) allowed

abbrev pub command_of : List (List ℕ) → List ℕ → Command
command_of allowed text = record { text = text; words = words_of text; allowed = is_allowed allowed text }

abbrev pub call_of : Command → List ℕ → Call
call_of c bytes = record { words = c.words; input = bytes }

-- ---- what commands make of bytes: other bytes, or a problem

-- what the end of a command makes
abbrev pub ended : List ℕ → End → Result (List ℕ) (List ℕ)
ended command e =
    if not (e.status == 0) then Err (command ++ (codes " ended with " ++ decimal e.status))
    else if nat_lt 1048576 (length e.output) then Err (command ++ codes " gave too much")
    else Ok e.output

-- what one command makes
abbrev pub step : List Answer → Command → List ℕ → Result (List ℕ) (List ℕ)
step answers c bytes =
    if c.allowed then ended c.text (given_by (call_of c bytes) answers)
    else Err (c.text ++ codes " is not allowed")

-- the program that it starts, if any
abbrev pub step_calls : Command → List ℕ → List Call
step_calls c bytes = if c.allowed then call_of c bytes ∷ [] else []

abbrev pub made_over : (List ℕ → Result (List ℕ) (List ℕ)) → Result (List ℕ) (List ℕ) → Result (List ℕ) (List ℕ)
made_over next (Ok bytes) = next bytes
made_over next (Err problem) = Err problem

abbrev pub calls_over : (List ℕ → List Call) → Result (List ℕ) (List ℕ) → List Call
calls_over next (Ok bytes) = next bytes
calls_over next (Err problem) = []

-- each command is run on what the one before it made; the first problem ends it
abbrev pub made : List Answer → List Command → List ℕ → Result (List ℕ) (List ℕ)
made answers [] bytes = Ok bytes
made answers (c ∷ cs) bytes = made_over (made answers cs) (step answers c bytes)

-- the programs that are started for it
abbrev pub calls_of : List Answer → List Command → List ℕ → List Call
calls_of answers [] bytes = []
calls_of answers (c ∷ cs) bytes = step_calls c bytes ++ calls_over (calls_of answers cs) (step answers c bytes)

-- ---- files

abbrev pub is_large : NamedFile → Bool
is_large f = nat_lt 32768 (length f.bytes)

abbrev pub file_made : List Answer → List Command → NamedFile → Result (List ℕ) (List ℕ)
file_made answers commands f = if is_large f then Err (codes "too large for tasks") else made answers commands f.bytes

abbrev pub file_calls : List Answer → List Command → NamedFile → List Call
file_calls answers commands f = if is_large f then [] else calls_of answers commands f.bytes

-- a file with a problem stays
abbrev pub file_with : NamedFile → Result (List ℕ) (List ℕ) → NamedFile
file_with f (Ok bytes) = record { path = f.path; bytes = bytes }
file_with f (Err problem) = f

-- `PATH: PROBLEM`
abbrev pub problems_of : NamedFile → Result (List ℕ) (List ℕ) → List (List ℕ)
problems_of f (Ok bytes) = []
problems_of f (Err problem) = (f.path ++ (codes ": " ++ problem)) ∷ []

-- problems in one text, with `; ` between them
abbrev pub joined : List (List ℕ) → List ℕ
joined [] = []
joined (problem ∷ problems) = problem ++ flat_map (λ other. codes "; " ++ other) problems

abbrev pub files_with : List Answer → List Command → List NamedFile → List NamedFile
files_with answers commands files = map (λ f. file_with f (file_made answers commands f)) files

abbrev pub problems_in : List Answer → List Command → List NamedFile → List (List ℕ)
problems_in answers commands files = flat_map (λ f. problems_of f (file_made answers commands f)) files

-- ---- all

abbrev pub commands_of : List (List ℕ) → List (List ℕ) → List Command
commands_of allowed texts = map (command_of allowed) texts

-- without a command the files stay as they are
unfoldable pub tasked : List Answer → List (List ℕ) → List (List ℕ) → List NamedFile → Tasked
tasked answers allowed commands files =
    if is_none commands then record { files = files; problem = [] }
    else record { files = files_with answers (commands_of allowed commands) files; problem = joined (problems_in answers (commands_of allowed commands) files) }

-- the programs that are started, in order
unfoldable pub all_calls : List Answer → List (List ℕ) → List (List ℕ) → List NamedFile → List Call
all_calls answers allowed commands files =
    if is_none commands then [] else flat_map (file_calls answers (commands_of allowed commands)) files
