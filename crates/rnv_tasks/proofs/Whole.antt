-- All that is done with commands and without.
use Rattle.std.proofs.Common.{◌≡◌, ℕ, List, [], ◌∷◌, length, flat_map, refl}
use Rattle.rnv_base.specs.Files.{NamedFile}
use Rattle.rnv_tasks.specs.declared.done.Tasked.{Tasked}
use Rattle.rnv_tasks.specs.Tasks.{all_calls, commands_of, file_calls, files_with, joined, problems_in, tasked}
use Rattle.rnv_tasks.specs.Told.{Answer, Call, MakesFirst}
use Rattle.rnv_tasks.proofs.Calls.{makes_first, makes_none}

pub start : (list before : List Call) → MakesFirst list before before
start list before = makes_first list list before before (makes_none list before)

pub idle_files : (answers : List Answer) (allowed commands : List (List ℕ)) (files : List NamedFile) → length commands ≡ 0 → files ≡ (tasked answers allowed commands files).files
unfolding tasked
idle_files answers allowed [] files none = refl
idle_files answers allowed (c ∷ cs) files none = cc

pub idle_problem : (answers : List Answer) (allowed commands : List (List ℕ)) (files : List NamedFile) → length commands ≡ 0 → [] ≡ (tasked answers allowed commands files).problem
unfolding tasked
idle_problem answers allowed [] files none = refl
idle_problem answers allowed (c ∷ cs) files none = cc

pub idle_calls : (answers : List Answer) (allowed commands : List (List ℕ)) (files : List NamedFile) → length commands ≡ 0 → all_calls answers allowed commands files ≡ []
unfolding all_calls
idle_calls answers allowed [] files none = refl
idle_calls answers allowed (c ∷ cs) files none = cc

pub busy_files : (answers : List Answer) (allowed commands : List (List ℕ)) (files : List NamedFile) → ¬ (length commands ≡ 0) → files_with answers (commands_of allowed commands) files ≡ (tasked answers allowed commands files).files
unfolding tasked
busy_files answers allowed [] files some = absurd (some refl)
busy_files answers allowed (c ∷ cs) files some = refl

pub busy_problem : (answers : List Answer) (allowed commands : List (List ℕ)) (files : List NamedFile) → ¬ (length commands ≡ 0) → joined (problems_in answers (commands_of allowed commands) files) ≡ (tasked answers allowed commands files).problem
unfolding tasked
busy_problem answers allowed [] files some = absurd (some refl)
busy_problem answers allowed (c ∷ cs) files some = refl

pub busy_calls : (answers : List Answer) (allowed commands : List (List ℕ)) (files : List NamedFile) → ¬ (length commands ≡ 0) → flat_map (file_calls answers (commands_of allowed commands)) files ≡ all_calls answers allowed commands files
unfolding all_calls
busy_calls answers allowed [] files some = absurd (some refl)
busy_calls answers allowed (c ∷ cs) files some = refl
