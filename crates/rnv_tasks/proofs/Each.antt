-- One file more of those on which commands are run.
use Rattle.std.proofs.Common.{◌≡◌, ℕ, ◌+◌, ◌<◌, List, [], ◌∷◌, ◌++◌, length, take, drop, get_or, map, flat_map, Result, Ok, Err, refl, sym, ap, subst, ◌∙◌, append_assoc}
use Rattle.std.proofs.lemmas.List.{append-nil, take_more}
use Rattle.rnv_base.specs.Files.{NamedFile, paths_of}
use Rattle.rnv_tasks.specs.declared.command.Command.{Command}
use Rattle.rnv_tasks.specs.Tasks.{file_made, file_with, files_with, problems_in, problems_of}
use Rattle.rnv_tasks.specs.Told.{Answer, Call, Makes, MakesFirst}
use Rattle.rnv_tasks.proofs.Calls.{makes_more, makes_part}
use Rattle.rnv_tasks.proofs.Treats.{cut}

more : {X : Type 0} (xs : List X) (i : ℕ) (x : X) → i < length xs → x ≡ get_or xs i x → take (i + 1) xs ≡ take i xs ++ x ∷ []
more {X} xs i x l e = take_more xs i x l ∙ ap (λ (y : X). take i xs ++ y ∷ []) (sym e)

mapped : {X Y : Type 0} (f : X → Y) (xs : List X) (x : X) → map f (xs ++ x ∷ []) ≡ map f xs ++ f x ∷ []
mapped f [] x = refl
mapped f (y ∷ ys) x = ap (λ t. f y ∷ t) (mapped f ys x)

mapped_flat : {X Y : Type 0} (f : X → List Y) (xs : List X) (x : X) → flat_map f (xs ++ x ∷ []) ≡ flat_map f xs ++ f x
mapped_flat f [] x = append-nil (f x)
mapped_flat f (y ∷ ys) x = ap (λ t. f y ++ t) (mapped_flat f ys x) ∙ sym (append_assoc (f y) (flat_map f ys) (f x))

pub more_files : (answers : List Answer) (cs : List Command) (fs : List NamedFile) (i : ℕ) (f : NamedFile) (r : Result (List ℕ) (List ℕ)) (done now : List NamedFile) → i < length fs → f ≡ get_or fs i f → r ≡ file_made answers cs f
    → done ≡ files_with answers cs (take i fs) → now ≡ done ++ file_with f r ∷ [] → now ≡ files_with answers cs (take (i + 1) fs)
more_files answers cs fs i f r done now l e gives is put =
    put ∙ (λ k. is k ++ file_with f (gives k) ∷ []) ∙ sym (mapped (λ x. file_with x (file_made answers cs x)) (take i fs) f)
    ∙ ap (files_with answers cs) (sym (more fs i f l e))

pub more_problems : (answers : List Answer) (cs : List Command) (fs : List NamedFile) (i : ℕ) (f : NamedFile) (r : Result (List ℕ) (List ℕ)) (old now : List (List ℕ)) → i < length fs → f ≡ get_or fs i f → r ≡ file_made answers cs f
    → old ≡ problems_in answers cs (take i fs) → now ≡ old ++ problems_of f r → now ≡ problems_in answers cs (take (i + 1) fs)
more_problems answers cs fs i f r old now l e gives is put =
    put ∙ (λ k. is k ++ problems_of f (gives k)) ∙ sym (mapped_flat (λ x. problems_of x (file_made answers cs x)) (take i fs) f)
    ∙ ap (problems_in answers cs) (sym (more fs i f l e))

same_path : (f : NamedFile) (r : Result (List ℕ) (List ℕ)) → (file_with f r).path ≡ f.path
same_path f (Ok bytes) = refl
same_path f (Err problem) = refl

pub more_paths : (fs : List NamedFile) (i : ℕ) (f : NamedFile) (r : Result (List ℕ) (List ℕ)) (done now : List NamedFile) → i < length fs → f ≡ get_or fs i f
    → paths_of done ≡ paths_of (take i fs) → now ≡ done ++ file_with f r ∷ [] → paths_of now ≡ paths_of (take (i + 1) fs)
more_paths fs i f r done now l e is put =
    ap paths_of put ∙ mapped (λ x. x.path) done (file_with f r) ∙ (λ k. is k ++ same_path f r k ∷ [])
    ∙ sym (mapped (λ x. x.path) (take i fs) f) ∙ ap paths_of (sym (more fs i f l e))

pub next_file : (calls_for : NamedFile → List Call) (fs : List NamedFile) (i : ℕ) (f : NamedFile) (list before calls then : List Call) → i < length fs → f ≡ get_or fs i f
    → Makes list (flat_map calls_for (drop i fs)) before calls → then ≡ calls ++ calls_for f → Makes list (flat_map calls_for (drop (i + 1) fs)) before then
next_file calls_for fs i f list before calls then l e makes called =
    makes_more list (calls_for f) (flat_map calls_for (drop (i + 1) fs)) before calls then (subst (λ o. Makes list o before calls) (ap (flat_map calls_for) (cut fs i f l e)) makes) called

pub part_file : (calls_for : NamedFile → List Call) (fs : List NamedFile) (i : ℕ) (f : NamedFile) (list before calls then : List Call) → i < length fs → f ≡ get_or fs i f
    → Makes list (flat_map calls_for (drop i fs)) before calls → MakesFirst (calls_for f) calls then → MakesFirst list before then
part_file calls_for fs i f list before calls then l e makes first =
    makes_part list (calls_for f) (flat_map calls_for (drop (i + 1) fs)) before calls then (subst (λ o. Makes list o before calls) (ap (flat_map calls_for) (cut fs i f l e)) makes) first
