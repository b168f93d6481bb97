-- No branch and no request is made twice among the writes of a run.
use Rattle.std.proofs.Common.{◌≡◌, ◌⊎◌, inl, inr, ℕ, Bool, true, false, not, ◌||◌, cond, List, [], ◌∷◌, ◌++◌, Option, None, Some, refl, sym, ◌∙◌, ap, subst, append-nil}
use Rattle.std.specs.List.{AllByRecursion, flat_map}
use Rattle.std.specs.Str.{bytes_eq}
use Rattle.std.proofs.lemmas.Grind.{flat_map-append}
use Rattle.rnv_repo.specs.declared.branch.Branch.{Branch}
use Rattle.rnv_repo.specs.declared.repo.Repo.{Repo}
use Rattle.rnv_repo.specs.declared.request.Request.{Request}
use Rattle.rnv_repo.specs.declared.write.Write.{Write}
use Rattle.rnv_repo.specs.declared.write.Write.TheVariants.{SetBase, PutBranch, DropBranch, OpenRequest, EditRequest, Autoclose, Finish}
use Rattle.rnv_repo.specs.Requests.{live_on, next_number}
use Rattle.rnv_outcome.specs.declared.item.Item.{Item}
use Rattle.rnv_outcome.specs.Content.{Base, base_of, content, is_stale, result, result_over, texts}
use Rattle.rnv_outcome.specs.Given.{Given}
use Rattle.rnv_outcome.specs.Law.{HaveDistinct}
use Rattle.rnv_outcome.specs.Limits.{is_chosen, to_open}
use Rattle.rnv_outcome.specs.Outcome.{outcome_page}
use Rattle.rnv_outcome.specs.Same.{same_branch, same_page, same_texts}
use Rattle.rnv_outcome.specs.Steps.{clean_of, clean_over, cleanup, finish, is_wanted_name, number_after, numbered, plan, steps, with_number}
use Rattle.rnv_outcome.specs.Texts.{Texts, editing, opening, texts_of}
use Rattle.rnv_outcome.specs.Views.{view}
use Rattle.rnv_outcome.specs.Work.{ask_writes, is_ticked, is_worked, put_writes, request_writes, todo_of, todos, work_order}
use Rattle.rnv_outcome.proofs.Lists.{distinct_order}
use Rattle.rnv_outcome.proofs.Same.{same_branch-refl}
use Rattle.rnv_composition.specs.History.{IsOnce, opened_of, put_of}

-- ---- lists that have an element or none

abbrev AtMost : List ℕ → List (List ℕ) → Type 0
AtMost name xs = (xs ≡ []) ⊎ (xs ≡ name ∷ [])

then_none : (name : List ℕ) (xs ys : List (List ℕ)) → AtMost name xs → ys ≡ [] → AtMost name (xs ++ ys)
then_none name xs ys (inl e) none = inl (ap (λ (l : List (List ℕ)). l ++ ys) e ∙ none)
then_none name xs ys (inr e) none = inr (ap (λ (l : List (List ℕ)). l ++ ys) e ∙ ap (λ (l : List (List ℕ)). name ∷ l) none)

after_none : (name : List ℕ) (xs ys : List (List ℕ)) → xs ≡ [] → AtMost name ys → AtMost name (xs ++ ys)
after_none name xs ys none most = subst (λ (l : List (List ℕ)). AtMost name (l ++ ys)) (sym none) most

module _ {X : Type 0} (key : X → List ℕ) (f : X → List (List ℕ)) (most : (x : X) → AtMost (key x) (f x)) where
  apart_flat : (n : List ℕ) (xs : List X) → AllByRecursion (λ y. bytes_eq n (key y) ≡ false) xs → AllByRecursion (λ m. bytes_eq n m ≡ false) (flat_map f xs)
  apart_flat n [] apart = tt
  apart_flat n (x ∷ xs) apart = by (f x) (most x) (apart_flat n xs apart.1)
    where
      by : (here : List (List ℕ)) → AtMost (key x) here → AllByRecursion (λ m. bytes_eq n m ≡ false) (flat_map f xs) → AllByRecursion (λ m. bytes_eq n m ≡ false) (here ++ flat_map f xs)
      by here (inl e) rest = subst (λ (l : List (List ℕ)). AllByRecursion (λ m. bytes_eq n m ≡ false) (l ++ flat_map f xs)) (sym e) rest
      by here (inr e) rest = subst (λ (l : List (List ℕ)). AllByRecursion (λ m. bytes_eq n m ≡ false) (l ++ flat_map f xs)) (sym e) (apart.0, rest)

  distinct_flat : (xs : List X) → HaveDistinct key xs → HaveDistinct (λ (n : List ℕ). n) (flat_map f xs)
  distinct_flat [] names = tt
  distinct_flat (x ∷ xs) names = by (f x) (most x) (distinct_flat xs names.1)
    where
      by : (here : List (List ℕ)) → AtMost (key x) here → HaveDistinct (λ (n : List ℕ). n) (flat_map f xs) → HaveDistinct (λ (n : List ℕ). n) (here ++ flat_map f xs)
      by here (inl e) rest = subst (λ (l : List (List ℕ)). HaveDistinct (λ (n : List ℕ). n) (l ++ flat_map f xs)) (sym e) rest
      by here (inr e) rest = subst (λ (l : List (List ℕ)). HaveDistinct (λ (n : List ℕ). n) (l ++ flat_map f xs)) (sym e) (apart_flat (key x) xs names.0, rest)

flat_twice : {X A B : Type 0} (h : X → List A) (f : A → List B) (xs : List X) → flat_map f (flat_map h xs) ≡ flat_map (λ x. flat_map f (h x)) xs
flat_twice h f [] = refl
flat_twice h f (x ∷ xs) = flat_map-append f (h x) (flat_map h xs) ∙ ap (λ l. flat_map f (h x) ++ l) (flat_twice h f xs)

flat_none : {X A B : Type 0} (h : X → List A) (f : A → List B) → ((x : X) → flat_map f (h x) ≡ []) → (xs : List X) → flat_map f (flat_map h xs) ≡ []
flat_none h f none [] = refl
flat_none h f none (x ∷ xs) = flat_map-append f (h x) (flat_map h xs) ∙ (ap (λ l. l ++ flat_map f (flat_map h xs)) (none x) ∙ flat_none h f none xs)

-- ---- numbers change neither

same_put : (n : ℕ) (w : Write) → put_of (with_number n w) ≡ put_of w
same_put n (SetBase repo changes) = refl
same_put n w = refl

same_opened : (n : ℕ) (w : Write) → opened_of (with_number n w) ≡ opened_of w
same_opened n (SetBase repo changes) = refl
same_opened n w = refl

numbered_same : (f : Write → List (List ℕ)) → ((n : ℕ) (w : Write) → f (with_number n w) ≡ f w) → (n : ℕ) (ws : List Write) → flat_map f (numbered n ws) ≡ flat_map f ws
numbered_same f same n [] = refl
numbered_same f same n (w ∷ ws) =
    ap (λ l. l ++ flat_map f (numbered (number_after n w) ws)) (same n w) ∙ ap (λ l. f w ++ l) (numbered_same f same (number_after n w) ws)

-- ---- the writes of an item

put_at : (repo : List ℕ) (g : Given) (base : Base) (i : Item) (ticked : Bool) (o : Option Branch) → AtMost i.branch (flat_map put_of (put_writes repo o (result_over g base i ticked o)))
put_at repo g base i ticked None = inr refl
put_at repo g base i ticked (Some b) =
    elim (is_stale base i ticked b) as (λ s. AtMost i.branch (flat_map put_of (cond (same_branch b (cond s (content g base i) b)) [] (PutBranch repo (cond s (content g base i) b) ∷ [])))) [
      | true ↦ elim (same_branch b (content g base i)) as (λ h. AtMost i.branch (flat_map put_of (cond h [] (PutBranch repo (content g base i) ∷ [])))) [
        | true ↦ inl refl
        | false ↦ inr refl
      ]
      | false ↦ rw (same_branch-refl b) (inl refl)
    ]

put_asks : (repo : List ℕ) (new : Bool) (moment : ℕ) (branch : List ℕ) (o : Option Request) (t : Texts) → flat_map put_of (request_writes repo new moment branch o t) ≡ []
put_asks repo new moment branch None t = elim new as (λ b. flat_map put_of (cond b (opening repo 0 branch t moment ∷ []) []) ≡ []) [
  | true ↦ refl
  | false ↦ refl
]
put_asks repo new moment branch (Some r) t = elim (same_texts (texts_of r) t) as (λ b. flat_map put_of (cond b [] (editing repo r.number t ∷ [])) ≡ []) [
  | true ↦ refl
  | false ↦ refl
]

opened_puts : (repo : List ℕ) (h : Bool) (b : Branch) → flat_map opened_of (cond h [] (PutBranch repo b ∷ [])) ≡ []
opened_puts repo h b = elim h as (λ s. flat_map opened_of (cond s [] (PutBranch repo b ∷ [])) ≡ []) [
  | true ↦ refl
  | false ↦ refl
]

opened_put : (repo : List ℕ) (o : Option Branch) (b : Branch) → flat_map opened_of (put_writes repo o b) ≡ []
opened_put repo None b = refl
opened_put repo (Some a) b = opened_puts repo (same_branch a b) b

opened_at : (repo : List ℕ) (new : Bool) (moment : ℕ) (branch : List ℕ) (o : Option Request) (t : Texts) → AtMost branch (flat_map opened_of (request_writes repo new moment branch o t))
opened_at repo new moment branch None t = elim new as (λ b. AtMost branch (flat_map opened_of (cond b (opening repo 0 branch t moment ∷ []) []))) [
  | true ↦ inr refl
  | false ↦ inl refl
]
opened_at repo new moment branch (Some r) t = elim (same_texts (texts_of r) t) as (λ b. AtMost branch (flat_map opened_of (cond b [] (editing repo r.number t ∷ [])))) [
  | true ↦ inl refl
  | false ↦ inl refl
]

module _ (g : Given) (repo : Repo) where
  put_todo : (i : Item) → AtMost i.branch (flat_map put_of (todo_of g repo i))
  put_todo i =
      let base = base_of repo in
      let v = view g repo i in
      let puts = put_writes base.name v.branch (result g base i v) in
      let asks = ask_writes g base i v in
      elim (is_worked (is_chosen g repo i) i v) as (λ b. AtMost i.branch (flat_map put_of (cond b (puts ++ asks) []))) [
        | true ↦ subst (AtMost i.branch) (sym (flat_map-append put_of puts asks))
            (then_none i.branch (flat_map put_of puts) (flat_map put_of asks) (put_at base.name g base i v.ticked v.branch) (put_asks base.name (to_open base i v) g.moment i.branch v.live (texts g base i v)))
        | false ↦ inl refl
      ]

  opened_todo : (i : Item) → AtMost i.branch (flat_map opened_of (todo_of g repo i))
  opened_todo i =
      let base = base_of repo in
      let v = view g repo i in
      let puts = put_writes base.name v.branch (result g base i v) in
      let asks = ask_writes g base i v in
      elim (is_worked (is_chosen g repo i) i v) as (λ b. AtMost i.branch (flat_map opened_of (cond b (puts ++ asks) []))) [
        | true ↦ subst (AtMost i.branch) (sym (flat_map-append opened_of puts asks))
            (after_none i.branch (flat_map opened_of puts) (flat_map opened_of asks) (opened_put base.name v.branch (result g base i v)) (opened_at base.name (to_open base i v) g.moment i.branch v.live (texts g base i v)))
        | false ↦ inl refl
      ]

  -- ---- all of the writes

  clean_none : (f : Write → List (List ℕ)) → ((name : List ℕ) → f (DropBranch repo.name name) ≡ []) → ((n : ℕ) → f (Autoclose repo.name n) ≡ []) → (b : Branch) → flat_map f (clean_of g repo b) ≡ []
  clean_none f drops closes b = elim (is_wanted_name g repo b.name) as (λ t. flat_map f (cond t [] (clean_over repo.name b.name (live_on b.name repo.requests))) ≡ []) [
    | true ↦ refl
    | false ↦ by (live_on b.name repo.requests)
  ]
    where
      by : (o : Option Request) → flat_map f (clean_over repo.name b.name o) ≡ []
      by None = ap (λ l. l ++ []) (drops b.name)
      by (Some r) = ap (λ l. l ++ flat_map f (DropBranch repo.name b.name ∷ [])) (closes r.number) ∙ ap (λ l. l ++ []) (drops b.name)

  finish_none : (f : Write → List (List ℕ)) → ((page : Option (List ℕ)) → f (Finish repo.name page) ≡ []) → flat_map f (finish g repo) ≡ []
  unfolding finish
  finish_none f finishes = elim (repo.due || not (same_page repo.page (outcome_page g repo))) as (λ t. flat_map f (cond t (Finish repo.name (outcome_page g repo) ∷ []) []) ≡ []) [
    | true ↦ ap (λ l. l ++ []) (finishes (outcome_page g repo))
    | false ↦ refl
  ]

  of_todos : (f : Write → List (List ℕ)) → ((n : ℕ) (w : Write) → f (with_number n w) ≡ f w) → ((name : List ℕ) → f (DropBranch repo.name name) ≡ []) → ((n : ℕ) → f (Autoclose repo.name n) ≡ [])
      → ((page : Option (List ℕ)) → f (Finish repo.name page) ≡ []) → flat_map f (steps g repo) ≡ flat_map (λ i. flat_map f (todo_of g repo i)) (work_order g repo)
  unfolding steps cleanup todos
  of_todos f same drops closes finishes =
      numbered_same f same (next_number repo.requests) (plan g repo)
      ∙ (flat_map-append f (cleanup g repo) (todos g repo ++ finish g repo)
      ∙ (ap (λ l. l ++ flat_map f (todos g repo ++ finish g repo)) (flat_none (clean_of g repo) f (clean_none f drops closes) repo.branches)
      ∙ (flat_map-append f (todos g repo) (finish g repo)
      ∙ (ap (λ l. flat_map f (todos g repo) ++ l) (finish_none f finishes) ∙ (append-nil (flat_map f (todos g repo)) ∙ flat_twice (todo_of g repo) f (work_order g repo))))))

  pub steps_once : HaveDistinct (λ (i : Item). i.branch) g.items → IsOnce (steps g repo)
  steps_once names =
      let order = distinct_order (λ (i : Item). i.branch) (is_ticked g repo) g.items names in
      record {
        branches = subst (HaveDistinct (λ (n : List ℕ). n)) (sym (of_todos put_of same_put (λ name. refl) (λ n. refl) (λ page. refl)))
            (distinct_flat (λ (i : Item). i.branch) (λ i. flat_map put_of (todo_of g repo i)) put_todo (work_order g repo) order);
        requests = subst (HaveDistinct (λ (n : List ℕ). n)) (sym (of_todos opened_of same_opened (λ name. refl) (λ n. refl) (λ page. refl)))
            (distinct_flat (λ (i : Item). i.branch) (λ i. flat_map opened_of (todo_of g repo i)) opened_todo (work_order g repo) order);
      }
