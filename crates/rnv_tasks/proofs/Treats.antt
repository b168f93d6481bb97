-- One command more of those that are run on bytes.
use Rattle.std.proofs.Common.{◌≡◌, ℕ, suc, ◌+◌, ◌<◌, Bool, true, false, not, cond, List, [], ◌∷◌, ◌++◌, length, drop, get_or, Result, Ok, Err, refl, sym, ap, subst, ◌∙◌, add-one, drop-cons, codes}
use Rattle.rnv_tasks.specs.declared.command.Command.{Command}
use Rattle.rnv_tasks.specs.Tasks.{call_of, calls_of, calls_over, ended, made, made_over, step, step_calls}
use Rattle.rnv_tasks.specs.Told.{Answer, Call, End, Makes, MakesFirst, given_by, handed}
use Rattle.rnv_tasks.proofs.Calls.{makes_more, makes_part}
use Rattle.rnv_tasks.proofs.Ends.{ended_handed}

pub cut : {X : Type 0} (xs : List X) (i : ℕ) (x : X) → i < length xs → x ≡ get_or xs i x → drop i xs ≡ x ∷ drop (i + 1) xs
cut {X} xs i x l e = rw add-one (drop-cons xs i x l ∙ ap (λ (y : X). y ∷ drop (suc i) xs) (sym e))

pub next_made : (answers now : List Answer) (cs : List Command) (i : ℕ) (c : Command) (bytes current output : List ℕ) → i < length cs → c ≡ get_or cs i c → now ≡ answers → Ok output ≡ step now c current
    → made answers cs bytes ≡ made answers (drop i cs) current → made answers cs bytes ≡ made answers (drop (i + 1) cs) output
next_made answers now cs i c bytes current output l e same gives is =
    is ∙ ap (λ ds. made answers ds current) (cut cs i c l e)
    ∙ ap (made_over (made answers (drop (i + 1) cs))) (ap (λ a. step a c current) (sym same) ∙ sym gives)

pub next_calls : (answers now : List Answer) (cs : List Command) (i : ℕ) (c : Command) (current output : List ℕ) (list before calls then : List Call) → i < length cs → c ≡ get_or cs i c → now ≡ answers → Ok output ≡ step now c current
    → Makes list (calls_of answers (drop i cs) current) before calls → then ≡ calls ++ step_calls c current → Makes list (calls_of answers (drop (i + 1) cs) output) before then
next_calls answers now cs i c current output list before calls then l e same gives makes called =
    let others = calls_of answers (drop (i + 1) cs) output in
    let is : calls_of answers (drop i cs) current ≡ step_calls c current ++ others =
    ap (λ ds. calls_of answers ds current) (cut cs i c l e)
    ∙ ap (λ r. step_calls c current ++ calls_over (calls_of answers (drop (i + 1) cs)) r) (ap (λ a. step a c current) (sym same) ∙ sym gives) in
    makes_more list (step_calls c current) others before calls then (subst (λ o. Makes list o before calls) is makes) called

pub part_calls : (answers : List Answer) (cs : List Command) (i : ℕ) (c : Command) (current : List ℕ) (list before calls then : List Call) → i < length cs → c ≡ get_or cs i c
    → Makes list (calls_of answers (drop i cs) current) before calls → MakesFirst (step_calls c current) calls then → MakesFirst list before then
part_calls answers cs i c current list before calls then l e makes first =
    let others = calls_over (calls_of answers (drop (i + 1) cs)) (step answers c current) in
    makes_part list (step_calls c current) others before calls then (subst (λ o. Makes list o before calls) (ap (λ ds. calls_of answers ds current) (cut cs i c l e)) makes) first

pub step_allowed : (answers : List Answer) (c : Command) (bytes text : List ℕ) (e : End) (r : Result (List ℕ) (List ℕ)) → c.allowed ≡ true → e ≡ handed (given_by (call_of c bytes) answers) → text ≡ c.text → r ≡ ended text e
    → r ≡ step answers c bytes
step_allowed answers c bytes text e r allowed is named judged =
    let given = given_by (call_of c bytes) answers in
    judged ∙ (λ i. ended (named i) (is i)) ∙ ended_handed c.text given
    ∙ ap (λ b. cond b (ended c.text given) (Err (c.text ++ codes " is not allowed"))) (sym allowed)
