-- The bytes of a write are read exactly where they spell one.
use Rattle.std.proofs.Common.{◌≡◌, ℕ, suc, true, false, cond, eqb, List, [], ◌∷◌, ◌++◌, length, Option, Some, None, refl, sym, ap, subst, ◌∙◌, append_assoc}
use Rattle.std.specs.Prelude.{IfSome}
use Rattle.std.specs.List.{AllByRecursion}
use Rattle.std.specs.Str.{IsUtf8}
use Rattle.std.proofs.lemmas.Bool.{eqb-true}
use Rattle.std.proofs.lemmas.List.{append-nil, nil_from_length}
use Rattle.rnv_base.specs.Files.{NamedFile}
use Rattle.rnv_repo.specs.declared.branch.Branch.{Branch}
use Rattle.rnv_repo.specs.declared.branch.Key.{Key}
use Rattle.rnv_repo.specs.declared.write.Write.{Write}
use Rattle.rnv_repo.specs.declared.write.Write.TheVariants.{SetBase, PutBranch, DropBranch, OpenRequest, EditRequest, Autoclose, Finish}
use Rattle.rnv_repo.specs.Files.{PathChange}
use Rattle.rnv_repo.specs.WellFormed.{HasKeyTexts, HasBranchTexts, HasTexts}
use Rattle.rnv_spelling.specs.Spelling.{four_bytes, eight_bytes, spelled_bytes, spelled_list, spelled_option, spelled_key, spelled_file, spelled_change, spelled_branch, spelling}
use Rattle.rnv_spelling.specs.Reading.{Reading, both_at, made_at, number_at, long_at, bytes_at, text_at, list_at, option_at, key_at, file_at, change_at, branch_at, base_at, put_at, drop_at, open_at, edit_at, close_at, finish_at, fields_at, write_at, whole_write}
use Rattle.rnv_spelling.proofs.Formats.{IsBytes, IsFormat, bind_some, some_is, kept, both_format, made_format, number_format, long_format, bytes_format, text_format, list_format, option_format}

abbrev Any : {X : Type 0} → X → Type 0
Any x = Unit {0}

key_format : IsFormat HasKeyTexts spelled_key key_at
unfolding key_at
key_format =
    made_format (λ (p : List ℕ × (List ℕ × List ℕ)). IsUtf8 p.0 × (IsUtf8 p.1.0 × IsUtf8 p.1.1)) HasKeyTexts (λ p. spelled_bytes p.0 ++ (spelled_bytes p.1.0 ++ spelled_bytes p.1.1)) spelled_key
    (both_at text_at (both_at text_at text_at)) (λ p. record { file = p.0; «package» = p.1.0; new_value = p.1.1 }) (λ k. (k.file, (k.«package», k.new_value)))
    (both_format _ _ _ _ _ _ text_format (both_format _ _ _ _ _ _ text_format text_format))
    (λ k. refl) (λ p. append_assoc (spelled_bytes p.0) (spelled_bytes p.1.0) (spelled_bytes p.1.1)) (λ p h. record { file = h.0; of = h.1.0; value = h.1.1 }) (λ k h. (h.file, (h.of, h.value)))

file_format : IsFormat (λ (f : NamedFile). IsUtf8 f.path) spelled_file file_at
unfolding file_at
file_format =
    made_format (λ (p : List ℕ × List ℕ). IsUtf8 p.0 × Any p.1) (λ f. IsUtf8 f.path) (λ p. spelled_bytes p.0 ++ spelled_bytes p.1) spelled_file
    (both_at text_at bytes_at) (λ p. record { path = p.0; bytes = p.1 }) (λ f. (f.path, f.bytes))
    (both_format _ _ _ _ _ _ text_format bytes_format)
    (λ f. refl) (λ p. refl) (λ p h. h.0) (λ f h. (h, tt))

change_format : IsFormat (λ (c : PathChange). IsUtf8 c.path) spelled_change change_at
unfolding change_at
change_format =
    made_format (λ (p : List ℕ × Option (List ℕ)). IsUtf8 p.0 × IfSome p.1 Any) (λ c. IsUtf8 c.path) (λ p. spelled_bytes p.0 ++ spelled_option spelled_bytes p.1) spelled_change
    (both_at text_at (option_at bytes_at)) (λ p. record { path = p.0; bytes = p.1 }) (λ c. (c.path, c.bytes))
    (both_format _ _ _ _ _ _ text_format (option_format _ _ _ bytes_format))
    (λ c. refl) (λ p. refl) (λ p h. h.0) (λ c h. (h, some_any c.bytes))
  where
    some_any : (o : Option (List ℕ)) → IfSome o Any
    some_any None = tt
    some_any (Some x) = tt

abbrev BranchParts : Type 0
BranchParts = List ℕ × (ℕ × (List Key × (List NamedFile × List ℕ)))

branch_format : IsFormat HasBranchTexts spelled_branch branch_at
unfolding branch_at
branch_format =
    made_format (λ (p : BranchParts). IsUtf8 p.0 × (Any p.1.0 × (AllByRecursion HasKeyTexts p.1.1.0 × (AllByRecursion (λ f. IsUtf8 f.path) p.1.1.1.0 × IsUtf8 p.1.1.1.1)))) HasBranchTexts
    (λ p. spelled_bytes p.0 ++ (four_bytes p.1.0 ++ (spelled_list spelled_key p.1.1.0 ++ (spelled_list spelled_file p.1.1.1.0 ++ spelled_bytes p.1.1.1.1)))) spelled_branch
    (both_at text_at (both_at number_at (both_at (list_at key_at) (both_at (list_at file_at) text_at))))
    (λ p. record { name = p.0; revision = p.1.0; updates = p.1.1.0; files = p.1.1.1.0; problem = p.1.1.1.1 })
    (λ b. (b.name, (b.revision, (b.updates, (b.files, b.problem)))))
    (both_format _ _ _ _ _ _ text_format (both_format _ _ _ _ _ _ number_format (both_format _ _ _ _ _ _ (list_format _ _ _ key_format) (both_format _ _ _ _ _ _ (list_format _ _ _ file_format) text_format))))
    (λ b. refl) (λ p. simp append_assoc) (λ p h. record { name = h.0; updates = h.1.1.0; files = h.1.1.1.0; problem = h.1.1.1.1 }) (λ b h. (h.name, (tt, (h.updates, (h.files, h.problem)))))

-- the parts of each kind

base_parts : IsFormat (λ (p : List ℕ × List PathChange). IsUtf8 p.0 × AllByRecursion (λ c. IsUtf8 c.path) p.1) (λ p. spelled_bytes p.0 ++ spelled_list spelled_change p.1) (both_at text_at (list_at change_at))
base_parts = both_format _ _ _ _ _ _ text_format (list_format _ _ _ change_format)

put_parts : IsFormat (λ (p : List ℕ × Branch). IsUtf8 p.0 × HasBranchTexts p.1) (λ p. spelled_bytes p.0 ++ spelled_branch p.1) (both_at text_at branch_at)
put_parts = both_format _ _ _ _ _ _ text_format branch_format

drop_parts : IsFormat (λ (p : List ℕ × List ℕ). IsUtf8 p.0 × IsUtf8 p.1) (λ p. spelled_bytes p.0 ++ spelled_bytes p.1) (both_at text_at text_at)
drop_parts = both_format _ _ _ _ _ _ text_format text_format

abbrev OpenParts : Type 0
OpenParts = List ℕ × (ℕ × (List ℕ × (List Key × (List ℕ × (List ℕ × (List (List ℕ) × ℕ))))))

open_parts : IsFormat (λ (p : OpenParts). IsUtf8 p.0 × (Any p.1.0 × (IsUtf8 p.1.1.0 × (AllByRecursion HasKeyTexts p.1.1.1.0 × (IsUtf8 p.1.1.1.1.0 × (IsUtf8 p.1.1.1.1.1.0 × (AllByRecursion IsUtf8 p.1.1.1.1.1.1.0 × Any p.1.1.1.1.1.1.1)))))))
    (λ p. spelled_bytes p.0 ++ (four_bytes p.1.0 ++ (spelled_bytes p.1.1.0 ++ (spelled_list spelled_key p.1.1.1.0 ++ (spelled_bytes p.1.1.1.1.0 ++ (spelled_bytes p.1.1.1.1.1.0 ++ (spelled_list spelled_bytes p.1.1.1.1.1.1.0 ++ eight_bytes p.1.1.1.1.1.1.1)))))))
    (both_at text_at (both_at number_at (both_at text_at (both_at (list_at key_at) (both_at text_at (both_at text_at (both_at (list_at text_at) long_at)))))))
open_parts =
    both_format _ _ _ _ _ _ text_format (both_format _ _ _ _ _ _ number_format (both_format _ _ _ _ _ _ text_format (both_format _ _ _ _ _ _ (list_format _ _ _ key_format)
    (both_format _ _ _ _ _ _ text_format (both_format _ _ _ _ _ _ text_format (both_format _ _ _ _ _ _ (list_format _ _ _ text_format) long_format))))))

abbrev EditParts : Type 0
EditParts = List ℕ × (ℕ × (List Key × (List ℕ × (List ℕ × List (List ℕ)))))

edit_parts : IsFormat (λ (p : EditParts). IsUtf8 p.0 × (Any p.1.0 × (AllByRecursion HasKeyTexts p.1.1.0 × (IsUtf8 p.1.1.1.0 × (IsUtf8 p.1.1.1.1.0 × AllByRecursion IsUtf8 p.1.1.1.1.1)))))
    (λ p. spelled_bytes p.0 ++ (four_bytes p.1.0 ++ (spelled_list spelled_key p.1.1.0 ++ (spelled_bytes p.1.1.1.0 ++ (spelled_bytes p.1.1.1.1.0 ++ spelled_list spelled_bytes p.1.1.1.1.1)))))
    (both_at text_at (both_at number_at (both_at (list_at key_at) (both_at text_at (both_at text_at (list_at text_at))))))
edit_parts =
    both_format _ _ _ _ _ _ text_format (both_format _ _ _ _ _ _ number_format (both_format _ _ _ _ _ _ (list_format _ _ _ key_format)
    (both_format _ _ _ _ _ _ text_format (both_format _ _ _ _ _ _ text_format (list_format _ _ _ text_format)))))

close_parts : IsFormat (λ (p : List ℕ × ℕ). IsUtf8 p.0 × Any p.1) (λ p. spelled_bytes p.0 ++ four_bytes p.1) (both_at text_at number_at)
close_parts = both_format _ _ _ _ _ _ text_format number_format

finish_parts : IsFormat (λ (p : List ℕ × Option (List ℕ)). IsUtf8 p.0 × IfSome p.1 IsUtf8) (λ p. spelled_bytes p.0 ++ spelled_option spelled_bytes p.1) (both_at text_at (option_at text_at))
finish_parts = both_format _ _ _ _ _ _ text_format (option_format _ _ _ text_format)

abbrev made_open : OpenParts → Write
made_open p = OpenRequest p.0 p.1.0 p.1.1.0 p.1.1.1.0 p.1.1.1.1.0 p.1.1.1.1.1.0 p.1.1.1.1.1.1.0 p.1.1.1.1.1.1.1

abbrev made_edit : EditParts → Write
made_edit p = EditRequest p.0 p.1.0 p.1.1.0 p.1.1.1.0 p.1.1.1.1.0 p.1.1.1.1.1

-- the kinds

pub record IsRead (bytes : List ℕ) (w : Write) (rest : List ℕ) : Type 0 where
  pub texts : HasTexts w
  pub spelled : bytes ≡ spelling w ++ rest

kind_takes : {A : Type 0} (k : ℕ) (F : A → Type 0) (s : A → List ℕ) (r : Reading A) (make : A → Write) → IsFormat F s r → ((a : A) → spelling (make a) ≡ k ∷ s a) → ((a : A) → F a → HasTexts (make a))
    → (kind : ℕ) (more rest : List ℕ) (w : Write) → IsBytes more → kind ≡ k → made_at make r more ≡ Some (w, rest) → IsRead (kind ∷ more) w rest
kind_takes k F s r make f same texts kind more rest w fits is e =
    let a = bind_some (r more) (λ x. Some (make x.0, x.1)) (w, rest) e in
    let h = f.takes more a.0.1 a.0.0 fits a.1 in
    let made : Write × List ℕ = (make a.0.0, a.0.1) in
    let whole : kind ∷ more ≡ spelling (make a.0.0) ++ a.0.1 =
    ap (λ (b : ℕ). b ∷ more) is ∙ ap (λ (l : List ℕ). k ∷ l) h.1 ∙ ap (λ (l : List ℕ). l ++ a.0.1) (sym (same a.0.0)) in
    let result : IsRead (kind ∷ more) (make a.0.0) a.0.1 = record { texts = texts a.0.0 h.0; spelled = whole } in
    subst (λ (y : Write × List ℕ). IsRead (kind ∷ more) y.0 y.1) (some_is made (w, rest) a.2) result

kind_again : {A : Type 0} (k : ℕ) (F : A → Type 0) (s : A → List ℕ) (r : Reading A) (make : A → Write) → IsFormat F s r → (a : A) → spelling (make a) ≡ k ∷ s a → (bytes rest : List ℕ) → F a
    → bytes ≡ spelling (make a) ++ rest → (bytes ≡ k ∷ (s a ++ rest)) × (made_at make r (s a ++ rest) ≡ Some (make a, rest))
kind_again k F s r make f a same bytes rest h e =
    let e1 : bytes ≡ k ∷ (s a ++ rest) = e ∙ ap (λ (l : List ℕ). l ++ rest) same in
    let first = f.again (s a ++ rest) rest a h refl in
    (e1, rw first refl)

same_base : (p : List ℕ × List PathChange) → spelling (SetBase p.0 p.1) ≡ 1 ∷ (spelled_bytes p.0 ++ spelled_list spelled_change p.1)
same_base p = refl

same_put : (p : List ℕ × Branch) → spelling (PutBranch p.0 p.1) ≡ 2 ∷ (spelled_bytes p.0 ++ spelled_branch p.1)
same_put p = refl

same_open : (p : OpenParts) → spelling (made_open p) ≡ 4 ∷ (spelled_bytes p.0 ++ (four_bytes p.1.0 ++ (spelled_bytes p.1.1.0 ++ (spelled_list spelled_key p.1.1.1.0 ++ (spelled_bytes p.1.1.1.1.0 ++ (spelled_bytes p.1.1.1.1.1.0 ++ (spelled_list spelled_bytes p.1.1.1.1.1.1.0 ++ eight_bytes p.1.1.1.1.1.1.1)))))))
same_open p = simp append_assoc

same_edit : (p : EditParts) → spelling (made_edit p) ≡ 5 ∷ (spelled_bytes p.0 ++ (four_bytes p.1.0 ++ (spelled_list spelled_key p.1.1.0 ++ (spelled_bytes p.1.1.1.0 ++ (spelled_bytes p.1.1.1.1.0 ++ spelled_list spelled_bytes p.1.1.1.1.1)))))
same_edit p = simp append_assoc

by_kind : (kind k : ℕ) (x y : Option (Write × List ℕ)) (z : Write × List ℕ) (P : Type 0) → (kind ≡ k → x ≡ Some z → P) → (y ≡ Some z → P) → cond (eqb kind k) x y ≡ Some z → P
by_kind kind k x y z P here other e =
    elim (eqb kind k) as (λ b. eqb kind k ≡ b → cond b x y ≡ Some z → P) [
      | true ↦ λ is h. here (eqb-true kind k is) h
      | false ↦ λ is h. other h
    ] refl e

fields_take : (kind : ℕ) (more rest : List ℕ) (w : Write) → IsBytes more → fields_at kind more ≡ Some (w, rest) → IsRead (kind ∷ more) w rest
unfolding fields_at base_at put_at drop_at open_at edit_at close_at finish_at
fields_take kind more rest w fits =
    let R = IsRead (kind ∷ more) w rest in
    let z : Write × List ℕ = (w, rest) in
    by_kind kind 1 _ _ z R (kind_takes 1 _ _ _ (λ p. SetBase p.0 p.1) base_parts same_base (λ p h. (h.0, h.1)) kind more rest w fits)
    (by_kind kind 2 _ _ z R (kind_takes 2 _ _ _ (λ p. PutBranch p.0 p.1) put_parts same_put (λ p h. (h.0, h.1)) kind more rest w fits)
    (by_kind kind 3 _ _ z R (kind_takes 3 _ _ _ (λ p. DropBranch p.0 p.1) drop_parts (λ p. refl) (λ p h. (h.0, h.1)) kind more rest w fits)
    (by_kind kind 4 _ _ z R (kind_takes 4 _ _ _ made_open open_parts same_open (λ p h. (h.0, h.1.1.0, record { updates = h.1.1.1.0; title = h.1.1.1.1.0; body = h.1.1.1.1.1.0; labels = h.1.1.1.1.1.1.0 })) kind more rest w fits)
    (by_kind kind 5 _ _ z R (kind_takes 5 _ _ _ made_edit edit_parts same_edit (λ p h. (h.0, record { updates = h.1.1.0; title = h.1.1.1.0; body = h.1.1.1.1.0; labels = h.1.1.1.1.1 })) kind more rest w fits)
    (by_kind kind 6 _ _ z R (kind_takes 6 _ _ _ (λ p. Autoclose p.0 p.1) close_parts (λ p. refl) (λ p h. h.0) kind more rest w fits)
    (by_kind kind 7 _ _ z R (kind_takes 7 _ _ _ (λ p. Finish p.0 p.1) finish_parts (λ p. refl) (λ p h. (h.0, h.1)) kind more rest w fits)
    (λ e. absurd cc)))))))

write_takes : (bytes rest : List ℕ) (w : Write) → IsBytes bytes → write_at bytes ≡ Some (w, rest) → IsRead bytes w rest
unfolding write_at
write_takes [] rest w fits e = absurd cc
write_takes (kind ∷ more) rest w fits e = fields_take kind more rest w (λ i. fits (suc i)) e

write_again : (w : Write) (bytes rest : List ℕ) → HasTexts w → bytes ≡ spelling w ++ rest → write_at bytes ≡ Some (w, rest)
unfolding write_at fields_at base_at put_at drop_at open_at edit_at close_at finish_at
write_again (SetBase repo changes) bytes rest h e =
    let k = kind_again 1 _ _ _ (λ p. SetBase p.0 p.1) base_parts (repo, changes) (same_base (repo, changes)) bytes rest (h.0, h.1) e in ap write_at k.0 ∙ k.1
write_again (PutBranch repo branch) bytes rest h e =
    let k = kind_again 2 _ _ _ (λ p. PutBranch p.0 p.1) put_parts (repo, branch) (same_put (repo, branch)) bytes rest (h.0, h.1) e in ap write_at k.0 ∙ k.1
write_again (DropBranch repo name) bytes rest h e =
    let k = kind_again 3 _ _ _ (λ p. DropBranch p.0 p.1) drop_parts (repo, name) refl bytes rest (h.0, h.1) e in ap write_at k.0 ∙ k.1
write_again (OpenRequest repo number branch updates title body labels made) bytes rest h e =
    let p : OpenParts = (repo, (number, (branch, (updates, (title, (body, (labels, made))))))) in
    let k = kind_again 4 _ _ _ made_open open_parts p (same_open p) bytes rest (h.0, (tt, (h.1, (h.2.updates, (h.2.title, (h.2.body, (h.2.labels, tt))))))) e in ap write_at k.0 ∙ k.1
write_again (EditRequest repo number updates title body labels) bytes rest h e =
    let p : EditParts = (repo, (number, (updates, (title, (body, labels))))) in
    let k = kind_again 5 _ _ _ made_edit edit_parts p (same_edit p) bytes rest (h.0, (tt, (h.1.updates, (h.1.title, (h.1.body, h.1.labels))))) e in ap write_at k.0 ∙ k.1
write_again (Autoclose repo number) bytes rest h e =
    let k = kind_again 6 _ _ _ (λ p. Autoclose p.0 p.1) close_parts (repo, number) refl bytes rest (h, tt) e in ap write_at k.0 ∙ k.1
write_again (Finish repo page) bytes rest h e =
    let k = kind_again 7 _ _ _ (λ p. Finish p.0 p.1) finish_parts (repo, page) refl bytes rest (h.0, h.1) e in ap write_at k.0 ∙ k.1

-- all of the bytes

pub whole_takes : (bytes : List ℕ) (w : Write) → IsBytes bytes → whole_write bytes ≡ Some w → HasTexts w × (bytes ≡ spelling w)
unfolding whole_write
whole_takes bytes w fits e =
    let a = bind_some (write_at bytes) (λ x. cond (eqb (length x.1) 0) (Some x.0) None) w e in
    let g = kept (eqb (length a.0.1) 0) (Some a.0.0) w a.2 in
    let t = write_takes bytes a.0.1 a.0.0 fits a.1 in
    let nothing : a.0.1 ≡ [] = nil_from_length a.0.1 (eqb-true _ _ g.0) in
    let whole : bytes ≡ spelling a.0.0 = t.spelled ∙ ap (λ (l : List ℕ). spelling a.0.0 ++ l) nothing ∙ append-nil (spelling a.0.0) in
    subst (λ (v : Write). HasTexts v × (bytes ≡ spelling v)) (some_is a.0.0 w g.1) (t.texts, whole)

pub whole_again : (bytes : List ℕ) (w : Write) → HasTexts w → bytes ≡ spelling w → whole_write bytes ≡ Some w
unfolding whole_write
whole_again bytes w texts e = rw (write_again w bytes [] texts (e ∙ sym (append-nil (spelling w)))) refl
