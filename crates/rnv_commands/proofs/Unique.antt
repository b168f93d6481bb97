-- The changes from old files to new ones are the only ones that rise, make the new files and differ each.
use Rattle.std.proofs.Common.{◌≡◌, ℕ, true, false, cond, not, List, [], ◌∷◌, Option, Some, None, refl, sym, ap, subst, ◌∙◌}
use Rattle.std.specs.List.{AllByRecursion}
use Rattle.std.specs.List.Sorted.{IsStrictlySortedBy}
use Rattle.std.specs.Prelude.{option_map}
use Rattle.std.specs.Str.{bytes_eq}
use Rattle.std.specs.declared.cmp.Ordering.TheVariants.{Less, Equal, Greater}
use Rattle.std.proofs.lemmas.Cmp.{nat_list_cmp_total}
use Rattle.rnv_base.specs.Files.{NamedFile}
use Rattle.rnv_repo.specs.Base.{changed, differs, mark, path_of, with_bytes}
use Rattle.rnv_repo.specs.Files.{MarkedFile, PathChange}
use Rattle.rnv_repo.specs.Merging.{change_path}
use Rattle.rnv_repo.specs.Named.{IsRisingBy, at, without}
use Rattle.rnv_repo.proofs.Merges.{at_none}
use Rattle.rnv_repo.proofs.Texts.{cmp, all_weaker, bytes_refl, bytes_true, greater_back, same_texts}
use Rattle.rnv_commands.specs.Difference.{IsDifference, plain}
use Rattle.rnv_commands.proofs.Puts.{at_other, at_put}

abbrev bytes_of : Option MarkedFile → Option (List ℕ)
bytes_of o = option_map (λ (f : MarkedFile). f.bytes) o

-- the bytes of the new file at a path
abbrev new_at : List ℕ → List NamedFile → Option (List ℕ)
new_at p [] = None
new_at p (n ∷ ns) = cond (bytes_eq n.path p) (Some n.bytes) (new_at p ns)

plain_at : (p : List ℕ) (files : List MarkedFile) → new_at p (plain files) ≡ bytes_of (at path_of p files)
plain_at p [] = refl
plain_at p (f ∷ fs) =
    elim (bytes_eq f.path p) as (λ b. cond b (Some f.bytes) (new_at p (plain fs)) ≡ bytes_of (cond b (Some f) (at path_of p fs))) [ true ↦ refl | false ↦ plain_at p fs ]

-- one change

gone : (q : List ℕ) (fs : List MarkedFile) → at path_of q (without path_of q fs) ≡ None
gone q [] = refl
gone q (f ∷ fs) =
    elim (bytes_eq f.path q) as (λ t. bytes_eq f.path q ≡ t → at path_of q (cond (not t) (f ∷ without path_of q fs) (without path_of q fs)) ≡ None) [
      | true ↦ λ is. gone q fs
      | false ↦ λ is. ap (λ t. cond t (Some f) (at path_of q (without path_of q fs))) is ∙ gone q fs
    ] refl

stays : (p q : List ℕ) (fs : List MarkedFile) → bytes_eq q p ≡ false → at path_of p (without path_of q fs) ≡ at path_of p fs
stays p q [] other = refl
stays p q (f ∷ fs) other =
    elim (bytes_eq f.path q) as (λ t. bytes_eq f.path q ≡ t → at path_of p (cond (not t) (f ∷ without path_of q fs) (without path_of q fs)) ≡ at path_of p (f ∷ fs)) [
      | true ↦ λ is.
          let away : bytes_eq f.path p ≡ false = ap (λ (k : List ℕ). bytes_eq k p) (bytes_true f.path q is) ∙ other in
          stays p q fs other ∙ sym (ap (λ t. cond t (Some f) (at path_of p fs)) away)
      | false ↦ λ is. ap (λ o. cond (bytes_eq f.path p) (Some f) o) (stays p q fs other)
    ] refl

changed_here : (r : ℕ) (q : List ℕ) (b : Option (List ℕ)) (fs : List MarkedFile) → bytes_of (at path_of q (with_bytes r q b fs)) ≡ b
changed_here r q None fs = ap bytes_of (gone q fs)
changed_here r q (Some b) fs = ap bytes_of (at_put path_of (record { path = q; bytes = b; changed = mark r b (at path_of q fs) }) fs)

unchanged_there : (r : ℕ) (p q : List ℕ) (b : Option (List ℕ)) (fs : List MarkedFile) → bytes_eq q p ≡ false → at path_of p (with_bytes r q b fs) ≡ at path_of p fs
unchanged_there r p q None fs other = stays p q fs other
unchanged_there r p q (Some b) fs other = at_other path_of (record { path = q; bytes = b; changed = mark r b (at path_of q fs) }) p fs other

-- all of them

without_change : (r : ℕ) (cs : List PathChange) (fs : List MarkedFile) (p : List ℕ) → at change_path p cs ≡ None → at path_of p (changed r cs fs) ≡ at path_of p fs
without_change r [] fs p e = refl
without_change r (c ∷ cs) fs p e =
    elim (bytes_eq c.path p) as (λ t. bytes_eq c.path p ≡ t → cond t (Some c) (at change_path p cs) ≡ None → at path_of p (changed r cs (with_bytes r c.path c.bytes fs)) ≡ at path_of p fs) [
      | true ↦ λ is h. absurd cc
      | false ↦ λ is h. without_change r cs (with_bytes r c.path c.bytes fs) p h ∙ unchanged_there r p c.path c.bytes fs is
    ] refl e

with_change : (r : ℕ) (cs : List PathChange) (fs : List MarkedFile) (p : List ℕ) (x : PathChange) → IsRisingBy change_path cs → at change_path p cs ≡ Some x → bytes_of (at path_of p (changed r cs fs)) ≡ x.bytes
unfolding IsStrictlySortedBy
with_change r [] fs p x rising e = absurd cc
with_change r (c ∷ cs) fs p x rising e =
    elim (bytes_eq c.path p) as (λ t. bytes_eq c.path p ≡ t → cond t (Some c) (at change_path p cs) ≡ Some x → bytes_of (at path_of p (changed r cs (with_bytes r c.path c.bytes fs))) ≡ x.bytes) [
      | true ↦ λ is h.
          let path : c.path ≡ p = bytes_true c.path p is in
          let same : c ≡ x = cc in
          let above = subst (λ (q : List ℕ). AllByRecursion (λ (d : PathChange). cmp q d.path ≡ Less) cs) path rising.0 in
          ap bytes_of (without_change r cs (with_bytes r c.path c.bytes fs) p (at_none change_path p cs above))
          ∙ subst (λ (q : List ℕ). bytes_of (at path_of q (with_bytes r c.path c.bytes fs)) ≡ c.bytes) path (changed_here r c.path c.bytes fs) ∙ ap (λ (d : PathChange). d.bytes) same
      | false ↦ λ is h. with_change r cs (with_bytes r c.path c.bytes fs) p x rising.1 h
    ] refl e

-- the change that is found at a path
found : (P : PathChange → Type 0) (cs : List PathChange) (p : List ℕ) (x : PathChange) → AllByRecursion P cs → at change_path p cs ≡ Some x → P x × (x.path ≡ p)
found P [] p x all e = absurd cc
found P (c ∷ cs) p x all e =
    elim (bytes_eq c.path p) as (λ t. bytes_eq c.path p ≡ t → cond t (Some c) (at change_path p cs) ≡ Some x → P x × (x.path ≡ p)) [
      | true ↦ λ is h.
          let same : c ≡ x = cc in
          (subst P same all.0, ap (λ (d : PathChange). d.path) (sym same) ∙ bytes_true c.path p is)
      | false ↦ λ is h. found P cs p x all.1 h
    ] refl e

same_bytes : (b : Option (List ℕ)) (o : Option MarkedFile) → bytes_of o ≡ b → differs b o ≡ false
same_bytes None None e = refl
same_bytes None (Some f) e = absurd cc
same_bytes (Some b) None e = absurd cc
same_bytes (Some b) (Some f) e =
    let same : f.bytes ≡ b = cc in
    ap not (ap (λ (l : List ℕ). bytes_eq f.bytes l) (sym same) ∙ bytes_refl f.bytes)

same_change : (x y : PathChange) → x.path ≡ y.path → x.bytes ≡ y.bytes → x ≡ y
same_change x y path bytes =
    let change : List ℕ → Option (List ℕ) → PathChange = λ p b. record { path = p; bytes = b } in
    ap (λ p. change p x.bytes) path ∙ ap (λ b. change y.path b) bytes

module _ (old : List MarkedFile) (new : List NamedFile) where
  made_at : (cs : List PathChange) → IsDifference old new cs → (p : List ℕ) → bytes_of (at path_of p (changed 0 cs old)) ≡ new_at p new
  made_at cs d p = sym (plain_at p (changed 0 cs old)) ∙ ap (new_at p) (d.makes 0)

  -- a change of one of them is one of the other
  not_alone : (cs ds : List PathChange) → IsDifference old new cs → IsDifference old new ds → (p : List ℕ) (x : PathChange) → at change_path p cs ≡ Some x → ¬ (at change_path p ds ≡ None)
  not_alone cs ds c d p x some none =
      let here = found (λ (y : PathChange). differs y.bytes (at path_of y.path old) ≡ true) cs p x c.each some in
      let bytes : bytes_of (at path_of p old) ≡ x.bytes =
      ap bytes_of (sym (without_change 0 ds old p none)) ∙ made_at ds d p ∙ sym (made_at cs c p) ∙ with_change 0 cs old p x c.rising some in
      let same : differs x.bytes (at path_of x.path old) ≡ false = ap (λ (q : List ℕ). differs x.bytes (at path_of q old)) here.1 ∙ same_bytes x.bytes (at path_of p old) bytes in
      absurd (cc (here.0, same))

  same_at : (cs ds : List PathChange) → IsDifference old new cs → IsDifference old new ds → (p : List ℕ) → at change_path p cs ≡ at change_path p ds
  same_at cs ds c d p =
      elim (at change_path p cs) as (λ o. at change_path p cs ≡ o → o ≡ at change_path p ds) [
        | None ↦ λ none.
            elim (at change_path p ds) as (λ o. at change_path p ds ≡ o → None ≡ o) [
              | None ↦ λ e. refl
              | Some y ↦ λ some. absurd (not_alone ds cs d c p y some none)
            ] refl
        | Some x ↦ λ some.
            elim (at change_path p ds) as (λ o. at change_path p ds ≡ o → Some x ≡ o) [
              | None ↦ λ none. absurd (not_alone cs ds c d p x some none)
              | Some y ↦ λ also.
                  let one = found (λ (z : PathChange). differs z.bytes (at path_of z.path old) ≡ true) cs p x c.each some in
                  let two = found (λ (z : PathChange). differs z.bytes (at path_of z.path old) ≡ true) ds p y d.each also in
                  ap Some (same_change x y (one.1 ∙ sym two.1)
                  (sym (with_change 0 cs old p x c.rising some) ∙ made_at cs c p ∙ sym (made_at ds d p) ∙ with_change 0 ds old p y d.rising also))
            ] refl
      ] refl

-- lists that rise and have the same at each path are the same

first_at : (c : PathChange) (cs : List PathChange) → at change_path c.path (c ∷ cs) ≡ Some c
first_at c cs = ap (λ t. cond t (Some c) (at change_path c.path cs)) (bytes_refl c.path)

none_below : (c d : PathChange) (ds : List PathChange) → IsRisingBy change_path (d ∷ ds) → cmp c.path d.path ≡ Less → at change_path c.path (d ∷ ds) ≡ None
unfolding IsStrictlySortedBy
none_below c d ds rising less = at_none change_path c.path (d ∷ ds) (less, all_weaker _ _ (λ (e : PathChange) more. nat_list_cmp_total.trans c.path d.path e.path less more) ds rising.0)

rest_at : (c : PathChange) (cs ds : List PathChange) → IsRisingBy change_path (c ∷ cs) → IsRisingBy change_path (c ∷ ds) → (p : List ℕ) → at change_path p (c ∷ cs) ≡ at change_path p (c ∷ ds) → at change_path p cs ≡ at change_path p ds
unfolding IsStrictlySortedBy
rest_at c cs ds rc rd p e =
    elim (bytes_eq c.path p) as (λ t. bytes_eq c.path p ≡ t → cond t (Some c) (at change_path p cs) ≡ cond t (Some c) (at change_path p ds) → at change_path p cs ≡ at change_path p ds) [
      | true ↦ λ is h.
          let path : c.path ≡ p = bytes_true c.path p is in
          let behind : (es : List PathChange) → AllByRecursion (λ (d : PathChange). cmp c.path d.path ≡ Less) es → at change_path p es ≡ None =
          λ es above. at_none change_path p es (subst (λ (q : List ℕ). AllByRecursion (λ (d : PathChange). cmp q d.path ≡ Less) es) path above) in
          behind cs rc.0 ∙ sym (behind ds rd.0)
      | false ↦ λ is h. h
    ] refl e

same_list : (cs ds : List PathChange) → IsRisingBy change_path cs → IsRisingBy change_path ds → ((p : List ℕ) → at change_path p cs ≡ at change_path p ds) → cs ≡ ds
unfolding IsStrictlySortedBy
same_list [] [] rc rd same = refl
same_list [] (d ∷ ds) rc rd same =
    let none = same d.path ∙ first_at d ds in
    absurd cc
same_list (c ∷ cs) [] rc rd same =
    let none = sym (same c.path) ∙ first_at c cs in
    absurd cc
same_list (c ∷ cs) (d ∷ ds) rc rd same =
    elim (cmp c.path d.path) as (λ o. cmp c.path d.path ≡ o → c ∷ cs ≡ d ∷ ds) [
      | Less ↦ λ is.
          let none : Some c ≡ None = sym (first_at c cs) ∙ same c.path ∙ none_below c d ds rd is in
          absurd cc
      | Equal ↦ λ is.
          let path : c.path ≡ d.path = bytes_true c.path d.path (same_texts c.path d.path is) in
          let there : at change_path c.path (d ∷ ds) ≡ Some d = ap (λ (p : List ℕ). at change_path p (d ∷ ds)) path ∙ first_at d ds in
          let some : Some c ≡ Some d = sym (first_at c cs) ∙ same c.path ∙ there in
          let one : d ≡ c = cc in
          let rising : IsRisingBy change_path (c ∷ ds) = subst (λ (e : PathChange). IsRisingBy change_path (e ∷ ds)) one rd in
          let all : (p : List ℕ) → at change_path p (c ∷ cs) ≡ at change_path p (c ∷ ds) = λ p. same p ∙ ap (λ (e : PathChange). at change_path p (e ∷ ds)) one in
          ap (λ (l : List PathChange). c ∷ l) (same_list cs ds rc.1 rd.1 (λ p. rest_at c cs ds rc rising p (all p))) ∙ ap (λ (e : PathChange). e ∷ ds) (sym one)
      | Greater ↦ λ is.
          let none : Some d ≡ None = sym (first_at d ds) ∙ sym (same d.path) ∙ none_below d c cs rc (greater_back c.path d.path is) in
          absurd cc
    ] refl

pub one_difference : (old : List MarkedFile) (new : List NamedFile) (cs ds : List PathChange) → IsDifference old new cs → IsDifference old new ds → cs ≡ ds
one_difference old new cs ds c d = same_list cs ds c.rising d.rising (same_at old new cs ds c d)
