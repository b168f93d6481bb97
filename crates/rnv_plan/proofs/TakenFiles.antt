-- The files of a base that managers take: one after another, that there are some, and no others.
use Rattle.std.proofs.Common.{◌≡◌, ℕ, ◌+◌, ◌<◌, List, [], ◌∷◌, ◌++◌, Bool, cond, Option, Some, None, length, take, drop, get_or, refl, sym, ◌∙◌, ap, subst, append-nil, length-append, arith}
use Rattle.std.specs.Prelude.{filter, is_some, map}
use Rattle.std.specs.List.{AllZip}
use Rattle.std.specs.Ordering.{on, nat_cmp}
use Rattle.std.specs.Cmp.Lexicographic.{slice_cmp}
use Rattle.std.proofs.lemmas.List.{take-append-drop, take_more, length-map}
use Rattle.std.proofs.lemmas.List.Elements.{filter_more, filter-append}
use Rattle.std.proofs.lemmas.List.Kept.{IsStrictlySortedBy-filter}
use Rattle.std.proofs.lemmas.Grind.{flat_map-append}
use Rattle.std.proofs.lemmas.Option.{same_Some}
use Rattle.std.proofs.lemmas.Slice.Zip.{all_zipped_more}
use Rattle.rnv_base.specs.Limits.{most_dependencies}
use Rattle.rnv_base.specs.declared.kinds.ManagerKind.{ManagerKind}
use Rattle.rnv_repo.specs.Files.{MarkedFile}
use Rattle.rnv_repo.specs.Named.{IsRisingBy}
use Rattle.rnv_manager.specs.declared.found.Found.{Found}
use Rattle.rnv_manager.specs.Finds.{view, views}
use Rattle.rnv_pick.specs.declared.dep.Dep.{Dep}
use Rattle.rnv_plan.specs.declared.taken.TakenFile.{TakenFile}
use Rattle.rnv_plan.specs.Managers.{manager_of}
use Rattle.rnv_plan.specs.Taken.{AreDeps, AreFinds, IsTaken, AreTaken, is_taken, deps_in, dep_of}
use Rattle.rnv_plan.specs.Refusal.{HaveMany}
use Rattle.rnv_plan.proofs.Finds.{deps-one, some-finds}
use Rattle.rnv_plan.proofs.Rising.{zip_rising}
use Rattle.rnv_plan.proofs.Zips.{zip_one, zip_both}

-- ---- one more file

one-longer : (files : List MarkedFile) (i : ℕ) (f : MarkedFile) → i < length files → f ≡ get_or files i f → filter is_taken (take (i + 1) files) ≡ filter is_taken (take i files) ++ cond (is_taken f) (f ∷ []) []
one-longer files i f within at = filter_more is_taken files i f within ∙ ap (λ (g : MarkedFile). filter is_taken (take i files) ++ cond (is_taken g) (g ∷ []) []) (sym at)

pub taken-more : (files : List MarkedFile) (i : ℕ) (f : MarkedFile) (ts : List TakenFile) (t : TakenFile) → i < length files → f ≡ get_or files i f → AreTaken (take i files) ts → IsTaken f t → AreTaken (take (i + 1) files) (ts ++ t ∷ [])
taken-more files i f ts t within at so_far here =
    let whole = one-longer files i f within at ∙ ap (λ (b : Bool). filter is_taken (take i files) ++ cond b (f ∷ []) []) (ap (λ (o : Option ManagerKind). is_some o) here.manager) in
    subst (λ (fs : List MarkedFile). AllZip IsTaken fs (ts ++ t ∷ [])) (sym whole) (all_zipped_more IsTaken (filter is_taken (take i files)) ts f t so_far here)

pub taken-other : (files : List MarkedFile) (i : ℕ) (f : MarkedFile) (ts : List TakenFile) → i < length files → f ≡ get_or files i f → AreTaken (take i files) ts → manager_of f.path ≡ None → AreTaken (take (i + 1) files) ts
taken-other files i f ts within at so_far none =
    let whole = one-longer files i f within at ∙ (ap (λ (o : Option ManagerKind). filter is_taken (take i files) ++ cond (is_some o) (f ∷ []) []) none ∙ append-nil (filter is_taken (take i files))) in
    subst (λ (fs : List MarkedFile). AllZip IsTaken fs ts) (sym whole) so_far

count-append : (ts us : List TakenFile) → length (deps_in (ts ++ us)) ≡ length (deps_in ts) + length (deps_in us)
count-append ts us = ap length (flat_map-append (λ (t : TakenFile). t.deps) ts us) ∙ length-append (deps_in ts) (deps_in us)

pub count-more : (ts : List TakenFile) (t : TakenFile) → length (deps_in (ts ++ t ∷ [])) ≡ length (deps_in ts) + length t.deps
count-more ts t = count-append ts (t ∷ []) ∙ ap (λ (ds : List Dep). length (deps_in ts) + length ds) (append-nil t.deps)

-- ---- there are some

some-over : (f : MarkedFile) (fs : List MarkedFile) (m : Option ManagerKind) → manager_of f.path ≡ m → (ts : List TakenFile) × AreTaken fs ts → (ts : List TakenFile) × AreTaken (f ∷ fs) ts
some-over f fs None none rest =
    (rest.0, subst (λ (o : Option ManagerKind). AllZip IsTaken (cond (is_some o) (f ∷ filter is_taken fs) (filter is_taken fs)) rest.0) (sym none) rest.1)
some-over f fs (Some m) some rest =
    let finds = some-finds m f.bytes in
    let t : TakenFile = record { path = f.path; manager = m; deps = map (dep_of f.path m) finds.0 } in
    let here : IsTaken f t = record { path = refl; manager = some; deps = record { finds = finds.0; read = finds.1; same = refl } } in
    (t ∷ rest.0, subst (λ (o : Option ManagerKind). AllZip IsTaken (cond (is_some o) (f ∷ filter is_taken fs) (filter is_taken fs)) (t ∷ rest.0)) (sym some) (here, rest.1))

some-taken : (files : List MarkedFile) → (ts : List TakenFile) × AreTaken files ts
some-taken [] = ([], tt)
some-taken (f ∷ fs) = some-over f fs (manager_of f.path) refl (some-taken fs)

-- with the dependencies of one file more there are too many
pub many-from : (files : List MarkedFile) (i : ℕ) (f : MarkedFile) (ts : List TakenFile) (m : ManagerKind) (ds : List Dep) (room : ℕ) → i < length files → f ≡ get_or files i f → AreTaken (take i files) ts → room + length (deps_in ts) ≡ most_dependencies
    → manager_of f.path ≡ Some m → AreDeps m f ds → room < length ds → HaveMany files
many-from files i f ts m ds room within at so_far count manager deps more =
    let t : TakenFile = record { path = f.path; manager = m; deps = ds } in
    let front = taken-more files i f ts t within at so_far (record { path = refl; manager = manager; deps = deps }) in
    let rest = some-taken (drop (i + 1) files) in
    let whole : filter is_taken (take (i + 1) files) ++ filter is_taken (drop (i + 1) files) ≡ filter is_taken files =
    sym (filter-append is_taken (take (i + 1) files) (drop (i + 1) files)) ∙ ap (filter is_taken) (take-append-drop (i + 1) files) in
    record {
      taken = (ts ++ t ∷ []) ++ rest.0;
      read = subst (λ (fs : List MarkedFile). AllZip IsTaken fs ((ts ++ t ∷ []) ++ rest.0)) whole
          (zip_both IsTaken (filter is_taken (take (i + 1) files)) (filter is_taken (drop (i + 1) files)) (ts ++ t ∷ []) rest.0 front rest.1);
      many = omega (arith, count-append (ts ++ t ∷ []) rest.0, count-more ts t);
    }

-- ---- and no others

same-parts : (p q : List ℕ) (m n : ManagerKind) (ds es : List Dep) → p ≡ q → m ≡ n → ds ≡ es → ◌≡◌ {A = TakenFile} (record { path = p; manager = m; deps = ds }) (record { path = q; manager = n; deps = es })
same-parts p q m n ds es paths managers deps = cc

file-one : (f : MarkedFile) (t u : TakenFile) → IsTaken f t → IsTaken f u → t ≡ u
file-one f t u a b =
    let managers : t.manager ≡ u.manager = same_Some t.manager u.manager (sym a.manager ∙ b.manager) in
    same-parts t.path u.path t.manager u.manager t.deps u.deps (a.path ∙ sym b.path) managers
    (deps-one t.manager f t.deps u.deps a.deps (subst (λ (m : ManagerKind). AreDeps m f u.deps) (sym managers) b.deps))

pub taken-one : (files : List MarkedFile) (ts us : List TakenFile) → AreTaken files ts → AreTaken files us → ts ≡ us
taken-one files ts us a b = zip_one IsTaken file-one (filter is_taken files) ts us a b

-- ---- they stand by path

pub taken-rising : (files : List MarkedFile) (ts : List TakenFile) → AreTaken files ts → IsRisingBy (λ f. f.path) files → IsRisingBy (λ t. t.path) ts
taken-rising files ts each rising =
    zip_rising (λ (f : MarkedFile). f.path) (λ (t : TakenFile). t.path) IsTaken (λ f t here. here.path) (filter is_taken files) ts each (IsStrictlySortedBy-filter (on (λ (f : MarkedFile). f.path) (slice_cmp nat_cmp)) is_taken files rising)

-- ---- the dependencies of a file, as its finds give them

pub found-deps : (m : ManagerKind) (f : MarkedFile) (bytes path : List ℕ) (found : List Found) (ds : List Dep) → bytes ≡ f.bytes → path ≡ f.path → AreFinds m bytes (views found) → ds ≡ map (dep_of path m) (views found) → AreDeps m f ds
found-deps m f bytes path found ds same_bytes same_path read same = record {
  finds = views found;
  read = subst (λ (bs : List ℕ). AreFinds m bs (views found)) same_bytes read;
  same = same ∙ ap (λ (p : List ℕ). map (dep_of p m) (views found)) same_path;
}

pub found-many : (m : ManagerKind) (f : MarkedFile) (bytes : List ℕ) (found : List Found) (room count : ℕ) → bytes ≡ f.bytes → AreFinds m bytes (views found) → count ≡ length found → room < count → (ds : List Dep) × AreDeps m f ds × (room < length ds)
found-many m f bytes found room count same_bytes read counted more =
    (map (dep_of f.path m) (views found), found-deps m f bytes f.path found (map (dep_of f.path m) (views found)) same_bytes refl read refl, omega (arith, length-map (views found) (dep_of f.path m), length-map found view))

-- the dependencies of one file more
pub deps-longer : (ts : List TakenFile) (i : ℕ) (t : TakenFile) → i < length ts → t ≡ get_or ts i t → deps_in (take i ts) ++ t.deps ≡ deps_in (take (i + 1) ts)
deps-longer ts i t within at =
    let longer : take (i + 1) ts ≡ take i ts ++ t ∷ [] = take_more ts i t within ∙ ap (λ (u : TakenFile). take i ts ++ u ∷ []) (sym at) in
    sym (ap deps_in longer ∙ (flat_map-append (λ (u : TakenFile). u.deps) (take i ts) (t ∷ []) ∙ ap (λ (ds : List Dep). deps_in (take i ts) ++ ds) (append-nil t.deps)))
