-- The finds of a file as dependencies: one after another, that there are some, and no others.
use Rattle.std.proofs.Common.{◌≡◌, ℕ, ◌+◌, ◌<◌, List, [], ◌∷◌, ◌++◌, Bool, true, false, Option, Some, None, length, take, map, get_or, refl, sym, ◌∙◌, ap, inl, inr}
use Rattle.std.specs.Prelude.{option_map}
use Rattle.std.specs.Str.{IsUtf8, is_utf8}
use Rattle.std.proofs.lemmas.Bool.{cases_Bool}
use Rattle.std.proofs.lemmas.List.{map_more, map-append}
use Rattle.std.proofs.lemmas.Option.{same_Some}
use Rattle.std.proofs.lemmas.Str.{IsUtf8-from_is_utf8, is_utf8-from_IsUtf8}
use Rattle.rnv_base.specs.declared.kinds.ManagerKind.{ManagerKind}
use Rattle.rnv_base.specs.declared.kinds.ManagerKind.TheVariants.{Cargo, Npm, Dockerfile, Regex}
use Rattle.rnv_repo.specs.Files.{MarkedFile}
use Rattle.rnv_manager.specs.declared.found.Found.{Found}
use Rattle.rnv_manager.specs.Finds.{Find, view, views}
use Rattle.rnv_manager.specs.Marks.{Mark, finds_from}
use Rattle.rnv_package_json.specs.Read.{file as npm_file}
use Rattle.rnv_package_json.proofs.Whole.{file-again, file-takes}
use Rattle.rnv_cargo.specs.Read.{finds_in, file as cargo_file}
use Rattle.rnv_cargo.proofs.Whole.{read-again, read-takes}
use Rattle.rnv_docker.specs.Grammar.{pieces}
use Rattle.rnv_docker.proofs.Pieces.{is-read}
use Rattle.rnv_pick.specs.declared.dep.Dep.{Dep}
use Rattle.rnv_plan.specs.Managers.{IsReadBy}
use Rattle.rnv_plan.specs.Taken.{AreFinds, AreDeps, dep_of}

pub deps-one_more : (path : List ℕ) (m : ManagerKind) (found : List Found) (i : ℕ) (d : Found) (deps more : List Dep) (dep : Dep) → i < length found → deps ≡ map (dep_of path m) (views (take i found)) → dep ≡ dep_of path m (view (get_or found i d)) → more ≡ deps ++ dep ∷ [] → more ≡ map (dep_of path m) (views (take (i + 1) found))
deps-one_more path m found i d deps more dep within so_far here pushed =
    let longer = ap (map (dep_of path m)) (map_more view found i d within) in
    let parts = map-append (dep_of path m) (views (take i found)) (view (get_or found i d) ∷ []) in
    cc

-- ---- a file has finds

none-some : {X : Type 0} (o : Option X) (x : X) → o ≡ None → o ≡ Some x → ⊥
none-some o x none some = cc

true-false : (b : Bool) → b ≡ true → b ≡ false → ⊥
true-false b is_so not_so = cc

-- a manager whose finds are what a function gives
module _ (m : ManagerKind) (read : List ℕ → Option (List Find)) (takes : (bytes : List ℕ) (fs : List Find) → read bytes ≡ Some fs → (ms : List Mark) × IsReadBy m bytes ms × (fs ≡ finds_from 0 ms)) (again : (bytes : List ℕ) (ms : List Mark) → IsReadBy m bytes ms → read bytes ≡ Some (finds_from 0 ms)) where
  read-finds : (text : List ℕ) → IsUtf8 text → (o : Option (List Find)) → read text ≡ o → (finds : List Find) × AreFinds m text finds
  read-finds text utf8 None none = ([], inr (record { unread = λ u ms is_read. none-some (read text) (finds_from 0 ms) none (again text ms is_read); same = refl }))
  read-finds text utf8 (Some finds) some =
      let taken = takes text finds some in
      (finds, inl (record { utf8 = utf8; marks = taken.0; read = taken.1; same = taken.2 }))

  finds-by : (bytes : List ℕ) → (finds : List Find) × AreFinds m bytes finds
  finds-by bytes = elim (cases_Bool (is_utf8 bytes)) [
    | inl is_so ↦ read-finds bytes (IsUtf8-from_is_utf8 bytes is_so) (read bytes) refl
    | inr not_so ↦ ([], inr (record { unread = λ u ms is_read. true-false (is_utf8 bytes) (is_utf8-from_IsUtf8 bytes u) not_so; same = refl }))
  ]

  same-by : (bytes : List ℕ) (ms ns : List Mark) → IsReadBy m bytes ms → IsReadBy m bytes ns → finds_from 0 ms ≡ finds_from 0 ns
  same-by bytes ms ns left right = same_Some (finds_from 0 ms) (finds_from 0 ns) (sym (again bytes ms left) ∙ again bytes ns right)

-- a Dockerfile has the finds of its pieces
pieces-take : (bytes : List ℕ) (fs : List Find) → Some (finds_from 0 (pieces bytes)) ≡ Some fs → (ms : List Mark) × IsReadBy Dockerfile bytes ms × (fs ≡ finds_from 0 ms)
pieces-take bytes fs same = (pieces bytes, is-read bytes, sym (same_Some (finds_from 0 (pieces bytes)) fs same))

pieces-again : (bytes : List ℕ) (ms : List Mark) → IsReadBy Dockerfile bytes ms → Some (finds_from 0 (pieces bytes)) ≡ Some (finds_from 0 ms)
pieces-again bytes ms read = ap (λ (ps : List Mark). Some (finds_from 0 ps)) (sym read.are)

pub some-finds : (m : ManagerKind) (bytes : List ℕ) → (finds : List Find) × AreFinds m bytes finds
some-finds Cargo bytes = finds-by Cargo (λ bs. option_map finds_in (cargo_file bs)) read-takes read-again bytes
some-finds Npm bytes = finds-by Npm npm_file file-takes file-again bytes
some-finds Dockerfile bytes = finds-by Dockerfile (λ bs. Some (finds_from 0 (pieces bs))) pieces-take pieces-again bytes
some-finds Regex bytes = ([], inr (record { unread = λ u ms read. read; same = refl }))

-- ---- and no others

-- two readings of a text have the same finds
pub same_finds : (m : ManagerKind) (bytes : List ℕ) (ms ns : List Mark) → IsReadBy m bytes ms → IsReadBy m bytes ns → finds_from 0 ms ≡ finds_from 0 ns
same_finds Cargo bytes = same-by Cargo (λ bs. option_map finds_in (cargo_file bs)) read-takes read-again bytes
same_finds Npm bytes = same-by Npm npm_file file-takes file-again bytes
same_finds Dockerfile bytes = same-by Dockerfile (λ bs. Some (finds_from 0 (pieces bs))) pieces-take pieces-again bytes
same_finds Regex bytes = λ ms ns left right. absurd left

finds-one : (m : ManagerKind) (bytes : List ℕ) (fs gs : List Find) → AreFinds m bytes fs → AreFinds m bytes gs → fs ≡ gs
finds-one m bytes fs gs (inl a) (inl b) = a.same ∙ (same_finds m bytes a.marks b.marks a.read b.read ∙ sym b.same)
finds-one m bytes fs gs (inl a) (inr b) = absurd (b.unread a.utf8 a.marks a.read)
finds-one m bytes fs gs (inr a) (inl b) = absurd (a.unread b.utf8 b.marks b.read)
finds-one m bytes fs gs (inr a) (inr b) = a.same ∙ sym b.same

pub deps-one : (m : ManagerKind) (f : MarkedFile) (ds es : List Dep) → AreDeps m f ds → AreDeps m f es → ds ≡ es
deps-one m f ds es a b = a.same ∙ (ap (map (dep_of f.path m)) (finds-one m f.bytes a.finds b.finds a.read b.read) ∙ sym b.same)
