-- Two lists whose elements stand in a relation, place by place.
use Rattle.std.proofs.Common.{◌≡◌, List, [], ◌∷◌, ◌++◌, map, refl}
use Rattle.std.specs.List.{All, AllZip}
use Rattle.std.proofs.lemmas.List.Elements.{All-nil, All-cons, All-head, All-tail}

module _ {A B : Type 0} (R : A → B → Type 0) where
  -- a relation that gives one element gives one list
  pub zip_one : ((x : A) (y z : B) → R x y → R x z → y ≡ z) → (xs : List A) (ys zs : List B) → AllZip R xs ys → AllZip R xs zs → ys ≡ zs
  zip_one one [] [] [] left right = refl
  zip_one one [] [] (z ∷ zs) left right = absurd right
  zip_one one [] (y ∷ ys) zs left right = absurd left
  zip_one one (x ∷ xs) [] zs left right = absurd left
  zip_one one (x ∷ xs) (y ∷ ys) [] left right = absurd right
  zip_one one (x ∷ xs) (y ∷ ys) (z ∷ zs) left right =
      let here : y ≡ z = one x y z left.0 right.0 in
      let rest : ys ≡ zs = zip_one one xs ys zs left.1 right.1 in
      cc

  pub zip_both : (xs us : List A) (ys vs : List B) → AllZip R xs ys → AllZip R us vs → AllZip R (xs ++ us) (ys ++ vs)
  zip_both [] us [] vs left right = right
  zip_both [] us (y ∷ ys) vs left right = absurd left
  zip_both (x ∷ xs) us [] vs left right = absurd left
  zip_both (x ∷ xs) us (y ∷ ys) vs left right = (left.0, zip_both xs us ys vs left.1 right)

  -- what holds of each element of the one list, carried to the other
  pub zip_each : (P : A → Type 0) (Q : B → Type 0) → ((x : A) (y : B) → P x → R x y → Q y) → (xs : List A) (ys : List B) → All P xs → AllZip R xs ys → All Q ys
  zip_each P Q next [] [] each related = All-nil Q
  zip_each P Q next [] (y ∷ ys) each related = absurd related
  zip_each P Q next (x ∷ xs) [] each related = absurd related
  zip_each P Q next (x ∷ xs) (y ∷ ys) each related =
      All-cons Q y ys (next x y (All-head P x xs each) related.0) (zip_each P Q next xs ys (All-tail P x xs each) related.1)

  pub zip_map : (f : B → A) → ((x : A) (y : B) → R x y → f y ≡ x) → (xs : List A) (ys : List B) → AllZip R xs ys → map f ys ≡ xs
  zip_map f same [] [] related = refl
  zip_map f same [] (y ∷ ys) related = absurd related
  zip_map f same (x ∷ xs) [] related = absurd related
  zip_map f same (x ∷ xs) (y ∷ ys) related =
      let here : f y ≡ x = same x y related.0 in
      let rest : map f ys ≡ xs = zip_map f same xs ys related.1 in
      cc
