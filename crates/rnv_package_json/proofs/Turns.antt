-- The loop over parts against the bounded recursion.
use Rattle.std.proofs.Common.{◌≡◌, ℕ, zero, suc, ◌-◌, ◌≤◌, ◌<◌, List, [], ◌∷◌, length, take, drop, get_or, Option, Some, None, refl, sym, subst, ◌∙◌, arith, length-take, length-drop}
use Rattle.std.proofs.lemmas.Grind.{common_steps}
use Rattle.rnv_package_json.specs.declared.value.Kind.{Kind}
use Rattle.rnv_package_json.specs.declared.value.Kind.TheVariants.{Array, Object}
use Rattle.std.specs.Prelude.{Err}
use Rattle.rnv_manager.specs.declared.found.ExtractError.{ExtractError}
use Rattle.rnv_manager.specs.declared.found.ExtractError.TheVariants.{BadSyntax, Memory}
use Rattle.rnv_manager.specs.Finds.{Find}
use Rattle.rnv_package_json.specs.Roles.{Standing}
use Rattle.rnv_package_json.specs.Read.{Gives}
use Rattle.rnv_package_json.specs.Grammar.{close}
use Rattle.rnv_package_json.specs.Read.{◌>>=◌, State, Reader, part, parts, go_on}

-- reading the parts from here on is the whole reading
pub record Continues (value : Standing → Reader) (standing : Standing) (kind : Kind) (finds : List Find) (rest : List ℕ) (total : Option State) : Type 0 where
  pub turns : ℕ
  pub enough : length rest < turns
  pub same : parts value standing kind turns finds rest ≡ total

pub record Turn (value : Standing → Reader) (standing : Standing) (kind : Kind) (finds : List Find) (rest : List ℕ) (total : Option State) : Type 0 where
  pub turns : ℕ
  pub enough : length rest ≤ turns
  pub same : (part value standing kind finds rest >>= λ s. go_on kind (parts value standing kind turns) s.0 s.1) ≡ total

turn-at : (value : Standing → Reader) (standing : Standing) (kind : Kind) (finds : List Find) (rest : List ℕ) (total : Option State) (n : ℕ) → length rest < n → parts value standing kind n finds rest ≡ total → Turn value standing kind finds rest total
unfolding parts
turn-at value standing kind finds rest total zero lt e = absurd (omega arith)
turn-at value standing kind finds rest total (suc n) lt e = record { turns = n; enough = omega arith; same = e }

pub turn : (value : Standing → Reader) (standing : Standing) (kind : Kind) (finds : List Find) (rest : List ℕ) (total : Option State) → Continues value standing kind finds rest total → Turn value standing kind finds rest total
turn value standing kind finds rest total c = turn-at value standing kind finds rest total c.turns c.enough c.same

pub fails-at : (value : Standing → Reader) (standing : Standing) (kind : Kind) (finds : List Find) (rest : List ℕ) (total : Option State) → Continues value standing kind finds rest total → part value standing kind finds rest ≡ None → total ≡ None
fails-at value standing kind finds rest total c e =
    let u = turn value standing kind finds rest total c in
    sym (subst (λ (o : Option State). (o >>= λ s. go_on kind (parts value standing kind u.turns) s.0 s.1) ≡ total) e u.same)

pub goes-to : (value : Standing → Reader) (standing : Standing) (kind : Kind) (finds : List Find) (rest : List ℕ) (total : Option State) (c : Continues value standing kind finds rest total) (more : List Find) (after : List ℕ)
    → part value standing kind finds rest ≡ Some (more, after) → go_on kind (parts value standing kind (turn value standing kind finds rest total c).turns) more after ≡ total
goes-to value standing kind finds rest total c more after e =
    let u = turn value standing kind finds rest total c in
    subst (λ (o : Option State). (o >>= λ s. go_on kind (parts value standing kind u.turns) s.0 s.1) ≡ total) e u.same

rest-is : (x : ℕ) (xs : List ℕ) → take (length (x ∷ xs) - 1) (drop 1 (x ∷ xs)) ≡ xs
rest-is x xs = grind (arith, common_steps)

go_on-comma : (kind : Kind) (reader : Reader) (more : List Find) (after : List ℕ) → 1 ≤ length after → get_or after 0 0 ≡ 44 → go_on kind reader more after ≡ reader more (take (length after - 1) (drop 1 after))
go_on-comma kind reader more [] lt e = absurd (omega arith)
go_on-comma kind reader more (x ∷ xs) lt e = rw (rest-is x xs, e) refl

pub goes-on : (value : Standing → Reader) (standing : Standing) (kind : Kind) (finds : List Find) (rest : List ℕ) (total : Option State) (c : Continues value standing kind finds rest total) (more : List Find) (after : List ℕ)
    → part value standing kind finds rest ≡ Some (more, after) → length after ≤ length rest → 1 ≤ length after → get_or after 0 0 ≡ 44 → Continues value standing kind more (take (length after - 1) (drop 1 after)) total
goes-on value standing kind finds rest total c more after e le lt comma =
    let u = turn value standing kind finds rest total c in
    let done = goes-to value standing kind finds rest total c more after e in
    record {
      turns = u.turns;
      enough = omega (arith, u.enough, length-take (length after - 1) (drop 1 after), length-drop 1 after);
      same = sym (go_on-comma kind (parts value standing kind u.turns) more after lt comma) ∙ done;
    }

go_on-close : (kind : Kind) (reader : Reader) (more : List Find) (after : List ℕ) (total : Option State) → 1 ≤ length after → get_or after 0 0 ≡ close kind → go_on kind reader more after ≡ total → total ≡ Some (more, take (length after - 1) (drop 1 after))
go_on-close Array reader more [] total lt e h = absurd (omega arith)
go_on-close Object reader more [] total lt e h = absurd (omega arith)
go_on-close Array reader more (x ∷ xs) total lt e h = rw (rest-is x xs) (sym (rw e at h))
go_on-close Object reader more (x ∷ xs) total lt e h = rw (rest-is x xs) (sym (rw e at h))

pub closes : (value : Standing → Reader) (standing : Standing) (kind : Kind) (finds : List Find) (rest : List ℕ) (total : Option State) (c : Continues value standing kind finds rest total) (more : List Find) (after : List ℕ)
    → part value standing kind finds rest ≡ Some (more, after) → 1 ≤ length after → get_or after 0 0 ≡ close kind → total ≡ Some (more, take (length after - 1) (drop 1 after))
closes value standing kind finds rest total c more after e lt closed =
    go_on-close kind (parts value standing kind (turn value standing kind finds rest total c).turns) more after total lt closed (goes-to value standing kind finds rest total c more after e)

-- the part failed
pub fails-with : (value : Standing → Reader) (standing : Standing) (kind : Kind) (finds new : List Find) (rest : List ℕ) (total : Option State) (e : ExtractError) → Continues value standing kind finds rest total
    → Gives new (Err e) (part value standing kind finds rest) → Gives new (Err e) total
fails-with value standing kind finds new rest total Memory c h = tt
fails-with value standing kind finds new rest total BadSyntax c h = fails-at value standing kind finds rest total c h
