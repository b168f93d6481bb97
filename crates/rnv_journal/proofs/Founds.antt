-- What the entries that were found say of the file.
use Rattle.std.proofs.Common.{◌≡◌, ◌≢◌, ◌<◌, ◌≤◌, ℕ, ◌+◌, ◌-◌, List, [], ◌∷◌, ◌++◌, length, refl, sym, ◌∙◌, ap, arith, append_assoc, append-nil}
use Rattle.rnv_base.specs.Buffer.{Buffer}
use Rattle.rnv_journal.specs.File.{head, body, entries, spelled, end_of, IsImage, IsBroken}
use Rattle.rnv_journal.specs.Found.{strings, IsEntry, NoEntry, IsFound}

-- one entry more
pub entries_push : (ps : List (List ℕ)) (p : List ℕ) → entries (ps ++ p ∷ []) ≡ entries ps ++ 1 ∷ body p
entries_push [] p = append-nil (1 ∷ body p)
entries_push (q ∷ ps) p = ap (λ (l : List ℕ). 1 ∷ body q ++ l) (entries_push ps p) ∙ sym (append_assoc (1 ∷ body q) (entries ps) (1 ∷ body p))

pub end_push : (ps : List (List ℕ)) (p : List ℕ) → end_of (ps ++ p ∷ []) ≡ end_of ps + (5 + length p)
end_push [] p = omega arith
end_push (q ∷ ps) p = omega (arith, end_push ps p)

strings_push : (found : List Buffer) (b : Buffer) → strings (found ++ b ∷ []) ≡ strings found ++ b.bytes ∷ []
strings_push [] b = refl
strings_push (f ∷ found) b = ap (λ (l : List (List ℕ)). f.bytes ∷ l) (strings_push found b)

pub found_none : (limit : ℕ) (bytes : List ℕ) → 13 ≤ limit → IsFound limit bytes [] bytes (limit - 13)
found_none limit bytes le = record { spells = refl; room_left = omega arith }

pub found_more : (limit : ℕ) (bytes : List ℕ) (found : List Buffer) (rest behind : List ℕ) (room : ℕ) (b : Buffer) → IsFound limit bytes found rest room → IsEntry rest room b.bytes behind
    → IsFound limit bytes (found ++ b ∷ []) behind (room - (length b.bytes + 5))
found_more limit bytes found rest behind room b so_far entry = record {
  spells = so_far.spells ∙ ap (λ (l : List ℕ). entries (strings found) ++ l) entry.spells ∙ sym (append_assoc (entries (strings found)) (1 ∷ body b.bytes) behind)
      ∙ ap (λ (l : List ℕ). l ++ behind) (sym (ap entries (strings_push found b) ∙ entries_push (strings found) b.bytes));
  room_left = omega (arith, so_far.room_left, entry.within, ap end_of (strings_push found b), end_push (strings found) b.bytes);
}

pub found_image : (limit : ℕ) (bytes : List ℕ) (found : List Buffer) (rest more : List ℕ) (room gate : ℕ) → IsFound limit bytes found rest room → rest ≡ gate ∷ more
    → gate ≢ 1 → 0 < room → IsImage limit (head ++ bytes) (strings found) gate more
unfolding spelled
found_image limit bytes found rest more room gate all is ends left = record {
  spells = ap (λ (l : List ℕ). head ++ l) (all.spells ∙ ap (λ (l : List ℕ). entries (strings found) ++ l) is);
  ends = ends;
  within = omega (arith, all.room_left);
}

pub found_broken : (limit : ℕ) (bytes : List ℕ) (found : List Buffer) (rest : List ℕ) (room : ℕ) → IsFound limit bytes found rest room → NoEntry rest room
    → ((gate : ℕ) (more : List ℕ) → rest ≡ gate ∷ more → gate ≢ 1 → room ≡ 0) → IsBroken limit (head ++ bytes) (limit - room)
found_broken limit bytes found rest room all none no_end = record {
  payloads = strings found;
  rest = rest;
  spells = ap (λ (l : List ℕ). head ++ l) all.spells;
  place = omega (arith, all.room_left);
  within = omega arith;
  broken = record {
    no_entry = λ payload more e. omega (arith, none payload more e, all.room_left);
    no_end = λ gate more e ends. omega (arith, no_end gate more e ends, all.room_left);
  };
}
