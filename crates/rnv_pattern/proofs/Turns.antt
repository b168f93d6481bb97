-- What engines took and refused in calls one after another.
use Rattle.std.proofs.Common.{◌≡◌, ℕ, List, [], ◌∷◌, ◌++◌, Bool, true, false, not, ◌&&◌, refl, sym, ap, ◌∙◌, append-nil, append_assoc}
use Rattle.std.specs.List.{list_all}
use Rattle.std.proofs.lemmas.Bool.{and_parts}
use Rattle.std.proofs.lemmas.List.{append_cancel_left}
use Rattle.std.proofs.lemmas.List.Folds.{list_all-append}
use Rattle.rnv_pattern.specs.Turns.{Agrees, Asks}

abbrev Lists : Type 0
Lists = List (List ℕ)

pub asks_none : (refused took : Lists) (others : List Lists) → Asks refused took others refused took others
asks_none refused took others = record { more_refused = []; more_took = []; refused_is = sym (append-nil refused); took_is = sym (append-nil took); others_is = refl }

pub asks_then : (r t r1 t1 r2 t2 : Lists) (o o1 o2 : List Lists) → Asks r t o r1 t1 o1 → Asks r1 t1 o1 r2 t2 o2 → Asks r t o r2 t2 o2
asks_then r t r1 t1 r2 t2 o o1 o2 a b = record {
  more_refused = a.more_refused ++ b.more_refused;
  more_took = a.more_took ++ b.more_took;
  refused_is = b.refused_is ∙ ap (λ (xs : Lists). xs ++ b.more_refused) a.refused_is ∙ append_assoc r a.more_refused b.more_refused;
  took_is = b.took_is ∙ ap (λ (xs : Lists). xs ++ b.more_took) a.took_is ∙ append_assoc t a.more_took b.more_took;
  others_is = b.others_is ∙ a.others_is;
}

-- a test of what was added twice
both-pass : (p : List ℕ → Bool) (old mid now all first later : Lists) → now ≡ old ++ all → mid ≡ old ++ first → now ≡ mid ++ later → list_all p all ≡ true → (list_all p first ≡ true) × (list_all p later ≡ true)
both-pass p old mid now all first later e f g h =
    let same : all ≡ first ++ later = append_cancel_left old all (first ++ later) (sym e ∙ g ∙ ap (λ (xs : Lists). xs ++ later) f ∙ append_assoc old first later) in
    and_parts _ _ (sym (list_all-append p first later) ∙ ap (list_all p) (sym same) ∙ h)

pub agrees_first : (wrong : List ℕ → Bool) (r t r1 t1 r2 t2 : Lists) (o o1 o2 : List Lists) → Asks r t o r1 t1 o1 → Asks r1 t1 o1 r2 t2 o2 → Agrees wrong r t r2 t2 → Agrees wrong r t r1 t1
agrees_first wrong r t r1 t1 r2 t2 o o1 o2 a b h = record {
  more_refused = a.more_refused;
  more_took = a.more_took;
  refused_is = a.refused_is;
  took_is = a.took_is;
  all = (both-pass wrong r r1 r2 h.more_refused a.more_refused b.more_refused h.refused_is a.refused_is b.refused_is h.all).0;
  none = (both-pass (λ t. not (wrong t)) t t1 t2 h.more_took a.more_took b.more_took h.took_is a.took_is b.took_is h.none).0;
}

pub agrees_later : (wrong : List ℕ → Bool) (r t r1 t1 r2 t2 : Lists) (o o1 o2 : List Lists) → Asks r t o r1 t1 o1 → Asks r1 t1 o1 r2 t2 o2 → Agrees wrong r t r2 t2 → Agrees wrong r1 t1 r2 t2
agrees_later wrong r t r1 t1 r2 t2 o o1 o2 a b h = record {
  more_refused = b.more_refused;
  more_took = b.more_took;
  refused_is = b.refused_is;
  took_is = b.took_is;
  all = (both-pass wrong r r1 r2 h.more_refused a.more_refused b.more_refused h.refused_is a.refused_is b.refused_is h.all).1;
  none = (both-pass (λ t. not (wrong t)) t t1 t2 h.more_took a.more_took b.more_took h.took_is a.took_is b.took_is h.none).1;
}
