-- Calls that are made step by step.
use Rattle.std.proofs.Common.{◌≡◌, List, [], ◌++◌, refl, sym, ap, ◌∙◌, append_assoc}
use Rattle.std.proofs.lemmas.List.{append-nil}
use Rattle.rnv_tasks.specs.Told.{Call, Makes, MakesFirst}

pub makes_none : (list before : List Call) → Makes list list before before
makes_none list before = record { made = []; parts = refl; calls = sym (append-nil before) }

pub makes_more : (list step others before now then : List Call) → Makes list (step ++ others) before now → then ≡ now ++ step → Makes list others before then
makes_more list step others before now then makes called = record {
  made = makes.made ++ step;
  parts = makes.parts ∙ sym (append_assoc makes.made step others);
  calls = called ∙ ap (λ t. t ++ step) makes.calls ∙ append_assoc before makes.made step;
}

pub makes_part : (list step others before now then : List Call) → Makes list (step ++ others) before now → MakesFirst step now then → MakesFirst list before then
makes_part list step others before now then makes first = record {
  others = first.others ++ others;
  makes = record {
    made = makes.made ++ first.makes.made;
    parts = makes.parts ∙ ap (λ t. makes.made ++ (t ++ others)) first.makes.parts
        ∙ ap (λ t. makes.made ++ t) (append_assoc first.makes.made first.others others)
        ∙ sym (append_assoc makes.made first.makes.made (first.others ++ others));
    calls = first.makes.calls ∙ ap (λ t. t ++ first.makes.made) makes.calls ∙ append_assoc before makes.made first.makes.made;
  };
}

pub makes_all : (list before now : List Call) → Makes list [] before now → now ≡ before ++ list
makes_all list before now makes = makes.calls ∙ ap (λ t. before ++ t) (sym (makes.parts ∙ append-nil makes.made))

pub makes_first : (list others before now : List Call) → Makes list others before now → MakesFirst list before now
makes_first list others before now makes = record { others = others; makes = makes }
