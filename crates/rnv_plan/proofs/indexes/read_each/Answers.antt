use Rattle.std.proofs.Common.{Err, ◌≡◌, List, Option, Some, None, [], ◌∷◌, ◌++◌, ◌∙◌, sym, ap, subst, arith, append-nil}
use Rattle.std.specs.BTreeSet.{keys}
use Rattle.std.specs.BTreeMap.{get}
use Rattle.std.specs.List.{All}
use Rattle.std.specs.Ordering.{nat_cmp}
use Rattle.std.specs.Cmp.Lexicographic.{slice_cmp}
use Rattle.std.proofs.lemmas.Result.{err_from_is_err_and}
use Rattle.rnv_pick.specs.declared.listing.Listing.{Listing}
use Rattle.rnv_pick.specs.Ranking.{IsListing}
use Rattle.rnv_plan.specs.Gather.{index_for, releases_for, IsSound}
use Rattle.rnv_plan.specs.Refusal.{IfTold, IsIndexRefusal}
use Rattle.rnv_plan.specs.Packages.{HasUnsoundName}
use Rattle.rnv_plan.proofs.Documents.{AreFound, first_refused, refusal-unsound, parts_more, carried, AreFound-absent, AreFound-listed, some_more}
use Rattle.rnv_plan.proofs.Told.{told-at}
use Rattle.rnv_plan.proofs.indexes.read_each.Given.{Over}
use Rattle.rnv_plan.proofs.indexes.read_each.Goals.{In_ok-insert}
use Rattle.rnv_plan.proofs.indexes.read_each.Goals as goal

pub returns-in_err-listing-clause-refused : goal.returns-in_err-listing-clause-refused
returns-in_err-listing-clause-refused g c =
    let files = g.O.Folder.files c.args.folder.now in
    let s = c.args.source in
    let names = keys c.args.names in
    let name = c.in-Some.name in
    let refused = c.in_err-listing.field-0.0 in
    let ends = err_from_is_err_and c.from_residual.result c.from_residual.ensures.1 in
    λ t. told-at c.from_residual.result refused (IsIndexRefusal s name (index_for files s name)) (HasUnsoundName files s names) (ends.1 ∙ ap Err ends.2)
    (λ e cause. record {
      name = name;
      first = first_refused files s names c.loop-name.yielded c.loop-name.name-iterator c.next.new.self name c.into_iter-name-iterator.ensures.into_iter_gives.4 c.loop-name.invariant.parts c.in-Some.ensures.steps (c.loop-name.invariant.read t).sound (refusal-unsound s name (index_for files s name) e cause);
      cause = cause;
    })
    (carried (λ f n. IfTold (IsIndexRefusal s n (index_for f s n)) refused) _ _ _ _ (c.loop-name.invariant.same t) c.as_str.ensures (c.in_err-listing.ensures.refused t))

listed : (g : Over) (c : In_ok-insert g) → g.O.Folder.tells → AreFound (IsSound (g.O.Folder.files c.args.folder.now) c.args.source) c.args.source (releases_for (g.O.Folder.files c.args.folder.now) c.args.source) (c.loop-name.yielded ++ c.in-Some.name ∷ []) c.insert.new.self
listed g c t =
    let files = g.O.Folder.files c.args.folder.now in
    let s = c.args.source in
    let same = c.loop-name.invariant.same t in
    let is_name = c.as_str.ensures in
    AreFound-listed (IsSound files s) s (releases_for files s) c.loop-name.yielded c.loop-name.listings c.insert.new.self c.in-Some.name c.in-Some-2.listing (c.loop-name.invariant.read t)
    (carried (λ f n. IsSound f s n) _ _ _ _ same is_name (c.in_ok-listing.ensures.sound t))
    (subst (λ (l : Option Listing). IsListing s (releases_for files s c.in-Some.name) l) c.in-Some-2.is (carried (λ f n. IsListing s (releases_for f s n) c.in_ok-listing.field-0) _ _ _ _ same is_name (c.in_ok-listing.ensures.listed t)))
    c.in_ok-insert.ensures.updates

some : (g : Over) (c : In_ok-insert g) → (name : _) → (releases : _) × IsListing c.args.source releases (get (slice_cmp nat_cmp) c.insert.new.self name)
some g c =
    let here = c.in_ok-listing.ensures.some in
    some_more c.args.source c.loop-name.listings c.insert.new.self c.in-Some.name c.in-Some-2.listing c.loop-name.invariant.some
    (here.0, subst (λ (l : Option Listing). IsListing c.args.source here.0 l) c.in-Some-2.is here.1) c.in_ok-insert.ensures.updates

pub loop-name-preserved-in_ok-insert : goal.loop-name-preserved-in_ok-insert
loop-name-preserved-in_ok-insert g c = record {
  parts = parts_more (keys c.args.names) c.loop-name.yielded c.loop-name.name-iterator c.next.new.self c.in-Some.name c.loop-name.invariant.parts c.in-Some.ensures.steps;
  read = listed g (goal.at.loop-name-preserved-in_ok-insert g c).In_ok-insert;
  some = some g (goal.at.loop-name-preserved-in_ok-insert g c).In_ok-insert;
  same = λ t. c.in_ok-listing.ensures.same t ∙ c.loop-name.invariant.same t;
  later = omega (arith, c.in_ok-listing.ensures.cause.later, c.loop-name.invariant.later);
}

pub loop-name-preserved-in_ok-insert-2 : goal.loop-name-preserved-in_ok-insert-2
loop-name-preserved-in_ok-insert-2 g c = record {
  parts = parts_more (keys c.args.names) c.loop-name.yielded c.loop-name.name-iterator c.next.new.self c.in-Some.name c.loop-name.invariant.parts c.in-Some.ensures.steps;
  read = listed g (goal.at.loop-name-preserved-in_ok-insert-2 g c).In_ok-insert;
  some = some g (goal.at.loop-name-preserved-in_ok-insert-2 g c).In_ok-insert;
  same = λ t. c.in_ok-listing.ensures.same t ∙ c.loop-name.invariant.same t;
  later = omega (arith, c.in_ok-listing.ensures.cause.later, c.loop-name.invariant.later);
}

pub loop-name-preserved-in_ok-insert-3 : goal.loop-name-preserved-in_ok-insert-3
loop-name-preserved-in_ok-insert-3 g c = record {
  parts = parts_more (keys c.args.names) c.loop-name.yielded c.loop-name.name-iterator c.next.new.self c.in-Some.name c.loop-name.invariant.parts c.in-Some.ensures.steps;
  read = listed g (goal.at.loop-name-preserved-in_ok-insert-3 g c).In_ok-insert;
  some = some g (goal.at.loop-name-preserved-in_ok-insert-3 g c).In_ok-insert;
  same = λ t. c.in_ok-listing.ensures.same t ∙ c.loop-name.invariant.same t;
  later = omega (arith, c.in_ok-listing.ensures.cause.later, c.loop-name.invariant.later);
}

pub loop-name-preserved-in_ok-insert-4 : goal.loop-name-preserved-in_ok-insert-4
loop-name-preserved-in_ok-insert-4 g c = record {
  parts = parts_more (keys c.args.names) c.loop-name.yielded c.loop-name.name-iterator c.next.new.self c.in-Some.name c.loop-name.invariant.parts c.in-Some.ensures.steps;
  read = listed g (goal.at.loop-name-preserved-in_ok-insert-4 g c).In_ok-insert;
  some = some g (goal.at.loop-name-preserved-in_ok-insert-4 g c).In_ok-insert;
  same = λ t. c.in_ok-listing.ensures.same t ∙ c.loop-name.invariant.same t;
  later = omega (arith, c.in_ok-listing.ensures.cause.later, c.loop-name.invariant.later);
}

pub loop-name-preserved : goal.loop-name-preserved
loop-name-preserved g c =
    let files = g.O.Folder.files c.args.folder.now in
    let s = c.args.source in
    let step = c.in-Some.ensures.steps in
    let is_name = c.as_str.ensures in
    record {
      parts = parts_more (keys c.args.names) c.loop-name.yielded c.loop-name.name-iterator c.next.new.self c.in-Some.name c.loop-name.invariant.parts step;
      read = λ t.
          let same = c.loop-name.invariant.same t in
          AreFound-absent (IsSound files s) s (releases_for files s) c.loop-name.yielded c.loop-name.listings c.in-Some.name (c.loop-name.invariant.read t)
          (carried (λ f n. IsSound f s n) _ _ _ _ same is_name (c.in_ok-listing.ensures.sound t))
          (subst (λ (l : Option Listing). IsListing s (releases_for files s c.in-Some.name) l) c.in_default.is (carried (λ f n. IsListing s (releases_for f s n) c.in_ok-listing.field-0) _ _ _ _ same is_name (c.in_ok-listing.ensures.listed t)));
      some = c.loop-name.invariant.some;
      same = λ t. c.in_ok-listing.ensures.same t ∙ c.loop-name.invariant.same t;
      later = omega (arith, c.in_ok-listing.ensures.cause.later, c.loop-name.invariant.later);
    }

pub returns-clause-listed : goal.returns-clause-listed
returns-clause-listed g c = λ t.
    let files = g.O.Folder.files c.args.folder.now in
    let s = c.args.source in
    let whole : c.loop-name.yielded ≡ keys c.args.names = sym (append-nil c.loop-name.yielded) ∙ (ap (λ r. c.loop-name.yielded ++ r) (sym c.in-None.ensures.steps.0) ∙ c.loop-name.invariant.parts) in
    subst (All (λ name. IsListing s (releases_for files s name) (get (slice_cmp nat_cmp) c.loop-name.listings name))) whole (c.loop-name.invariant.read t).listed
