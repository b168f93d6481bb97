use Rattle.std.proofs.Common.{◌≡◌, ◌<◌, ℕ, List, Option, Err, sym, ap, subst, ◌∙◌}
use Rattle.std.specs.Prelude.{IfSome}
use Rattle.std.specs.List.{AllByRecursion}
use Rattle.std.specs.Map.{values_of}
use Rattle.rnv_repo.specs.declared.applying.ApplyError.{ApplyError}
use Rattle.rnv_repo.specs.declared.applying.ApplyError.TheVariants.{Refused}
use Rattle.rnv_repo.specs.declared.repo.Repo.{Repo}
use Rattle.rnv_repo.specs.Applying.{Applies}
use Rattle.rnv_repo.specs.Store.{IsSound, applied_to, known, refusal_to}
use Rattle.rnv_repo.specs.WellFormed.{repo_of}
use Rattle.rnv_forge.proofs.ByName.{Entry, IsNamed, applied_name, known_all, known_is, name_is, named_taken, put_whole}
use Rattle.rnv_repo.specs.Named.{put}
use Rattle.rnv_forge.proofs.store.Store.apply.Goals as goal

-- the repository that is taken out
found : (name wanted : List ℕ) (es : List Entry) (store : List Repo) (o : Option Repo) → o ≡ known name (values_of es) → name ≡ wanted → values_of es ≡ store → o ≡ known wanted store
found name wanted es store o is same view = is ∙ ap (λ (n : List ℕ). known n (values_of es)) same ∙ ap (λ (l : List Repo). known wanted l) view

pub apply-requires-clause-sound : goal.apply-requires-clause-sound
apply-requires-clause-sound c =
    let is = found _ _ c.self.inside.repos.entries c.args.self.now c.remove-known.result (c.remove-known.ensures.value ∙ known_is _ _ c.self.invariant.named) c.repo_of.ensures c.self.view_is in
    subst (λ (o : Option Repo). IfSome o IsSound) (sym is) (known_all IsSound (repo_of c.args.write.now) c.args.self.now c.requires.sound.each)

pub apply-requires-clause-revision : goal.apply-requires-clause-revision
apply-requires-clause-revision c =
    let is = found _ _ c.self.inside.repos.entries c.args.self.now c.remove-known.result (c.remove-known.ensures.value ∙ known_is _ _ c.self.invariant.named) c.repo_of.ensures c.self.view_is in
    subst (λ (o : Option Repo). IfSome o (λ r. r.revision < 4294967295)) (sym is) (known_all (λ r. r.revision < 4294967295) (repo_of c.args.write.now) c.args.self.now c.requires.revisions)

pub invariant_of-self : goal.invariant_of-self
invariant_of-self c = record {
  named = subst (λ (l : List Entry). AllByRecursion IsNamed l) (sym c.remove-known.ensures.entries) (named_taken _ _ c.self.invariant.named);
  ordered = c.remove-known.ensures.ordered;
}

pub invariant_of-self-in-Err : goal.invariant_of-self-in-Err
invariant_of-self-in-Err c = record {
  named = subst (λ (l : List Entry). AllByRecursion IsNamed l) (sym c.remove-known.ensures.entries) (named_taken _ _ c.self.invariant.named);
  ordered = c.remove-known.ensures.ordered;
}

pub invariant_of-self-in_err-insert-in-Ok : goal.invariant_of-self-in_err-insert-in-Ok
invariant_of-self-in_err-insert-in-Ok c = record {
  named = subst (λ (l : List Entry). AllByRecursion IsNamed l) (sym (c.in_err-insert-in-Ok.ensures.err ∙ c.remove-known.ensures.entries)) (named_taken _ _ c.self.invariant.named);
  ordered = c.insert.ensures.ordered;
}

pub invariant_of-self-in-Ok : goal.invariant_of-self-in-Ok
invariant_of-self-in-Ok c = record {
  named = (put_whole _ _ _ _ _ _ c.self.invariant c.remove-known.ensures.entries c.in_ok-insert-in-Ok.ensures.entries (c.in_ok-share-in-Ok.ensures ∙ c.name.ensures)).0;
  ordered = c.insert.ensures.ordered;
}

pub returns-in_ok-insert-in-Ok-clause-permitted : goal.returns-in_ok-insert-in-Ok-clause-permitted
returns-in_ok-insert-in-Ok-clause-permitted c =
    let is = found _ _ c.self.inside.repos.entries c.args.self.now c.remove-known.result (c.remove-known.ensures.value ∙ known_is _ _ c.self.invariant.named) c.repo_of.ensures c.self.view_is in
    sym (ap (λ (o : Option Repo). refusal_to c.args.write.now o) is) ∙ c.in-Ok.ensures.applied.0

pub returns-in_ok-insert-in-Ok-clause-ok : goal.returns-in_ok-insert-in-Ok-clause-ok
returns-in_ok-insert-in-Ok-clause-ok c =
    let w = c.args.write.now in
    let store = c.args.self.now in
    let is = found _ _ c.self.inside.repos.entries c.args.self.now c.remove-known.result (c.remove-known.ensures.value ∙ known_is _ _ c.self.invariant.named) c.repo_of.ensures c.self.view_is in
    let repo_is : c.in-Ok.repo ≡ applied_to w (known (repo_of w) store) = c.in-Ok.ensures.applied.1 ∙ ap (λ (o : Option Repo). applied_to w o) is in
    let same : c.repo_of.result.now ≡ c.in-Ok.repo.name = c.repo_of.ensures ∙ sym (ap name_is repo_is ∙ applied_name w store) in
    (put_whole _ _ _ _ _ _ c.self.invariant c.remove-known.ensures.entries c.in_ok-insert-in-Ok.ensures.entries (c.in_ok-share-in-Ok.ensures ∙ c.name.ensures)).1 same
    ∙ ap (λ (r : Repo). put name_is r (values_of c.self.inside.repos.entries)) repo_is
    ∙ ap (λ (l : List Repo). put name_is (applied_to w (known (repo_of w) store)) l) c.self.view_is

pub returns-in-Err-clause-refused : goal.returns-in-Err-clause-refused
returns-in-Err-clause-refused c cause e =
    let is = found _ _ c.self.inside.repos.entries c.args.self.now c.remove-known.result (c.remove-known.ensures.value ∙ known_is _ _ c.self.invariant.named) c.repo_of.ensures c.self.view_is in
    let k : c.in-Err.error ≡ Refused cause = cc in
    sym (ap (λ (o : Option Repo). refusal_to c.args.write.now o) is)
    ∙ subst (λ (x : ApplyError). Applies (Err x) (refusal_to c.args.write.now c.remove-known.result) (applied_to c.args.write.now c.remove-known.result)) k c.in-Err.ensures.applied
