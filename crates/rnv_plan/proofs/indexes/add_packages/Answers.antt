use Rattle.std.proofs.Common.{◌≡◌, ◌+◌, ◌<◌, ℕ, ◌∷◌, ◌++◌, [], Bool, true, false, cond, length, get_or, take, List, ◌∙◌, ap, sym, subst, rules, arith, append_assoc, append-nil}
use Rattle.std.specs.Prelude.{filter}
use Rattle.std.specs.BTreeSet.{BTreeSet, IsOrdered}
use Rattle.std.specs.Ordering.{nat_cmp}
use Rattle.std.specs.Cmp.Lexicographic.{slice_cmp}
use Rattle.std.proofs.lemmas.List.{take_all}
use Rattle.std.proofs.lemmas.List.Elements.{filter_more}
use Rattle.rnv_base.specs.declared.kinds.SourceKind.{SourceKind}
use Rattle.rnv_pick.specs.declared.dep.Dep.{Dep}
use Rattle.rnv_plan.specs.Packages.{AreNames}
use Rattle.rnv_plan.specs.Sources.{is_wanted}
use Rattle.rnv_plan.proofs.Documents.{names_more}
use Rattle.rnv_plan.proofs.indexes.add_packages.Goals.{then-branch+in_ok-share+in_ok-insert, else-branch}
use Rattle.rnv_plan.proofs.indexes.add_packages.Goals as goal

-- the wanted ones of one dependency more
longer : (source : SourceKind) (before deps : List Dep) (i : ℕ) (d : Dep) (b : Bool) → i < length deps → d ≡ get_or deps i d → is_wanted source d ≡ b → before ++ filter (is_wanted source) (take (i + 1) deps) ≡ (before ++ filter (is_wanted source) (take i deps)) ++ cond b (d ∷ []) []
longer source before deps i d b within at is =
    ap (λ (es : List Dep). before ++ es) (filter_more (is_wanted source) deps i d within ∙ ap (λ (e : Dep). filter (is_wanted source) (take i deps) ++ cond (is_wanted source e) (e ∷ []) []) (sym at) ∙ ap (λ (c : Bool). filter (is_wanted source) (take i deps) ++ cond c (d ∷ []) []) is)
    ∙ sym (append_assoc before (filter (is_wanted source) (take i deps)) (cond b (d ∷ []) []))

pub loop-dep-init : goal.loop-dep-init
loop-dep-init c = λ before names. rw append-nil names

pub loop-dep-preserved : goal.loop-dep-preserved
loop-dep-preserved c = λ before names.
    let deps = c.args.deps.now in
    let i = c.loop-dep.dep-index in
    let d = c.dep-item.result in
    let so_far = before ++ filter (is_wanted c.args.source) (take i deps) in
    let had : AreNames so_far c.loop-dep.names = c.loop-dep.invariant before names in
    elim c.if-branch.branch [
      | then-branch+in_ok-share+in_ok-insert w ↦
          let readable : is_wanted c.args.source d ≡ true = search rules in
          let ordered : IsOrdered (slice_cmp nat_cmp) w.insert.new.self = search rules in
          let more : AreNames (so_far ++ d ∷ []) w.insert.new.self = names_more so_far c.loop-dep.names w.insert.new.self d w.in_ok-share.field-0 w.in_ok-share.ensures w.in_ok-insert.ensures.updates w.in_ok-insert.ensures.keys ordered had in
          subst (λ (es : List Dep). AreNames es c.if-branch.names) (sym (longer c.args.source before deps i d true c.loop-dep-test.true c.dep-item.is readable)) (subst (λ (n : BTreeSet (List ℕ)). AreNames (so_far ++ d ∷ []) n) (sym w.names-is) more)
      | else-branch w ↦
          let unreadable : is_wanted c.args.source d ≡ false = search rules in
          let same : before ++ filter (is_wanted c.args.source) (take (i + 1) deps) ≡ so_far = longer c.args.source before deps i d false c.loop-dep-test.true c.dep-item.is unreadable ∙ append-nil so_far in
          subst (λ (es : List Dep). AreNames es c.if-branch.names) (sym same) (subst (λ (n : BTreeSet (List ℕ)). AreNames so_far n) (sym w.names-is) had)
    ]

pub returns : goal.returns
returns c = λ before names.
    let deps = c.args.deps.now in
    let whole : take c.loop-dep.dep-index deps ≡ deps = take_all c.loop-dep.dep-index deps (omega arith) in
    subst (λ (es : List Dep). AreNames (before ++ filter (is_wanted c.args.source) es) c.loop-dep.names) whole (c.loop-dep.invariant before names)
