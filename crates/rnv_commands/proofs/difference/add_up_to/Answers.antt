use Rattle.std.proofs.Common.{◌≡◌, ◌∙◌, ℕ, List, ap, sym}
use Rattle.std.specs.List.{prefix_len}
use Rattle.std.specs.Ordering.{is_lt}
use Rattle.std.specs.Str.{bytes_eq}
use Rattle.rnv_base.specs.Files.{NamedFile}
use Rattle.rnv_repo.specs.Files.{MarkedFile}
use Rattle.rnv_repo.proofs.Texts.{cmp}
use Rattle.rnv_commands.proofs.Differences.{turn_new, turn_same}
use Rattle.rnv_commands.proofs.difference.add_up_to.Goals as goal

pub returns-in_ok-add_changed-in-Some : goal.returns-in_ok-add_changed-in-Some
returns-in_ok-add_changed-in-Some c =
    let old = c.args.old.now in
    let path : c.file.inside.path ≡ c.args.file.path = ap (λ (f : NamedFile). f.path) c.file.view_is in
    turn_same old c.split_at.result.0.now c.split_at.result.1.now c.args.file c.count_below.result
    (c.count_below.ensures.count ∙ ap (λ (p : List ℕ). prefix_len (λ (f : MarkedFile). is_lt (cmp f.path p)) old) path) c.split_at.ensures.front c.split_at.ensures.back
    c.args.out.now _ c.in_ok-add_removals.ensures _ c.in-Some.same.now c.in-Some.behind.now c.in-Some.ensures.found.0 (c.in-Some.ensures.found.1 ∙ path)
    c.in_ok-add_changed-in-Some.ensures.same c.in_ok-add_changed-in-Some.ensures.other

pub returns-in_ok-add_setting-in-None : goal.returns-in_ok-add_setting-in-None
returns-in_ok-add_setting-in-None c =
    let old = c.args.old.now in
    let path : c.file.inside.path ≡ c.args.file.path = ap (λ (f : NamedFile). f.path) c.file.view_is in
    turn_new old c.split_at.result.0.now c.split_at.result.1.now c.args.file c.count_below.result
    (c.count_below.ensures.count ∙ ap (λ (p : List ℕ). prefix_len (λ (f : MarkedFile). is_lt (cmp f.path p)) old) path) c.split_at.ensures.front c.split_at.ensures.back
    c.args.out.now _ c.in_ok-add_removals.ensures _ (λ o more e. ap (λ (p : List ℕ). bytes_eq o.path p) (sym path) ∙ c.in-None.ensures.other o more e) c.in_ok-add_setting-in-None.ensures
