use Rattle.std.proofs.Common.{◌≡◌, List, Option}
use Rattle.rnv_base.specs.Files.{NamedFile, listed_of}
use Rattle.rnv_checkout.specs.Base.{folder_of, kept_of, IsBase}
use Rattle.rnv_checkout.specs.Gathered.{IsGathered}
use Rattle.rnv_checkout.specs.Refusal.{IsWrong, IsRefusal}
use Rattle.rnv_repo.specs.WellFormed.{AreInOrder}
use Rattle.rnv_checkout.proofs.Order.{kept_in_order}
use Rattle.rnv_checkout.proofs.Outcomes.{kept_are, ok_both, err_weaker, refusal_of}
use Rattle.rnv_checkout.proofs.reading.read_base.Goals as goal

pub returns-in-Ok-clause-base : goal.returns-in-Ok-clause-base
returns-in-Ok-clause-base g c t =
    let files = g.O.Folder.files c.args.folder.now in
    let front = folder_of c.args.repo.now in
    let each = c.in-Ok.ensures.each t in
    ok_both c.judged.result (λ base. (outcomes : List (Option NamedFile)) → IsGathered c.in-Ok.gathered outcomes → base.files ≡ kept_of outcomes) (λ base. base.passed ≡ c.in-Ok.gathered.passed)
    (λ base. IsBase files front base.files base.passed)
    (λ base kept passed. kept_are files front (listed_of front files) c.in-Ok.gathered each.0 each.1 each.2 base.files base.passed (kept each.0 each.1) passed)
    c.judged.ensures.files c.judged.ensures.passed

pub returns-in-Ok-clause-refused : goal.returns-in-Ok-clause-refused
returns-in-Ok-clause-refused g c t =
    let files = g.O.Folder.files c.args.folder.now in
    let front = folder_of c.args.repo.now in
    let each = c.in-Ok.ensures.each t in
    err_weaker c.judged.result (λ error. (outcomes : List (Option NamedFile)) → IsGathered c.in-Ok.gathered outcomes → IsWrong error (kept_of outcomes)) (IsRefusal files front)
    (λ error wrong. refusal_of files front c.in-Ok.gathered each.0 each.1 each.2 error (wrong each.0 each.1)) c.judged.ensures.wrong

pub returns-in-Ok-clause-order : goal.returns-in-Ok-clause-order
returns-in-Ok-clause-order g c =
    let front = folder_of c.args.repo.now in
    let placed = c.in-Ok.ensures.placed in
    ok_both c.judged.result (λ base. (outcomes : List (Option NamedFile)) → IsGathered c.in-Ok.gathered outcomes → base.files ≡ kept_of outcomes) (λ base. base.passed ≡ c.in-Ok.gathered.passed)
    (λ base. AreInOrder (λ f. f.path) base.files)
    (λ base kept passed. kept_in_order front placed.0 placed.1 base.files (kept placed.1 placed.3) placed.2 placed.4) c.judged.ensures.files c.judged.ensures.passed
