use Rattle.std.proofs.Common.{◌∙◌, Some, ap, sym}
use Rattle.rnv_repo.specs.Files.{MarkedFile}
use Rattle.rnv_patch.proofs.Bases.{here, elsewhere, nowhere}
use Rattle.rnv_patch.proofs.patch.base_bytes.Goals as goal
use Rattle.rnv_patch.proofs.patch.base_bytes.Goals.{in_default-via-in-Some+else-eq, in_default-via-in_default}

pub returns-in-Some : goal.returns-in-Some
returns-in-Some c =
    ap Some c.as_slice.ensures
    ∙ here c.args.base.now c.args.path.now c.place_of.result c.in-Some.file.now c.file.inside.path c.file.inside.bytes.bytes c.place_of.ensures c.in-Some.ensures.lookup.3.0
    c.in-Some.ensures.lookup.1 (sym (ap (λ (f : MarkedFile). f.path) c.file.view_is)) (sym (ap (λ (f : MarkedFile). f.bytes) c.file.view_is)) c.if-eq.ensures

pub returns-in_default : goal.returns-in_default
returns-in_default c = elim c.in_default.branch [
  | in_default-via-in-Some+else-eq w ↦
      elsewhere c.args.base.now c.args.path.now c.place_of.result w.in-Some.file.now w.file.inside.path c.requires c.place_of.ensures
      w.in-Some.ensures.lookup.3.1 (sym (ap (λ (f : MarkedFile). f.path) w.file.view_is)) w.if-eq.ensures
  | in_default-via-in_default w ↦ nowhere c.args.base.now c.args.path.now c.place_of.result c.requires c.place_of.ensures w.in_default.ensures.lookup.3
]
