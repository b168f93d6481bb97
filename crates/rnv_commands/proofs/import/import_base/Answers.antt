use Rattle.std.proofs.Common.{◌≤◌, List, ◌∷◌, [], subst, sym, arith}
use Rattle.std.proofs.lemmas.Bool.{iff_false}
use Rattle.rnv_repo.specs.declared.write.Write.TheVariants.{SetBase}
use Rattle.rnv_forge.specs.Forge.{IsOldOrNext}
use Rattle.rnv_repo.specs.declared.write.Write.{Write}
use Rattle.rnv_forge.specs.Writes.{length_of}
use Rattle.rnv_forge.proofs.Uses.{leaves_weaker}
use Rattle.rnv_commands.specs.Import.{IsOldOrImport}
use Rattle.rnv_commands.proofs.Imports.{front_length, none_of, old_or_import, prints_new, prints_same, ready_permitted, some_of, write_refused}
use Rattle.rnv_commands.proofs.Stops.{still, still_import}
use Rattle.rnv_journal.proofs.Ones.{one_self}
use Rattle.rnv_commands.proofs.import.import_base.Goals as goal

pub returns-then-is_empty-clause-any_moment : goal.returns-then-is_empty-clause-any_moment
returns-then-is_empty-clause-any_moment g c =
    let forge = c.args.forge.now in
    still_import (g.F.Forge.limit forge) (g.F.Forge.past forge) (g.F.Forge.writes forge) (g.F.Forge.prepared forge) g.O.Folder.tells (g.O.Folder.files c.args.folder.now) c.args.name.now
    (g.met.F.Forge.well_formed forge c.requires.holds) (g.met.F.Forge.at_rest forge c.requires.holds c.requires.opened)

pub returns-then-is_empty-clause-done : goal.returns-then-is_empty-clause-done
returns-then-is_empty-clause-done g c = prints_same _ _ _ _ _ _ c.in-Ok.ensures.ready (none_of c.in-Ok.field-0.changes (c.is_empty.ensures.0 c.if-is_empty.true))

pub write_base-requires-clause-permitted : goal.write_base-requires-clause-permitted
write_base-requires-clause-permitted g c = ready_permitted _ _ _ _ _ _ c.in-Ok.ensures.ready (some_of c.in-Ok.field-0.changes (iff_false c.is_empty.ensures c.if-is_empty.false))

pub returns-in-Ok-write_base-clause-any_moment : goal.returns-in-Ok-write_base-clause-any_moment
returns-in-Ok-write_base-clause-any_moment g c =
    let ws = g.F.Forge.writes c.args.forge.now in
    leaves_weaker _ _ _ (IsOldOrNext ws (SetBase c.args.name.now c.in-Ok.field-0.changes ∷ [])) (IsOldOrImport g.O.Folder.tells (g.O.Folder.files c.args.folder.now) c.args.name.now ws)
    (old_or_import _ _ _ _ _ _ c.in-Ok.ensures.ready (some_of c.in-Ok.field-0.changes (iff_false c.is_empty.ensures c.if-is_empty.false))) c.in-Ok-write_base.ensures.any_moment

pub returns-in-Ok-write_base-clause-done : goal.returns-in-Ok-write_base-clause-done
returns-in-Ok-write_base-clause-done g c =
    prints_new _ _ _ _ _ _ c.in-Ok.ensures.ready _ c.in-Ok-write_base.ensures.ok (some_of c.in-Ok.field-0.changes (iff_false c.is_empty.ensures c.if-is_empty.false))

pub returns-in-Err-write_base-clause-any_moment : goal.returns-in-Err-write_base-clause-any_moment
returns-in-Err-write_base-clause-any_moment g c =
    let ws = g.F.Forge.writes c.args.forge.now in
    leaves_weaker _ _ _ (IsOldOrNext ws (SetBase c.args.name.now c.in-Ok.field-0.changes ∷ [])) (IsOldOrImport g.O.Folder.tells (g.O.Folder.files c.args.folder.now) c.args.name.now ws)
    (old_or_import _ _ _ _ _ _ c.in-Ok.ensures.ready (some_of c.in-Ok.field-0.changes (iff_false c.is_empty.ensures c.if-is_empty.false))) c.in-Err-write_base.ensures.any_moment

pub returns-in-Err-write_base-clause-refused : goal.returns-in-Err-write_base-clause-refused
returns-in-Err-write_base-clause-refused g c =
    write_refused _ _ _ _ _ _ c.in-Ok.ensures.ready _ c.in-Err-write_base.error (some_of c.in-Ok.field-0.changes (iff_false c.is_empty.ensures c.if-is_empty.false)) c.in-Err-write_base.ensures.refused

pub returns-in-Err-clause-any_moment : goal.returns-in-Err-clause-any_moment
returns-in-Err-clause-any_moment g c =
    let forge = c.args.forge.now in
    still_import (g.F.Forge.limit forge) (g.F.Forge.past forge) (g.F.Forge.writes forge) (g.F.Forge.prepared forge) g.O.Folder.tells (g.O.Folder.files c.args.folder.now) c.args.name.now
    (g.met.F.Forge.well_formed forge c.requires.holds) (g.met.F.Forge.at_rest forge c.requires.holds c.requires.opened)

pub returns-in-Err-clause-unwritten : goal.returns-in-Err-clause-unwritten
returns-in-Err-clause-unwritten g c = λ ne.
    let forge = c.args.forge.now in
    still (g.F.Forge.limit forge) (g.F.Forge.past forge) (g.F.Forge.writes forge) (g.F.Forge.prepared forge) (g.met.F.Forge.well_formed forge c.requires.holds) (g.met.F.Forge.at_rest forge c.requires.holds c.requires.opened)

pub returns-then-is_empty-clause-other : goal.returns-then-is_empty-clause-other
returns-then-is_empty-clause-other g c = one_self (g.F.Forge.past c.args.forge.now)

pub returns-in-Err-clause-other : goal.returns-in-Err-clause-other
returns-in-Err-clause-other g c = one_self (g.F.Forge.past c.args.forge.now)

pub returns-then-is_empty-clause-room : goal.returns-then-is_empty-clause-room
returns-then-is_empty-clause-room g c =
    let forge = c.args.forge.now in
    omega (arith, front_length (g.F.Forge.writes forge) (g.F.Forge.prepared forge), g.met.F.Forge.within forge c.requires.holds)

pub returns-in-Ok-write_base-clause-room : goal.returns-in-Ok-write_base-clause-room
returns-in-Ok-write_base-clause-room g c =
    subst (λ (l : List Write). length_of l ≤ g.F.Forge.limit c.args.forge.now) (sym c.in-Ok-write_base.ensures.ok) c.in-Ok-write_base.ensures.room
