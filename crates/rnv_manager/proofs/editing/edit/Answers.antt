use Rattle.std.proofs.Common.{length, sym, ap, ◌∙◌}
use Rattle.std.proofs.lemmas.Option.{same_Some}
use Rattle.std.proofs.lemmas.Result.{err_from_is_err_and}
use Rattle.rnv_manager.specs.Finds.{views}
use Rattle.rnv_manager.proofs.EditLaw.{wanted-are, as-many, has-room, edited-bytes-are, still-read, is-read-back, is-not-read-back, refused-so, memory_alone}
use Rattle.rnv_manager.proofs.editing.edit.Goals as goal

pub replaced-requires-clause-many : goal.replaced-requires-clause-many
replaced-requires-clause-many g c =
    let ms = c.requires.read.0 in
    let h = c.requires.read.1 in
    let seen = ap views c.as_slice-found.ensures ∙ sym (same_Some _ _ (c.in-Ok.ensures.only ms h)) in
    let wanted = wanted-are c.args.edits.now _ ms _ _ c.in_ok-expected.len c.as_slice.ensures (ap views c.as_slice-2.ensures.value) (c.in_ok-expected.ensures.ok ms (ap length (g.met.M.Manager.whole _ _ _ h)) seen) in
    as-many _ _ c.args.edits.now ms wanted.0 seen

pub replaced-requires-clause-room : goal.replaced-requires-clause-room
replaced-requires-clause-room g c =
    let ms = c.requires.read.0 in
    let h = c.requires.read.1 in
    let whole = g.met.M.Manager.whole _ _ _ h in
    let seen = ap views c.as_slice-found.ensures ∙ sym (same_Some _ _ (c.in-Ok.ensures.only ms h)) in
    let wanted = wanted-are c.args.edits.now _ ms _ _ c.in_ok-expected.len c.as_slice.ensures (ap views c.as_slice-2.ensures.value) (c.in_ok-expected.ensures.ok ms (ap length whole) seen) in
    has-room _ c.args.edits.now ms c.in_ok-expected.len (edited-bytes-are _ _ _ c.args.edits.now ms whole seen wanted.0) wanted.1

pub read_back-requires : goal.read_back-requires
read_back-requires g c = λ none.
    let ms = c.requires.read.0 in
    let h = c.requires.read.1 in
    let whole = g.met.M.Manager.whole _ _ _ h in
    let seen = ap views c.as_slice-found.ensures ∙ sym (same_Some _ _ (c.in-Ok.ensures.only ms h)) in
    let known = c.in_ok-expected.ensures.ok ms (ap length whole) seen in
    let given = wanted-are c.args.edits.now _ ms _ _ c.in_ok-expected.len c.as_slice.ensures (ap views c.as_slice-2.ensures.value) known in
    let wanted = wanted-are c.args.edits.now _ ms _ _ c.in_ok-expected.len c.as_slice.ensures (ap views c.as_slice-4.ensures.value) known in
    let is = c.in-Ok-from_utf8.ensures.cases.0 ∙ (c.as_slice-3.ensures ∙ (c.in_ok-bytes.ensures.bytes ∙ edited-bytes-are _ _ _ c.args.edits.now ms whole seen given.0)) in
    (ms, still-read (g.M.Manager.reads c.args.manager.now) _ _ c.args.edits.now ms _ whole h is wanted.0 none)

pub returns-in_err-read_back-clause-not_read_back : goal.returns-in_err-read_back-clause-not_read_back
returns-in_err-read_back-clause-not_read_back g c =
    let p = err_from_is_err_and c.from_residual-in_err-read_back.result c.from_residual-in_err-read_back.ensures.1 in
    rw (p.1, p.2)
    (refused-so _ _ c.in_err-read_back.field-0.0 (λ start wanted found difference ms h.
    let whole = g.met.M.Manager.whole _ _ _ h in
    let seen = ap views c.as_slice-found.ensures ∙ sym (same_Some _ _ (c.in-Ok.ensures.only ms h)) in
    let known = c.in_ok-expected.ensures.ok ms (ap length whole) seen in
    let given = wanted-are c.args.edits.now _ ms _ _ c.in_ok-expected.len c.as_slice.ensures (ap views c.as_slice-2.ensures.value) known in
    let expected = wanted-are c.args.edits.now _ ms _ _ c.in_ok-expected.len c.as_slice.ensures (ap views c.as_slice-4.ensures.value) known in
    let is = c.in-Ok-from_utf8.ensures.cases.0 ∙ (c.as_slice-3.ensures ∙ (c.in_ok-bytes.ensures.bytes ∙ edited-bytes-are _ _ _ c.args.edits.now ms whole seen given.0)) in
    is-not-read-back (g.M.Manager.reads c.args.manager.now) c.args.edits.now ms _ _ start wanted found is expected.0 difference.0 difference.1) c.in_err-read_back.ensures.differs)

pub returns-clause-edited : goal.returns-clause-edited
returns-clause-edited g c = λ ms h.
    let whole = g.met.M.Manager.whole _ _ _ h in
    let seen = ap views c.as_slice-found.ensures ∙ sym (same_Some _ _ (c.in-Ok.ensures.only ms h)) in
    let known = c.in_ok-expected.ensures.ok ms (ap length whole) seen in
    let given = wanted-are c.args.edits.now _ ms _ _ c.in_ok-expected.len c.as_slice.ensures (ap views c.as_slice-2.ensures.value) known in
    let wanted = wanted-are c.args.edits.now _ ms _ _ c.in_ok-expected.len c.as_slice.ensures (ap views c.as_slice-4.ensures.value) known in
    let bytes = c.in_ok-bytes.ensures.bytes ∙ edited-bytes-are _ _ _ c.args.edits.now ms whole seen given.0 in
    let is = c.in-Ok-from_utf8.ensures.cases.0 ∙ (c.as_slice-3.ensures ∙ bytes) in
    let back = c.in_ok-read_back.ensures.same in
    (bytes, is-read-back (g.M.Manager.reads c.args.manager.now) c.args.edits.now ms back.0 _ is (g.met.M.Manager.whole _ _ _ back.1) back.1 (sym wanted.0 ∙ back.2))

pub returns-in_err-read_back-clause-kept : goal.returns-in_err-read_back-clause-kept
returns-in_err-read_back-clause-kept g c = λ law.
    memory_alone _ _ (λ start wanted found refused. (refused c.requires.read.0 c.requires.read.1).fails (law c.requires.read.0 c.requires.read.1)) (returns-in_err-read_back-clause-not_read_back g c)
