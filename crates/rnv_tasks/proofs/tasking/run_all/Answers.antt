use Rattle.std.proofs.Common.{◌++◌, ◌∙◌, ap, subst, arith}
use Rattle.rnv_tasks.specs.Outcome.{outcome}
use Rattle.rnv_tasks.specs.Tasks.{file_calls, file_made}
use Rattle.rnv_tasks.specs.Told.{MakesFirst}
use Rattle.rnv_tasks.proofs.Each.{more_files, more_paths, more_problems, next_file, part_file}
use Rattle.rnv_tasks.proofs.tasking.run_all.Goals as goal

pub returns-in_err-treated-clause-calls : goal.returns-in_err-treated-clause-calls
returns-in_err-treated-clause-calls g c = λ t.
    part_file (file_calls (g.P.Spawner.answers c.args.spawner.now) c.args.commands.now) c.args.files.now c.loop-file.file-index c.file-item.result _ _ (g.P.Spawner.calls c.loop-file.spawner) _
    c.loop-file-test.true c.file-item.is (c.loop-file.invariant.calls t)
    (subst (λ a. MakesFirst (file_calls a c.args.commands.now c.file-item.result) (g.P.Spawner.calls c.loop-file.spawner) (g.P.Spawner.calls c.treat_file.new.spawner)) (c.loop-file.invariant.same t) (c.treat_file.ensures.calls t))

pub returns-in_err-keep-clause-calls : goal.returns-in_err-keep-clause-calls
returns-in_err-keep-clause-calls g c = λ t.
    part_file (file_calls (g.P.Spawner.answers c.args.spawner.now) c.args.commands.now) c.args.files.now c.loop-file.file-index c.file-item.result _ _ (g.P.Spawner.calls c.loop-file.spawner) _
    c.loop-file-test.true c.file-item.is (c.loop-file.invariant.calls t)
    (subst (λ a. MakesFirst (file_calls a c.args.commands.now c.file-item.result) (g.P.Spawner.calls c.loop-file.spawner) (g.P.Spawner.calls c.treat_file.new.spawner)) (c.loop-file.invariant.same t) (c.treat_file.ensures.calls t))

pub loop-file-preserved : goal.loop-file-preserved
loop-file-preserved g c =
    let answers = g.P.Spawner.answers c.args.spawner.now in
    let commands = c.args.commands.now in
    let file = c.file-item.result in
    record {
      files = λ t. more_files answers commands c.args.files.now c.loop-file.file-index file (outcome c.in_ok-treated.treated) c.loop-file.done _ c.loop-file-test.true c.file-item.is
          (c.in_ok-treated.ensures.made t ∙ ap (λ a. file_made a commands file) (c.loop-file.invariant.same t)) (c.loop-file.invariant.files t) c.in_ok-keep.ensures.files;
      problems = λ t. more_problems answers commands c.args.files.now c.loop-file.file-index file (outcome c.in_ok-treated.treated) c.loop-file.problems _ c.loop-file-test.true c.file-item.is
          (c.in_ok-treated.ensures.made t ∙ ap (λ a. file_made a commands file) (c.loop-file.invariant.same t)) (c.loop-file.invariant.problems t) c.in_ok-keep.ensures.problems;
      calls = λ t. next_file (file_calls answers commands) c.args.files.now c.loop-file.file-index file _ _ (g.P.Spawner.calls c.loop-file.spawner) _ c.loop-file-test.true c.file-item.is
          (c.loop-file.invariant.calls t) (c.in_ok-treated.ensures.called t ∙ ap (λ a. g.P.Spawner.calls c.loop-file.spawner ++ file_calls a commands file) (c.loop-file.invariant.same t));
      same = λ t. c.treat_file.ensures.same t ∙ c.loop-file.invariant.same t;
      paths = more_paths c.args.files.now c.loop-file.file-index file (outcome c.in_ok-treated.treated) c.loop-file.done _ c.loop-file-test.true c.file-item.is c.loop-file.invariant.paths c.in_ok-keep.ensures.files;
      faults = grind (arith, c.in_ok-treated.ensures.passed, c.loop-file.invariant.faults);
    }
