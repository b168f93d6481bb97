use Rattle.std.proofs.Common.{rules, ◌≡◌, ℕ, List, length, ◌++◌, ◌∙◌, ap, sym, subst, flat_map, IfOk}
use Rattle.std.proofs.lemmas.List.{append-nil}
use Rattle.rnv_base.specs.Files.{NamedFile}
use Rattle.rnv_tasks.specs.Tasks.{commands_of, file_calls, files_with, joined, problems_in}
use Rattle.rnv_tasks.specs.Told.{Call, MakesFirst}
use Rattle.rnv_tasks.proofs.Whole.{busy_calls, busy_files, busy_problem, idle_calls}
use Rattle.rnv_tasks.proofs.tasking.tasked.Goals as goal

pub returns-then-is_empty-clause-called : goal.returns-then-is_empty-clause-called
returns-then-is_empty-clause-called g c = λ t.
    let none : length c.args.commands.now ≡ 0 = search rules in
    sym (ap (λ x. g.P.Spawner.calls c.args.spawner.now ++ x) (idle_calls (g.P.Spawner.answers c.args.spawner.now) c.args.allowed.now c.args.commands.now c.args.files.now none) ∙ append-nil (g.P.Spawner.calls c.args.spawner.now))

pub returns-clause-files : goal.returns-clause-files
returns-clause-files g c = λ t.
    let some : ¬ (length c.args.commands.now ≡ 0) = search rules in
    let answers = g.P.Spawner.answers c.args.spawner.now in
    let commands = c.as_slice-3.ensures ∙ c.in_ok-commands.ensures ∙ (λ i. commands_of (c.as_slice.ensures i) (c.as_slice-2.ensures i)) in
    subst (λ (x : List NamedFile). IfOk c.run_all.result (λ done. done.files ≡ x)) ((λ i. files_with answers (commands i) (c.as_slice-4.ensures i)) ∙ busy_files answers c.args.allowed.now c.args.commands.now c.args.files.now some) (c.run_all.ensures.files t)

pub returns-clause-problem : goal.returns-clause-problem
returns-clause-problem g c = λ t.
    let some : ¬ (length c.args.commands.now ≡ 0) = search rules in
    let answers = g.P.Spawner.answers c.args.spawner.now in
    let commands = c.as_slice-3.ensures ∙ c.in_ok-commands.ensures ∙ (λ i. commands_of (c.as_slice.ensures i) (c.as_slice-2.ensures i)) in
    subst (λ (x : List ℕ). IfOk c.run_all.result (λ done. done.problem ≡ x)) ((λ i. joined (problems_in answers (commands i) (c.as_slice-4.ensures i))) ∙ busy_problem answers c.args.allowed.now c.args.commands.now c.args.files.now some) (c.run_all.ensures.problem t)

pub returns-clause-calls : goal.returns-clause-calls
returns-clause-calls g c = λ t.
    let some : ¬ (length c.args.commands.now ≡ 0) = search rules in
    let answers = g.P.Spawner.answers c.args.spawner.now in
    let commands = c.as_slice-3.ensures ∙ c.in_ok-commands.ensures ∙ (λ i. commands_of (c.as_slice.ensures i) (c.as_slice-2.ensures i)) in
    subst (λ (x : List Call). MakesFirst x (g.P.Spawner.calls c.args.spawner.now) (g.P.Spawner.calls c.run_all.new.spawner))
    ((λ i. flat_map (file_calls answers (commands i)) (c.as_slice-4.ensures i)) ∙ busy_calls answers c.args.allowed.now c.args.commands.now c.args.files.now some) (c.run_all.ensures.calls t)

pub returns-clause-called : goal.returns-clause-called
returns-clause-called g c = λ t.
    let some : ¬ (length c.args.commands.now ≡ 0) = search rules in
    let answers = g.P.Spawner.answers c.args.spawner.now in
    let commands = c.as_slice-3.ensures ∙ c.in_ok-commands.ensures ∙ (λ i. commands_of (c.as_slice.ensures i) (c.as_slice-2.ensures i)) in
    subst (λ (x : List Call). IfOk c.run_all.result (λ _. g.P.Spawner.calls c.run_all.new.spawner ≡ g.P.Spawner.calls c.args.spawner.now ++ x))
    ((λ i. flat_map (file_calls answers (commands i)) (c.as_slice-4.ensures i)) ∙ busy_calls answers c.args.allowed.now c.args.commands.now c.args.files.now some) (c.run_all.ensures.called t)
