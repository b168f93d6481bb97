use Rattle.std.proofs.Common.{◌≡◌, map, take}
use Rattle.rnv_tasks.specs.Tasks.{command_of}
use Rattle.rnv_tasks.proofs.command.read_commands.Given as goal

abbrev pub invariant-loop-text : goal.invariant-loop-text
invariant-loop-text l = l.commands ≡ map (command_of l.allowed) (take l.text-index l.texts)
