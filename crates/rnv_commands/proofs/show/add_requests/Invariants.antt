use Rattle.std.proofs.Common.{◌≡◌, ◌++◌, take}
use Rattle.std.specs.List.{flat_map}
use Rattle.rnv_commands.specs.Show.{request_line}
use Rattle.rnv_commands.proofs.show.add_requests.Given as goal

abbrev pub invariant-loop-request : goal.invariant-loop-request
invariant-loop-request l = l.out.items ≡ l.initial.out.items ++ flat_map request_line (take l.request-index l.requests)
