use Rattle.std.proofs.Common.{◌≤◌, ◌+◌, ◌*◌, length}
use Rattle.rnv_package_json.specs.Rest.{IsRest}
use Rattle.rnv_manager.specs.Finds.{views}
use Rattle.rnv_package_json.specs.Roles.{standing}
use Rattle.rnv_package_json.specs.Read.{group, value}
use Rattle.rnv_package_json.proofs.Turns.{Continues}
use Rattle.rnv_package_json.proofs.value.+value.Given as goal

abbrev pub decreases-group : goal.decreases-group
decreases-group l = 3 * l.depth + 2

abbrev pub decreases-part : goal.decreases-part
decreases-part l = 3 * l.depth + 1

abbrev pub decreases-value : goal.decreases-value
decreases-value l = 3 * l.depth

abbrev pub invariant-group-loop-after : goal.invariant-group-loop-after
invariant-group-loop-after l = record {
  within : length l.rest ≤ length l.fn.bytes;
  rest : IsRest l.file l.rest;
  goes : Continues (value (length l.file) l.depth) (standing l.role) l.kind (views l.found.items) l.rest (group (value (length l.file) l.depth) (standing l.role) l.kind (views l.fn.found.items) l.fn.bytes);
}

abbrev pub decreases-group-loop-after : goal.decreases-group-loop-after
decreases-group-loop-after l = length l.rest
