use Rattle.std.proofs.Common.{◌≡◌, ◌++◌, map, string_bytes}
use Rattle.std.specs.BTreeMap.{keys}
use Rattle.rnv_release.specs.Times.{times_left}
use Rattle.rnv_release.proofs.Walking.{walked}
use Rattle.rnv_release.proofs.npm.listed.Given as goal

abbrev pub invariant-loop-name : goal.invariant-loop-name
invariant-loop-name l = l.releases.items ++ walked (map string_bytes l.name-iterator) (times_left l.times) ≡ walked (map string_bytes (keys l.fn.versions)) (times_left l.fn.times)
