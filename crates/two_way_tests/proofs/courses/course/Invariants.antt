use Rattle.std.proofs.Common.{◌≡◌}
use Rattle.topology.specs.Networks.{switch_count}
use Rattle.two_way_driver.specs.Calls.{IsServing}
use Rattle.two_way_tests.proofs.courses.course.Given as goal

abbrev pub invariant-loop-one : goal.invariant-loop-one
invariant-loop-one g l = record { serving : IsServing l.driver; two : switch_count l.driver.net ≡ 2 }
