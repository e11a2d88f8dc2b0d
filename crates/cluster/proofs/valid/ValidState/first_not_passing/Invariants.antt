use Rattle.std.proofs.Common.{◌≡◌, true}
use Rattle.logic.specs.Tests.{all_below}
use Rattle.cluster.specs.Actions.{member_passes}
use Rattle.cluster.proofs.valid.ValidState.first_not_passing.Given as goal

abbrev pub invariant-loop-m : goal.invariant-loop-m
invariant-loop-m l = all_below l.m (member_passes l.test l.self.state l.a) ≡ true
