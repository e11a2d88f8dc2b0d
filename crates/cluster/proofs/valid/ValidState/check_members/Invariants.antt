use Rattle.std.proofs.Common.{◌≡◌, true}
use Rattle.std.proofs.Math.Bool.{not}
use Rattle.logic.specs.Tests.{all_below}
use Rattle.cluster.specs.declared.MemberTest.TheVariants.{IsFollowing, HasOffset}
use Rattle.cluster.specs.Actions.{member_passes}
use Rattle.cluster.proofs.valid.ValidState.check_members.Given as goal

abbrev pub invariant-loop-m : goal.invariant-loop-m
invariant-loop-m l =
    record {
      following : all_below l.m (member_passes IsFollowing l.self.state l.a) ≡ true;
      offsets : l.lacking ≡ not (all_below l.m (member_passes HasOffset l.self.state l.a));
    }
