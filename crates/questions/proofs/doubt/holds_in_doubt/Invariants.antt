use mathlib.Core.Path.{◌≡◌}
use mathlib.Core.Bool.{true}
use Rattle.logic.specs.Tests.{all_below}
use Rattle.questions.specs.Doubt.{pair_agrees, leader_agrees}
use Rattle.questions.proofs.doubt.holds_in_doubt.Given as goal

abbrev pub invariant-loop-m : goal.invariant-loop-m
invariant-loop-m l = all_below l.m (pair_agrees l.doubt l.property l.s.state l.r) ≡ true

abbrev pub invariant-loop-r : goal.invariant-loop-r
invariant-loop-r l = all_below l.r (leader_agrees l.doubt l.property l.s.state) ≡ true
