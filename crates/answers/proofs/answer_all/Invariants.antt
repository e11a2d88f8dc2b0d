use Rattle.std.proofs.Common.{◌≤◌}
use Rattle.answers.proofs.answer_all.Given as goal

abbrev pub invariant-loop : goal.invariant-loop
invariant-loop g l = (l.at ≤ l.end) × (l.end ≤ 257)
