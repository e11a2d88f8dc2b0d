use Rattle.std.specs.Prelude.{◌≡◌}
use Rattle.std.specs.declared.cmp.Ordering.TheVariants.{Equal}
use Rattle.representatives.specs.Comparison.{decision_below}
use Rattle.representatives.specs.Fields.{compare_requests_at}
use Rattle.representatives.proofs.compare.compare_all_requests.Given as goal

abbrev pub invariant-loop-e : goal.invariant-loop-e
invariant-loop-e l = decision_below l.e (compare_requests_at l.p.names l.q.names l.s.state.requests) ≡ Equal
