-- Exposed: "the greatest hw of any presuming replica", of one state. Assumes nothing.
use Rattle.std.specs.Prelude.{ℕ, ◌≤◌, ◌<◌, ◌≡◌, refl, Bool, true, false, cond}
use Rattle.std.proofs.Common.{ap, ◌∙◌, arith}
use Rattle.logic.specs.Greatest.{greatest_below, greatest_at, greatest_by, greatest_cong}
use Rattle.logic.specs.Table.{cond_true}
use Rattle.cluster.specs.declared.Limits.{Limits}
use Rattle.cluster.specs.declared.State.{State}
use Rattle.cluster.specs.State.{replica_count_of, replica_at, Same}
use Rattle.cluster.specs.Actions.{replica_presumes_leadership}

-- the hw of the replica named r where it presumes, else 0
abbrev pub presuming_hw : State → ℕ → ℕ
presuming_hw s r = cond (replica_presumes_leadership s r) (replica_at s r).hw 0

-- the greatest of them, and 0 where none presumes
unfoldable pub exposed : State → ℕ
exposed s = greatest_below (replica_count_of s.limits) (presuming_hw s)

-- what it is, each way: it is at least the hw of every presuming replica, and at most any number that is so
pub exposed_at : (s : State) (r : ℕ) → r < replica_count_of s.limits → replica_presumes_leadership s r ≡ true → (replica_at s r).hw ≤ exposed s
unfolding exposed
exposed_at s r l h =
    rw (← cond_true (replica_presumes_leadership s r) (replica_at s r).hw 0 h) (greatest_at (replica_count_of s.limits) (presuming_hw s) r l)

pub exposed_by : (s : State) (k : ℕ)
    → ((r : ℕ) → r < replica_count_of s.limits → replica_presumes_leadership s r ≡ true → (replica_at s r).hw ≤ k) → exposed s ≤ k
unfolding exposed
exposed_by s k f = greatest_by (replica_count_of s.limits) (presuming_hw s) k (λ r l. hw_at_most r l (replica_presumes_leadership s r) refl)
  where
    hw_at_most : (r : ℕ) → r < replica_count_of s.limits → (b : Bool) → replica_presumes_leadership s r ≡ b → cond b (replica_at s r).hw 0 ≤ k
    hw_at_most r l true e = f r l e
    hw_at_most r l false e = omega arith

-- equal states expose the same
pub exposed_same : (s t : State) → replica_count_of s.limits ≤ 5 → Same s t → exposed s ≡ exposed t
unfolding exposed replica_presumes_leadership
exposed_same s t small m =
    greatest_cong (replica_count_of s.limits) (presuming_hw s) (presuming_hw t)
    (λ r l. let q = m.replicas r (omega arith) l in rw (q.leader, q.hw) refl)
    ∙ ap (λ (c : Limits). greatest_below (replica_count_of c) (presuming_hw t)) m.limits
