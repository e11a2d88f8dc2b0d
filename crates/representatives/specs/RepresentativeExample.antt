-- Example 2: the representative of example 1's last state "has replicas 1 and 2 exchanged". Computed on the definitions.
-- Assumes nothing.
use Rattle.std.specs.Prelude.{◌≡◌, refl, [], ◌∷◌}
use Rattle.logic.specs.Tests.{all_below}
use Rattle.logic.specs.Table.{table, table_from}
use Rattle.logic.specs.Concat.{concat_below}
use Rattle.logic.specs.Order.{precedes}
use Rattle.logic.specs.Least.{better, least_from}
use Rattle.parts.specs.Isr.{member, isr_of}
use Rattle.parts.specs.Epoch.{epoch_byte}
use Rattle.replica.specs.Replica.{tidy_replica}
use Rattle.cluster.specs.State.{replica_at, with_replicas, tidy}
use Rattle.images.specs.Image.{log_bytes, requests_bytes, replica_bytes, replicas_bytes, image}
use Rattle.images.specs.ImageExample.{paper_replica, paper_state}
use Rattle.renamings.specs.Names.{new_name, holder, old_name, in_place, is_new, is_renaming, without_place, orders, rows}
use Rattle.renamings.specs.Rename.{rename_leader, rename_isr, rename_replicas, renamed}
use Rattle.representatives.specs.Representative.{least_renaming, representative}

-- the renaming that exchanges 1 and 2
pub example_renaming : least_renaming paper_state ≡ 0 ∷ 2 ∷ 1 ∷ 3 ∷ 4 ∷ []
unfolding all_below table table_from concat_below precedes better least_from member isr_of epoch_byte tidy_replica tidy log_bytes
    requests_bytes replica_bytes replicas_bytes image paper_replica paper_state new_name holder old_name in_place is_new is_renaming without_place orders rows rename_leader
    rename_isr rename_replicas renamed least_renaming
example_renaming = refl

-- and nothing else changes
pub example_representative : representative paper_state
    ≡ with_replicas paper_state
    (replica_at paper_state 0 ∷ replica_at paper_state 2 ∷ replica_at paper_state 1 ∷ replica_at paper_state 3 ∷ replica_at paper_state 4 ∷ [])
unfolding all_below table table_from concat_below precedes better least_from member isr_of epoch_byte tidy_replica tidy log_bytes
    requests_bytes replica_bytes replicas_bytes image paper_replica paper_state new_name holder old_name in_place is_new is_renaming without_place orders rows rename_leader
    rename_isr rename_replicas renamed least_renaming representative
example_representative = refl
