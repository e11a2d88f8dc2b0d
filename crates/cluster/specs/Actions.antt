-- The nine actions: for each kind its refusals, tried in the order written, and its effect. Operators of the source keep
-- their names; a, b and e are the operands of the table. Assumes nothing.
--
--   replica_presumes_leadership s r       the leader of r is r itself
--   replica_is_following s f l            the leader of f is l
--   is_true_leader s l                    l presumes, the quorum names it, and its epoch is the quorum's
--   is_follower_caught_up s l f n         the leader of f is l, and the end of f is at least n
--   epochs_used_up s, request_missing s e the next epoch is X+1; there is no request of epoch e
--   epoch_not_above s i e                 e is not above the epoch of replica i
--   controller_shrink_isr_refusal s a     kind 0, controller shrink: its refusal, or 0. Every kind has one so named
--   controller_shrink_isr s a             its effect
--   controller_elect_leader s a           kind 1, elect: the effect, as in all that follow
--   leader_refusal, lead_by               refusal and effect of kind 2 by the leader that the request names
--   become_leader s e                     kind 2, become leader
--   become_follower_at s a e offset       a takes request e; where that names a leader, a's log is cut to the offset; hw to at most it
--   become_follower_and_truncate_to_hw s a e  kind 3, become follower: the offset is a's hw. The refusal is become_follower_refusal
--   next_record s a, leader_write s a     the record that a writes; kind 4, write
--   quorum_update_leader_and_isr s l isr  the ISR put into the leader l and into the quorum, as kinds 5 and 6 do
--   leader_shrink_isr, leader_expand_isr  kinds 5 and 6, leader shrink and leader expand
--   passes_test test s a m                m has a as leader, or has the offset of a's hw, by which of the two is asked
--   member_passes test s a m              m passes it, if it is in a's ISR
--   members_pass test s a                 every member of a's ISR passes it
--   first_not_passing test s a            the smallest member of a's ISR that does not; R where each does
--   leader_inc_high_watermark s a         kind 7, advance
--   member_named number s a               the member of a's ISR that an answer with this number names
--   follower_replicate s a b              kind 8, replicate
use Rattle.std.specs.Prelude.{ℕ, ◌+◌, min, Bool, true, false, not, ◌&&◌, ◌||◌, cond, List, [], ◌∷◌, eqb, ltb, leb, pos, None, Some}
use Rattle.logic.specs.Tests.{all_below, every, first_fails}
use Rattle.logic.specs.Refuse.{refuse}
use Rattle.parts.specs.Refusal.{accepted, no_epoch_left, not_in_isr, already_so, no_request, wrong_leader, epoch_not_higher, not_presuming, no_id_left, log_full, not_true_leader, same_replica, caught_up, not_caught_up, not_following, nothing_to_replicate, member_not_following, member_lacks_offset}
use Rattle.parts.specs.Isr.{member, without, including, is_alone}
use Rattle.parts.specs.Epoch.{same_epoch, higher_epoch}
use Rattle.parts.specs.Leader.{Leader, names}
use Rattle.replica.specs.declared.Record.{Record}
use Rattle.replica.specs.Replica.{record_at}
use Rattle.replica.specs.Change.{with_hw, with_isr, with_request, append, become_follower_and_truncate_to}
use Rattle.cluster.specs.declared.State.{State}
use Rattle.cluster.specs.declared.MemberTest.{MemberTest}
use Rattle.cluster.specs.declared.MemberTest.TheVariants.{IsFollowing, HasOffset}
use Rattle.cluster.specs.State.{replica_count_of, log_size_of, max_records_of, max_leader_epoch_of, next_leader_epoch_of, next_record_id_of, request_at, replica_at, with_replica, with_quorum_isr, with_next_record_id, controller_update_isr}

-- ---- the tests that the actions share
-- ReplicaPresumesLeadership(replica): "Replica r presumes when its own leader is r."
unfoldable pub replica_presumes_leadership : State → ℕ → Bool
replica_presumes_leadership s replica = names (replica_at s replica).leader replica

-- ReplicaIsFollowing(follower, leader): the follower's leader is that one
unfoldable pub replica_is_following : State → ℕ → ℕ → Bool
replica_is_following s follower leader = names (replica_at s follower).leader leader

-- IsTrueLeader(leader): "It is the true leader when it presumes, the quorum names it, and its epoch is the quorum's."
abbrev pub is_true_leader_tests : State → ℕ → List Bool
is_true_leader_tests s leader =
    replica_presumes_leadership s leader
    ∷ names s.quorum.leader leader
    ∷ same_epoch (replica_at s leader).epoch s.quorum.epoch
    ∷ []

unfoldable pub is_true_leader : State → ℕ → Bool
is_true_leader s leader = every (is_true_leader_tests s leader)

-- IsFollowerCaughtUp(leader, follower, endOffset): "b is caught up with a to n when b's leader is a and b's end is at
-- least n (the source compares no records here)."
unfoldable pub is_follower_caught_up : State → ℕ → ℕ → ℕ → Bool
is_follower_caught_up s leader follower endOffset =
    replica_is_following s follower leader && leb endOffset (replica_at s follower).end

-- "No epoch left" means next epoch is X+1
unfoldable pub epochs_used_up : State → Bool
epochs_used_up s = eqb (next_leader_epoch_of s) (max_leader_epoch_of s.limits + 1)

-- there is no request of epoch e
unfoldable pub request_missing : State → ℕ → Bool
request_missing s e = leb (next_leader_epoch_of s) e

-- e is not above the epoch of the replica named i
unfoldable pub epoch_not_above : State → ℕ → ℕ → Bool
epoch_not_above s i e = not (higher_epoch (pos e) (replica_at s i).epoch)

-- ---- kind 0, ControllerShrinkIsr
-- "a not in quorum ISR 5; no epoch left 4"
unfoldable pub controller_shrink_isr_refusal : State → ℕ → ℕ
controller_shrink_isr_refusal s a =
    refuse (not (member s.quorum.isr a)) not_in_isr
    (refuse (epochs_used_up s) no_epoch_left
    accepted)

-- by whether a leads, and whether it is alone: "a leads and is alone: no leader, ISR kept. a leads with others: no leader,
-- a removed. Else leader kept, a removed"
unfoldable pub shrink_by : Bool → Bool → State → ℕ → State
shrink_by true true s a = controller_update_isr s None s.quorum.isr
shrink_by true false s a = controller_update_isr s None (without s.quorum.isr a)
shrink_by false alone s a = controller_update_isr s s.quorum.leader (without s.quorum.isr a)

unfoldable pub controller_shrink_isr : State → ℕ → State
controller_shrink_isr s a = shrink_by (names s.quorum.leader a) (is_alone s.quorum.isr a) s a

-- ---- kind 1, ControllerElectLeader
-- "5 as above; a leads already 6; 4"
unfoldable pub controller_elect_leader_refusal : State → ℕ → ℕ
controller_elect_leader_refusal s a =
    refuse (not (member s.quorum.isr a)) not_in_isr
    (refuse (names s.quorum.leader a) already_so
    (refuse (epochs_used_up s) no_epoch_left
    accepted))

-- "leader a, ISR kept"
unfoldable pub controller_elect_leader : State → ℕ → State
controller_elect_leader s a = controller_update_isr s (Some a) s.quorum.isr

-- ---- kind 2, BecomeLeader
-- "it names no leader 8; e not above the leader's epoch 9", by the leader that request e names
unfoldable pub leader_refusal : State → ℕ → Leader → ℕ
leader_refusal s e None = wrong_leader
leader_refusal s e (Some b) = refuse (epoch_not_above s b e) epoch_not_higher accepted

-- "no request e 7", then those
unfoldable pub become_leader_refusal : State → ℕ → ℕ
become_leader_refusal s e = refuse (request_missing s e) no_request (leader_refusal s e (request_at s e).leader)

-- "that leader takes e, itself as leader, the request's ISR; hw stays", by the leader that request e names
unfoldable pub lead_by : State → ℕ → Leader → State
lead_by s e None = s
lead_by s e (Some b) = with_replica s b (with_request (replica_at s b) (pos e) (Some b) (request_at s e).isr)

unfoldable pub become_leader : State → ℕ → State
become_leader s e = lead_by s e (request_at s e).leader

-- ---- kind 3, BecomeFollowerAndTruncateTo
-- "7; request names a 8; e not above a's epoch 9"
unfoldable pub become_follower_refusal : State → ℕ → ℕ → ℕ
become_follower_refusal s a e =
    refuse (request_missing s e) no_request
    (refuse (names (request_at s e).leader a) wrong_leader
    (refuse (epoch_not_above s a e) epoch_not_higher
    accepted))

-- a takes e, leader and ISR of request e; where a leader is named its log is cut to the truncation offset; its hw becomes
-- the smaller of itself and that offset
unfoldable pub become_follower_at : State → ℕ → ℕ → ℕ → State
become_follower_at s a e truncationOffset =
    with_replica s a
    (become_follower_and_truncate_to (replica_at s a) (pos e) (request_at s e).leader (request_at s e).isr truncationOffset)

-- "leader named: log cut to a's hw. No leader: log kept. a takes e, leader, ISR; hw stays"
unfoldable pub become_follower_and_truncate_to_hw : State → ℕ → ℕ → State
become_follower_and_truncate_to_hw s a e = become_follower_at s a e (replica_at s a).hw

-- ---- kind 4, LeaderWrite
-- "a doesn't presume 10; no id left 11; log full 12"
unfoldable pub leader_write_refusal : State → ℕ → ℕ
leader_write_refusal s a =
    refuse (not (replica_presumes_leadership s a)) not_presuming
    (refuse (leb (max_records_of s.limits) (next_record_id_of s)) no_id_left
    (refuse (leb (log_size_of s.limits) (replica_at s a).end) log_full
    accepted))

-- the record that a writes: (next id, a's epoch)
abbrev pub next_record : State → ℕ → Record
next_record s a = record { id = next_record_id_of s; epoch = (replica_at s a).epoch }

-- "record (next id, a's epoch) at a's end; next id plus 1"
unfoldable pub leader_write : State → ℕ → State
leader_write s a = with_next_record_id (with_replica s a (append (replica_at s a) (next_record s a))) (next_record_id_of s + 1)

-- ---- kinds 5 and 6, LeaderShrinkIsr and LeaderExpandIsr
-- QuorumUpdateLeaderAndIsr(leader, newIsr): "Kinds 5 and 6 write a's changed ISR to a and to the quorum, and no request."
unfoldable pub quorum_update_leader_and_isr : State → ℕ → ℕ → State
quorum_update_leader_and_isr s leader newIsr =
    with_quorum_isr (with_replica s leader (with_isr (replica_at s leader) newIsr)) newIsr

-- "a = b 14; a not true leader 13; b not in a's ISR 5; b caught up with a to a's end 15"
unfoldable pub leader_shrink_isr_refusal : State → ℕ → ℕ → ℕ
leader_shrink_isr_refusal s a b =
    refuse (eqb a b) same_replica
    (refuse (not (is_true_leader s a)) not_true_leader
    (refuse (not (member (replica_at s a).isr b)) not_in_isr
    (refuse (is_follower_caught_up s a b (replica_at s a).end) caught_up
    accepted)))

-- "b leaves"
unfoldable pub leader_shrink_isr : State → ℕ → ℕ → State
leader_shrink_isr s a b = quorum_update_leader_and_isr s a (without (replica_at s a).isr b)

-- "13; b in a's ISR 6; b not caught up with a to a's hw 16"
unfoldable pub leader_expand_isr_refusal : State → ℕ → ℕ → ℕ
leader_expand_isr_refusal s a b =
    refuse (not (is_true_leader s a)) not_true_leader
    (refuse (member (replica_at s a).isr b) already_so
    (refuse (not (is_follower_caught_up s a b (replica_at s a).hw)) not_caught_up
    accepted))

-- "b joins"
unfoldable pub leader_expand_isr : State → ℕ → ℕ → State
leader_expand_isr s a b = quorum_update_leader_and_isr s a (including (replica_at s a).isr b)

-- ---- kind 7, LeaderIncHighWatermark
-- what is asked of a member m of a's ISR: that its leader is a, and that it has the offset of a's high watermark
unfoldable pub passes_test : MemberTest → State → ℕ → ℕ → Bool
passes_test IsFollowing s a m = replica_is_following s m a
passes_test HasOffset s a m = ltb (replica_at s a).hw (replica_at s m).end

-- m passes, if it is in a's ISR
unfoldable pub member_passes : MemberTest → State → ℕ → ℕ → Bool
member_passes test s a m = not (member (replica_at s a).isr m) || passes_test test s a m

-- every member of a's ISR passes
abbrev pub members_pass : MemberTest → State → ℕ → Bool
members_pass test s a = all_below (replica_count_of s.limits) (member_passes test s a)

-- "10"; then, in place of 17, "48 (some member's leader isn't a, tried first over all members) and 49 (some member lacks the offset)"
unfoldable pub leader_inc_high_watermark_refusal : State → ℕ → ℕ
leader_inc_high_watermark_refusal s a =
    refuse (not (replica_presumes_leadership s a)) not_presuming
    (refuse (not (members_pass IsFollowing s a)) member_not_following
    (refuse (not (members_pass HasOffset s a)) member_lacks_offset
    accepted))

-- "the smallest ISR member with that fault"; R where no member has it
abbrev pub first_not_passing : MemberTest → State → ℕ → ℕ
first_not_passing test s a = first_fails (replica_count_of s.limits) (member_passes test s a)

-- where 48 or 49 is given, "the action's answer names the smallest ISR member with that fault, 0 in all its other answers"
unfoldable pub member_named : ℕ → State → ℕ → ℕ
member_named number s a =
    cond (eqb number member_not_following) (first_not_passing IsFollowing s a)
    (cond (eqb number member_lacks_offset) (first_not_passing HasOffset s a)
    0)

-- "a's hw plus 1"
unfoldable pub leader_inc_high_watermark : State → ℕ → State
leader_inc_high_watermark s a = with_replica s a (with_hw (replica_at s a) ((replica_at s a).hw + 1))

-- ---- kind 8, FollowerReplicate
-- "b doesn't presume 10; a's leader isn't b 18; a's end not below b's end 19"
unfoldable pub follower_replicate_refusal : State → ℕ → ℕ → ℕ
follower_replicate_refusal s a b =
    refuse (not (replica_presumes_leadership s b)) not_presuming
    (refuse (not (replica_is_following s a b)) not_following
    (refuse (not (ltb (replica_at s a).end (replica_at s b).end)) nothing_to_replicate
    accepted))

-- "b's record at a's end is added to a; a's hw becomes the smaller of b's hw and a's new end"
unfoldable pub follower_replicate : State → ℕ → ℕ → State
follower_replicate s a b =
    with_replica s a
    (with_hw (append (replica_at s a) (record_at (replica_at s b) (replica_at s a).end))
    (min (replica_at s b).hw ((replica_at s a).end + 1)))
