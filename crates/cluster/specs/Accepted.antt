-- What an accepted action says of its operands, and kind by kind what the state must be for it to be accepted. Assumes nothing.
--
--   Operands c kind a b                     the replicas that the kind uses are below R
--   operand_iff                             a number is below an operand's bound: below its own where it is used, else 0
--   operands_of                             operands that fit have their replicas below R
--   action_accepted                         an accepted action has operands that fit, and the table refuses nothing
--   presumes_itself                         a replica that presumes leadership has itself as leader
--   TrueLeader s a, true_leader             a presumes, the quorum names it, and its epoch is the quorum's; the test says so
--   EpochLeft s                             the next epoch is below X+1
--   request-sent                            a request that is not missing has an epoch below the next one
--   controller_shrink_accepted              kind 0, where S1 holds: accepted exactly where a is in the quorum's ISR and an epoch is left
--   elect_accepted                          kind 1, where S1 holds: a is in the quorum's ISR and does not lead, and an epoch is left
--   become_leader_accepted                  kind 2: request e was sent, and leader_refusal is 0 of the leader that it names
--   become_follower_accepted                kind 3: request e was sent, does not name a, and e is above a's epoch
--   Writes s a, write_accepted              kind 4: a presumes, an id is left, and a's log has room
--   Shrinks s a b, leader_shrink_accepted   kind 5: a is the true leader, b another, in a's ISR and not caught up to a's end
--   Expands s a b, leader_expand_accepted   kind 6: a is the true leader, b not in a's ISR and caught up to a's hw
--   advance_accepted                        kind 7: a presumes, and each member of a's ISR has a as leader and has offset hw
--   own_hw                                  where S5 holds of a and kind 7 is accepted, a has offset hw itself
--   Replicates s a b, replicate_accepted    kind 8: b presumes, a's leader is b, and a's end is below b's
use Rattle.std.specs.Prelude.{ℕ, ◌+◌, ◌<◌, ◌≡◌, refl, Bool, true, false, ◌↔◌, Some}
use Rattle.std.proofs.Common.{sym, ap, arith}
use Rattle.std.proofs.Math.Bool.{not}
use borrow.Author.Tests.{ltb-true, lt-ltb, lt-leb, leb-false, eqb-false, ne_eqb, not-false}
use Rattle.logic.specs.Tests.{every_at, all_at, implied, true_false}
use Rattle.logic.specs.Refuse.{refuse_zero, refuse_none}
use Rattle.parts.specs.Refusal.{accepted}
use Rattle.parts.specs.Isr.{member}
use Rattle.parts.specs.Leader.{names}
use Rattle.parts.specs.EpochLaws.{same_epoch_true}
use Rattle.parts.specs.LeaderLaws.{names_iff}
use Rattle.cluster.specs.declared.Limits.{Limits}
use Rattle.cluster.specs.declared.State.{State}
use Rattle.cluster.specs.declared.Action.{Action}
use Rattle.cluster.specs.declared.MemberTest.TheVariants.{IsFollowing, HasOffset}
use Rattle.cluster.specs.State.{replica_count_of, log_size_of, max_records_of, max_leader_epoch_of, next_leader_epoch_of, next_record_id_of, request_at, replica_at}
use Rattle.cluster.specs.Predicates.{S1}
use Rattle.cluster.specs.Actions.{replica_presumes_leadership, replica_is_following, is_true_leader_tests, is_true_leader, is_follower_caught_up, epochs_used_up, request_missing, epoch_not_above, controller_shrink_isr_refusal, controller_elect_leader_refusal, leader_refusal, become_leader_refusal, become_follower_refusal, leader_write_refusal, leader_shrink_isr_refusal, leader_expand_isr_refusal, passes_test, member_passes, members_pass, leader_inc_high_watermark_refusal, follower_replicate_refusal}
use Rattle.cluster.specs.declared.Kind.{Kind}
use Rattle.cluster.specs.Act.{kind_of, uses, operand_bound, operand_bounds, operand_tests, operands_fit, table_refusal, action_refusal}

-- ---- operands
-- the replicas that a kind uses are below R
pub record Operands (c : Limits) (kind : Kind) (a b : ℕ) : Type 0 where
  pub a_below : (uses kind).a ≡ true → a < replica_count_of c
  pub b_below : (uses kind).b ≡ true → b < replica_count_of c

-- a number is below the bound of an operand: below its own bound where the operand is used, else 0
pub operand_iff : (used : Bool) (bound n : ℕ) → n < operand_bound used bound ↔ (used ≡ true → n < bound) × (used ≡ false → n ≡ 0)
unfolding operand_bound
operand_iff true bound n = ((λ l. ((λ u. l), (λ u. absurd (true_false u)))), (λ f. f.0 refl))
operand_iff false bound n = ((λ l. ((λ u. absurd (true_false (sym u))), (λ u. omega arith))), (λ f. let z = f.1 refl in omega arith))

pub operands_of : (c : Limits) (action : Action) → operands_fit c action ≡ true → (kind : Kind) → kind_of action.kind ≡ kind
    → Operands c kind action.a action.b
unfolding operands_fit operand_bounds
operands_of c action h kind e =
    let t = every_at (operand_tests c action) h in
    rw (← e)
    (record {
      a_below = ((operand_iff (uses (kind_of action.kind)).a (replica_count_of c) action.a).0 (ltb-true action.a _ (t 0))).0;
      b_below = ((operand_iff (uses (kind_of action.kind)).b (replica_count_of c) action.b).0 (ltb-true action.b _ (t 1))).0;
    })

-- an accepted action has operands that fit, and the table refuses nothing
pub action_accepted : (s : State) (action : Action) → action_refusal s action ≡ accepted
    → (operands_fit s.limits action ≡ true) × (table_refusal (kind_of action.kind) s action.a action.b action.e ≡ accepted)
unfolding action_refusal
action_accepted s action h =
    let p = refuse_zero _ _ _ (refuse_zero _ _ _ h).1 in
    (not-false _ p.0, p.1)

-- ---- the source's tests
pub presumes_itself : (s : State) (a : ℕ) → replica_presumes_leadership s a ≡ true → (replica_at s a).leader ≡ Some a
unfolding replica_presumes_leadership
presumes_itself s a h = (names_iff (replica_at s a).leader a).0 h

-- a true leader: it presumes, the quorum names it, and its epoch is the quorum's
pub record TrueLeader (s : State) (a : ℕ) : Type 0 where
  pub itself : (replica_at s a).leader ≡ Some a
  pub quorum : s.quorum.leader ≡ Some a
  pub epoch : (replica_at s a).epoch ≡ s.quorum.epoch

pub true_leader : (s : State) (a : ℕ) → is_true_leader s a ≡ true → TrueLeader s a
unfolding is_true_leader
true_leader s a h =
    let t = every_at (is_true_leader_tests s a) h in
    record {
      itself = presumes_itself s a (t 0);
      quorum = (names_iff s.quorum.leader a).0 (t 1);
      epoch = same_epoch_true (replica_at s a).epoch s.quorum.epoch (t 2);
    }

-- an epoch is left: the next epoch is below X+1
abbrev pub EpochLeft : State → Type 0
EpochLeft s = next_leader_epoch_of s < max_leader_epoch_of s.limits + 1

epoch_left_iff : (s : State) → S1 s → epochs_used_up s ≡ false ↔ EpochLeft s
unfolding epochs_used_up
epoch_left_iff s one = (
  (λ h. omega (arith, one.epochs, eqb-false (next_leader_epoch_of s) (max_leader_epoch_of s.limits + 1) h)),
  (λ l. ne_eqb (next_leader_epoch_of s) (max_leader_epoch_of s.limits + 1) (omega (arith, l))),
)

-- ---- the table, by kind: an action is accepted exactly where the state is so
module _ (s : State) where
  -- the request of epoch e was sent
  pub request-sent : (e : ℕ) → request_missing s e ≡ false → e < next_leader_epoch_of s
  unfolding request_missing
  request-sent e h = leb-false (next_leader_epoch_of s) e h

  request_there : (e : ℕ) → e < next_leader_epoch_of s → request_missing s e ≡ false
  unfolding request_missing
  request_there e l = lt-leb (next_leader_epoch_of s) e l

  pub controller_shrink_accepted : (a : ℕ) → S1 s
      → controller_shrink_isr_refusal s a ≡ accepted ↔ (member s.quorum.isr a ≡ true) × EpochLeft s
  unfolding controller_shrink_isr_refusal
  controller_shrink_accepted a one = (
    (λ h. let p = refuse_zero _ _ _ h in (not-false _ p.0, (epoch_left_iff s one).0 (refuse_zero _ _ _ p.1).0)),
    (λ t. refuse_none _ _ _ (ap not t.0) (refuse_none _ _ _ ((epoch_left_iff s one).1 t.1) refl)),
  )

  pub elect_accepted : (a : ℕ) → S1 s
      → controller_elect_leader_refusal s a ≡ accepted ↔ (member s.quorum.isr a ≡ true) × (names s.quorum.leader a ≡ false) × EpochLeft s
  unfolding controller_elect_leader_refusal
  elect_accepted a one = (
    (λ h.
        let p = refuse_zero _ _ _ h in
        let q = refuse_zero _ _ _ p.1 in
        (not-false _ p.0, q.0, (epoch_left_iff s one).0 (refuse_zero _ _ _ q.1).0)),
    (λ t. refuse_none _ _ _ (ap not t.0) (refuse_none _ _ _ t.1 (refuse_none _ _ _ ((epoch_left_iff s one).1 t.2) refl))),
  )

  pub become_leader_accepted : (e : ℕ)
      → become_leader_refusal s e ≡ accepted ↔ (e < next_leader_epoch_of s) × (leader_refusal s e (request_at s e).leader ≡ accepted)
  unfolding become_leader_refusal
  become_leader_accepted e = (
    (λ h. let p = refuse_zero _ _ _ h in (request-sent e p.0, p.1)),
    (λ t. refuse_none _ _ _ (request_there e t.0) t.1),
  )

  pub become_follower_accepted : (a e : ℕ)
      → become_follower_refusal s a e ≡ accepted
      ↔ (e < next_leader_epoch_of s) × (names (request_at s e).leader a ≡ false) × (epoch_not_above s a e ≡ false)
  unfolding become_follower_refusal
  become_follower_accepted a e = (
    (λ h.
        let p = refuse_zero _ _ _ h in
        let q = refuse_zero _ _ _ p.1 in
        (request-sent e p.0, q.0, (refuse_zero _ _ _ q.1).0)),
    (λ t. refuse_none _ _ _ (request_there e t.0) (refuse_none _ _ _ t.1 (refuse_none _ _ _ t.2 refl))),
  )

  -- a may write
  pub record Writes (a : ℕ) : Type 0 where
    pub presumes : replica_presumes_leadership s a ≡ true
    pub id : next_record_id_of s < max_records_of s.limits
    pub room : (replica_at s a).end < log_size_of s.limits

  pub write_accepted : (a : ℕ) → leader_write_refusal s a ≡ accepted ↔ Writes a
  unfolding leader_write_refusal
  write_accepted a = (
    (λ h.
        let p = refuse_zero _ _ _ h in
        let q = refuse_zero _ _ _ p.1 in
        record { presumes = not-false _ p.0; id = leb-false _ _ q.0; room = leb-false _ _ (refuse_zero _ _ _ q.1).0 }),
    (λ t.
        refuse_none _ _ _ (ap not t.presumes)
        (refuse_none _ _ _ (lt-leb (max_records_of s.limits) (next_record_id_of s) t.id)
        (refuse_none _ _ _ (lt-leb (log_size_of s.limits) (replica_at s a).end t.room) refl))),
  )

  -- a may take b out of its ISR
  pub record Shrinks (a b : ℕ) : Type 0 where
    pub other : a ≡ b → ⊥
    pub leads : is_true_leader s a ≡ true
    pub inside : member (replica_at s a).isr b ≡ true
    pub behind : is_follower_caught_up s a b (replica_at s a).end ≡ false

  pub leader_shrink_accepted : (a b : ℕ) → leader_shrink_isr_refusal s a b ≡ accepted ↔ Shrinks a b
  unfolding leader_shrink_isr_refusal
  leader_shrink_accepted a b = (
    (λ h.
        let p = refuse_zero _ _ _ h in
        let q = refuse_zero _ _ _ p.1 in
        let v = refuse_zero _ _ _ q.1 in
        record {
          other = eqb-false a b p.0;
          leads = not-false _ q.0;
          inside = not-false _ v.0;
          behind = (refuse_zero _ _ _ v.1).0;
        }),
    (λ t.
        refuse_none _ _ _ (ne_eqb a b t.other)
        (refuse_none _ _ _ (ap not t.leads) (refuse_none _ _ _ (ap not t.inside) (refuse_none _ _ _ t.behind refl)))),
  )

  -- a may take b into its ISR
  pub record Expands (a b : ℕ) : Type 0 where
    pub leads : is_true_leader s a ≡ true
    pub outside : member (replica_at s a).isr b ≡ false
    pub caught : is_follower_caught_up s a b (replica_at s a).hw ≡ true

  pub leader_expand_accepted : (a b : ℕ) → leader_expand_isr_refusal s a b ≡ accepted ↔ Expands a b
  unfolding leader_expand_isr_refusal
  leader_expand_accepted a b = (
    (λ h.
        let p = refuse_zero _ _ _ h in
        let q = refuse_zero _ _ _ p.1 in
        record { leads = not-false _ p.0; outside = q.0; caught = not-false _ (refuse_zero _ _ _ q.1).0 }),
    (λ t. refuse_none _ _ _ (ap not t.leads) (refuse_none _ _ _ t.outside (refuse_none _ _ _ (ap not t.caught) refl))),
  )

  pub advance_accepted : (a : ℕ)
      → leader_inc_high_watermark_refusal s a ≡ accepted
      ↔ (replica_presumes_leadership s a ≡ true) × (members_pass IsFollowing s a ≡ true) × (members_pass HasOffset s a ≡ true)
  unfolding leader_inc_high_watermark_refusal
  advance_accepted a = (
    (λ h.
        let p = refuse_zero _ _ _ h in
        let q = refuse_zero _ _ _ p.1 in
        (not-false _ p.0, not-false _ q.0, not-false _ (refuse_zero _ _ _ q.1).0)),
    (λ t. refuse_none _ _ _ (ap not t.0) (refuse_none _ _ _ (ap not t.1) (refuse_none _ _ _ (ap not t.2) refl))),
  )

  -- where a leads itself it is in its own ISR (S5), so that an accepted advance says that it has the offset of its high watermark
  pub own_hw : (a : ℕ) → a < replica_count_of s.limits → ((replica_at s a).leader ≡ Some a → member (replica_at s a).isr a ≡ true)
      → leader_inc_high_watermark_refusal s a ≡ accepted → (replica_at s a).hw < (replica_at s a).end
  unfolding member_passes passes_test
  own_hw a l own h =
      let t = (advance_accepted a).0 h in
      ltb-true (replica_at s a).hw (replica_at s a).end
      (implied (member (replica_at s a).isr a) _ (all_at _ (member_passes HasOffset s a) t.2 a l) (own (presumes_itself s a t.0)))

  -- a may replicate from b
  pub record Replicates (a b : ℕ) : Type 0 where
    pub presumes : replica_presumes_leadership s b ≡ true
    pub follows : replica_is_following s a b ≡ true
    pub behind : (replica_at s a).end < (replica_at s b).end

  pub replicate_accepted : (a b : ℕ) → follower_replicate_refusal s a b ≡ accepted ↔ Replicates a b
  unfolding follower_replicate_refusal
  replicate_accepted a b = (
    (λ h.
        let p = refuse_zero _ _ _ h in
        let q = refuse_zero _ _ _ p.1 in
        record {
          presumes = not-false _ p.0;
          follows = not-false _ q.0;
          behind = ltb-true _ _ (not-false _ (refuse_zero _ _ _ q.1).0);
        }),
    (λ t.
        refuse_none _ _ _ (ap not t.presumes)
        (refuse_none _ _ _ (ap not t.follows)
        (refuse_none _ _ _ (ap not (lt-ltb (replica_at s a).end (replica_at s b).end t.behind)) refl))),
  )
