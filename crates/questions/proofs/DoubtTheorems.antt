-- Where weak or strong ISR held before an accepted action, it holds after it exactly where the narrow test does, which asks about
-- what is in doubt alone; and no kind but 2 and 7 exposes more, or another record id. Assumes nothing.
--
--   HoldsInDoubt d property s                  the property holds of all that is in doubt
--   Exposes s id                               a presuming replica has a record of this id below its high watermark
--   in_doubt_iff                               the narrow test says HoldsInDoubt
--   narrow_decides                             where the property held and only what is in doubt is new, the narrow test decides
--   holds_after                                so it does after an accepted action on a tidy state that meets the rules
--   reads_within                               what the test reads of the next state is there
--   exposes_no_more, exposes_no_other          an action of any kind but 2 and 7 exposes no more, and no other record id
--   holds_after_cut                            holds_after for kind 3, whatever offset the log is cut to
--   cut_exposes_no_more, cut_exposes_no_other  kind 3 exposes no more, and no other record id, whatever the offset
--   act_holds_after                            holds_after for any state that accepts the action, tidy or not
use Rattle.std.specs.Prelude.{ℕ, ◌≤◌, ◌<◌, ◌≡◌, Bool, ◌||◌, cond, ◌↔◌, ◌⊎◌, Some}
use Rattle.std.proofs.Math.Path.{refl}
use Rattle.std.proofs.Common.{sym, ◌∙◌, ap, inl, inr, arith, le-ltb, ltb-false}
use Rattle.std.proofs.Math.Bool.{true, false}
use Rattle.std.proofs.Math.Dec.{ltb}
use Rattle.logic.specs.Tests.{all_at, all_by, either, bool_ext}
use Rattle.parts.specs.Refusal.{accepted}
use Rattle.parts.specs.Isr.{member}
use Rattle.parts.specs.LeaderLaws.{names_iff}
use Rattle.replica.specs.declared.Record.{Record}
use Rattle.replica.specs.Replica.{record_at}
use Rattle.replica.specs.Log.{hold_same_record}
use Rattle.cluster.specs.declared.Quorum.{Quorum}
use Rattle.cluster.specs.declared.State.{State}
use Rattle.cluster.specs.declared.Action.{Action}
use Rattle.cluster.specs.State.{replica_count_of, replica_at, tidy}
use Rattle.cluster.specs.Equality.{tidy_same, tidy_twice}
use Rattle.cluster.specs.Unused.{rules_tidy}
use Rattle.cluster.specs.Rules.{rules}
use Rattle.cluster.specs.Predicates.{Rules, rules_iff}
use Rattle.cluster.specs.Actions.{replica_presumes_leadership, become_follower_refusal, become_follower_at}
use Rattle.cluster.specs.Act.{kind_of, action_refusal, effect, act}
use Rattle.cluster.specs.ActLaws.{accepts}
use Rattle.cluster.specs.Accepted.{Operands, operands_of, action_accepted, presumes_itself, become_follower_accepted}
use Rattle.actions.specs.Sound.{Sound, sound_of}
use Rattle.actions.specs.Kinds.{become_follower_at_sound}
use Rattle.actions.specs.Kept.{Kept, effect_kept}
use Rattle.questions.specs.declared.Property.{Property}
use Rattle.questions.specs.Answer.{IsrAnswer}
use Rattle.questions.specs.declared.doubt.Doubt.{Doubt}
use Rattle.questions.specs.Isr.{isr_asked, ask_isr}
use Rattle.questions.specs.IsrLaws.{below_cond, asked_of}
use Rattle.questions.specs.IsrTheorems.{HoldSameRecord, Asked, Holds, hold_same_at_iff, asked_member, isr_says, isr_same}
use Rattle.questions.specs.Exposed.{exposed, exposed_at, exposed_by}
use Rattle.questions.specs.Doubt.{cut_doubt, InDoubt, ReadsWithin, doubt_after_action, agree_from, offsets_in_doubt, pair_agrees, leader_agrees, holds_in_doubt, holds_after_action, exposes_more}
use Rattle.questions.proofs.DoubtLaws.{Stays, NoMoreExposed, Asks, OnlyInDoubt, follower_in_doubt, kind_in_doubt, cut_exposed, kind_exposed, request_kept, hw_raised}

-- the property holds of all that is in doubt
abbrev pub HoldsInDoubt : Doubt → Property → State → Type 0
HoldsInDoubt d property s = (r m x : ℕ) → InDoubt d r m x → Asked property s r m x → HoldSameRecord s r m x

-- a presuming replica has a record of this id at an offset below its high watermark
pub record Exposes (s : State) (id : ℕ) : Type 0 where
  pub leader : ℕ
  pub offset : ℕ
  pub replica : leader < replica_count_of s.limits
  pub presumes : (replica_at s leader).leader ≡ Some leader
  pub below : offset < (replica_at s leader).hw
  pub has : offset < (replica_at s leader).end
  pub is : (record_at (replica_at s leader) offset).id ≡ id

-- ---- the test of what is in doubt
below_unless : (b : Bool) (n m : ℕ) → m < cond b 0 n → (b ≡ false) × (m < n)
below_unless true n m l = absurd (omega arith)
below_unless false n m l = (refl, l)

module _ (d : Doubt) (property : Property) (s : State) (h : rules s ≡ true) where
  abbrev R : ℕ
  R = replica_count_of s.limits

  -- what is in doubt and asked about is looked at, and the other way round
  in_doubt_looked_at : (r m x : ℕ) → InDoubt d r m x → Asked property s r m x → x < offsets_in_doubt d property s r m
  unfolding offsets_in_doubt replica_presumes_leadership
  in_doubt_looked_at r m x i a = rw (i.leader, (names_iff (replica_at s r).leader r).1 a.presumes, i.unknown, a.member) a.offset

  looked_at_in_doubt : (r m x : ℕ) → r < R → x < offsets_in_doubt d property s r m → d.from ≤ x → InDoubt d r m x × Asked property s r m x
  unfolding offsets_in_doubt
  looked_at_in_doubt r m x l k from =
      let led = below_cond (member d.leaders r) _ x k in
      let presuming = below_cond (replica_presumes_leadership s r) _ x led.1 in
      let unknown = below_unless (member d.agreeing m) _ x presuming.1 in
      let asked = below_cond (member (isr_asked property s r) m) (replica_at s r).hw x unknown.1 in (
        record { leader = led.0; unknown = unknown.0; from = from },
        record { replica = l; presumes = presumes_itself s r presuming.0; member = asked.0; offset = asked.1 },
      )

  same_from : HoldsInDoubt d property s → (r m x : ℕ) → r < R → m < R → x < offsets_in_doubt d property s r m
      → agree_from d.from (replica_at s r) (replica_at s m) x ≡ true
  unfolding agree_from
  same_from f r m x l k u = go (ltb x d.from) refl
    where
      go : (b : Bool) → ltb x d.from ≡ b → b || hold_same_record (replica_at s r) (replica_at s m) x ≡ true
      go true e = refl
      go false e =
          let a = looked_at_in_doubt r m x l u (ltb-false x d.from e) in
          (hold_same_at_iff s r m x l k).1 (f r m x a.0 a.1)

  pub in_doubt_iff : holds_in_doubt d property s ≡ true ↔ HoldsInDoubt d property s
  unfolding holds_in_doubt leader_agrees pair_agrees agree_from
  in_doubt_iff = (
    (λ e r m x i a.
        let k = asked_member property s h r m x a in
        let at = all_at _ (agree_from d.from (replica_at s r) (replica_at s m))
        (all_at R (pair_agrees d property s r) (all_at R (leader_agrees d property s) e r a.replica) m k) x (in_doubt_looked_at r m x i a) in
        (hold_same_at_iff s r m x a.replica k).0 (either (ltb x d.from) _ at (le-ltb x d.from i.from))),
    (λ f.
        all_by R (leader_agrees d property s)
        (λ r l.
        all_by R (pair_agrees d property s r)
        (λ m k. all_by _ (agree_from d.from (replica_at s r) (replica_at s m)) (λ x u. same_from f r m x l k u)))),
  )

-- ---- what held before, and what is in doubt: s before, t after
module _ (property : Property) (d : Doubt) (s t : State) (h : rules s ≡ true) (k : rules t ≡ true) (limits : t.limits ≡ s.limits)
    (each : (i : ℕ) → i < replica_count_of s.limits → OnlyInDoubt property d s.quorum.isr t.quorum.isr (replica_at s i) (replica_at t i) i)
  where
    met : Rules s
    met = (rules_iff s).0 h

    below : (i : ℕ) → i < replica_count_of t.limits → i < replica_count_of s.limits
    below i l = rw limits at l

    above : (i : ℕ) → i < replica_count_of s.limits → i < replica_count_of t.limits
    above i l = rw limits l

    asks_of : (r m x : ℕ) → Asked property t r m x → Asks property t.quorum.isr (replica_at t r) r m x
    asks_of r m x a = record { presumes = a.presumes; member = rw (asked_of property t r) at a.member; offset = a.offset }

    asked_by : (r m x : ℕ) → r < replica_count_of s.limits → Asks property s.quorum.isr (replica_at s r) r m x → Asked property s r m x
    asked_by r m x l a =
        record { replica = l; presumes = a.presumes; member = rw (asked_of property s r) a.member; offset = a.offset }

    -- a record that both held, in logs that stay
    same_record_stays : (r m x : ℕ) → HoldSameRecord s r m x → Stays (replica_at s r) (replica_at t r) x → Stays (replica_at s m) (replica_at t m) x
        → HoldSameRecord t r m x
    same_record_stays r m x same u v =
        let p = u same.leader.offset in
        let q = v same.member.offset in
        record {
          leader = record { replica = above r same.leader.replica; offset = p.0 };
          member = record { replica = above m same.member.replica; offset = q.0 };
          record_same = p.1 ∙ same.record_same ∙ sym q.1;
        }

    -- what is not in doubt stays
    holds_by : Holds property s → HoldsInDoubt d property t → Holds property t
    holds_by held rest r m x a = go ((each r l).asks m x (asks_of r m x a))
      where
        l : r < replica_count_of s.limits
        l = below r a.replica

        by_member_log : Stays (replica_at s r) (replica_at t r) x → HoldSameRecord s r m x
            → ((j : ℕ) → j < 5 → InDoubt d j m x) ⊎ Stays (replica_at s m) (replica_at t m) x → HoldSameRecord t r m x
        by_member_log u same (inl f) = rest r m x (f r (omega (arith, l, met.s1.ranges.replicas))) a
        by_member_log u same (inr v) = same_record_stays r m x same u v

        go : InDoubt d r m x ⊎ Asks property s.quorum.isr (replica_at s r) r m x × Stays (replica_at s r) (replica_at t r) x → HoldSameRecord t r m x
        go (inl i) = rest r m x i a
        go (inr (b, u)) = let same = held r m x (asked_by r m x l b) in by_member_log u same ((each m same.member.replica).log x)

    -- so the narrow test decides
    pub narrow_decides : (ask_isr property s).holds ≡ true → (ask_isr property t).holds ≡ holds_in_doubt d property t
    narrow_decides held =
        let after = (isr_says property t k).holds in
        let doubt = in_doubt_iff d property t k in
        bool_ext _ _
        (λ e. doubt.1 (λ r m x i. after.0 e r m x))
        (λ e. after.1 (holds_by ((isr_says property s h).holds.0 held) (doubt.0 e)))

-- ---- what is exposed: s before, t after
module _ (s t : State) (met : Rules s) (limits : t.limits ≡ s.limits)
    (each : (i : ℕ) → i < replica_count_of s.limits → NoMoreExposed (replica_at s i) (replica_at t i) i)
  where
    no_more : (r : ℕ) → r < replica_count_of t.limits → NoMoreExposed (replica_at s r) (replica_at t r) r
    no_more r l = each r (rw limits at l)

    exposed_by_each : exposed t ≤ exposed s
    unfolding replica_presumes_leadership
    exposed_by_each =
        exposed_by t (exposed s)
        (λ r l e.
        let q = no_more r l in
        let led = (names_iff (replica_at t r).leader r).0 e in
        omega (arith, q.hw led, exposed_at s r (rw limits at l) ((names_iff (replica_at s r).leader r).1 (q.leads led))))

    exposes_by_each : (id : ℕ) → Exposes t id → Exposes s id
    exposes_by_each id x =
        let q = no_more x.leader x.replica in
        let l : x.leader < replica_count_of s.limits = rw limits at x.replica in
        let below : x.offset < (replica_at s x.leader).hw = omega (arith, q.hw x.presumes, x.below) in
        let has : x.offset < (replica_at s x.leader).end = omega (arith, below, (met.s5 x.leader l).hw) in
        record {
          leader = x.leader;
          offset = x.offset;
          replica = l;
          presumes = q.leads x.presumes;
          below = below;
          has = has;
          is = ap (λ (w : Record). w.id) (sym (q.log x.presumes x.offset has).1) ∙ x.is;
        }

-- ---- an accepted action on a state that meets the rules and is tidy
module _ (s : State) (action : Action) (h : rules s ≡ true) (tidied : tidy s ≡ s) (ok : action_refusal s action ≡ accepted) where
  abbrev next : State
  next = effect s action

  sound : Sound s.limits s
  sound = sound_of s h tidied

  kept : Kept s next
  kept = effect_kept s action h tidied ok

  -- where the property held, it holds next exactly where the narrow test does
  pub holds_after : (property : Property) → (ask_isr property s).holds ≡ true
      → (ask_isr property next).holds ≡ holds_after_action property s.quorum.isr next action
  unfolding effect
  holds_after property =
      let p = action_accepted s action ok in
      narrow_decides property (doubt_after_action property s.quorum.isr next action) s next h kept.rules kept.limits
      (kind_in_doubt s.limits s sound (kind_of action.kind) action.a action.b action.e
      (operands_of s.limits action p.0 (kind_of action.kind) refl) p.1 property)

  operands : Operands s.limits (kind_of action.kind) action.a action.b
  operands = operands_of s.limits action (action_accepted s action ok).0 (kind_of action.kind) refl

  below_five : (i : ℕ) → i < replica_count_of s.limits → i < 5
  below_five i l = omega (arith, sound.rules.s1.ranges.replicas)

  -- what the code reads of the next state is there
  pub reads_within : ReadsWithin next action
  unfolding effect
  reads_within =
      record {
        a_below = λ u. below_five action.a (operands.a_below u);
        b_below = λ u. below_five action.b (operands.b_below u);
        sent = λ k. request_kept s.limits s sound (kind_of action.kind) k action.a action.b action.e (action_accepted s action ok).1;
        raised = λ k. hw_raised s.limits s sound (kind_of action.kind) k action.a action.b action.e operands;
      }

  -- ---- a kind that is neither 2 nor 7 exposes no more, and no other record id
  module _ (less : exposes_more action.kind ≡ false) where
    no_more_each : (r : ℕ) → r < replica_count_of s.limits → NoMoreExposed (replica_at s r) (replica_at next r) r
    unfolding effect
    no_more_each = kind_exposed s.limits s sound (kind_of action.kind) action.a action.b action.e (action_accepted s action ok).1 less

    pub exposes_no_more : exposed next ≤ exposed s
    exposes_no_more = exposed_by_each s next sound.rules kept.limits no_more_each

    pub exposes_no_other : (id : ℕ) → Exposes next id → Exposes s id
    exposes_no_other = exposes_by_each s next sound.rules kept.limits no_more_each

-- ---- kind 3, whatever offset the log is cut to
module _ (s : State) (h : rules s ≡ true) (tidied : tidy s ≡ s) (a e offset : ℕ) (replica : a < replica_count_of s.limits)
    (ok : become_follower_refusal s a e ≡ accepted)
  where
    abbrev cut : State
    cut = become_follower_at s a e offset

    cut_sound : Sound s.limits cut
    cut_sound = become_follower_at_sound s.limits s (sound_of s h tidied) a e offset replica ((become_follower_accepted s a e).0 ok).0

    -- where the property held, it holds after the cut exactly where every leader agrees with a from the end of a's log on
    pub holds_after_cut : (property : Property) → (ask_isr property s).holds ≡ true → (ask_isr property cut).holds ≡ holds_in_doubt (cut_doubt cut a) property cut
    holds_after_cut property =
        narrow_decides property (cut_doubt cut a) s cut h ((rules_iff cut).1 cut_sound.rules) cut_sound.limits
        (follower_in_doubt s.limits s (sound_of s h tidied) property a e offset replica ((become_follower_accepted s a e).0 ok).1)

    -- and it exposes no more, and no other record id
    no_more_after_cut : (i : ℕ) → i < replica_count_of s.limits → NoMoreExposed (replica_at s i) (replica_at cut i) i
    no_more_after_cut = cut_exposed s.limits s (sound_of s h tidied) a e offset ((become_follower_accepted s a e).0 ok).1

    pub cut_exposes_no_more : exposed cut ≤ exposed s
    cut_exposes_no_more = exposed_by_each s cut ((rules_iff s).0 h) cut_sound.limits no_more_after_cut

    pub cut_exposes_no_other : (id : ℕ) → Exposes cut id → Exposes s id
    cut_exposes_no_other = exposes_by_each s cut ((rules_iff s).0 h) cut_sound.limits no_more_after_cut

-- ---- an action on any state starts from the tidy state, of which the property holds exactly where it holds of the state
pub act_holds_after : (s : State) (action : Action) → (act s action).refusal ≡ accepted → (property : Property) → (ask_isr property s).holds ≡ true
    → (ask_isr property (act s action).state).holds ≡ holds_after_action property s.quorum.isr (act s action).state action
act_holds_after s action ok property held =
    let a = accepts s action ok in
    let held_tidy : (ask_isr property (tidy s)).holds ≡ true =
    ap (λ (i : IsrAnswer). i.holds) (isr_same property (tidy s) s (tidy_same s)) ∙ held in
    rw a.next
    (holds_after (tidy s) action (rules_tidy s ∙ a.met) (tidy_twice s) a.unrefused property held_tidy
    ∙ ap (λ (q : Quorum). holds_after_action property q.isr (effect (tidy s) action) action) (tidy_same s).quorum)
