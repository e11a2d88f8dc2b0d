-- What the answers on weak and strong ISR say: "holds" exactly where the property holds, and otherwise a failure with none
-- smaller; both hold of the fresh state. Assumes nothing.
--
--   HoldSameRecord s r m x        the logs of r and m have offset x, and the same record there
--   Asked property s r m x        r presumes, m is in the ISR asked about, and x is below the hw of r
--   Holds property s              the property: what is asked about is the same record
--   SmallestFailure property s t  the triple t is asked about and fails, and none before it does
--   hold_same_at_iff              the test of two logs at an offset says HoldSameRecord
--   asked_member                  a member that is asked about is one of the replicas
--   Says property s h a           what an answer a on a state that meets the rules says
--   check_is_ask                  of such a state, the answer without the test of the rules is the same
--   isr_says                      the answer on such a state says so
--   weak-holds, strong-holds      weak and strong ISR hold exactly where the paper's sentence does, written out
--   isr_broken                    a state that breaks a rule gets its number, with zeros beside it
--   isr_number, isr_listed        the number is that of the state, so it is 0 or one of the state's
--   isr_same                      equal states get equal answers
--   fresh_nobody_presumes         in a fresh state no replica presumes
--   fresh_holds                   so both properties hold of it
use Prim.Native.Nat.{ℕ, ◌<◌, ◌^◌}
use Rattle.std.specs.Prelude.{◌≡◌, Bool, cond, ◌∷◌, ◌↔◌, Some}
use Rattle.std.proofs.Math.Path.{refl, ap, subst}
use Rattle.std.proofs.Common.{sym, ◌∙◌, arith}
use Rattle.std.proofs.Math.Bool.{true, false, not}
use Rattle.std.proofs.Math.Option.{Option, none, some}
use borrow.Author.Tests.{not-true, not-false}
use Rattle.logic.specs.Tests.{and_left, and_right, and_both, true_false}
use Rattle.logic.specs.Refuse.{by_accepted, by_refused, by_number, listed}
use Rattle.logic.specs.Search.{Triple, triple, Before, first_triple}
use Rattle.logic.proofs.SearchLaws.{first_triple_none, first_triple_some, first_triple_cong}
use Rattle.parts.specs.Refusal.{accepted}
use Rattle.parts.specs.Isr.{member}
use Rattle.parts.specs.IsrLaws.{member_within}
use Rattle.parts.specs.LeaderLaws.{names_iff}
use Rattle.replica.specs.Replica.{record_at, SameReplica}
use Rattle.replica.specs.Log.{hold_same_record}
use Rattle.replica.specs.LogLaws.{hold_same_record_iff, hold_same_record_same}
use Rattle.cluster.specs.declared.Limits.{Limits}
use Rattle.cluster.specs.declared.Quorum.{Quorum}
use Rattle.cluster.specs.declared.State.{State}
use Rattle.cluster.specs.State.{replica_count_of, replica_at, Same}
use Rattle.cluster.specs.Rules.{rules, state_refusal, state_numbers}
use Rattle.cluster.specs.RuleLaws.{ranges_of, met_refusal, broken_refusal, state_listed}
use Rattle.cluster.specs.Predicates.{Has, Rules, rules_iff}
use Rattle.cluster.specs.Unused.{rules_same, state_refusal_same}
use Rattle.cluster.specs.Actions.{replica_presumes_leadership}
use Rattle.cluster.specs.ActLaws.{replica_five, hw_small}
use Rattle.cluster.specs.Fresh.{fresh_state, fresh}
use Rattle.cluster.specs.FreshLaws.{fresh-replica, fresh_accepted, fresh_answer_rules}
use Rattle.questions.specs.declared.Property.{Property}
use Rattle.questions.specs.declared.Property.TheVariants.{WeakIsr, StrongIsr}
use Rattle.questions.specs.Answer.{IsrAnswer}
use Rattle.questions.specs.Isr.{isr_asked, is_asked, offsets_asked, differ_at, smallest_failure, isr_answer, isr_answer_of, check_isr, isr_refused, ask_isr, weak_isr, strong_isr}

-- ---- the property
-- the logs of r and m have offset x, and hold the same record there
pub record HoldSameRecord (s : State) (r m x : ℕ) : Type 0 where
  pub leader : Has s r x
  pub member : Has s m x
  pub record_same : record_at (replica_at s r) x ≡ record_at (replica_at s m) x

-- r presumes, m is a member of the ISR asked about, and the offset x is below r's hw
pub record Asked (property : Property) (s : State) (r m x : ℕ) : Type 0 where
  pub replica : r < replica_count_of s.limits
  pub presumes : (replica_at s r).leader ≡ Some r
  pub member : member (isr_asked property s r) m ≡ true
  pub offset : x < (replica_at s r).hw

-- "for every presuming r, every member m .. and every offset below r's hw, r and m hold the same record there"
abbrev pub Holds : Property → State → Type 0
Holds property s = (r m x : ℕ) → Asked property s r m x → HoldSameRecord s r m x

-- the triple fails, and none before it does
pub record SmallestFailure (property : Property) (s : State) (t : Triple) : Type 0 where
  pub asked : Asked property s t.first t.second t.third
  pub fails : HoldSameRecord s t.first t.second t.third → ⊥
  pub smallest : (u : Triple) → Before u t → Asked property s u.first u.second u.third → HoldSameRecord s u.first u.second u.third

-- ---- the test of two records
pub hold_same_at_iff : (s : State) (r m x : ℕ) → r < replica_count_of s.limits → m < replica_count_of s.limits
    → hold_same_record (replica_at s r) (replica_at s m) x ≡ true ↔ HoldSameRecord s r m x
hold_same_at_iff s r m x h k =
    let test = hold_same_record_iff (replica_at s r) (replica_at s m) x in (
      (λ e.
          let t = test.0 e in
          record { leader = record { replica = h; offset = t.0 }; member = record { replica = k; offset = t.1 }; record_same = t.2 }),
      (λ e. test.1 (e.leader.offset, e.member.offset, e.record_same)),
    )

-- ---- what is asked: the offsets of r and m that are compared are those asked about
module _ (property : Property) (s : State) (r m x : ℕ) (l : r < replica_count_of s.limits) where
  asked_by : (b : Bool) → is_asked property s r m ≡ b → x < cond b (replica_at s r).hw 0 → Asked property s r m x
  unfolding replica_presumes_leadership
  asked_by true e k =
      record {
        replica = l;
        presumes = (names_iff (replica_at s r).leader r).0 (and_left (replica_presumes_leadership s r) (member (isr_asked property s r) m) e);
        member = and_right (replica_presumes_leadership s r) (member (isr_asked property s r) m) e;
        offset = k;
      }
  asked_by false e k = absurd (omega arith)

  asked_iff : x < offsets_asked property s r m ↔ Asked property s r m x
  unfolding offsets_asked replica_presumes_leadership
  asked_iff = (
    asked_by (is_asked property s r m) refl,
    (λ a. rw (and_both ((names_iff (replica_at s r).leader r).1 a.presumes) a.member) a.offset),
  )

-- ---- the answer, for a state that meets the rules
module _ (property : Property) (s : State) (h : rules s ≡ true) where
  met : Rules s
  met = (rules_iff s).0 h

  -- the ISR asked about is within the replicas, so each of its members is one of them
  isr_within : (p : Property) (r : ℕ) → r < replica_count_of s.limits → isr_asked p s r < 2 ^ replica_count_of s.limits
  unfolding isr_asked
  isr_within WeakIsr r l = (met.s2.replicas r l).within
  isr_within StrongIsr r l = met.s2.quorum.within

  pub asked_member : (r m x : ℕ) → Asked property s r m x → m < replica_count_of s.limits
  asked_member r m x a =
      member_within (replica_count_of s.limits) (isr_asked property s r) met.s1.ranges.replicas (isr_within property r a.replica) m a.member

  -- what is asked about and does not differ is the same record
  same-by : (r m x : ℕ)
      → (r < replica_count_of s.limits → m < replica_count_of s.limits → x < offsets_asked property s r m → differ_at s r m x ≡ false)
      → Asked property s r m x → HoldSameRecord s r m x
  unfolding differ_at
  same-by r m x f a =
      let k = asked_member r m x a in
      (hold_same_at_iff s r m x a.replica k).0 (not-false _ (f a.replica k ((asked_iff property s r m x a.replica).1 a)))

  -- where no failure is found, the property holds
  failure_none : smallest_failure property s ≡ none → Holds property s
  unfolding smallest_failure
  failure_none e r m x = same-by r m x (first_triple_none _ _ (offsets_asked property s) (differ_at s) e r m x)

  -- one that is found is the smallest
  failure_some : (t : Triple) → smallest_failure property s ≡ some t → SmallestFailure property s t
  unfolding smallest_failure differ_at
  failure_some t e =
      let f = first_triple_some _ _ (offsets_asked property s) (differ_at s) t e in
      record {
        asked = (asked_iff property s t.first t.second t.third f.below.0).0 f.below.2;
        fails = λ q. true_false (sym ((hold_same_at_iff s t.first t.second t.third f.below.0 f.below.1).1 q) ∙ not-true _ f.passes);
        smallest = λ u b. same-by u.first u.second u.third (f.smallest u b);
      }

  -- what an answer says: its number is 0; it is "holds" exactly where the property holds, and then with zeros beside it;
  -- otherwise it names a failure with none smaller
  pub record Says (a : IsrAnswer) : Type 0 where
    pub number : a.refusal ≡ accepted
    pub holds : a.holds ≡ true ↔ Holds property s
    pub zeros : a.holds ≡ true → a ≡ isr_answer accepted true 0 0 0
    pub fails : a.holds ≡ false → SmallestFailure property s (triple a.leader a.member a.offset)

  says_by : (o : Option Triple) → smallest_failure property s ≡ o → Says (isr_answer_of o)
  unfolding isr_answer_of
  says_by none e =
      record { number = refl; holds = ((λ q. failure_none e), (λ q. refl)); zeros = λ q. refl; fails = λ q. absurd (true_false q) }
  says_by (some t) e =
      let f = failure_some t e in
      record {
        number = refl;
        holds = ((λ q. absurd (true_false (sym q))), (λ q. absurd (f.fails (q _ _ _ f.asked))));
        zeros = λ q. absurd (true_false (sym q));
        fails = λ q. f;
      }

  -- the answer without the test of the rules is the same
  pub check_is_ask : check_isr property s ≡ ask_isr property s
  unfolding ask_isr
  check_is_ask = by_accepted (state_refusal s) isr_refused (check_isr property s) (met_refusal s h)

  pub isr_says : Says (ask_isr property s)
  unfolding check_isr
  isr_says = subst Says check_is_ask (says_by (smallest_failure property s) refl)

isr_answer_number : (o : Option Triple) → (isr_answer_of o).refusal ≡ accepted
unfolding isr_answer_of
isr_answer_number none = refl
isr_answer_number (some t) = refl

-- the two properties written out
module _ (s : State) (h : rules s ≡ true) where
  written_out : (property : Property) → (ask_isr property s).holds ≡ true
      ↔ ((r m x : ℕ) → r < replica_count_of s.limits → (replica_at s r).leader ≡ Some r → member (isr_asked property s r) m ≡ true
      → x < (replica_at s r).hw → HoldSameRecord s r m x)
  written_out property =
      let p = (isr_says property s h).holds in (
        (λ e r m x l q i k. p.0 e r m x (record { replica = l; presumes = q; member = i; offset = k })),
        (λ f. p.1 (λ r m x a. f r m x a.replica a.presumes a.member a.offset)),
      )

  -- "for every presuming r, every member m of r's own ISR and every offset below r's hw, r and m hold the same record there"
  pub weak-holds : (weak_isr s).holds ≡ true
      ↔ ((r m x : ℕ) → r < replica_count_of s.limits → (replica_at s r).leader ≡ Some r → member (replica_at s r).isr m ≡ true
      → x < (replica_at s r).hw → HoldSameRecord s r m x)
  unfolding isr_asked
  weak-holds = written_out WeakIsr

  -- "the same with m from the quorum ISR"
  pub strong-holds : (strong_isr s).holds ≡ true
      ↔ ((r m x : ℕ) → r < replica_count_of s.limits → (replica_at s r).leader ≡ Some r → member s.quorum.isr m ≡ true
      → x < (replica_at s r).hw → HoldSameRecord s r m x)
  unfolding isr_asked
  strong-holds = written_out StrongIsr

-- a state that breaks a rule: its number, and zeros beside it
pub isr_broken : (property : Property) (s : State) → rules s ≡ false → ask_isr property s ≡ isr_refused (state_refusal s)
unfolding ask_isr
isr_broken property s h = sym (by_refused (state_refusal s) isr_refused (check_isr property s) (broken_refusal s h))

-- the number is that of the state, so it is 0 or one of the state's
pub isr_number : (property : Property) (s : State) → (ask_isr property s).refusal ≡ state_refusal s
unfolding ask_isr check_isr
isr_number property s =
    by_number (λ (a : IsrAnswer). a.refusal) (state_refusal s) isr_refused (check_isr property s) (λ k. refl)
    (isr_answer_number (smallest_failure property s))

pub isr_listed : (property : Property) (s : State) → listed (accepted ∷ state_numbers) (ask_isr property s).refusal ≡ true
isr_listed property s = ap (listed (accepted ∷ state_numbers)) (isr_number property s) ∙ state_listed s

-- ---- equal states get equal answers
module _ (s t : State) (m : Same s t) where
  isr_asked_same : (property : Property) (r : ℕ) → SameReplica (replica_at s r) (replica_at t r) → isr_asked property s r ≡ isr_asked property t r
  unfolding isr_asked
  isr_asked_same WeakIsr r q = q.isr
  isr_asked_same StrongIsr r q = ap (λ (v : Quorum). v.isr) m.quorum

  offsets_same : (property : Property) (r j : ℕ) → SameReplica (replica_at s r) (replica_at t r)
      → offsets_asked property s r j ≡ offsets_asked property t r j
  unfolding offsets_asked replica_presumes_leadership
  offsets_same property r j q = rw (q.leader, q.hw, isr_asked_same property r q)

  failure_same : (property : Property) → rules s ≡ true → smallest_failure property s ≡ smallest_failure property t
  unfolding smallest_failure differ_at
  failure_same property h =
      first_triple_cong n n (offsets_asked property s) (offsets_asked property t) (differ_at s) (differ_at t)
      (λ r j l k. offsets_same property r j (same r l))
      (λ r j x l k u.
      ap not
      (hold_same_record_same (replica_at s r) (replica_at s j) (replica_at t r) (replica_at t j) x
      (omega (arith, ((asked_iff property s r j x l).0 u).offset, hw_small s h r l)) (same r l) (same j k)))
      ∙ ap (λ (c : Limits). first_triple (replica_count_of c) (replica_count_of c) (offsets_asked property t) (differ_at t)) m.limits
    where
      n : ℕ
      n = replica_count_of s.limits

      same : (r : ℕ) → r < n → SameReplica (replica_at s r) (replica_at t r)
      same r l = m.replicas r (replica_five s h r l) l

pub isr_same : (property : Property) (s t : State) → Same s t → ask_isr property s ≡ ask_isr property t
unfolding check_isr
isr_same property s t m = go (rules s) refl
  where
    go : (b : Bool) → rules s ≡ b → ask_isr property s ≡ ask_isr property t
    go true e =
        sym (check_is_ask property s e)
        ∙ ap isr_answer_of (failure_same s t m property e)
        ∙ check_is_ask property t (sym (rules_same s t m) ∙ e)
    go false e =
        isr_broken property s e
        ∙ ap isr_refused (state_refusal_same s t m)
        ∙ sym (isr_broken property t (sym (rules_same s t m) ∙ e))

-- ---- the fresh state of an accepted configuration
-- no replica presumes leadership
pub fresh_nobody_presumes : (c : Limits) → (fresh c).refusal ≡ accepted → (r : ℕ) → r < replica_count_of c
    → replica_presumes_leadership (fresh c).state r ≡ false
unfolding replica_presumes_leadership
fresh_nobody_presumes c h r l =
    let p = fresh_accepted c h in
    rw (p.1, fresh-replica c r (omega (arith, (ranges_of c p.0).replicas)) l) refl

-- so weak ISR and strong ISR hold
pub fresh_holds : (property : Property) (c : Limits) → (fresh c).refusal ≡ accepted → ask_isr property (fresh c).state ≡ isr_answer accepted true 0 0 0
unfolding fresh_state replica_presumes_leadership
fresh_holds property c h =
    (isr_says property (fresh c).state met).zeros
    ((isr_says property (fresh c).state met).holds.1
    (λ r m x a.
    absurd (true_false (sym ((names_iff _ r).1 a.presumes) ∙ fresh_nobody_presumes c h r (rw (fresh_accepted c h).1 at a.replica)))))
  where
    met : rules (fresh c).state ≡ true
    met = fresh_answer_rules c h
