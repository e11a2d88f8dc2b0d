-- The three demands, in their own order and words. Each is one statement over every state, action, row of bytes and renaming that
-- it speaks of; below it stands its proof, which cites. The contract of each entry point is an equation with one of these
-- definitions, for every input, or says that it replies what such an answer gives (`Replies`, `number_and_member` and
-- `number_and_length`, of the C interface); so what holds of the definitions holds of what the library answers. That the functions
-- end and are safe is part of their proofs. A state, action or buffer is any value of its type, and bytes are any list of numbers;
-- where only numbers below 256 are meant, `Bytes` says so. Assumes nothing.
--
--   Demand1                                       every input gets an answer; what a refusal gives back and leaves
--     fresh_answers .. representative_answers     every answer has 0 or a number of its list
--     fresh_in_range .. representative_by_state   which input is refused
--     state_rules .. broken_representative        what is answered of a state that breaks a rule
--     names_smallest_member .. interface_names_smallest  the member that an action's answer names, and replay_act
--     action_gives_back .. interface_leaves       what stands beside a refusal: the state as given, zeros, the buffer as it was
--     run_answers .. run_zeros                    the same of a run
--   Demand2                                       actions, images and verdicts are those of the model and of the rules
--     accepted_where_allowed .. one_meaning       an action is accepted exactly when the model allows it; the next state
--     image_is_bytes .. no_other_bytes            a state has one image, and no other bytes are read as it
--     opens .. stops_rightly                      how a run opens, goes on, ends or is refused
--     weak_never_fails .. exposed_most            weak, strong and exposed, over the states of a run
--   Demand3                                       replica numbers are only names
--     is_a_renaming .. rest_stays                 what a renaming is, and what it does to a state
--     representatives .. least_image              when two representatives are equal, and which state is one
--     actions, members, renaming_is               a renamed action on a renamed state, and the member it names; what renaming answers
--     runs                                        a run renamed throughout
--   demand_1, demand_2, demand_3                  their proofs
use Rattle.std.specs.Prelude.{ℕ, suc, ◌≤◌, ◌<◌, ◌+◌, ◌*◌, ◌≡◌, refl, true, false, not, List, ◌∷◌, ◌++◌, ◌↔◌, ◌⊎◌, ltb, length, drop, get_or}
use Rattle.std.proofs.Common.{sym, ap, ◌∙◌, arith}
use Rattle.logic.specs.Tests.{refuted_iff}
use Rattle.logic.specs.Order.{precedes}
use Rattle.logic.specs.Refuse.{refuse, listed}
use Rattle.parts.specs.Refusal.{accepted, wrong_mark, too_short, bad_configuration, run_too_long, buffer_short, not_renaming, breaks_s1, member_not_following, member_lacks_offset}
use Rattle.parts.specs.Mark.{marked}
use Rattle.parts.specs.Isr.{member}
use Rattle.parts.specs.Bytes.{Bytes}
use Rattle.cluster.specs.declared.Limits.{Limits}
use Rattle.cluster.specs.declared.State.{State}
use Rattle.cluster.specs.declared.Action.{Action}
use Rattle.cluster.specs.declared.MemberTest.{MemberTest}
use Rattle.cluster.specs.State.{limits_of, replica_count_of, replica_at, Same, tidy, zero_state, next_leader_epoch_of, next_record_id_of, request_at}
use Rattle.cluster.specs.Outcome.{answer, with_zeros, as_given}
use Rattle.cluster.specs.Rules.{in_range, rules, state_refusal, state_numbers}
use Rattle.cluster.specs.RuleLaws.{broken_refusal, broken_listed_iff}
use Rattle.cluster.specs.Predicates.{Rules, rules_iff}
use Rattle.cluster.specs.Equality.{tidy_same}
use Rattle.cluster.specs.Fresh.{fresh_state, fresh}
use Rattle.cluster.specs.FreshLaws.{fresh_numbers, fresh_listed, fresh_refused_zero, fresh_in, fresh_out}
use Rattle.cluster.specs.Actions.{replica_presumes_leadership}
use Rattle.cluster.specs.Act.{action_answer, without_member, refused_on, act}
use Rattle.actions.specs.Kept.{Kept, act_kept}
use Rattle.actions.specs.MemberNamed.{test_number, SmallestMember, member_none}
use Rattle.actions.proofs.NamedMember.{member-named}
use Rattle.actions.specs.Answers.{action_numbers, act_number, act_given, act_unmet}
use Rattle.actions.proofs.ActionNumbers.{refusal_listed}
use Rattle.questions.specs.declared.Property.{Property}
use Rattle.questions.specs.Isr.{isr_refused, ask_isr}
use Rattle.questions.specs.IsrTheorems.{isr_broken, isr_listed, isr_number}
use Rattle.questions.specs.Offer.{offer_refused, offer}
use Rattle.questions.specs.OfferTheorems.{offer_numbers, offer_listed, offer_broken_is, offer_zeros}
use Rattle.images.specs.Image.{header_width, image, written, write_image, buffer_after}
use Rattle.images.specs.WriteLaws.{write_numbers, write_listed, write_refused, writes_broken, writes_all, writes_short}
use Rattle.images.specs.Read.{end_above, header_refusal, body_of, read_image}
use Rattle.images.specs.EndAbove.{EndAboveMet, end_above_iff}
use Rattle.images.specs.ReadNumbers.{HeaderBreaks, ReadBreaks, read_breaks_s1, read_breaks}
use Rattle.images.specs.RoundTrip.{image_bytes, read_meets_rules}
use Rattle.images.specs.ImageTheorems.{read_numbers, read_listed, read_refused_zero, read_iff_image, read_equal_is_image, image_iff}
use Rattle.renamings.specs.Names.{new_name, old_name, is_renaming}
use Rattle.renamings.specs.Places.{HoldsOnce, renaming_iff}
use Rattle.renamings.specs.Rename.{rename_action, renamed, Renames, rename, rename_isr, rename_quorum, rename_request, rename_replica}
use Rattle.renamings.specs.CodeLaws.{rename_numbers, rename_listed, rename_given, rename_broken, rename_fits, rename_unfit}
use Rattle.renamings.specs.RenameTheorems.{renamed_act, SmallestNewName, renamed_member_named, renamed_rest, renamed_quorum, renamed_request, renamed_block, renamed_member}
use Rattle.representatives.specs.Representative.{representative, represent}
use Rattle.representatives.specs.CodeLaws.{represent_listed, represent_given, represent_broken, represent_is, represent_number}
use Rattle.representatives.specs.RepresentativeTheorems.{is_renamed, equal_or_greater, representatives_equal}
use Rattle.published.specs.KafkaReplication.{ModelState, ◌is_in◌, ReplicaLog·HasOffset, ReplicaPresumesLeadership, ReplicaIsFollowing, Init, WeakIsr, StrongIsr, Next}
use Rattle.published.specs.Meaning.{constants_of, meaning, Means}
use Rattle.published.specs.Choices.{Choice}
use Rattle.published.proofs.Engine.{action_is_published}
use Rattle.published.proofs.Advance.{advance, advance_not_following, advance_lacks_offset, advance_refused}
use Rattle.published.proofs.Behaviours.{next_is_accepted}
use Rattle.published.specs.Equality.{same_model_refl}
use Rattle.published.specs.OneToOne.{one_to_one}
use Rattle.runs.specs.Run.{configuration_width, run_record_width, longest_run, configuration_mark, action_mark, action_in, opening, unopened, judge}
use Rattle.runs.specs.RunRecordLaws.{run_record_whole}
use Rattle.runs.specs.Opening.{first_state, judge_unopened}
use Rattle.verdicts.specs.RenameRun.{rename_run, RenamesRun, rename_verdict}
use Rattle.verdicts.proofs.RunRenamed.{run_renamed}
use Rattle.verdicts.specs.RunBehaviour.{next_run_record, state_at, constants_in, Joins, opening_is, opens_fresh, run_is_behaviour, run_record_joins, refused_not_allowed, reached}
use Rattle.verdicts.specs.RunProperties.{weak_never, weak_first, strong_never, strong_first, exposed_run_at, exposed_run_by}
use Rattle.verdicts.specs.VerdictTheorems.{StopsAt, refused_run_record, run_numbers, run_listed, run_breaks_none, accepted_fills, accepted_at, refused_by}
use Rattle.demands.specs.BrokenRule.{NamesRule, AllNameRule, all_name_rule}
use Rattle.demands.specs.FirstBroken.{RuleNumbers, rule_numbers, InterfaceNamesRule, interface_names_rule}
use Rattle.replay.specs.Interface.{Reply, number, out_after, replay_act, member_named_by}
use Rattle.flat.specs.Flat.{state_of_flat}
use Rattle.replay.specs.InterfaceTheorems.{names_none_beside, names_smallest_beside}
use Rattle.replay.specs.InterfaceLaws.{refused_leaves}

-- "1. Every state, action, image or run of bytes gets an answer. Broken input is refused by number, the caller need test nothing
-- first, and a refusal gives back the state it was given, or the one a run had reached, all zeros where there is none, and writes
-- nothing to a lent buffer."
pub record Demand1 : Type 0 where
  -- "gets an answer", "refused by number": each has 0, or a number of its list
  pub fresh_answers : (c : Limits) → listed (accepted ∷ fresh_numbers) (fresh c).refusal ≡ true
  pub action_answers : (s : State) (action : Action) → listed (accepted ∷ state_numbers ++ action_numbers) (act s action).refusal ≡ true
  pub isr_answers : (property : Property) (s : State) → listed (accepted ∷ state_numbers) (ask_isr property s).refusal ≡ true
  pub offer_answers : (s : State) (kind : ℕ) → listed (accepted ∷ offer_numbers) (offer s kind).refusal ≡ true
  pub writing_answers : (s : State) (buffer : List ℕ) → listed (accepted ∷ write_numbers) (write_image s buffer).refusal ≡ true
  pub reading_answers : (bs : List ℕ) → listed (accepted ∷ read_numbers) (read_image bs).refusal ≡ true
  pub renaming_answers : (s : State) (p : List ℕ) → listed (accepted ∷ rename_numbers) (rename s p).refusal ≡ true
  pub representative_answers : (s : State) → listed (accepted ∷ state_numbers) (represent s).refusal ≡ true
  -- "Broken input is refused": a configuration exactly where it is out of range, an image whose state breaks a rule, by the number of
  -- that rule, places that are no renaming, a buffer that is too short; and a question on weak or strong ISR, or for a
  -- representative, by nothing but the state
  pub fresh_in_range : (c : Limits) → in_range c ≡ true → fresh c ≡ answer accepted (fresh_state c)
  pub fresh_out_of_range : (c : Limits) → in_range c ≡ false → fresh c ≡ with_zeros bad_configuration
  pub read_breaks_one : (bs : List ℕ) → (read_image bs).refusal ≡ breaks_s1 ↔ HeaderBreaks bs
  pub read_breaks_later : (bs : List ℕ) (k : ℕ) → 0 < k → k < length state_numbers
      → (read_image bs).refusal ≡ get_or state_numbers k accepted ↔ (header_refusal bs ≡ accepted) × ReadBreaks k (body_of bs)
  pub end-above : (bs : List ℕ) → header_width ≤ length bs → body_of bs ≡ end_above ↔ EndAboveMet bs
  pub read_meets_the_rules : (bs : List ℕ) → (read_image bs).refusal ≡ accepted → rules (read_image bs).state ≡ true
  pub other_places : (s : State) → rules s ≡ true → (p : List ℕ) → (Renames s p → ⊥) → rename s p ≡ as_given s not_renaming
  pub short_buffer : (s : State) (buffer : List ℕ) → rules s ≡ true → length buffer < length (image s)
      → (write_image s buffer ≡ written buffer_short 0) × (buffer_after s buffer ≡ buffer)
  pub isr_by_state : (property : Property) (s : State) → (ask_isr property s).refusal ≡ state_refusal s
  pub representative_by_state : (s : State) → (represent s).refusal ≡ state_refusal s
  -- "the caller need test nothing first": whatever is asked of a state that breaks a rule, the answer is the state's own number. The
  -- rules are tests; what they test is said by `Rules`
  pub state_rules : (s : State) → rules s ≡ true ↔ Rules s
  pub broken_number : (s : State) → rules s ≡ false ↔ listed state_numbers (state_refusal s) ≡ true
  -- "41 to 47 stand for S1 to S7": every answer gives each exactly where that rule is the first that the state breaks
  pub broken_rule : (s : State) → AllNameRule s
  -- the rules are tests there too; by what they test, each of these numbers is given exactly where its rule is the first that is broken
  pub numbers_of_rules : (s : State) (n : ℕ) → NamesRule s n → RuleNumbers s n
  -- and so by the C functions, behind 21 and 23
  pub interface_broken_rule : (state out : List ℕ) → InterfaceNamesRule state out
  pub broken_action : (s : State) (action : Action) → rules s ≡ false → act s action ≡ refused_on s 0 (state_refusal s)
  pub broken_isr : (property : Property) (s : State) → rules s ≡ false → ask_isr property s ≡ isr_refused (state_refusal s)
  pub broken_offer : (s : State) (kind : ℕ) → rules s ≡ false → offer s kind ≡ offer_refused (state_refusal s)
  pub broken_writing : (s : State) (buffer : List ℕ) → rules s ≡ false → write_image s buffer ≡ written (state_refusal s) 0
  pub broken_renaming : (s : State) (p : List ℕ) → rules s ≡ false → rename s p ≡ as_given s (state_refusal s)
  pub broken_representative : (s : State) → rules s ≡ false → represent s ≡ as_given s (state_refusal s)
  -- where 48 or 49 is given, "the action's answer names the smallest ISR member with that fault, 0 in all its other answers"
  pub names_smallest_member : (test : MemberTest) (s : State) (action : Action) → (act s action).refusal ≡ test_number test
      → SmallestMember test s action.a (act s action).member
  pub no_member_named : (s : State) (action : Action) → ((act s action).refusal ≡ member_not_following → ⊥)
      → ((act s action).refusal ≡ member_lacks_offset → ⊥) → (act s action).member ≡ 0
  -- the same of the C function, where 24 is one of the other numbers
  pub interface_names_none : (state : List ℕ) (kind a b e : ℕ) (out : List ℕ)
      → (number (replay_act state kind a b e) out ≡ member_not_following → ⊥) → (number (replay_act state kind a b e) out ≡ member_lacks_offset → ⊥)
      → member_named_by state kind a b e ≡ 0
  pub interface_names_smallest : (state : List ℕ) (kind a b e : ℕ) (out : List ℕ) (test : MemberTest)
      → number (replay_act state kind a b e) out ≡ test_number test → SmallestMember test (state_of_flat state) a (member_named_by state kind a b e)
  -- "a refusal gives back the state it was given"
  pub action_gives_back : (s : State) (action : Action) → ((act s action).refusal ≡ accepted → ⊥) → (act s action).state ≡ s
  pub renaming_gives_back : (s : State) (p : List ℕ) → ((rename s p).refusal ≡ accepted → ⊥) → (rename s p).state ≡ s
  pub representative_gives_back : (s : State) → ((represent s).refusal ≡ accepted → ⊥) → (represent s).state ≡ s
  -- "all zeros where there is none"
  pub fresh_zeros : (c : Limits) → ((fresh c).refusal ≡ accepted → ⊥) → fresh c ≡ with_zeros bad_configuration
  pub reading_zeros : (bs : List ℕ) → ((read_image bs).refusal ≡ accepted → ⊥) → (read_image bs).state ≡ zero_state
  pub offer_gives_zeros : (s : State) (kind : ℕ) → ((offer s kind).refusal ≡ accepted → ⊥) → offer s kind ≡ offer_refused (offer s kind).refusal
  -- "and writes nothing to a lent buffer"
  pub writing_leaves : (s : State) (buffer : List ℕ) → ((write_image s buffer).refusal ≡ accepted → ⊥) → buffer_after s buffer ≡ buffer
  -- and of the C interface: whatever a function has to say, where the number refuses, `out` stays as it was
  pub interface_leaves : (reply : Reply) (out : List ℕ) → (number reply out ≡ accepted → ⊥) → out_after reply out ≡ out
  -- of a run of any bytes: its numbers; "the one a run had reached", which is the state behind its accepted run records; and zeros
  -- where no configuration is accepted
  pub run_answers : (run : List ℕ) → listed (accepted ∷ run_numbers) (judge run).refusal ≡ true
  pub run_breaks_none : (run : List ℕ) → listed state_numbers (judge run).refusal ≡ false
  pub run_reached : (run : List ℕ) → (opening run).refusal ≡ accepted → (judge run).state ≡ state_at run (judge run).tally.accepted
  pub run_zeros : (run : List ℕ) → ((opening run).refusal ≡ accepted → ⊥) → judge run ≡ unopened (opening run).refusal

pub demand_1 : Demand1
demand_1 =
    record {
      fresh_answers = fresh_listed;
      action_answers = λ s action. ap (listed (accepted ∷ state_numbers ++ action_numbers)) (act_number s action) ∙ refusal_listed s action;
      isr_answers = isr_listed;
      offer_answers = offer_listed;
      writing_answers = write_listed;
      reading_answers = read_listed;
      renaming_answers = rename_listed;
      representative_answers = represent_listed;
      fresh_in_range = fresh_in;
      fresh_out_of_range = fresh_out;
      read_breaks_one = read_breaks_s1;
      read_breaks_later = read_breaks;
      end-above = end_above_iff;
      read_meets_the_rules = λ bs ok. read_meets_rules bs (read_image bs).state (ap (λ (n : ℕ). answer n (read_image bs).state) ok);
      other_places = λ s h p f. sym (rename_unfit s p h ((refuted_iff (is_renaming (replica_count_of s.limits) p) ((λ e. e), (λ e. e))).0 f));
      short_buffer = λ s buffer h k. let w = writes_short s buffer h k in (sym w.0, sym w.1);
      isr_by_state = isr_number;
      representative_by_state = represent_number;
      state_rules = rules_iff;
      broken_number = broken_listed_iff;
      broken_rule = all_name_rule;
      numbers_of_rules = rule_numbers;
      interface_broken_rule = interface_names_rule;
      broken_action = act_unmet;
      broken_isr = isr_broken;
      broken_offer = offer_broken_is;
      broken_writing = λ s buffer h. sym (writes_broken s buffer h).0;
      broken_renaming = λ s p h. sym (rename_broken s p (broken_refusal s h));
      broken_representative = λ s h. sym (represent_broken s (broken_refusal s h));
      names_smallest_member = λ test s action e. member-named test s action e;
      no_member_named = member_none;
      interface_names_none = names_none_beside;
      interface_names_smallest = names_smallest_beside;
      action_gives_back = act_given;
      renaming_gives_back = rename_given;
      representative_gives_back = represent_given;
      fresh_zeros = fresh_refused_zero;
      reading_zeros = read_refused_zero;
      offer_gives_zeros = offer_zeros;
      writing_leaves = λ s buffer h. (write_refused s buffer h).1;
      interface_leaves = refused_leaves;
      run_answers = run_listed;
      run_breaks_none = run_breaks_none;
      run_reached = reached;
      run_zeros = judge_unopened;
    }

-- "2. On a state that meets the state rules, an action is accepted exactly when the model allows it, and the next state is the
-- model's. A state that meets the state rules has one image in bytes; reading it back gives that state, and no other bytes do. A run's
-- verdict is what the model says, action by action."
pub record Demand2 : Type 1 where
  -- "accepted exactly when the model allows it": `Choice` is the published action of the kind with these operands, from the meaning of
  -- the state to v
  pub accepted_where_allowed : (s : State) → rules s ≡ true → (action : Action)
      → (act s action).refusal ≡ accepted ↔ ((v : ModelState) × Choice (constants_of s.limits) action (meaning s) v)
  -- "and the next state is the model's": the model's next states are those that the next state means, which meets S1 to S7 again
  pub next_is_the_models : (s : State) → rules s ≡ true → (action : Action) (v : ModelState)
      → Choice (constants_of s.limits) action (meaning s) v ↔ ((act s action).refusal ≡ accepted) × Means s.limits v (act s action).state
  pub next_keeps_rules : (s : State) (action : Action) → (act s action).refusal ≡ accepted → Kept s (act s action).state
  -- so the model's steps (`Next`, the disjunction of its actions) are the accepted actions
  pub steps_are_the_models : (s : State) → rules s ≡ true → (v : ModelState)
      → Next (constants_of s.limits) (meaning s) v
      ↔ (action : Action) × ((act s action).refusal ≡ accepted) × Means s.limits v (act s action).state
  -- kind 7: on a replica that presumes, 48 or 49 is given exactly where the model has no step of LeaderIncHighWatermark for it; and
  -- which of the two conditions on members fails
  pub advance_refused_where : (s : State) → rules s ≡ true → (a : ℕ) → a < replica_count_of s.limits
      → (((act s (advance a)).refusal ≡ member_not_following) ⊎ ((act s (advance a)).refusal ≡ member_lacks_offset))
      ↔ ReplicaPresumesLeadership (meaning s) a × ¬ ((v : ModelState) × Choice (constants_of s.limits) (advance a) (meaning s) v)
  pub not_following_where : (s : State) → rules s ≡ true → (a : ℕ) → a < replica_count_of s.limits
      → (act s (advance a)).refusal ≡ member_not_following
      ↔ ReplicaPresumesLeadership (meaning s) a
      × ((follower : ℕ) × follower is_in ((meaning s).replicaState a).isr × ¬ (ReplicaIsFollowing (meaning s) follower a))
  pub lacks_offset_where : (s : State) → rules s ≡ true → (a : ℕ) → a < replica_count_of s.limits
      → (act s (advance a)).refusal ≡ member_lacks_offset
      ↔ ReplicaPresumesLeadership (meaning s) a
      × ((follower : ℕ) → follower is_in ((meaning s).replicaState a).isr → ReplicaIsFollowing (meaning s) follower a)
      × ((follower : ℕ) × follower is_in ((meaning s).replicaState a).isr × ¬ (ReplicaLog·HasOffset (meaning s) follower ((meaning s).replicaState a).hw))
  -- a meaning has one state, so this fixes the next state
  pub one_meaning : (s t : State) → rules s ≡ true → rules t ≡ true → s.limits ≡ t.limits → Means s.limits (meaning s) t → Same s t
  -- "has one image in bytes": equal states have one, and no others; it is what is written
  pub image_is_bytes : (s : State) → rules s ≡ true → Bytes (image s)
  pub one_image : (s t : State) → rules s ≡ true → rules t ≡ true → image s ≡ image t ↔ Same s t
  pub image_is_written : (s : State) (buffer : List ℕ) → rules s ≡ true → length (image s) ≤ length buffer
      → (write_image s buffer ≡ written accepted (length (image s))) × (buffer_after s buffer ≡ image s ++ drop (length (image s)) buffer)
  -- "reading it back gives that state, and no other bytes do": the state with zeros in its unused room, which is equal to it
  pub read_is_image : (s : State) (bs : List ℕ) → rules s ≡ true → Bytes bs → read_image bs ≡ answer accepted (tidy s) ↔ bs ≡ image s
  pub tidy_is_equal : (s : State) → Same (tidy s) s
  pub no_other_bytes : (s t : State) (bs : List ℕ) → Bytes bs → read_image bs ≡ answer accepted t → Same s t → bs ≡ image s
  -- "A run's verdict is what the model says, action by action." When a run opens, and by which number it does not; it opens with the
  -- fresh state of its bytes 2 to 5, which the model starts from
  pub opens : (run : List ℕ) → (opening run).refusal
      ≡ refuse (ltb longest_run (length run)) run_too_long
      (refuse (ltb (length run) configuration_width) too_short
      (refuse (not (marked configuration_mark run)) wrong_mark
      (refuse (not (in_range (limits_of run))) bad_configuration
      accepted)))
  pub starts : (run : List ℕ) → (opening run).refusal ≡ accepted → state_at run 0 ≡ fresh_state (limits_of run)
  pub starts_by_init : (run : List ℕ) → (opening run).refusal ≡ accepted → Init (constants_in run) (meaning (state_at run 0))
  -- each accepted run record has six bytes of the run and the action mark, and its own action joins the state before it and the
  -- next one
  pub run_records_join : (run : List ℕ) → (opening run).refusal ≡ accepted → (k : ℕ) → k < (judge run).tally.accepted → Joins run k
  -- it goes on to its end, which is accepted exactly where six bytes for each accepted run record, and the configuration's, fill
  -- the run; or to the first run record that is refused, at its byte: by 21, then 20, then the number of its action on the state
  -- before it. The action of a refused run record that has six bytes and the mark is one that the model does not allow
  pub ends : (run : List ℕ) → (opening run).refusal ≡ accepted
      → (judge run).refusal ≡ accepted ↔ length run ≡ configuration_width + run_record_width * (judge run).tally.accepted
  pub ends_at : (run : List ℕ) → (judge run).refusal ≡ accepted → (judge run).at ≡ length run
  pub stops : (run : List ℕ) → (opening run).refusal ≡ accepted → ((judge run).refusal ≡ accepted → ⊥) → StopsAt run
  pub stops_by : (run : List ℕ) → (opening run).refusal ≡ accepted → ((judge run).refusal ≡ accepted → ⊥)
      → (judge run).refusal
      ≡ refuse (ltb (length (next_run_record run)) run_record_width) too_short
      (refuse (not (marked action_mark (next_run_record run))) wrong_mark
      (act (judge run).state (action_in (next_run_record run))).refusal)
  pub stops_rightly : (run : List ℕ) → (opening run).refusal ≡ accepted → ((judge run).refusal ≡ accepted → ⊥)
      → length (next_run_record run) ≡ run_record_width → marked action_mark (next_run_record run) ≡ true
      → (v : ModelState) → Choice (constants_in run) (action_in (next_run_record run)) (meaning (judge run).state) v → ⊥
  -- weak and strong are 0 exactly where the published property holds of every state of the run, and otherwise the number of the first
  -- state that fails it
  pub weak_never_fails : (run : List ℕ) → (opening run).refusal ≡ accepted
      → (judge run).tally.weak ≡ 0 ↔ ((n : ℕ) → n ≤ (judge run).tally.accepted → WeakIsr (constants_in run) (meaning (state_at run n)))
  pub weak_fails_first : (run : List ℕ) → (opening run).refusal ≡ accepted → (i : ℕ) → (judge run).tally.weak ≡ suc i
      → (suc i ≤ (judge run).tally.accepted)
      × (WeakIsr (constants_in run) (meaning (state_at run (suc i))) → ⊥)
      × ((n : ℕ) → n ≤ i → WeakIsr (constants_in run) (meaning (state_at run n)))
  pub strong_never_fails : (run : List ℕ) → (opening run).refusal ≡ accepted
      → (judge run).tally.strong ≡ 0 ↔ ((n : ℕ) → n ≤ (judge run).tally.accepted → StrongIsr (constants_in run) (meaning (state_at run n)))
  pub strong_fails_first : (run : List ℕ) → (opening run).refusal ≡ accepted → (i : ℕ) → (judge run).tally.strong ≡ suc i
      → (suc i ≤ (judge run).tally.accepted)
      × (StrongIsr (constants_in run) (meaning (state_at run (suc i))) → ⊥)
      × ((n : ℕ) → n ≤ i → StrongIsr (constants_in run) (meaning (state_at run n)))
  -- exposed is the greatest hw of a presuming replica in any state of the run
  pub exposed_least : (run : List ℕ) → (opening run).refusal ≡ accepted → (n : ℕ) → n ≤ (judge run).tally.accepted
      → (r : ℕ) → r < replica_count_of (first_state run).limits → replica_presumes_leadership (state_at run n) r ≡ true
      → (replica_at (state_at run n) r).hw ≤ (judge run).tally.exposed
  pub exposed_most : (run : List ℕ) → (opening run).refusal ≡ accepted → (k : ℕ)
      → ((n : ℕ) → n ≤ (judge run).tally.accepted → (r : ℕ) → r < replica_count_of (first_state run).limits
      → replica_presumes_leadership (state_at run n) r ≡ true → (replica_at (state_at run n) r).hw ≤ k)
      → (judge run).tally.exposed ≤ k

pub demand_2 : Demand2
demand_2 =
    record {
      accepted_where_allowed = λ s h action. (
        (λ ok. (meaning (act s action).state, (action_is_published s h action (meaning (act s action).state)).1 (ok, same_model_refl (constants_of s.limits) (meaning (act s action).state)))),
        (λ c. ((action_is_published s h action c.0).0 c.1).0),
      );
      next_is_the_models = action_is_published;
      next_keeps_rules = act_kept;
      steps_are_the_models = λ s h v. next_is_accepted s.limits s h refl (meaning s) (same_model_refl (constants_of s.limits) (meaning s)) v;
      advance_refused_where = advance_refused;
      not_following_where = advance_not_following;
      lacks_offset_where = advance_lacks_offset;
      one_meaning = λ s t h k same m. (one_to_one s t h k same).0 m;
      image_is_bytes = image_bytes;
      one_image = image_iff;
      image_is_written = λ s buffer h k. let w = writes_all s buffer h k in (sym w.0, sym w.1);
      read_is_image = read_iff_image;
      tidy_is_equal = tidy_same;
      no_other_bytes = read_equal_is_image;
      opens = opening_is;
      starts = opens_fresh;
      starts_by_init = λ run ok. (run_is_behaviour run ok).0;
      run_records_join = run_record_joins;
      ends = accepted_fills;
      ends_at = accepted_at;
      stops = refused_run_record;
      stops_by = refused_by;
      stops_rightly = λ run ok h six m. refused_not_allowed run ok h ((run_record_whole action_mark (next_run_record run) run_record_width).1 (omega (arith, six), m));
      weak_never_fails = weak_never;
      weak_fails_first = weak_first;
      strong_never_fails = strong_never;
      strong_fails_first = strong_first;
      exposed_least = exposed_run_at;
      exposed_most = exposed_run_by;
    }

-- "3. Broker numbers are only names. For any two states that meet the state rules of document 01, their representatives are equal
-- exactly when some renaming turns one state into the other. Such a state's representative is the state under one of its renamings, and
-- the state's image under every other renaming is equal or greater. For every such state, every renaming and every action, the renamed
-- action on the renamed state gets the same number, 0 or a refusal, and the state handed back is the first one's, renamed. For every run
-- of bytes, whatever it holds and wherever it is refused, and for every renaming, the run renamed throughout stops at the same byte.
-- Every number of its verdict is the same, and its last state, if there is one, is the other's, renamed."
pub record Demand3 : Type 0 where
  -- what a renaming is: "the first R hold 0 to R-1 once each, the others their own number"; and what it does: "It gives replica p(i) the
  -- whole block of replica i, and in every leader, every ISR .. it puts p(i) for i; all else stays"
  pub is_a_renaming : (n : ℕ) (p : List ℕ) → n ≤ 5 → is_renaming n p ≡ true ↔ HoldsOnce n p
  pub block_renamed : (s : State) → rules s ≡ true → (p : List ℕ) → Renames s p → (i : ℕ)
      → replica_at (renamed p s) (new_name p i) ≡ rename_replica (new_name p) (old_name p) (replica_at (tidy s) i)
  pub quorum_renamed : (s : State) → rules s ≡ true → (p : List ℕ) → Renames s p → (renamed p s).quorum ≡ rename_quorum (new_name p) (old_name p) s.quorum
  pub requests_renamed : (s : State) → rules s ≡ true → (p : List ℕ) → Renames s p → (e : ℕ)
      → request_at (renamed p s) e ≡ rename_request (new_name p) (old_name p) (request_at (tidy s) e)
  pub isrs_renamed : (s : State) → rules s ≡ true → (p : List ℕ) → Renames s p → (isr i : ℕ)
      → member (rename_isr (old_name p) isr) (new_name p i) ≡ member isr i
  pub rest_stays : (s : State) → rules s ≡ true → (p : List ℕ) → Renames s p
      → ((renamed p s).limits ≡ s.limits) × (next_leader_epoch_of (renamed p s) ≡ next_leader_epoch_of s) × (next_record_id_of (renamed p s) ≡ next_record_id_of s)
  -- "their representatives are equal exactly when some renaming turns one state into the other"
  pub representatives : (s t : State) → rules s ≡ true → rules t ≡ true
      → representative s ≡ representative t ↔ ((p : List ℕ) × Renames s p × Same (renamed p s) t)
  -- what is answered of such a state is its representative
  pub answered : (s : State) → rules s ≡ true → represent s ≡ answer accepted (representative s)
  -- "the state under one of its renamings"
  pub under_a_renaming : (s : State) → rules s ≡ true → (p : List ℕ) × Renames s p × (representative s ≡ renamed p s)
  -- "the state's image under every other renaming is equal or greater"
  pub least_image : (s : State) → rules s ≡ true → (p : List ℕ) → Renames s p
      → (image (representative s) ≡ image (renamed p s)) ⊎ (precedes (image (representative s)) (image (renamed p s)) ≡ true)
  -- "the renamed action on the renamed state gets the same number, 0 or a refusal, and the state handed back is the first one's, renamed";
  -- document 02: "Demand 3 leaves out the member named, and nothing else"
  pub actions : (s : State) → rules s ≡ true → (p : List ℕ) → Renames s p → (action : Action)
      → without_member (act (renamed p s) (rename_action (replica_count_of s.limits) (new_name p) action))
      ≡ action_answer (act s action).refusal 0 (renamed p (act s action).state)
  -- of which this holds: it is the smallest new name of a member of a's ISR with the same fault
  pub members : (s : State) → rules s ≡ true → (p : List ℕ) → Renames s p → (test : MemberTest) (action : Action)
      → (act s action).refusal ≡ test_number test
      → SmallestNewName p test s action.a (act (renamed p s) (rename_action (replica_count_of s.limits) (new_name p) action)).member
  -- what renaming answers of such a state is the state renamed
  pub renaming_is : (s : State) → rules s ≡ true → (p : List ℕ) → Renames s p → rename s p ≡ answer accepted (renamed p s)
  -- "For every run of bytes, whatever it holds and wherever it is refused, and for every renaming": one claim over all bytes
  pub runs : (run p : List ℕ) → RenamesRun run p → judge (rename_run p run) ≡ rename_verdict p (judge run)

pub demand_3 : Demand3
demand_3 =
    record {
      is_a_renaming = renaming_iff;
      block_renamed = renamed_block;
      quorum_renamed = renamed_quorum;
      requests_renamed = renamed_request;
      isrs_renamed = renamed_member;
      rest_stays = renamed_rest;
      representatives = representatives_equal;
      answered = λ s h. sym (represent_is s h);
      under_a_renaming = is_renamed;
      least_image = equal_or_greater;
      actions = λ s h p f action. renamed_act s h p f action;
      members = λ s h p f test action e. renamed_member_named s h p f test action e;
      renaming_is = λ s h p f. sym (rename_fits s p h f);
      runs = run_renamed;
    }
