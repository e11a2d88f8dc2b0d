-- The rules S1 to S7 as they are tested: S1, S2 of the quorum and of the requests, S3, S4, and then what S2, S5, S6 and S7 ask of
-- the replicas, in one pass over them. Assumes nothing.
use Rattle.std.specs.Prelude.{ℕ, ◌<◌, ◌≡◌, Bool, ◌&&◌, List, [], ◌∷◌, replicate}
use Rattle.std.proofs.Math.Path.{refl, ap}
use Rattle.std.proofs.Common.{sym, ◌∙◌, arith}
use Rattle.std.proofs.Math.Bool.{true, false}
use Rattle.logic.specs.Concat.{concat_below}
use Rattle.logic.specs.Tests.{all_below, all_fails, every, every_at, every_none, every_and, every_fails, and_left, and_right, and_both, bool_ext}
use Rattle.logic.specs.Entries.{Passed, agree_all, note_all}
use Rattle.logic.proofs.EntriesLaws.{passing_fails}
use Rattle.replica.specs.Log.{log_in_use}
use Rattle.replica.specs.Entries.{LogMet}
use Rattle.cluster.specs.declared.State.{State}
use Rattle.cluster.specs.State.{replica_count_of, next_leader_epoch_of, next_record_id_of, replica_in}
use Rattle.cluster.specs.Rules.{leader_and_isr_in_range, request_in_range_at, replica_in_range_at, rule1, rule2_tests, rule2, rule3, rule4, rule5, log_in_use_at, rule6, rule7, rule_tests, rules}
use Rattle.cluster.specs.RuleLaws.{sizes_of, bounded_of}
use Rattle.cluster.specs.Entries.{entries_at, entries_decide}

-- S2 of the quorum and of the requests
abbrev pub quorum_and_requests_in_range : State → Bool
quorum_and_requests_in_range s =
    leader_and_isr_in_range (replica_count_of s.limits) s.quorum.leader s.quorum.isr
    && all_below (next_leader_epoch_of s) (request_in_range_at (replica_count_of s.limits) s.requests)

-- S2, S5 and S6 of the replicas, and the pass over their records that decides S7
abbrev pub pass_tests : State → List Bool
pass_tests s =
    all_below (replica_count_of s.limits) (replica_in_range_at s.limits s.replicas)
    ∷ rule5 (replica_count_of s.limits) (next_leader_epoch_of s) s.requests s.replicas
    ∷ rule6 (replica_count_of s.limits) (next_record_id_of s) (next_leader_epoch_of s) s.replicas
    ∷ agree_all (replicate 256 0) (concat_below (replica_count_of s.limits) (entries_at s.replicas))
    ∷ []

-- all tests, those of the pass last
abbrev pub one_pass_tests : State → List Bool
one_pass_tests s =
    rule1 s.limits (next_leader_epoch_of s) (next_record_id_of s)
    ∷ quorum_and_requests_in_range s
    ∷ rule3 (replica_count_of s.limits) (next_leader_epoch_of s) s.quorum s.requests
    ∷ rule4 (next_leader_epoch_of s) s.quorum s.requests
    ∷ pass_tests s

module _ (s : State) where
  -- where S1 and S6 hold, the pass decides S7
  pass_decides_s7 : rule1 s.limits (next_leader_epoch_of s) (next_record_id_of s) ≡ true
      → rule6 (replica_count_of s.limits) (next_record_id_of s) (next_leader_epoch_of s) s.replicas ≡ true
      → agree_all (replicate 256 0) (concat_below (replica_count_of s.limits) (entries_at s.replicas))
      ≡ rule7 (replica_count_of s.limits) s.replicas
  pass_decides_s7 one six =
      let z = sizes_of s.limits (next_leader_epoch_of s) (next_record_id_of s) one in
      entries_decide s (omega (arith, z.ids, z.ranges.records)) (bounded_of s one) six

  -- S2 holds where its two halves do
  rule2_of_halves : quorum_and_requests_in_range s ≡ true → all_below (replica_count_of s.limits) (replica_in_range_at s.limits s.replicas) ≡ true
      → rule2 s.limits (next_leader_epoch_of s) s.quorum s.requests s.replicas ≡ true
  unfolding rule2
  rule2_of_halves h k =
      let quorum = leader_and_isr_in_range (replica_count_of s.limits) s.quorum.leader s.quorum.isr in
      let requests = all_below (next_leader_epoch_of s) (request_in_range_at (replica_count_of s.limits) s.requests) in
      every_and _ _ (and_left quorum requests h) (every_and _ _ (and_right quorum requests h) (every_and _ _ k every_none))

  rules_of_tests : every (one_pass_tests s) ≡ true → rules s ≡ true
  unfolding rules
  rules_of_tests h =
      let p = every_at (one_pass_tests s) h in
      every_and _ _ (p 0) (every_and _ _ (rule2_of_halves (p 1) (p 4)) (every_and _ _ (p 2) (every_and _ _ (p 3) (every_and _ _ (p 5)
      (every_and _ _ (p 6) (every_and _ _ (sym (pass_decides_s7 (p 0) (p 6)) ∙ p 7) every_none))))))

  tests_of_rules : rules s ≡ true → every (one_pass_tests s) ≡ true
  unfolding rules rule2
  tests_of_rules h =
      let p = every_at (rule_tests s) h in
      let two = every_at (rule2_tests s.limits (next_leader_epoch_of s) s.quorum s.requests s.replicas) (p 1) in
      every_and _ _ (p 0) (every_and _ _ (and_both (two 0) (two 1)) (every_and _ _ (p 2) (every_and _ _ (p 3) (every_and _ _ (two 2)
      (every_and _ _ (p 4) (every_and _ _ (p 5) (every_and _ _ (pass_decides_s7 (p 0) (p 5) ∙ p 6) every_none)))))))

  -- all these tests hold exactly where the state meets the rules
  pub one_pass : every (one_pass_tests s) ≡ rules s
  one_pass = bool_ext _ _ rules_of_tests tests_of_rules

  -- so an answer that is worked out test by test is that of the rules
  pub by_one_pass : (b : Bool) → b ≡ every (one_pass_tests s) → b ≡ rules s
  by_one_pass b h = h ∙ one_pass

  -- ---- a turn of the pass: a log that breaks S6 or does not meet the table ends it
  pub log_fails : (i : ℕ) (seen last : List ℕ) → i < replica_count_of s.limits
      → Passed (replicate 256 0) (concat_below i (entries_at s.replicas)) true seen
      → LogMet (next_record_id_of s) (next_leader_epoch_of s) (replica_in s.replicas i) seen false last → false ≡ every (pass_tests s)
  unfolding rule6
  log_fails i seen last h w m = go (log_in_use (next_record_id_of s) (next_leader_epoch_of s) (replica_in s.replicas i)) refl
    where
      go : (b : Bool) → log_in_use (next_record_id_of s) (next_leader_epoch_of s) (replica_in s.replicas i) ≡ b → false ≡ every (pass_tests s)
      go true e =
          let no : false ≡ agree_all seen (entries_at s.replicas i) = m.both ∙ ap (λ (b : Bool). b && agree_all seen (entries_at s.replicas i)) e in
          every_fails (pass_tests s) 3
          (sym (passing_fails (entries_at s.replicas) (replicate 256 0) (replica_count_of s.limits) i false seen
          (note_all seen (entries_at s.replicas i)) h w (record { agree = no; table = refl }) refl).agree)
      go false e =
          every_fails (pass_tests s) 2
          (sym (all_fails (replica_count_of s.limits) i (log_in_use_at (next_record_id_of s) (next_leader_epoch_of s) s.replicas) h e))
