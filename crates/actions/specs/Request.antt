-- A quorum at the next epoch, and its request: the state stays sound. Assumes nothing.
use Rattle.parts.specs.Leader.{Leader}
use Rattle.std.specs.Prelude.{ℕ, ◌+◌, ◌<◌, ◌≡◌, true, pos, length, Some}
use Rattle.std.proofs.Math.Path.{refl, ap}
use Rattle.std.proofs.Common.{sym, ◌∙◌, add-one}
use native.Mathlib.Omega.{arith}
use Rattle.std.proofs.Math.Seq.{get_or-set_same, get_or-set_other}
use Rattle.logic.specs.Lists.{each_set, more_tidy}
use Rattle.parts.specs.Isr.{member}
use Rattle.parts.specs.Epoch.{last_epoch}
use Rattle.replica.specs.declared.Replica.{Replica}
use Rattle.cluster.specs.State.{replica_count_of, next_leader_epoch_of, next_record_id_of, zero_request, request_at, controller_update_isr}
use Rattle.cluster.specs.declared.Limits.{Limits}
use Rattle.cluster.specs.declared.Request.{Request}
use Rattle.cluster.specs.declared.State.{State}
use Rattle.cluster.specs.Predicates.{Rules, Named, MeetsS5}
use Rattle.cluster.specs.Accepted.{EpochLeft}
use Rattle.actions.specs.Records.{unwritten, s6_kept, s7_kept}
use Rattle.actions.specs.Sound.{Sound}

-- the next epoch is the last one used once it is raised
last_of_next : (n : ℕ) → pos n ≡ last_epoch (n + 1)
unfolding last_epoch
last_of_next n = rw (add-one n)

module _ (c : Limits) (s : State) (d : Sound c s) (leader : Leader) (isr : ℕ) (left : EpochLeft s) where
  abbrev request : Request
  request = record { leader = leader; isr = isr }

  room : next_leader_epoch_of s < length s.requests
  room = omega (arith, left, d.tidy.requests.room, d.rules.s1.ranges.epochs)

  abbrev next : State
  next = controller_update_isr s leader isr

  -- the requests sent before stay, and the new one is that of the next epoch
  pub request_old : (e : ℕ) → e < next_leader_epoch_of s → request_at next e ≡ request_at s e
  unfolding controller_update_isr
  request_old e l = get_or-set_other s.requests (next_leader_epoch_of s) e request zero_request (omega arith)

  pub request_new : request_at next (next_leader_epoch_of s) ≡ request
  unfolding controller_update_isr
  request_new = get_or-set_same s.requests (next_leader_epoch_of s) request zero_request room

  -- what holds of the new request, and of each sent before, holds of each
  each_request : (P : Request → Type 0) → P request → ((e : ℕ) → e < next_leader_epoch_of s → P (request_at s e))
      → (e : ℕ) → e < next_leader_epoch_of s + 1 → P (request_at next e)
  unfolding controller_update_isr
  each_request P new olds e l =
      each_set (λ q i. P q) s.requests (next_leader_epoch_of s) request zero_request new e (omega (arith, room)) (λ q. olds e (omega arith))

  -- a replica meets S5 with one request more
  meets_later : (p : Replica) (i : ℕ) → MeetsS5 (next_leader_epoch_of s) s.requests p i → MeetsS5 (next_leader_epoch_of s + 1) next.requests p i
  meets_later p i m =
      record {
        request =
            record {
              none = m.request.none;
              used = λ e q.
                  let u = m.request.used e q in
                  (omega (arith, u.0), u.1 ∙ ap (λ (v : Request). v.leader) (sym (request_old e u.0)));
              low = m.request.low;
            };
        own = m.own;
        hw = m.hw;
      }

  pub request_sound : Named (replica_count_of s.limits) leader isr → ((b : ℕ) → leader ≡ Some b → member isr b ≡ true) → Sound c next
  unfolding controller_update_isr
  request_sound named led =
      record {
        limits = d.limits;
        rules =
            record {
              s1 = record { ranges = r.s1.ranges; epochs = omega (arith, left); ids = r.s1.ids };
              s2 =
                  record {
                    quorum = named;
                    requests = each_request (λ q. Named (replica_count_of s.limits) q.leader q.isr) named r.s2.requests;
                    replicas = r.s2.replicas;
                    ends = r.s2.ends;
                  };
              s3 =
                  record {
                    epoch = last_of_next (next_leader_epoch_of s);
                    start = λ e. absurd (omega arith);
                    later = λ last e.
                        let f : next_leader_epoch_of s ≡ last = omega arith in
                        ap (λ (q : Request). q.leader) (sym request_new) ∙ ap (λ (j : ℕ). (request_at next j).leader) f;
                  };
              s4 =
                  record {
                    quorum = led;
                    requests = each_request (λ q. (b : ℕ) → q.leader ≡ Some b → member q.isr b ≡ true) led r.s4.requests;
                  };
              s5 = λ i l. meets_later _ i (r.s5 i l);
              s6 = s6_kept s next 0 r.s6 (unwritten s (next_record_id_of s) (next_leader_epoch_of s + 1)) (omega arith) (omega arith);
              s7 = s7_kept s next 0 r.s6 (unwritten s (next_record_id_of s) (next_leader_epoch_of s + 1)) r.s7;
            };
        tidy =
            record {
              requests =
                  more_tidy (λ q. q) zero_request zero_request 16 (next_leader_epoch_of s) s.requests request refl d.tidy.requests;
              replicas = d.tidy.replicas;
            };
      }
    where
      r : Rules s
      r = d.rules
