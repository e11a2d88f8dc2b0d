use Rattle.std.proofs.Common.{rules, tests, arith, ℕ, zero, suc, ◌≡◌, ◌≤◌, ◌+◌, ◌*◌, ◌∙◌, length, take, add-one}
use Rattle.std.specs.List.{sum_by}
use Rattle.std.proofs.lemmas.Iterator.{YieldsList-from_slice, YieldsList-from_map}
use Rattle.std.proofs.lemmas.Iterator.Consumers.{sum_by_from_yields_List, fits_by_from_yields_list}
use Rattle.std.proofs.lemmas.List.Sums.{sum_by_more}
use Rattle.logic.specs.Concat.{concat_below}
use Rattle.replica.specs.declared.Replica.{Replica}
use Rattle.replica.specs.Replica.{no_replica}
use Rattle.replica.specs.ReplicaBytes.{head_width, log_record_width}
use Rattle.cluster.specs.declared.State.{State}
use Rattle.cluster.specs.State.{replica_count_of}
use Rattle.cluster.specs.RuleLaws.{rules_logs_bounded}
use Rattle.images.specs.Image.{replica_bytes_at, replicas_bytes}
use Rattle.images.specs.ImageLaws.{replicas_start, replicas_more, replicas_most}
use Rattle.images.proofs.write.replicas_length.Goals as goal

abbrev bytes_of : Replica → ℕ
bytes_of p = head_width + log_record_width * p.end

-- the bytes of the first replicas are those of each, added up
added : (s : State) (i : ℕ) → i ≤ length s.replicas → sum_by bytes_of (take i s.replicas) ≡ length (concat_below i (replica_bytes_at s))
added s zero h = replicas_start s
added s (suc i) h =
    let e = replicas_more s i _ (added s i (omega arith)) in
    rw (← add-one i) (sum_by_more bytes_of s.replicas i no_replica (omega arith) ∙ omega (arith, e))

pub sum-requires-clause-fits : goal.sum-requires-clause-fits
sum-requires-clause-fits c = let s = c.args.valid.state in
    let n = replica_count_of s.limits in
    let e = added s n (omega (arith, c.args.valid.few_replicas)) in
    let m = replicas_most s (rules_logs_bounded s c.args.valid.meets_rules) n (omega arith) in
    fits_by_from_yields_list bytes_of (take n s.replicas) c.map.result _
    (YieldsList-from_map _ bytes_of (YieldsList-from_slice (take n s.replicas) cc) c.map.ensures.closure (λ x r q k. search (rules, tests)))
    (omega (arith, e, m, c.args.valid.few_replicas))

pub returns : goal.returns
unfolding replicas_bytes
returns c = let s = c.args.valid.state in
    let n = replica_count_of s.limits in
    let e = added s n (omega (arith, c.args.valid.few_replicas)) in
    sum_by_from_yields_List bytes_of (take n s.replicas) c.map.result c.sum.result c.sum.ensures.ran
    (YieldsList-from_map _ bytes_of (YieldsList-from_slice (take n s.replicas) cc) c.map.ensures.closure (λ x r q k. search (rules, tests)))
    ∙ e
