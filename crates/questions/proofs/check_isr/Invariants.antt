use Rattle.std.proofs.Math.Option.{none}
use Rattle.std.specs.Prelude.{◌≡◌, None}
use Rattle.logic.specs.Search.{first_below, first_second, first_third, passing}
use Rattle.questions.specs.Isr.{differ_at, offsets_asked}
use Rattle.questions.proofs.check_isr.Given as goal

abbrev pub invariant-loop-offset : goal.invariant-loop-offset
invariant-loop-offset l = (first_below l.offset (passing (differ_at l.s.state) l.leader l.member) ≡ none) × (l.difference ≡ None)

abbrev pub invariant-loop-member : goal.invariant-loop-member
invariant-loop-member l =
    (first_below l.member (first_third (offsets_asked l.property l.s.state) (differ_at l.s.state) l.leader) ≡ none) × (l.difference ≡ None)

abbrev pub invariant-leaders : goal.invariant-leaders
invariant-leaders l =
    (first_below l.leader (first_second l.n (offsets_asked l.property l.s.state) (differ_at l.s.state)) ≡ none) × (l.difference ≡ None)
