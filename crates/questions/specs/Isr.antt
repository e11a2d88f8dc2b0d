-- Weak and strong ISR: "for every presuming r, every member m of r's own ISR and every offset below r's hw, r and m hold
-- the same record there. Strong ISR: the same with m from the quorum ISR." Assumes nothing.
use Rattle.std.specs.Prelude.{ℕ, Bool, true, false, not, ◌&&◌, cond}
use Rattle.std.proofs.Math.Option.{Option, none, some}
use Rattle.logic.specs.Refuse.{by_refusal}
use Rattle.logic.specs.Search.{Triple, first_triple}
use Rattle.parts.specs.Refusal.{accepted}
use Rattle.parts.specs.Isr.{member}
use Rattle.replica.specs.Log.{hold_same_record}
use Rattle.cluster.specs.declared.State.{State}
use Rattle.cluster.specs.State.{replica_count_of, replica_at}
use Rattle.cluster.specs.Rules.{state_refusal}
use Rattle.cluster.specs.Actions.{replica_presumes_leadership}
use Rattle.questions.specs.declared.Property.{Property}
use Rattle.questions.specs.declared.Property.TheVariants.{WeakIsr, StrongIsr}
use Rattle.questions.specs.Answer.{IsrAnswer}

-- ---- what is asked of r, m and an offset
-- the ISR that m is a member of: r's own, or the quorum's
unfoldable pub isr_asked : Property → State → ℕ → ℕ
isr_asked WeakIsr s r = (replica_at s r).isr
isr_asked StrongIsr s r = s.quorum.isr

-- r presumes, and m is a member of that ISR
abbrev pub is_asked : Property → State → ℕ → ℕ → Bool
is_asked property s r m = replica_presumes_leadership s r && member (isr_asked property s r) m

-- how many offsets of r and m are compared: those below r's hw, where r presumes and m is a member; else none
unfoldable pub offsets_asked : Property → State → ℕ → ℕ → ℕ
offsets_asked property s r m = cond (is_asked property s r m) (replica_at s r).hw 0

-- r and m do not hold the same record at offset x
unfoldable pub differ_at : State → ℕ → ℕ → ℕ → Bool
differ_at s r m x = not (hold_same_record (replica_at s r) (replica_at s m) x)

-- "the smallest failing (r, m, offset), compared in that order"
unfoldable pub smallest_failure : Property → State → Option Triple
smallest_failure property s =
    first_triple (replica_count_of s.limits) (replica_count_of s.limits) (offsets_asked property s) (differ_at s)

-- ---- the answer
abbrev pub isr_answer : ℕ → Bool → ℕ → ℕ → ℕ → IsrAnswer
isr_answer number holds r m x = record { refusal = number; holds = holds; leader = r; member = m; offset = x }

-- "holds", with zeros beside it, or a failure
unfoldable pub isr_answer_of : Option Triple → IsrAnswer
isr_answer_of none = isr_answer accepted true 0 0 0
isr_answer_of (some t) = isr_answer accepted false t.first t.second t.third

-- what a state that meets the rules answers
unfoldable pub check_isr : Property → State → IsrAnswer
check_isr property s = isr_answer_of (smallest_failure property s)

-- refused: a number, with zeros beside it
abbrev pub isr_refused : ℕ → IsrAnswer
isr_refused number = isr_answer number false 0 0 0

-- what any state answers: a "bad state" its number, 41 to 47
unfoldable pub ask_isr : Property → State → IsrAnswer
ask_isr property s = by_refusal (state_refusal s) isr_refused (check_isr property s)

-- WeakIsr: m is from r's own ISR
abbrev pub weak_isr : State → IsrAnswer
weak_isr s = ask_isr WeakIsr s

-- StrongIsr: m is from the quorum's ISR
abbrev pub strong_isr : State → IsrAnswer
strong_isr s = ask_isr StrongIsr s
