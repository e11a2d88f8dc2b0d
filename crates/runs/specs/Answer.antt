-- The verdict of a run and what is read of a run record, as the paper numbers them, and what the code's answers say by them. Assumes
-- nothing.
--
--   Tally, Verdict   numbers, 0 for a property that never failed and for a run that is not refused
--   ActionRecord     the number of a run record's mark, and its action
--   failure_number   the count at which a property first failed, 0 where it never did
--   refused_number   the number of a refusal, 0 where there is none
--   counts_of        what the code has counted, by numbers
--   verdict_of       the code's verdict, by numbers
use Rattle.std.specs.Prelude.{ℕ, Option, None, Some}
use Rattle.parts.specs.declared.refusal.Refusal.{Refusal}
use Rattle.parts.specs.Refusal.{accepted, refusal_number}
use Rattle.cluster.specs.declared.State.{State}
use Rattle.cluster.specs.declared.Action.{Action}
use Rattle.runs.specs.declared.verdict.Tally.{Tally as CodeTally}
use Rattle.runs.specs.declared.verdict.Verdict.{Verdict as CodeVerdict}

-- what is counted over a run: how many actions were accepted; how many were accepted when weak ISR, and when strong ISR, first
-- failed, or 0; the greatest high watermark of any presuming replica in any state
pub record Tally : Type 0 where
  pub accepted : ℕ
  pub weak : ℕ
  pub strong : ℕ
  pub exposed : ℕ

-- the verdict of a run: what is counted over it; the refusal, or 0; the byte where the refused run record starts, the length of the
-- run where none is refused, 0 where the run is too long; the last state
pub record Verdict : Type 0 where
  pub tally : Tally
  pub refusal : ℕ
  pub at : ℕ
  pub state : State

-- the run record of an action, as it is read: the number of its mark, and the action
pub record ActionRecord : Type 0 where
  pub refusal : ℕ
  pub action : Action

-- the count at which a property first failed, 0 where it never did
abbrev pub failure_number : Option ℕ → ℕ
failure_number None = 0
failure_number (Some count) = count

-- what is counted, by numbers
abbrev pub counts_of : CodeTally → Tally
counts_of tally =
    record {
      accepted = tally.accepted;
      weak = failure_number tally.weak;
      strong = failure_number tally.strong;
      exposed = tally.exposed;
    }

-- the number of a refusal, 0 where there is none
abbrev pub refused_number : Option Refusal → ℕ
refused_number None = accepted
refused_number (Some r) = refusal_number r

-- the verdict, by numbers
abbrev pub verdict_of : CodeVerdict → Verdict
verdict_of v = record { tally = counts_of v.tally; refusal = refused_number v.refusal; at = v.at; state = v.state }
