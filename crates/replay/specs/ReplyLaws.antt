-- Laws of replies by a number that stands beside the answer, and of places that come one by one. The code of today goes by
-- `InterfaceLaws.antt`; these hold as before. Assumes nothing.
--
--   replies_short, replies_given      `out` is shorter than the answer, or gets it
--   five_places                       five places, taken one by one, are the list
--   rename_uncounted_broken, rename_uncounted  renaming by any other count of places, of a state that breaks a rule, and of one that meets them
--   bool-byte                         whether a property holds, as a byte
use Rattle.std.specs.Prelude.{ℕ, ◌≤◌, ◌<◌, ◌≡◌, refl, Bool, true, false, List, [], ◌∷◌, length, get_or}
use Rattle.std.proofs.Math.Path.{sym, ap}
use Rattle.std.proofs.Common.{◌∙◌, lt-ltb, le-ltb, ne_eqb}
use mir.Val.{bool_byte}
use Rattle.logic.specs.Refuse.{first_yes, first_no, by_accepted}
use Rattle.logic.specs.Stores.{Stored, stored_front}
use Rattle.logic.specs.Table.{table, table_from, ext_table, cond_true, cond_false}
use Rattle.parts.specs.Refusal.{accepted, buffer_short, not_renaming}
use Rattle.parts.specs.Isr.{bit}
use Rattle.cluster.specs.declared.State.{State}
use Rattle.cluster.specs.Rules.{rules, state_refusal}
use Rattle.cluster.specs.RuleLaws.{met_refusal}
use Rattle.cluster.specs.Outcome.{answer}
use Rattle.replay.specs.Interface.{Reply, refuses, gives, number, out_after, Replies, reply_by, rename_by}

-- ---- the answer's own number is 0
reply_accepted : (n : ℕ) (reply : Reply) → n ≡ accepted → reply ≡ reply_by n reply
reply_accepted n reply h = by_accepted n refuses reply h

-- the buffer is shorter than the answer, or gets it
module _ (n : ℕ) (bytes out : List ℕ) (h : n ≡ accepted) where
  pub replies_short : length out < length bytes → Replies (reply_by n (gives bytes)) out buffer_short out
  unfolding number out_after
  replies_short k =
      rw (← reply_accepted n (gives bytes) h)
      (sym (cond_true _ _ _ (lt-ltb (length out) (length bytes) k)), sym (cond_true _ _ _ (lt-ltb (length out) (length bytes) k)))

  pub replies_given : (after : List ℕ) (end : ℕ) → Stored out 0 bytes after end → length bytes ≤ length out
      → Replies (reply_by n (gives bytes)) out accepted after
  unfolding number out_after
  replies_given after end w k =
      rw (← reply_accepted n (gives bytes) h)
      (sym (cond_false _ _ _ (le-ltb (length out) (length bytes) k)), stored_front w k ∙ sym (cond_false _ _ _ (le-ltb (length out) (length bytes) k)))

-- ---- places that come as bytes
pub five_places : (l : List ℕ) → length l ≡ 5 → get_or l 0 0 ∷ get_or l 1 0 ∷ get_or l 2 0 ∷ get_or l 3 0 ∷ get_or l 4 0 ∷ [] ≡ l
unfolding table table_from
five_places l h = sym (ext_table 0 5 (λ i. get_or l i 0) l h (λ i b. refl))

module _ (s : State) (places : List ℕ) where
  pub rename_uncounted_broken : (length places ≡ 5 → ⊥) → (state_refusal s ≡ accepted → ⊥) → answer (state_refusal s) s ≡ rename_by s places
  unfolding rename_by
  rename_uncounted_broken h k =
      ap (λ (n : ℕ). answer n s) (first_yes (state_refusal s) not_renaming k)
      ∙ sym (cond_false _ _ _ (ne_eqb (length places) 5 h))

  pub rename_uncounted : (length places ≡ 5 → ⊥) → rules s ≡ true → answer not_renaming s ≡ rename_by s places
  unfolding rename_by
  rename_uncounted h k =
      ap (λ (n : ℕ). answer n s) (first_no (state_refusal s) not_renaming (met_refusal s k))
      ∙ sym (cond_false _ _ _ (ne_eqb (length places) 5 h))

-- ---- weak and strong ISR
-- whether one holds, as a byte
pub bool-byte : (b : Bool) → bool_byte b ≡ bit b
bool-byte true = refl
bool-byte false = refl
