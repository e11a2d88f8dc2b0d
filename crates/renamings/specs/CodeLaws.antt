-- What the code of renamings works with: chains, names, the constant of the table, the renamed ISR by new names, the renamed ISRs as a
-- table, the old names as five numbers, and the renaming that leaves a state. Assumes nothing.
--
--   all_ranged                                `all` over the numbers below n is the test of each of them
--   served                                    a call that leaves the callee as it was may be made at each turn
--   new_name_place                            a place below five holds the new name of its own number
--   in_place_low, in_place_high               the test of one place, below n and from n on
--   numbers_at                                number 5 * k + j of the table is place j of row k
--   renames_wide                              a renaming of a state's replicas is a renaming of five places
--   named_bit isr i name                      the bit of the new name of i where i is a member, else 0
--   named-bit                                 as code computes it, in a byte and at most 16
--   isr_by_names p isr, isr-by-names          the sum of these bits over the five replicas; it is the renamed ISR
--   isr_named                                 what the table of all 32 renamed ISRs holds for an ISR
--   request_looked_up p isrs requests e       request e with its ISR looked up so
--   requests_looked_up                        the requests looked up are the renamed requests
--   inverted_five                             the inverse of a renaming of five places is one
--   inverse_start, inverse_turn, inverse_end  the loop that finds the old names: its start, a turn, and its end
--   both_inward                               new names and old names are below five
--   back_old, back_below                      what code reads of the inverse: the old names, below five
--   leaves_state                              a renaming of no replicas leaves the state
--   state_by                                  the renamed parts together are the renamed state
--   rename_broken, rename_unfit, rename_fits  what renaming answers: 41 to 47, 27, or the state under p
--   rename_given                              a refused renaming gives back the given state
--   rename_numbers, rename_listed             the numbers that renaming may give beside 0; it gives no other
use Rattle.std.specs.Prelude.{ℕ, zero, suc, ◌+◌, ◌*◌, ◌^◌, ◌/◌, ◌%◌, ◌≤◌, ◌<◌, ◌≡◌, Bool, true, false, ◌&&◌, List, [], ◌∷◌, ◌++◌, map, eqb, ltb, length, get_or, set}
use Rattle.std.proofs.Math.Path.{refl, ap, fun_ext}
use Rattle.std.proofs.Common.{sym, ap₂, ◌∙◌, zero-add, add-one, arith, mod-lt, lt-ltb, le-ltb, eq-eqb, ne_eqb, eqb-true, ltb-true, length-set}
use Rattle.std.proofs.Math.Bool.{not}
use Rattle.std.specs.List.{list_all, range_with_len}
use Rattle.std.specs.Prelude.{Option, Some}
use Rattle.std.specs.Iterator.{CallableAtEachTurn}
use Rattle.std.proofs.lemmas.Fn.{serves_by}
use Rattle.std.proofs.Math.Path.{subst}
use Rattle.std.proofs.lemmas.List.{take_all}
use Rattle.std.proofs.lemmas.List.FromFn.{length-range_with_len, get_or-range_with_len}
use Rattle.logic.specs.Chains.{all_taken}
use Rattle.logic.specs.Tests.{all_below, all_at, all_cong, every, and_left, and_right}
use Rattle.logic.specs.Concat.{concat_below}
use Rattle.logic.specs.Maps.{map_table}
use Rattle.logic.specs.Table.{table, table_from, length_table, get_d_table, ext_table, table_cong}
use Rattle.logic.specs.Lists.{each_set}
use Rattle.parts.specs.Isr.{member, bit, isr_of}
use Rattle.parts.specs.IsrLaws.{below_five, isr_of_cong, member_bit, member_rest}
use Rattle.cluster.specs.declared.Request.{Request}
use Rattle.cluster.specs.declared.State.{State}
use Rattle.logic.specs.Refuse.{refuse_yes, refuse_none, first_yes, first_no, first_none, by_refusal, by_accepted, by_refused, by_number, by_other, listed, listed_refuse, listed_first, listed_within}
use Rattle.parts.specs.Refusal.{accepted, not_renaming}
use Rattle.cluster.specs.State.{replica_count_of, next_leader_epoch_of, next_record_id_of, zero_request, request_in, state_of}
use Rattle.cluster.specs.Answer.{Outcome}
use Rattle.cluster.specs.Rules.{rules, state_refusal, state_numbers}
use Rattle.cluster.specs.RuleLaws.{met_refusal, rules_bounded, state_listed}
use Rattle.cluster.specs.Outcome.{answer, as_given}
use Rattle.cluster.specs.Equality.{state_path}
use Rattle.renamings.specs.Names.{new_name, holder, old_name, inverted, name_in, Inward, in_place, is_renaming, without_place, orders, rows, row, table_numbers}
use Rattle.renamings.specs.Rename.{rename_leader, rename_isr, renamed_request_at, rename_quorum, rename_request, rename_replicas, rename_state, renamed, Renames, rename_refusal, rename}
use Rattle.renamings.specs.Renaming.{to_below, from_below}
use Rattle.renamings.specs.Rows.{five, rows_count, row_renaming, row_number, distinct_of, old_name_five, renaming_of}
use Rattle.renamings.specs.Places.{renaming_five, inverted_renaming}
use Rattle.renamings.specs.RulesRenamed.{Fits}
use Rattle.renamings.specs.Group.{rename_same}

-- ---- chains
-- `all` over the numbers below n
pub all_ranged : (n : ℕ) (test : ℕ → Bool) → list_all test (range_with_len 0 n) ≡ all_below n test
all_ranged n test =
    let l = length-range_with_len 0 n in
    ap (list_all test) (sym (take_all n (range_with_len 0 n) (omega (arith, l))))
    ∙ all_taken test 0 n (range_with_len 0 n) (omega (arith, l))
    ∙ all_cong n (λ i. test (get_or (range_with_len 0 n) i 0)) test (λ i b. ap test (get_or-range_with_len 0 n i 0 b ∙ zero-add i))

-- what a call is asked for at each turn, where every call leaves the callee as it was
pub served : {S A P : Type 0} (R : P → A → P → Type 0) (steps : S → Option A → S → Type 0) (Q : P → A → Type 0) (s : S) (p : P)
    → ((x : A) (q : P) → R p x q → q ≡ p) → ((t : S) (x : A) (u : S) → steps t (Some x) u → Q p x) → CallableAtEachTurn steps R Q s p
served R steps Q s p stays asks =
    serves_by R (λ xs q. q ≡ p) (λ xs q x v j r. stays x v (subst (λ f. R f x v) j r)) steps Q s p refl
    (λ xs t q x u y st j. subst (λ f. Q f x) (sym j) (asks t x u st))

-- ---- names
pub new_name_place : (p : List ℕ) (i : ℕ) → i < 5 → get_or p i 0 ≡ new_name p i
unfolding new_name
new_name_place p i h = rw (lt-ltb i 5 h) refl

pub in_place_low : (n : ℕ) (p : List ℕ) (i : ℕ) → i < n → ltb (new_name p i) n ≡ in_place n p i
unfolding in_place
in_place_low n p i h = rw (lt-ltb i n h) refl

pub in_place_high : (n : ℕ) (p : List ℕ) (i : ℕ) → n ≤ i → eqb (new_name p i) i ≡ in_place n p i
unfolding in_place
in_place_high n p i h = rw (le-ltb i n h) refl

-- ---- the constant of 600 numbers
-- five numbers to a row
rows_of : List ℕ → List (List ℕ)
rows_of [] = []
rows_of (a ∷ []) = []
rows_of (a ∷ b ∷ []) = []
rows_of (a ∷ b ∷ c ∷ []) = []
rows_of (a ∷ b ∷ c ∷ d ∷ []) = []
rows_of (a ∷ b ∷ c ∷ d ∷ e ∷ l) = (a ∷ b ∷ c ∷ d ∷ e ∷ []) ∷ rows_of l

rows_at : (l : List ℕ) (k j : ℕ) → k < length (rows_of l) → j < 5 → get_or l (5 * k + j) 0 ≡ get_or (get_or (rows_of l) k []) j 0
unfolding rows_of
rows_at [] k j h b = absurd (omega arith)
rows_at (a ∷ []) k j h b = absurd (omega arith)
rows_at (a ∷ b ∷ []) k j h i = absurd (omega arith)
rows_at (a ∷ b ∷ c ∷ []) k j h i = absurd (omega arith)
rows_at (a ∷ b ∷ c ∷ d ∷ []) k j h i = absurd (omega arith)
rows_at (a ∷ b ∷ c ∷ d ∷ e ∷ l) zero j h i =
    below_five (λ (x : ℕ). get_or (a ∷ b ∷ c ∷ d ∷ e ∷ l) (5 * 0 + x) 0 ≡ get_or (a ∷ b ∷ c ∷ d ∷ e ∷ []) x 0) refl refl refl refl refl j i
rows_at (a ∷ b ∷ c ∷ d ∷ e ∷ l) (suc k) j h i =
    let past : 5 * suc k + j ≡ suc (suc (suc (suc (suc (5 * k + j))))) = omega arith in
    rw past (rows_at l k j (omega arith) i)

-- by fives the 600 numbers are the rows, so place j of row k is number 5 * k + j
numbers_rows : rows_of table_numbers ≡ rows
unfolding rows_of table_numbers rows orders without_place concat_below
numbers_rows = refl

pub numbers_at : (k j : ℕ) → k < 120 → j < 5 → get_or table_numbers (5 * k + j) 0 ≡ get_or (row k) j 0
numbers_at k j h i =
    rows_at table_numbers k j (omega (arith, ap (λ (r : List (List ℕ)). length r) numbers_rows, rows_count)) i
    ∙ ap (λ (r : List (List ℕ)). get_or (get_or r k []) j 0) numbers_rows

-- ---- a renaming of n replicas is one of five places
pub renaming_wide : (n : ℕ) (p : List ℕ) → n ≤ 5 → is_renaming n p ≡ true → is_renaming 5 p ≡ true
renaming_wide n p small f =
    let x = row_number n small p (distinct_of n p f) in
    sym (ap (is_renaming 5) x.2 ∙ renaming_five 5 p) ∙ row_renaming x.0 x.1

pub renames_wide : (s : State) → rules s ≡ true → (p : List ℕ) → Renames s p → is_renaming 5 p ≡ true
renames_wide s h p f = renaming_wide (replica_count_of s.limits) p (rules_bounded s h).replicas f

-- ---- the renamed ISR by new names
-- what replica i adds: the bit of its new name, where it is a member
abbrev pub named_bit : ℕ → ℕ → ℕ → ℕ
named_bit isr i name = bit (member isr i) * 2 ^ name

-- it fits a byte, and five of them do
bit_test : Bool → ℕ → Bool
bit_test b name = eqb (bit b * 2 ^ name % 256) (bit b * 2 ^ name) && ltb (bit b * 2 ^ name) 17

bits_right : (b : Bool) → all_below 5 (bit_test b) ≡ true
unfolding all_below bit_test
bits_right true = refl
bits_right false = refl

pub named-bit : (isr i name : ℕ) → i < 5 → name < 5 → (isr / 2 ^ i % 2 * 2 ^ name % 256 ≡ named_bit isr i name) × (named_bit isr i name ≤ 16)
unfolding bit_test
named-bit isr i name h l =
    let v = named_bit isr i name in
    let t = all_at 5 (bit_test (member isr i)) (bits_right (member isr i)) name l in
    let low : v < 17 = ltb-true v 17 (and_right (eqb (v % 256) v) (ltb v 17) t) in
    (ap (λ (r : ℕ). r * 2 ^ name % 256) (member_bit isr i h) ∙ eqb-true (v % 256) v (and_left (eqb (v % 256) v) (ltb v 17) t), omega arith)

-- what the five replicas add
unfoldable pub isr_by_names : List ℕ → ℕ → ℕ
isr_by_names p isr =
    named_bit isr 0 (get_or p 0 0)
    + named_bit isr 1 (get_or p 1 0)
    + named_bit isr 2 (get_or p 2 0)
    + named_bit isr 3 (get_or p 3 0)
    + named_bit isr 4 (get_or p 4 0)

-- of each row and each ISR it is the renamed ISR
abbrev isr_test : ℕ → ℕ → Bool
isr_test k m = eqb (isr_by_names (row k) m) (rename_isr (old_name (row k)) m)

isr_right : all_below 120 (λ k. all_below 32 (isr_test k)) ≡ true
unfolding all_below concat_below new_name holder old_name without_place orders rows member isr_of rename_isr isr_by_names
isr_right = refl

-- an ISR's remainder by 32 has the same members
rest_named : (p : List ℕ) (isr : ℕ) → isr_by_names p (isr % 32) ≡ isr_by_names p isr
unfolding isr_by_names
rest_named p isr = rw (member_rest isr 0, member_rest isr 1, member_rest isr 2, member_rest isr 3, member_rest isr 4) refl

rest_renamed : (from : ℕ → ℕ) (isr : ℕ) → rename_isr from (isr % 32) ≡ rename_isr from isr
unfolding rename_isr
rest_renamed from isr = isr_of_cong (λ j. member (isr % 32) (from j)) (λ j. member isr (from j)) (λ j h. member_rest isr (from j))

-- so it is of every renaming and every ISR
pub isr-by-names : (p : List ℕ) → is_renaming 5 p ≡ true → (isr : ℕ) → isr_by_names p isr ≡ rename_isr (old_name p) isr
isr-by-names p f isr =
    let x = row_number 5 (omega arith) p (distinct_of 5 p f) in
    let m = isr % 32 in
    let e : isr_by_names (row x.0) m ≡ rename_isr (old_name (row x.0)) m =
    eqb-true _ _ (all_at 32 (isr_test x.0) (all_at 120 (λ (k : ℕ). all_below 32 (isr_test k)) isr_right x.0 x.1) m (mod-lt isr (omega arith))) in
    sym (rest_named p isr)
    ∙ by_five m
    ∙ ap (λ (q : List ℕ). isr_by_names q m) (sym x.2)
    ∙ e
    ∙ ap (λ (q : List ℕ). rename_isr (old_name q) m) x.2
    ∙ ap (λ (from : ℕ → ℕ). rename_isr from m) (fun_ext (old_name_five p))
    ∙ rest_renamed (old_name p) isr
  where
    by_five : (m : ℕ) → isr_by_names p m ≡ isr_by_names (five p) m
    by_five m = unfold isr_by_names in refl

-- ---- the renamed ISRs as a table
-- what the table of all renamed ISRs holds for an ISR
pub isr_named : (from : ℕ → ℕ) (isrs : List ℕ) (isr : ℕ) → isrs ≡ table 32 (rename_isr from) → get_or isrs (isr % 32) 0 ≡ rename_isr from isr
unfolding rename_isr
isr_named from isrs isr e =
    rw e
    (get_d_table 32 (rename_isr from) (isr % 32) 0 (mod-lt isr (omega arith)) ∙ rest_renamed from isr)

-- request e of these, with its ISR looked up in such a table
abbrev pub request_looked_up : List ℕ → List ℕ → List Request → ℕ → Request
request_looked_up p isrs requests e =
    record { leader = rename_leader (new_name p) (request_in requests e).leader; isr = get_or isrs ((request_in requests e).isr % 32) 0 }

pub requests_looked_up : (p isrs : List ℕ) (requests : List Request) (from : ℕ → ℕ) → isrs ≡ table 32 (rename_isr from)
    → table 16 (request_looked_up p isrs requests) ≡ table 16 (renamed_request_at (new_name p) from requests)
requests_looked_up p isrs requests from e =
    table_cong 16 (request_looked_up p isrs requests) (renamed_request_at (new_name p) from requests)
    (λ i h. rw (isr_named from isrs (request_in requests i).isr e) refl)

-- ---- the old names as five numbers
-- before the first place is looked at, each number is its own old name
pub inverse_start : (p : List ℕ) → 0 ∷ 1 ∷ 2 ∷ 3 ∷ 4 ∷ [] ≡ table 5 (holder 0 p)
unfolding table table_from holder
inverse_start p = refl

-- place i is the old name of the number that it holds, and of the others what was found before
holder_own : (p : List ℕ) (i : ℕ) → i ≡ holder (i + 1) p (new_name p i)
unfolding holder
holder_own p i = rw (add-one, eq-eqb (new_name p i) (new_name p i) refl) refl

holder_other : (p : List ℕ) (i j : ℕ) → (j ≡ new_name p i → ⊥) → holder i p j ≡ holder (i + 1) p j
unfolding holder
holder_other p i j q = rw (add-one, ne_eqb (new_name p i) j (λ e. q (sym e))) refl

pub inverse_turn : (p : List ℕ) (i : ℕ) → new_name p i < 5 → set (table 5 (holder i p)) (new_name p i) i ≡ table 5 (holder (i + 1) p)
inverse_turn p i h =
    let l : length (table 5 (holder i p)) ≡ 5 = length_table 5 (holder i p) in
    ext_table 0 5 (holder (i + 1) p) (set (table 5 (holder i p)) (new_name p i) i) (length-set (table 5 (holder i p)) (new_name p i) i ∙ l)
    (λ j b.
    each_set (λ (x k : ℕ). x ≡ holder (i + 1) p k) (table 5 (holder i p)) (new_name p i) i 0 (holder_own p i) j (omega (arith, l))
    (λ q. get_d_table 5 (holder i p) j 0 b ∙ holder_other p i j q))

pub inverse_end : (p back : List ℕ) (i : ℕ) → i ≡ 5 → back ≡ table 5 (holder i p) → back ≡ inverted p
unfolding inverted old_name
inverse_end p back i e h = rw e at h

inverted_at : (p : List ℕ) (j : ℕ) → j < 5 → name_in (inverted p) j ≡ old_name p j
unfolding inverted
inverted_at p j h = get_d_table 5 (old_name p) j 0 h

-- new names and old ones are below five
pub both_inward : (n : ℕ) (p : List ℕ) → n ≤ 5 → is_renaming n p ≡ true → Inward p × Inward (inverted p)
both_inward n p small f = (
  (λ j h. rw (new_name_place p j h) (to_below (renaming_of n small p f) 5 small j h)),
  (λ j h. rw (inverted_at p j h) (from_below (renaming_of n small p f) 5 small j h)),
)

-- what code reads of the inverse: the old names, below five
module _ (p back : List ℕ) (f : is_renaming 5 p ≡ true) (e : back ≡ inverted p) (j : ℕ) (h : j < 5) where
  pub back_old : name_in back j ≡ old_name p j
  back_old = ap (λ (l : List ℕ). name_in l j) e ∙ inverted_at p j h

  pub back_below : name_in back j < 5
  back_below = rw e ((both_inward 5 p (omega arith) f).1 j h)

-- ---- a renaming of no replicas leaves the state
pub leaves_state : (p : List ℕ) (s : State) → is_renaming 0 p ≡ true → Fits s → s ≡ rename_state (new_name p) (old_name p) s
leaves_state p s f fit =
    let r = renaming_of 0 (omega arith) p f in
    let to : new_name p ≡ (λ i. i) = fun_ext (λ (i : ℕ). r.keeps i (omega arith)) in
    let from : old_name p ≡ (λ i. i) = fun_ext (λ (j : ℕ). ap (old_name p) (sym (r.keeps j (omega arith))) ∙ r.from_to j) in
    sym (ap₂ (λ (t u : ℕ → ℕ). rename_state t u s) to from ∙ rename_same s fit)

-- ---- the parts of the code together
-- the requests renamed one by one are the list renamed
requests_by : (to from : ℕ → ℕ) (requests : List Request) → length requests ≡ 16
    → table 16 (renamed_request_at to from requests) ≡ map (rename_request to from) requests
requests_by to from requests l =
    sym (map_table zero_request 16 (rename_request to from) requests (renamed_request_at to from requests) l (λ e h. refl))

pub state_by : (p : List ℕ) (s : State) → length s.requests ≡ 16
    → state_of s.limits (next_leader_epoch_of s) (next_record_id_of s) (rename_quorum (new_name p) (old_name p) s.quorum)
    (table 16 (renamed_request_at (new_name p) (old_name p) s.requests))
    (rename_replicas (new_name p) (old_name p) s.replicas)
    ≡ rename_state (new_name p) (old_name p) s
state_by p s l = state_path refl refl refl refl (requests_by (new_name p) (old_name p) s.requests l) refl

-- ---- what renaming answers, by its refusal
module _ (s : State) (p : List ℕ) where
  rename_refused : (n : ℕ) → (n ≡ accepted → ⊥) → n ≡ rename_refusal s p → answer n s ≡ rename s p
  unfolding rename
  rename_refused n h e =
      by_refused n (as_given s) (answer accepted (renamed p s)) h
      ∙ ap (λ (k : ℕ). by_refusal k (as_given s) (answer accepted (renamed p s))) e

  pub rename_broken : (state_refusal s ≡ accepted → ⊥) → answer (state_refusal s) s ≡ rename s p
  unfolding rename_refusal
  rename_broken h = rename_refused (state_refusal s) h (first_yes (state_refusal s) _ h)

  module _ (h : rules s ≡ true) where
    pub rename_unfit : is_renaming (replica_count_of s.limits) p ≡ false → answer not_renaming s ≡ rename s p
    unfolding rename_refusal
    rename_unfit f =
        rename_refused not_renaming (λ e. omega arith)
        (refuse_yes (not (is_renaming (replica_count_of s.limits) p)) not_renaming accepted (ap not f)
        ∙ first_no (state_refusal s) _ (met_refusal s h))

    pub rename_fits : Renames s p → answer accepted (renamed p s) ≡ rename s p
    unfolding rename rename_refusal
    rename_fits f =
        by_accepted _ (as_given s) (answer accepted (renamed p s))
        (first_none (state_refusal s) _ (met_refusal s h) (refuse_none (not (is_renaming (replica_count_of s.limits) p)) _ _ (ap not f) refl))

-- a refused renaming gives back the given state
pub rename_given : (s : State) (p : List ℕ) → ((rename s p).refusal ≡ accepted → ⊥) → (rename s p).state ≡ s
unfolding rename
rename_given s p h =
    ap (λ (o : Outcome). o.state) (by_other (λ (o : Outcome). o.refusal) (rename_refusal s p) (as_given s) (answer accepted (renamed p s)) refl h)

-- the numbers that it may give beside 0: 41 to 47, then 27
abbrev pub rename_numbers : List ℕ
rename_numbers = state_numbers ++ not_renaming ∷ []

pub rename_listed : (s : State) (p : List ℕ) → listed (accepted ∷ rename_numbers) (rename s p).refusal ≡ true
unfolding rename rename_refusal listed every
rename_listed s p =
    let all : List ℕ = accepted ∷ rename_numbers in
    ap (listed all) (by_number (λ (o : Outcome). o.refusal) (rename_refusal s p) (as_given s) (answer accepted (renamed p s)) (λ k. refl) refl)
    ∙ listed_first all (state_refusal s) _
    (listed_within (accepted ∷ state_numbers) all (state_refusal s) refl (state_listed s))
    (listed_refuse all (not (is_renaming (replica_count_of s.limits) p)) not_renaming accepted refl refl)

-- the inverse of a renaming of five places is one
pub inverted_five : (p : List ℕ) → is_renaming 5 p ≡ true → is_renaming 5 (inverted p) ≡ true
inverted_five p f = inverted_renaming 5 (omega arith) p f
