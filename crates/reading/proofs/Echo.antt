-- Demand 3 where the damage is our own acknowledgements: what has to be checked of its premise, and that for header 5A A5 nothing has.
use mathlib.Core.Path.{◌≡◌, refl, sym, ap, ◌∙◌}
use mathlib.Core.Bool.{Bool, true, false, not, ◌&&◌}
use mathlib.Core.List.{List, [], ◌∷◌, ◌++◌, append_assoc}
use Prim.Native.Nat.{ℕ, zero, suc, ◌+◌, ◌<◌}
use native.Mathlib.Omega.{arith}
use borrow.Author.Tests.{eq-eqb, not-true}
use lib.Dec.{eqb}
use lib.ListN.{length, get_or, drop, length-append}
use lib.Seq.{drop-append-add}
use Rattle.wire.specs.Bytes.{Bytes}
use Rattle.wire.proofs.Truths.{or_left, or_right}
use Rattle.wire.proofs.EachBelow.{all_below, below_passes}
use Rattle.check_value.specs.CheckValue.{polynomial, bit_step, bit_steps, byte_step, check_from, check_value}
use Rattle.frame.specs.Acknowledgement.{acknowledgement_length, verdict, acknowledgement}
use Rattle.reading.specs.Place.{Rules}
use Rattle.reading.specs.Demand3.{Good, BeginsNone, checked}
use Rattle.reading.specs.Echo.{Sent, sent_bytes, echo, CommandBytes, BeginsNoneInside, first_is, pair_in, header_inside, NoHeaderInside}
use Rattle.reading.proofs.Stable.{true_is_not_false}
use Rattle.reading.proofs.Acknowledgements.{acknowledgement_begins_none}

-- The premise of demand 3, place by place.

-- damage of two parts: the premise of each, the second part having come behind the first
module _ (rules : Rules) where
  none_in_first : (first second come : List ℕ) → BeginsNone rules (first ++ second) come → BeginsNone rules first (second ++ come)
  none_in_first first second come begins_none p inside frame rest is good =
      begins_none p (simp length-append (omega arith)) frame rest (ap (drop p) (append_assoc first second come) ∙ is) good

  none_in_second : (first second come : List ℕ) → BeginsNone rules (first ++ second) come → BeginsNone rules second come
  none_in_second first second come begins_none p inside frame rest is good =
      begins_none (length first + p) (simp length-append (omega arith)) frame rest
      (ap (drop (length first + p)) (append_assoc first second come) ∙ drop-append-add first (second ++ come) p ∙ is) good

  none_in_both : (first second come : List ℕ) → BeginsNone rules first (second ++ come) → BeginsNone rules second come
      → BeginsNone rules (first ++ second) come
  none_in_both [] second come one other p inside frame rest is good = other p inside frame rest is good
  none_in_both (x ∷ first) second come one other zero inside frame rest is good =
      one 0 (omega arith) frame rest (ap (λ (l : List ℕ). x ∷ l) (sym (append_assoc first second come)) ∙ is) good
  none_in_both (x ∷ first) second come one other (suc p) inside frame rest is good =
      none_in_both first second come (λ q within. one (suc q) (omega arith)) other p (omega arith) frame rest is good

  none_behind_first : (damage come : List ℕ) → BeginsNone rules damage come → BeginsNone rules (drop 1 damage) come
  none_behind_first [] come begins_none = begins_none
  none_behind_first (x ∷ damage) come begins_none = λ p inside. begins_none (suc p) (omega arith)

  none_with_first : (damage come : List ℕ) → ((frame rest : List ℕ) → damage ++ come ≡ frame ++ rest → Good rules frame → ⊥)
      → BeginsNone rules (drop 1 damage) come → BeginsNone rules damage come
  none_with_first [] come first later p inside = later p inside
  none_with_first (x ∷ damage) come first later zero inside = first
  none_with_first (x ∷ damage) come first later (suc p) inside = later p (omega arith)

-- Of an echo exactly the places inside the acknowledgements have to be checked: with checking on their first ones never begin a good frame.
module _ (rules : Rules) (come : List ℕ) where
  -- "Two header bytes H1 H2", or one
  abbrev header : List ℕ
  header = rules.header

  first_begins_none : rules.checking ≡ true → (s : Sent) (more frame rest : List ℕ) → sent_bytes header s ++ more ≡ frame ++ rest → Good rules frame → ⊥
  first_begins_none checking s more frame rest is good = acknowledgement_begins_none header s.command s.accepted more frame rest is (rw checking at good)

  pub echo_checked_inside : rules.checking ≡ true → (sent : List Sent) → BeginsNoneInside rules sent come → BeginsNone rules (echo header sent) come
  unfolding echo
  echo_checked_inside checking [] inside = λ p within. absurd (omega arith)
  echo_checked_inside checking (s ∷ sent) inside =
      let more = echo header sent ++ come in
      none_in_both rules (sent_bytes header s) (echo header sent) come
      (none_with_first rules (sent_bytes header s) more (first_begins_none checking s more) inside.0)
      (echo_checked_inside checking sent inside.1)

  pub echo_needs_inside : (sent : List Sent) → BeginsNone rules (echo header sent) come → BeginsNoneInside rules sent come
  unfolding echo
  echo_needs_inside [] begins_none = tt
  echo_needs_inside (s ∷ sent) begins_none =
      let here = none_in_first rules (sent_bytes header s) (echo header sent) come begins_none in (
        none_behind_first rules (sent_bytes header s) (echo header sent ++ come) here,
        echo_needs_inside sent (none_in_second rules (sent_bytes header s) (echo header sent) come begins_none),
      )

-- Where the header does not stand inside an acknowledgement, none of its places begins a good frame.
module _ (h1 h2 : ℕ) where
  -- the byte behind the first ones of a list, or H2 behind all of it
  second_kept : (xs come zs : List ℕ) → xs ++ come ≡ h2 ∷ zs → first_is h2 (xs ++ (h2 ∷ [])) ≡ true
  unfolding first_is
  second_kept [] come zs is = eq-eqb h2 h2 refl
  second_kept (x ∷ xs) come zs is = eq-eqb x h2 (ap (λ (l : List ℕ). get_or l 0 0) is)

  -- a good frame begins with the header
  header_first : (frame rest : List ℕ) → Good (checked h1 h2) frame → (zs : List ℕ) × (frame ++ rest ≡ h1 ∷ h2 ∷ zs)
  header_first frame rest good = ((length good.body ∷ good.body) ++ rest, ap (λ (f : List ℕ). f ++ rest) good.whole)

  pair_free : (xs come : List ℕ) → pair_in h1 h2 (xs ++ (h2 ∷ [])) ≡ false → BeginsNone (checked h1 h2) xs come
  unfolding pair_in
  pair_free [] come free p inside frame rest is good = absurd (omega arith)
  pair_free (x ∷ xs) come free zero inside frame rest is good =
      let begun = header_first frame rest good in
      let parts : x ∷ (xs ++ come) ≡ h1 ∷ h2 ∷ begun.0 = is ∙ begun.1 in
      let one : x ≡ h1 = ap (λ (l : List ℕ). get_or l 0 0) parts in
      let two : first_is h2 (xs ++ (h2 ∷ [])) ≡ true = second_kept xs come begun.0 (ap (drop 1) parts) in
      let here : (eqb x h1 && first_is h2 (xs ++ (h2 ∷ []))) ≡ true = rw (eq-eqb x h1 one, two) in
      true_is_not_false (sym here ∙ or_left (eqb x h1 && first_is h2 (xs ++ (h2 ∷ []))) (pair_in h1 h2 (xs ++ (h2 ∷ []))) free)
  pair_free (x ∷ xs) come free (suc p) inside frame rest is good =
      pair_free xs come (or_right (eqb x h1 && first_is h2 (xs ++ (h2 ∷ []))) (pair_in h1 h2 (xs ++ (h2 ∷ []))) free) p (omega arith) frame rest is good

  none_inside : (sent : List Sent) (come : List ℕ) → NoHeaderInside h1 h2 sent → BeginsNoneInside (checked h1 h2) sent come
  unfolding header_inside
  none_inside [] come free = tt
  none_inside (s ∷ sent) come free =
      (pair_free (drop 1 (sent_bytes (h1 ∷ h2 ∷ []) s)) (echo (h1 ∷ h2 ∷ []) sent ++ come) free.0, none_inside sent come free.1)

  -- demand 3's premise where the damage is an echo of such acknowledgements, whatever follows it
  pub echo_begins_none : (sent : List Sent) (come : List ℕ) → NoHeaderInside h1 h2 sent → BeginsNone (checked h1 h2) (echo (h1 ∷ h2 ∷ []) sent) come
  echo_begins_none sent come free = echo_checked_inside (checked h1 h2) come refl sent (none_inside sent come free)

-- Header 5A A5: one test over every command byte, for each of the two verdicts.

abbrev no_header : (accepted : Bool) → ℕ → Bool
no_header accepted command = not (header_inside 0x5A 0xA5 (record { command = command; accepted = accepted }))

all_512 : (accepted : Bool) → all_below 256 (no_header accepted) ≡ true
unfolding all_below header_inside pair_in first_is acknowledgement acknowledgement_length verdict check_value check_from byte_step bit_steps bit_step polynomial
all_512 true = refl
all_512 false = refl

-- every acknowledgement of a panel with this header
pub printed_header_free : (sent : Sent) → sent.command < 256 → header_inside 0x5A 0xA5 sent ≡ false
printed_header_free sent below = not-true (header_inside 0x5A 0xA5 sent) (below_passes 256 (no_header sent.accepted) (all_512 sent.accepted) sent.command below)

-- so every run of them
pub printed_none_inside : (sent : List Sent) → CommandBytes sent → NoHeaderInside 0x5A 0xA5 sent
printed_none_inside [] are = tt
printed_none_inside (s ∷ sent) are = (printed_header_free s are.0, printed_none_inside sent are.1)

-- no place in a run of acknowledgements, of any command bytes and verdicts, begins a good frame, whatever follows it
pub printed_echo_begins_none : (sent : List Sent) → CommandBytes sent → (come : List ℕ)
    → BeginsNone (checked 0x5A 0xA5) (echo (0x5A ∷ 0xA5 ∷ []) sent) come
printed_echo_begins_none sent are come = echo_begins_none 0x5A 0xA5 sent come (printed_none_inside sent are)

-- what has come as bytes has command bytes
pub commands_are_bytes : (sent : List Sent) (come : List ℕ) → Bytes (echo (0x5A ∷ 0xA5 ∷ []) sent ++ come) → CommandBytes sent
unfolding echo acknowledgement
commands_are_bytes [] come are = tt
commands_are_bytes (s ∷ sent) come are = (are 3, commands_are_bytes sent come (λ i. are (suc (suc (suc (suc (suc (suc (suc i)))))))))
