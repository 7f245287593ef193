-- An input is answered 1 exactly while one of the reading's reports is left.
use mathlib.Core.Path.{◌≡◌, refl, sym, ap, ◌∙◌}
use mathlib.Core.Bool.{Bool, true, false, not, ◌||◌}
use mathlib.Core.List.{List, [], ◌∷◌, ◌++◌, map, append-nil, append_assoc}
use Prim.Native.Nat.{ℕ, suc, ◌<◌}
use borrow.Author.Tests.{eq-eqb, le-ltb}
use Rattle.frame.specs.Writer.{least_room}
use lib.ListN.{length}
use Rattle.wire.specs.Numbers.{◌when◌, first_said}
use Rattle.wire.specs.Addresses.{word_count}
use Rattle.wire.specs.Bytes.{Bytes}
use Rattle.reading.proofs.Stable.{true_is_not_false}
use Rattle.registers.specs.Touched.{is_down, is_touch_off}
use Rattle.touch.specs.declared.Setup.{Setup}
use Rattle.touch.specs.Table.{records_of}
use Rattle.panel.specs.Inputs.{fed_byte}
use Rattle.panel.specs.Sound.{Sound}
use Rattle.panel.specs.Reachable.{Reachable, by_start}
use Rattle.panel.proofs.Invariant.{reachable_sound}
use Rattle.demands.specs.Calls.{Moment, Call, byte, mark, second, contact, lift, begun, after, after_all, number_given, Typed, AllTyped}
use Rattle.demands.specs.Reports.{report_waits}
use Rattle.demands.specs.AsRead.{AsRead}
use Rattle.demands.specs.Demand1.{Condition, first_number, words_not_lent, room_too_small, one_comes_while_waiting, not_whole_records, one_wrong, off_screen, printed}
use Rattle.demands.specs.Done.{Exactly}
use Rattle.demands.specs.Left.{OneIsLeft, OneComesWhileLeft, AnsweredOne, OneWhileLeft}
use Rattle.demands.proofs.Calls.{after_then, calls_reached}
use Rattle.demands.proofs.AsRead.{always_as_read}
use Rattle.demands.proofs.Numbers.{byte_number, mark_number, second_number, lift_number_lem, bytes_number}
use Rattle.demands.proofs.TableNumbers.{contact_number_lem}
use Rattle.demands.proofs.Left.{none_is_one, one_first, chained, waits_left}

-- one more byte behind calls
typed_byte : (calls : List Call) (b : ℕ) → AllTyped calls → b < 256 → AllTyped (calls ++ (byte b ∷ []))
unfolding AllTyped Typed
typed_byte [] b typed is = (is, tt)
typed_byte (call ∷ calls) b typed is = (typed.0, typed_byte calls b typed.1 is)

or_true : (a : Bool) → (a || true) ≡ true
or_true true = refl
or_true false = refl

module _ (setup : Setup) (now : Moment) (reachable : Reachable now.panel) (always : (calls : List Call) → AllTyped calls → AsRead setup now calls) where
  reached : (calls : List Call) → AllTyped calls → Sound (after_all now calls).panel
  reached calls typed = reachable_sound (after_all now calls).panel (calls_reached now calls typed reachable)

  -- an input to which 1 is printed first
  one_while_left : (calls : List Call) → AllTyped calls → (call : Call) (cs : List Condition) → none_is_one cs ≡ true
      → number_given (after_all now calls) call ≡ first_number ((1 when report_waits (after_all now calls).panel) ∷ cs)
      → Exactly (number_given (after_all now calls) call ≡ 1) (OneIsLeft setup now calls)
  one_while_left calls typed call cs none is =
      rw is (chained (one_first (report_waits (after_all now calls).panel) cs none) (waits_left setup now calls (always calls typed)))

  -- bytes one after the other
  panel_fed : (calls : List Call) (b : ℕ) → (after_all now (calls ++ (byte b ∷ []))).panel ≡ (fed_byte (after_all now calls).panel b).panel
  unfolding after_all after
  panel_fed calls b = ap (λ (m : Moment). m.panel) (after_then now calls (byte b ∷ []))

  one_comes : (bs : List ℕ) → Bytes bs → (calls : List Call) → AllTyped calls → one_comes_while_waiting (after_all now calls).panel bs ≡ true
      → OneComesWhileLeft setup now calls bs
  unfolding one_comes_while_waiting
  one_comes [] are calls typed is = true_is_not_false (sym is)
  one_comes (b ∷ bs) are calls typed is =
      go (report_waits (after_all now calls).panel) refl is
      (λ comes. one_comes bs (λ i. are (suc i)) (calls ++ (byte b ∷ [])) (typed_byte calls b typed (are 0)) (rw (panel_fed calls b) comes))
    where
      go : (w : Bool) → report_waits (after_all now calls).panel ≡ w → (w || one_comes_while_waiting (fed_byte (after_all now calls).panel b).panel bs) ≡ true
          → (one_comes_while_waiting (fed_byte (after_all now calls).panel b).panel bs ≡ true → OneComesWhileLeft setup now (calls ++ (byte b ∷ [])) bs)
          → OneComesWhileLeft setup now calls (b ∷ bs)
      go true waits is later =
          record {
            taken = [];
            refused = b;
            rest = bs;
            place = refl;
            while_left = rw (append-nil calls) ((waits_left setup now calls (always calls typed)).only_when waits);
          }
      go false waits is later =
          let found = later is in
          record {
            taken = b ∷ found.taken;
            refused = found.refused;
            rest = found.rest;
            place = ap (λ (l : List ℕ). b ∷ l) found.place;
            while_left = rw (append_assoc calls (byte b ∷ []) (map byte found.taken)) at found.while_left;
          }

  comes_waiting : (taken : List ℕ) (refused : ℕ) (rest : List ℕ) (calls : List Call) → Bytes (taken ++ (refused ∷ rest)) → AllTyped calls
      → OneIsLeft setup now (calls ++ map byte taken) → one_comes_while_waiting (after_all now calls).panel (taken ++ (refused ∷ rest)) ≡ true
  unfolding one_comes_while_waiting
  comes_waiting [] refused rest calls are typed one =
      rw ((waits_left setup now calls (always calls typed)).wherever (rw (append-nil calls) at one))
  comes_waiting (b ∷ taken) refused rest calls are typed one =
      let later = comes_waiting taken refused rest (calls ++ (byte b ∷ [])) (λ i. are (suc i)) (typed_byte calls b typed (are 0))
      (rw (append_assoc calls (byte b ∷ []) (map byte taken)) one) in
      rw (rw (panel_fed calls b) at later) (or_true (report_waits (after_all now calls).panel))

  bytes_while_left : (bs : List ℕ) → Bytes bs → (calls : List Call) → AllTyped calls
      → Exactly (one_comes_while_waiting (after_all now calls).panel bs ≡ true) (OneComesWhileLeft setup now calls bs)
  bytes_while_left bs are calls typed =
      record {
        only_when = one_comes bs are calls typed;
        wherever = λ found.
            rw found.place
            (comes_waiting found.taken found.refused found.rest calls (rw found.place at are) typed found.while_left);
      }

  answered_one : (calls : List Call) → AllTyped calls → AnsweredOne setup now calls
  unfolding printed first_said none_is_one words_not_lent room_too_small
  answered_one calls typed =
      let last = after_all now calls in
      let sound = reached calls typed in
      record {
        of_byte = λ b. one_while_left calls typed (byte b) [] refl (byte_number last sound b);
        of_mark = one_while_left calls typed mark [] refl (mark_number last sound);
        of_second = one_while_left calls typed second [] refl (second_number last sound);
        of_lift = one_while_left calls typed lift ((10 when not (is_down last.panel.registers)) ∷ []) refl (lift_number_lem last sound);
        of_contact = λ c lent.
            one_while_left calls typed (contact c)
            ((12 when not_whole_records c.table)
            ∷ (13 when one_wrong last.panel.setup (records_of c.table))
            ∷ (9 when is_touch_off last.panel.registers)
            ∷ (8 when off_screen last.panel.setup c.x c.y)
            ∷ []) refl (contact_number_lem last sound c
            ∙ rw (eq-eqb (length last.lent.words) word_count lent.words, le-ltb (length last.lent.room) least_room lent.room, lent.watched));
        of_bytes = λ bs are.
            rw (bytes_number last (calls_reached now calls typed reachable) bs are)
            (chained (one_first (one_comes_while_waiting last.panel bs) [] refl) (bytes_while_left bs are calls typed));
      }

pub one_exactly_while_left : OneWhileLeft
one_exactly_while_left setup table lent is = answered_one setup (begun setup table lent) (by_start setup table is) (always_as_read setup table lent is)
