-- Touches keep registers and catch sound.
use mathlib.Core.Path.{◌≡◌, refl, sym, ap, ◌∙◌}
use mathlib.Core.Logic.{inl}
use mathlib.Core.Bool.{Bool, true, false, cond, true≢false}
use mathlib.Core.List.{List}
use Prim.Native.Nat.{ℕ, ◌<◌}
use native.Mathlib.Omega.{arith}
use lib.ListN.{length}
use Rattle.std.specs.Prelude.{Some, None, Ok}
use Rattle.std.proofs.lemmas.Option.{none-some}
use Rattle.registers.specs.declared.Registers.{Registers}
use Rattle.registers.specs.Table.{register_at}
use Rattle.registers.specs.Touched.{page_of, with_page, is_down, with_status, with_place}
use Rattle.registers.proofs.Touched.{length_with_status, status_only, length_with_page, page_now, same_page}
use Rattle.touch.specs.declared.Setup.{Setup}
use Rattle.touch.specs.declared.Record.{Record}
use Rattle.touch.specs.Record.{no_next, slides}
use Rattle.touch.specs.Judge.{good_record, judged}
use Rattle.touch.specs.Table.{Found}
use Rattle.touch.specs.Find.{found}
use Rattle.touch.proofs.Tables.{found_good}
use Rattle.touch.proofs.GoodFields.{good_next}
use Rattle.contact.specs.declared.Pad.{Pad}
use Rattle.contact.specs.Contact.{Catch, pad_with, showing, catching, acting, pressed, held_down, touched, lifted}
use Rattle.contact.specs.Sound.{Sound}
use Rattle.contact.proofs.Named.{length_marked, marked_status, marked_only}

down_by_1 : (registers : Registers) → register_at registers 0x06 ≡ 0x01 → is_down registers ≡ true
unfolding is_down
down_by_1 registers is = rw is

down_by_3 : (registers : Registers) → register_at registers 0x06 ≡ 0x03 → is_down registers ≡ true
unfolding is_down
down_by_3 registers is = rw is

abbrev CaughtGood : Setup → Catch → Type 0
CaughtGood setup catch = (r : Record) → catch ≡ Some r → (good_record setup r ≡ true) × (slides r ≡ true)

free_good : (setup : Setup) → CaughtGood setup None
free_good setup r is = absurd (none-some r is)

-- while down, any good catch is sound
down_sound : (setup : Setup) (registers : Registers) (catch : Catch) → length registers.bytes ≡ 256 → page_of registers < setup.pages
    → is_down registers ≡ true → CaughtGood setup catch → Sound setup (pad_with registers catch)
down_sound setup registers catch whole below down good =
    record { whole = whole; below = below; up_free = λ up. absurd (true≢false (sym down ∙ up)); caught_good = good }

module _ (setup : Setup) (pad : Pad) (sound : Sound setup pad) (x y : ℕ) where
  whole' : length pad.registers.bytes ≡ 256
  whole' = sound.whole

  marked_below : (status : ℕ) → page_of (with_place (with_status pad.registers status) x y) < setup.pages
  marked_below status =
      rw (same_page (with_place (with_status pad.registers status) x y) pad.registers
      (marked_only pad.registers whole' status x y 0x03 (inl (omega arith))) (marked_only pad.registers whole' status x y 0x04 (inl (omega arith))))
      sound.below

  held_down_sound : (words : List ℕ) → Sound setup (held_down setup pad words x y).pad
  unfolding held_down
  held_down_sound words =
      down_sound setup (with_place (with_status pad.registers 0x03) x y) pad.catch (length_marked pad.registers whole' 0x03 x y) (marked_below 0x03)
      (down_by_3 (with_place (with_status pad.registers 0x03) x y) (marked_status pad.registers whole' 0x03 x y)) sound.caught_good

  abbrev now : Registers
  now = with_place (with_status pad.registers 0x01) x y

  now_sound : (catch : Catch) → CaughtGood setup catch → Sound setup (pad_with now catch)
  now_sound catch good =
      down_sound setup now catch (length_marked pad.registers whole' 0x01 x y) (marked_below 0x01)
      (down_by_1 now (marked_status pad.registers whole' 0x01 x y)) good

  caught_by : (r : Record) → good_record setup r ≡ true → CaughtGood setup (catching r pad.catch)
  unfolding catching
  caught_by r good = go (slides r) refl
    where
      go : (b : Bool) → slides r ≡ b → CaughtGood setup (cond b (Some r) pad.catch)
      go true is q e =
          let same : r ≡ q = cc in
          (ap (good_record setup) (sym same) ∙ good, ap slides (sym same) ∙ is)
      go false is q e = sound.caught_good q e

  shown_sound : (r : Record) → good_record setup r ≡ true → Sound setup (showing r now (catching r pad.catch))
  unfolding showing
  shown_sound r good = go (no_next r) refl
    where
      go : (b : Bool) → no_next r ≡ b → Sound setup (cond b (pad_with now (catching r pad.catch)) (pad_with (with_page now r.next) None))
      go true is = now_sound (catching r pad.catch) (caught_by r good)
      go false is =
          let long : length now.bytes ≡ 256 = length_marked pad.registers whole' 0x01 x y in
          record {
            whole = length_with_page now long r.next;
            below = rw (page_now now long r.next) (good_next setup r good is);
            up_free = λ up. refl;
            caught_good = free_good setup;
          }

  module _ (table words : List ℕ) (good : judged setup table ≡ Ok tt) where
    pressed_sound : Sound setup (pressed setup pad table words x y).pad
    unfolding pressed acting
    pressed_sound = go (found table (page_of pad.registers) x y) refl
      where
        go : (f : Found) → found table (page_of pad.registers) x y ≡ f → Sound setup (acting setup f now pad.catch words x y).pad
        go None is = now_sound pad.catch sound.caught_good
        go (Some (i, r)) is = shown_sound r (found_good setup table (page_of pad.registers) x y i r good is)

    -- a contact with a table judged good
    pub touched_sound : Sound setup (touched setup pad table words x y).pad
    unfolding touched
    touched_sound = go (is_down pad.registers)
      where
        go : (b : Bool) → Sound setup (cond b (held_down setup pad words x y) (pressed setup pad table words x y)).pad
        go true = held_down_sound words
        go false = pressed_sound

-- a lift
pub lifted_sound : (setup : Setup) (pad : Pad) → Sound setup pad → Sound setup (lifted pad)
unfolding lifted
lifted_sound setup pad sound =
    let long : length pad.registers.bytes ≡ 256 = sound.whole in
    record {
      whole = length_with_status pad.registers long 0x02;
      below = rw (same_page (with_status pad.registers 0x02) pad.registers
          (status_only pad.registers long 0x02 0x03 (λ e. omega arith)) (status_only pad.registers long 0x02 0x04 (λ e. omega arith))) sound.below;
      up_free = λ up. refl;
      caught_good = free_good setup;
    }
