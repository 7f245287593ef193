-- Every panel reached from a start by any calls is sound; what that says, sentence by sentence.
use Rattle.std.specs.Prelude.{None, Ok, Err}
use mathlib.Core.Path.{◌≡◌, refl, sym, ap, ◌∙◌}
use mathlib.Core.Logic.{◌⊎◌, ◌≢◌, inl, inr}
use mathlib.Core.Bool.{Bool, true, false, cond, not}
use mathlib.Core.List.{List}
use Prim.Native.Nat.{ℕ, zero, suc, ◌≤◌, ◌<◌}
use native.Mathlib.Omega.{arith}
use lib.ListN.{length, get_or, set, replicate}
use lib.Seq.{get_or-set_other}
use Rattle.line.specs.Methods.{busy}
use Rattle.wire.specs.Addresses.{register_count}
use Rattle.wire.specs.Room.{laid_at}
use Rattle.registers.specs.declared.Registers.{Registers}
use Rattle.registers.specs.Table.{start_rows, with_rows, start_registers, register_at, is_clock, writable}
use Rattle.registers.proofs.Runs.{started as start_sets}
use Rattle.registers.specs.Touched.{page_of, is_down}
use Rattle.touch.specs.declared.Setup.{Setup}
use Rattle.touch.specs.Judge.{Verdict}
use Rattle.touch.specs.declared.TableError.TheVariants.{NotRecords, Wrong}
use Rattle.touch.specs.Setup.{checking_of, acknowledging_of, good_setup}
use Rattle.touch.specs.Judge.{judged}
use Rattle.panel.specs.declared.Panel.{Panel}
use Rattle.panel.specs.declared.StartError.TheVariants as start_error
use Rattle.panel.specs.State.{panel_register}
use Rattle.panel.specs.Start.{refuses, new_panel, start_judged, started}
use Rattle.panel.specs.Sound.{line_of, Sound}
use Rattle.panel.specs.Reachable.{Reachable, by_start, by_byte, by_mark, by_second, by_bytes, by_report, by_contact, by_lift}
use Rattle.panel.proofs.Soundness.{held_257, new_sound, byte_sound, mark_sound, second_sound, bytes_sound, report_sound, contact_sound, lift_sound}

-- a start that is done had a good setup
judged_started : (verdict : Verdict) (setup : Setup) → (start_judged verdict setup).answer ≡ Ok tt → (start_judged verdict setup).panel ≡ new_panel setup
unfolding start_judged
judged_started (Ok tt) setup is = refl
judged_started (Err NotRecords) setup is = absurd (let z : ◌≡◌ {A = ℕ} 0 1 = cc in omega arith)
judged_started (Err (Wrong i)) setup is = absurd (let z : ◌≡◌ {A = ℕ} 0 1 = cc in omega arith)

pub started_sound : (setup : Setup) (table : List ℕ) → (started setup table).answer ≡ Ok tt → Sound (started setup table).panel
unfolding started
started_sound setup table is = go (good_setup setup) refl is
  where
    go : (b : Bool) → good_setup setup ≡ b → (cond (not b) (refuses (Err start_error.WrongSetup)) (start_judged (judged setup table) setup)).answer ≡ Ok tt
        → Sound (cond (not b) (refuses (Err start_error.WrongSetup)) (start_judged (judged setup table) setup)).panel
    go true good is = rw (judged_started (judged setup table) setup is) (new_sound setup good)
    go false good is = absurd (let z : ◌≡◌ {A = ℕ} 0 1 = cc in omega arith)

pub reachable_sound : (panel : Panel) → Reachable panel → Sound panel
reachable_sound _ (by_start setup table is) = started_sound setup table is
reachable_sound _ (by_byte panel b byte before) = byte_sound panel (reachable_sound panel before) b byte
reachable_sound _ (by_mark panel before) = mark_sound panel (reachable_sound panel before)
reachable_sound _ (by_second panel before) = second_sound panel (reachable_sound panel before)
reachable_sound _ (by_bytes panel bytes are before) = bytes_sound panel (reachable_sound panel before) bytes are
reachable_sound _ (by_report panel lent before) = report_sound panel (reachable_sound panel before) lent
reachable_sound _ (by_contact panel c lent before) = contact_sound panel (reachable_sound panel before) c lent
reachable_sound _ (by_lift panel before) = lift_sound panel (reachable_sound panel before)

true_false : ◌≡◌ {A = Bool} true false → ⊥
true_false is = let z : ◌≡◌ {A = ℕ} 0 1 = cc in omega arith

none_of_zeros : (n i : ℕ) → ◌≡◌ {A = ℕ} (get_or (replicate n 0) i 0) 0
none_of_zeros zero i = refl
none_of_zeros (suc n) zero = refl
none_of_zeros (suc n) (suc i) = none_of_zeros n i

sets_elsewhere : (z : List ℕ) (address p q r s t u v w x y : ℕ) → address ≢ 0x00 → address ≢ 0x01 → address ≢ 0x0B → address ≢ 0x12 → address ≢ 0x13 → address ≢ 0x1A → address ≢ 0x1C
    → address ≢ 0x21 → address ≢ 0x22 → address ≢ 0x23
    → get_or (set (set (set (set (set (set (set (set (set (set z 0x00 p) 0x01 q) 0x0B r) 0x12 s) 0x13 t) 0x1A u) 0x1C v) 0x21 w) 0x22 x) 0x23 y) address 0
    ≡ get_or z address 0
sets_elsewhere z address p q r s t u v w x y a b c d e f g h i j =
    rw (
      get_or-set_other,
      get_or-set_other,
      get_or-set_other,
      get_or-set_other,
      get_or-set_other,
      get_or-set_other,
      get_or-set_other,
      get_or-set_other,
      get_or-set_other,
      get_or-set_other,
    )

-- what the table prints no start for reads 00 at the start
start_reads_00 : (h1 h2 : ℕ) (checking acknowledging : Bool) (address : ℕ) → writable address ≡ false → address ≢ 0x00 → address ≢ 0x12 → address ≢ 0x13
    → address ≢ 0x1A → address ≢ 0x1C → register_at (start_registers h1 h2 checking acknowledging) address ≡ 0
unfolding register_at writable is_clock
start_reads_00 h1 h2 checking acknowledging address never a b c d e =
    let light : address ≢ 0x01 = λ is. true_false (ap writable (sym is) ∙ never) in
    let enable : address ≢ 0x0B = λ is. true_false (ap writable (sym is) ∙ never) in
    let month : address ≢ 0x21 = λ is. true_false (ap writable (sym is) ∙ never) in
    let day : address ≢ 0x22 = λ is. true_false (ap writable (sym is) ∙ never) in
    let weekday : address ≢ 0x23 = λ is. true_false (ap writable (sym is) ∙ never) in
    ap (λ (r : Registers). get_or r.bytes address 0)
    (sym (start_sets h1 h2 (cond checking 0x10 0x00) (cond acknowledging 0x08 0x00) checking acknowledging refl refl))
    ∙ sets_elsewhere (replicate register_count 0) address 0x10 0x3F 0xFF (cond checking 0x10 0x00) h1 h2 (cond acknowledging 0x08 0x00) 1 1 6 a light enable b c d e month day weekday
    ∙ none_of_zeros register_count address

module _ (panel : Panel) (reachable : Reachable panel) where
  sound : Sound panel
  sound = reachable_sound panel reachable

  -- "There are 256 register bytes"
  pub always_256_registers : length panel.registers.bytes ≡ register_count
  always_256_registers = sound.pad.whole

  -- "page, below P"
  pub page_always_below : page_of panel.registers < panel.setup.pages
  page_always_below = sound.pad.below

  -- a catch only while down
  pub up_holds_no_catch : is_down panel.registers ≡ false → panel.catch ≡ None
  up_holds_no_catch = sound.pad.up_free

  -- "otherwise the bytes from the waiting place on are held": one byte less than the longest frame has
  pub never_holds_over_257 : busy panel.reader ≡ false → panel.reader.len ≤ 257
  never_holds_over_257 = held_257 (line_of panel.setup) panel.reader sound.reads

  -- "00 version", "12 10 if checking, else 00", "13, 1A H1, H2", "1C 08 if acknowledging, else 00"
  pub version_always_10 : panel_register panel 0x00 ≡ 0x10
  unfolding start_registers start_rows with_rows laid_at register_at writable is_clock
  version_always_10 = sound.fixed 0x00 refl (inl (omega arith))

  pub checking_always_told : panel_register panel 0x12 ≡ cond (checking_of panel.setup) 0x10 0x00
  unfolding start_registers start_rows with_rows laid_at register_at writable is_clock
  checking_always_told = sound.fixed 0x12 refl (inr (omega arith))

  pub header_always_told : (panel_register panel 0x13 ≡ panel.setup.h1) × (panel_register panel 0x1A ≡ panel.setup.h2)
  unfolding start_registers start_rows with_rows laid_at register_at writable is_clock
  header_always_told = (sound.fixed 0x13 refl (inr (omega arith)), sound.fixed 0x1A refl (inr (omega arith)))

  pub acknowledging_always_told : panel_register panel 0x1C ≡ cond (acknowledging_of panel.setup) 0x08 0x00
  unfolding start_registers start_rows with_rows laid_at register_at writable is_clock
  acknowledging_always_told = sound.fixed 0x1C refl (inr (omega arith))

  -- "Every other register reads 00"
  pub other_always_00 : (address : ℕ) → writable address ≡ false → (address < 0x03) ⊎ (0x0B ≤ address) → address ≢ 0x00 → address ≢ 0x12 → address ≢ 0x13
      → address ≢ 0x1A → address ≢ 0x1C → panel_register panel address ≡ 0
  other_always_00 address never outside a b c d e =
      sound.fixed address never outside
      ∙ start_reads_00 panel.setup.h1 panel.setup.h2 (checking_of panel.setup) (acknowledging_of panel.setup) address never a b c d e
