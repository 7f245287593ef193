-- 01, "Proved examples": "f. Checking off, 5A A5 05 82 00 10 01 F4: word 0010 becomes 500."
use Rattle.std.specs.Prelude.{Some}
use mathlib.Core.Path.{◌≡◌, refl}
use mathlib.Core.Bool.{true, false}
use mathlib.Core.List.{List, [], ◌∷◌}
use Prim.Native.Nat.{ℕ, ◌≤◌, ◌<◌}
use native.Mathlib.Omega.{arith}
use borrow.Author.Tests.{le-leb, eq-eqb}
use lib.ListN.{length, take, drop}
use Rattle.frame.specs.Frame.{header_bytes, check_length, least_length, content_of, right_check}
use Rattle.frame.specs.Writer.{least_room}
use Rattle.reading.specs.Place.{look, behind, after_header, decided_by_check, cut_short}
use Rattle.reading.specs.Moves.{is_pass, passes, still_closed, settled, with_byte}
use Rattle.line.specs.declared.Asked.{Asked}
use Rattle.line.specs.declared.Report.TheVariants as line
use Rattle.line.specs.State.{padded}
use Rattle.line.specs.Methods.{given_byte, given_bytes, asked}
use Rattle.wire.specs.Addresses.{word_count}
use Rattle.words.specs.Words.{word_at_address}
use Rattle.curves.specs.Area.{curve_words}
use Rattle.watch.specs.Judge.{wrong_list}
use Rattle.commands.specs.Lent.{Lent, with_room}
use Rattle.commands.proofs.ExampleF.{example_data, example_f}
use Rattle.touch.specs.declared.Setup.{Setup}
use Rattle.panel.specs.declared.Panel.{Panel}
use Rattle.panel.specs.State.{fixed_for}
use Rattle.panel.specs.Start.{new_panel}
use Rattle.panel.specs.Inputs.{fed_bytes}
use Rattle.panel.specs.Reporting.{enough, acknowledged, accepting, handing_over, handing, reporting}

-- "Checking off", with any pages and screen
abbrev pub plain : (pages width height : ℕ) → Setup
plain pages width height = record { h1 = 0x5A; h2 = 0xA5; flags = 0; pages = pages; width = width; height = height }

-- "5A A5 05 82 00 10 01 F4"
abbrev pub example_frame : List ℕ
example_frame = 0x5A ∷ 0xA5 ∷ 0x05 ∷ 0x82 ∷ 0x00 ∷ 0x10 ∷ 0x01 ∷ 0xF4 ∷ []

-- a new panel that has been given it
abbrev pub example_fed : (pages width height : ℕ) → Panel
example_fed pages width height = (fed_bytes (new_panel (plain pages width height)) example_frame).panel

-- what handing over an 0x82 with this data stores
stored_500 : (pages width height : ℕ) (lent : Lent) → 0x10 < length lent.words → (a : Asked) → take 4 a.payload ≡ example_data
    → word_at_address (handing a (Some (line.Accepted 0x82 4)) (example_fed pages width height) lent).lent.words 0x10 ≡ 500
unfolding handing handing_over accepting fed_bytes new_panel
stored_500 pages width height lent long a is =
    let setup = plain pages width height in
    let answer = acknowledged setup 0x82 true lent.room in
    let panel = example_fed pages width height in
    rw is (example_f (fixed_for setup) panel.registers (with_room lent (drop answer.count answer.room)) long)

module _ (pages width height : ℕ) where
  frame_read : (asked (example_fed pages width height).reader).report ≡ Some (line.Accepted 0x82 4)
  unfolding fed_bytes new_panel given_bytes given_byte asked padded header_bytes check_length least_length content_of right_check look behind after_header decided_by_check cut_short is_pass passes still_closed settled with_byte
  frame_read = refl

  data_read : take 4 (asked (example_fed pages width height).reader).payload ≡ example_data
  unfolding fed_bytes new_panel given_bytes given_byte asked padded header_bytes check_length least_length content_of right_check look behind after_header decided_by_check cut_short is_pass passes still_closed settled with_byte
  data_read = refl

  -- the frame has come whole: asking with all that is lent as it must be sets word 0010 to 500
  pub example_f_of_the_panel : (lent : Lent) → length lent.words ≡ word_count → length lent.curves ≡ curve_words
      → least_room ≤ length lent.room → wrong_list lent.watched ≡ false
      → word_at_address (reporting (example_fed pages width height) lent).lent.words 0x10 ≡ 500
  unfolding reporting enough
  example_f_of_the_panel lent whole area large list =
      let a = asked (example_fed pages width height).reader in
      rw (eq-eqb (length lent.words) word_count whole, eq-eqb (length lent.curves) curve_words area, le-leb least_room (length lent.room) large, list, frame_read)
      (stored_500 pages width height lent (omega arith) (record { report = Some (line.Accepted 0x82 4); payload = a.payload; reader = a.reader }) data_read)
