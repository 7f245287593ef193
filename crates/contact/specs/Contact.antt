-- 01, "Contact and lift": what a contact that is not refused, and a lift, leave.
use Rattle.std.specs.Prelude.{ℕ, cond, List, Option, Some, None}
use Rattle.registers.specs.declared.Registers.{Registers}
use Rattle.registers.specs.Touched.{page_of, with_page, is_down, with_status, with_place}
use Rattle.words.specs.Words.{word_at_address, word_set}
use Rattle.touch.specs.declared.Setup.{Setup}
use Rattle.touch.specs.declared.Record.{Record}
use Rattle.touch.specs.Record.{no_next, slides}
use Rattle.touch.specs.Table.{Found}
use Rattle.touch.specs.Find.{found}
use Rattle.touch.specs.Act.{acted_of, dragged_of}
use Rattle.contact.specs.declared.Pad.{Pad}

-- "A slider that acted is caught: the panel keeps a copy of its record.": that copy, or none
abbrev pub Catch : Type 0
Catch = Option Record

-- builds what a touch sets of a panel: the registers and the catch
abbrev pub pad_with : Registers → Catch → Pad
pad_with registers catch = record { registers = registers; catch = catch }

-- registers, catch and words as they are left
pub record Touching : Type 0 where
  pub pad : Pad
  pub words : List ℕ

-- builds one
abbrev pub touching : Pad → List ℕ → Touching
touching pad words = record { pad = pad; words = words }

-- "then its next page is shown"; "Every page write by a command or a next page, even of the same number, drops the catch."
unfoldable pub showing : Record → Registers → Catch → Pad
showing r registers catch = cond (no_next r) (pad_with registers catch) (pad_with (with_page registers r.next) None)

-- "A slider that acted is caught: the panel keeps a copy of its record."
unfoldable pub catching : Record → Catch → Catch
catching r catch = cond (slides r) (Some r) catch

-- "The first record of the current page holding the point acts, then its next page is shown."
unfoldable pub acting : Setup → Found → Registers → Catch → List ℕ → (x y : ℕ) → Touching
acting setup None registers catch words x y = touching (pad_with registers catch) words
acting setup (Some (i, r)) registers catch words x y =
    touching (showing r registers (catching r catch)) (word_set words r.word (acted_of setup r (word_at_address words r.word) x y))

-- "Contact while up: status 01, and if the flag isn't 5A, X and Y are stored and the flag becomes 5A."
unfoldable pub pressed : Setup → Pad → List ℕ → List ℕ → (x y : ℕ) → Touching
pressed setup pad table words x y =
    let registers = with_place (with_status pad.registers 0x01) x y in
    acting setup (found table (page_of pad.registers) x y) registers pad.catch words x y

-- "a caught slider stores for the point moved to the nearest place in its area; nothing else acts"
unfoldable pub dragging : Setup → Catch → List ℕ → (x y : ℕ) → List ℕ
dragging setup None words x y = words
dragging setup (Some r) words x y = word_set words r.word (dragged_of setup r (word_at_address words r.word) x y)

-- "Contact while down: status 03, flag and place by the same rule"
unfoldable pub held_down : Setup → Pad → List ℕ → (x y : ℕ) → Touching
held_down setup pad words x y =
    let registers = with_place (with_status pad.registers 0x03) x y in
    touching (pad_with registers pad.catch) (dragging setup pad.catch words x y)

-- "Contact while up" or "Contact while down", as the status says
unfoldable pub touched : Setup → Pad → List ℕ → List ℕ → (x y : ℕ) → Touching
touched setup pad table words x y = cond (is_down pad.registers) (held_down setup pad words x y) (pressed setup pad table words x y)

-- "Lift: status 02, the catch is dropped."
unfoldable pub lifted : Pad → Pad
lifted pad = pad_with (with_status pad.registers 0x02) None
