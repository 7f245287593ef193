-- What registers and catch keep through every touch: 256 register bytes, "page, below P", and a catch only while the panel is touched, of a record
-- that is a good slider.
use Rattle.std.specs.Prelude.{◌≡◌, true, false, ◌<◌, length, Some, None}
use Rattle.registers.specs.Touched.{page_of, is_down}
use Rattle.touch.specs.declared.Setup.{Setup}
use Rattle.touch.specs.declared.Record.{Record}
use Rattle.touch.specs.Record.{slides}
use Rattle.touch.specs.Judge.{good_record}
use Rattle.contact.specs.declared.Pad.{Pad}

-- holds of registers and catch of every panel that is reached
pub record Sound (setup : Setup) (pad : Pad) : Type 0 where
  -- "There are 256 register bytes"
  pub whole : length pad.registers.bytes ≡ 256
  -- "page, below P"
  pub below : page_of pad.registers < setup.pages
  -- "Lift: .. the catch is dropped": there is none while the panel is up
  pub up_free : is_down pad.registers ≡ false → pad.catch ≡ None
  -- "A slider that acted is caught", and only records of a good table act
  pub caught_good : (r : Record) → pad.catch ≡ Some r → (good_record setup r ≡ true) × (slides r ≡ true)
