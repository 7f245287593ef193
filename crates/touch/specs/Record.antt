-- 01, "Setup and touch table", how a record of 32 bytes reads. A field is named as 01 names it and stands beside its offset.
use Rattle.std.specs.Prelude.{ℕ, ◌+◌, ◌/◌, ◌%◌, Bool, true, false, cond, not, List, eqb}
use Rattle.wire.specs.ByteOrder.{byte_at, word_at, high_byte}
use Rattle.touch.specs.declared.Area.{Area}
use Rattle.touch.specs.declared.StepFields.{StepFields}
use Rattle.touch.specs.declared.SliderFields.{SliderFields}
use Rattle.touch.specs.declared.Kind.{Kind}
use Rattle.touch.specs.declared.Kind.TheVariants.{Key, Step, Slider, Other}
use Rattle.touch.specs.declared.Record.{Record}

-- "area Xs, Ys, Xe, Ye"
unfoldable pub area_at : List ℕ → ℕ → Area
area_at bytes at =
    record {
      xs = word_at bytes at;
      ys = word_at bytes (at + 2);
      xe = word_at bytes (at + 4);
      ye = word_at bytes (at + 6);
    }

-- Step: "14 direction, 00 down, else up; 15 at the end, 00 stop, else go round; 16 step 1 to 32,767; 18 least; 1A greatest, ..;
-- 1C must be 01"
unfoldable pub step_fields : List ℕ → StepFields
step_fields bytes =
    record {
      direction = byte_at bytes 0x14;
      ending = byte_at bytes 0x15;
      step = word_at bytes 0x16;
      least = word_at bytes 0x18;
      greatest = word_at bytes 0x1A;
      once = byte_at bytes 0x1C;
    }

-- Slider: "14 area again, ..; 1C begin; 1E end"
unfoldable pub slider_fields : List ℕ → SliderFields
slider_fields bytes =
    record { again = area_at bytes 0x14; begin = word_at bytes 0x1C; end = word_at bytes 0x1E }

-- "0E code FE02, FE03 or FE05"; Key: "14 code"
unfoldable pub kind_of : List ℕ → Kind
kind_of bytes =
    cond (eqb (word_at bytes 0x0E) 0xFE05) (Key (word_at bytes 0x14))
    (cond (eqb (word_at bytes 0x0E) 0xFE02) (Step (step_fields bytes))
    (cond (eqb (word_at bytes 0x0E) 0xFE03) (Slider (slider_fields bytes)) Other))

-- "All records: 00 page; 02 area Xs, Ys, Xe, Ye; 0A next page, ..; 0C ignored; 0E code ..; 10 FE; 11 word address; 13 mode."
unfoldable pub record_of : List ℕ → Record
record_of bytes =
    record {
      page = word_at bytes 0x00;
      area = area_at bytes 0x02;
      next = word_at bytes 0x0A;
      kind = kind_of bytes;
      fe = byte_at bytes 0x10;
      word = word_at bytes 0x11;
      mode = byte_at bytes 0x13;
    }

-- "0A next page, FFxx for none"
abbrev pub no_next : Record → Bool
no_next r = eqb (high_byte r.next) 0xFF

-- "Slider (03)"
abbrev pub is_slider : Kind → Bool
is_slider (Key code) = false
is_slider (Step f) = false
is_slider (Slider f) = true
is_slider Other = false

-- "A slider that acted is caught"
abbrev pub slides : Record → Bool
slides r = is_slider r.kind

-- Step: "14 direction, 00 down, else up"
abbrev pub up : StepFields → Bool
up f = not (eqb f.direction 0)

-- "15 at the end, 00 stop, else go round"
abbrev pub round : StepFields → Bool
round f = not (eqb f.ending 0)

-- Slider: "mode high digit 0, 1, 2 as above"
abbrev pub digit_mode : ℕ → ℕ
digit_mode mode = mode / 16

-- "low digit 0 across, 1 down": of two numbers, the one along a slider's axis
abbrev pub along : (mode across down : ℕ) → ℕ
along mode across down = cond (eqb (mode % 16) 0) across down

-- "the first edge" along the axis
abbrev pub first_edge : ℕ → Area → ℕ
first_edge mode a = along mode a.xs a.ys

-- the other edge along it, for "the edge-to-edge distance"
abbrev pub last_edge : ℕ → Area → ℕ
last_edge mode a = along mode a.xe a.ye
