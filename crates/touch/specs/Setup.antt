-- 01, "Setup and touch table", the setup.
use Rattle.std.specs.Prelude.{ℕ, ◌/◌, ◌%◌, Bool, cond, not, ◌&&◌, List, [], ◌∷◌, ltb, leb, eqb}
use Rattle.wire.specs.Numbers.{Said, says, Listed, ◌when◌, first_said}
use Rattle.touch.specs.declared.Setup.{Setup}

-- "flags (bit 0 checking, bit 1 acknowledging, others 0)"; 02, §5: "11 now concerns bits 3 to 7": how many values they may take
abbrev pub flag_values : ℕ
flag_values = 8

-- "bit 0 checking"
abbrev pub checking_of : Setup → Bool
checking_of s = eqb (s.flags % 2) 1

-- "bit 1 acknowledging"
abbrev pub acknowledging_of : Setup → Bool
acknowledging_of s = eqb (s.flags / 2 % 2) 1

-- "flags .., pages P 1 to 65,280, width 1 to 1,024, height 1 to 768"
abbrev pub good_setup : Setup → Bool
good_setup s =
    ltb s.flags flag_values
    && leb 1 s.pages && leb s.pages 65280
    && leb 1 s.width && leb s.width 1024
    && leb 1 s.height && leb s.height 768

-- "0: done", "11: setup wrong": the number of a setup that is good or not
abbrev pub number_of_setup : (good : Bool) → ℕ
number_of_setup good = cond good 0 11

-- the list by which a setup is judged: "11: setup wrong"
unfoldable pub setup_listed : Setup → List Listed
setup_listed s = (says 11 [] when not (good_setup s)) ∷ []

-- "The first number in order whose condition holds is given", "0: done" where none does: of a setup
abbrev pub setup_said : Setup → Said
setup_said s = first_said (setup_listed s) (says 0 [])
