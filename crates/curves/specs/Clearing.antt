-- 02, §2: "Register EB, from source document 003, clears: 55 all, 56 to 5D channel 0 to 7".
use Rattle.std.specs.Prelude.{ℕ, ◌+◌, ◌-◌, Bool, cond, ◌&&◌, ◌||◌, eqb, leb, set}
use Rattle.curves.specs.declared.Counts.{Counts}
use Rattle.curves.specs.Area.{counting, no_counts}

-- "55 all, 56 to 5D channel 0 to 7": the counts behind a value; any other value clears nothing
unfoldable pub cleared : (value : ℕ) → Counts → Counts
cleared value counts =
    cond (eqb value 0x55) no_counts
    (cond (leb 0x56 value && leb value 0x5D) (counting (set counts.each (value - 0x56) 0)) counts)

-- "55 all, 56 to 5D channel 0 to 7": the value clears this channel
unfoldable pub clears : (value n : ℕ) → Bool
clears value n = eqb value 0x55 || eqb value (0x56 + n)
