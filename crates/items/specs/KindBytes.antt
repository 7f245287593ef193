-- 01, "The trace program": the byte that stands for each kind of item.
use Rattle.std.specs.Prelude.{ℕ}
use Rattle.items.specs.declared.Kind.{Kind}
use Rattle.items.specs.declared.Kind.TheVariants.{Setup, LineByte, Mark, Contact, Lift, Record, Second}

-- "00 setup ..; 01 a line byte; 02 quiet ..; 03 contact X Y ..; 04 lift ..; 05 touch record": the byte of each kind. 02, §6: "kind 06 without a body is the second"
abbrev pub number_of : Kind → ℕ
number_of Setup = 0
number_of LineByte = 1
number_of Mark = 2
number_of Contact = 3
number_of Lift = 4
number_of Record = 5
number_of Second = 6
