-- 01, "Contact and lift": "The first record of the current page holding the point acts".
use Rattle.std.specs.Prelude.{ℕ, zero, suc, ◌+◌, ◌/◌, Bool, ◌&&◌, List, [], ◌∷◌, leb, eqb, length, Some, None}
use Rattle.wire.specs.Numbers.{Entry, ◌when◌, first_said}
use Rattle.touch.specs.declared.Area.{Area}
use Rattle.touch.specs.declared.Record.{Record}
use Rattle.touch.specs.Table.{Found, record_bytes, record_at, ends, first_of, records_of}

-- "Edges belong to the area."
abbrev pub in_area : Area → (x y : ℕ) → Bool
in_area a x y = leb a.xs x && leb x a.xe && leb a.ys y && leb y a.ye

-- "record of the current page holding the point"
abbrev pub holds : (page x y : ℕ) → Record → Bool
holds page x y r = eqb r.page page && in_area r.area x y

-- "The first record"
unfoldable pub found : List ℕ → (page x y : ℕ) → Found
found table page x y = first_of (holds page x y) 0 (records_of table)

-- 01 gives these answers no number: what is said are the values, the record's number and the record
unfoldable pub found_said : Found → List (ℕ × Record)
found_said None = []
found_said (Some (i, r)) = (i, r) ∷ []

-- the records in their order, n of them from number i on: "A record with page FFFF ends it", "The first record of the current page holding the point"
unfoldable pub point_listed : List ℕ → (page x y : ℕ) → (i n : ℕ) → List (Entry (List (ℕ × Record)))
point_listed table page x y i zero = []
point_listed table page x y i (suc n) =
    let r = record_at table i in
    ([] when ends r) ∷ (((i, r) ∷ []) when holds page x y r) ∷ point_listed table page x y (i + 1) n

-- "The first record of the current page holding the point": of all records of a table; where there is none, nothing
abbrev pub point_said : List ℕ → (page x y : ℕ) → List (ℕ × Record)
point_said table page x y = first_said (point_listed table page x y 0 (length table / record_bytes)) []
