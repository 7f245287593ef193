-- 01, "Setup and touch table", which records and which tables are good. "A field outside what is printed makes the record wrong."
use Rattle.std.specs.Prelude.{ℕ, ◌*◌, ◌%◌, Bool, true, false, ◌&&◌, ◌||◌, not, cond, List, [], ◌∷◌, ltb, leb, eqb, length, Result, Ok, Err, Some, None}
use Rattle.std.specs.Int.Signed.{le_z}
use Rattle.touch.specs.declared.Setup.{Setup}
use Rattle.touch.specs.declared.Area.{Area}
use Rattle.touch.specs.declared.StepFields.{StepFields}
use Rattle.touch.specs.declared.SliderFields.{SliderFields}
use Rattle.touch.specs.declared.Kind.{Kind}
use Rattle.touch.specs.declared.Kind.TheVariants.{Key, Step, Slider, Other}
use Rattle.touch.specs.declared.Record.{Record}
use Rattle.touch.specs.declared.TableError.{TableError}
use Rattle.touch.specs.declared.TableError.TheVariants.{NotRecords, Wrong}
use Rattle.wire.specs.Addresses.{word_count}
use Rattle.stores.specs.Store.{signed, good_end}
use Rattle.touch.specs.Record.{no_next, digit_mode, first_edge, last_edge}
use Rattle.wire.specs.Numbers.{Said, says, Listed, ◌when◌, first_said}
use Rattle.touch.specs.Table.{Found, first_of, records_of, record_bytes, most_records}

-- "the area on the screen with Xs ≤ Xe, Ys ≤ Ye"
abbrev pub good_area : Setup → Area → Bool
good_area s a = leb a.xs a.xe && leb a.ys a.ye && ltb a.xe s.width && ltb a.ye s.height

-- "mode 0 whole word, 1 high byte, 2 low byte"
abbrev pub good_mode : ℕ → Bool
good_mode mode = ltb mode 3

-- "mode as for a key; ..; 16 step 1 to 32,767; 18 least; 1A greatest, least ≤ greatest; 1C must be 01"
unfoldable pub good_step : ℕ → StepFields → Bool
good_step mode f =
    good_mode mode
    && leb 1 f.step && leb f.step 32767
    && good_end mode f.least && good_end mode f.greatest
    && le_z (signed f.least) (signed f.greatest)
    && eqb f.once 1

-- "14 area again, equal to the first"
abbrev pub same_area : Area → Area → Bool
same_area a b = eqb a.xs b.xs && eqb a.ys b.ys && eqb a.xe b.xe && eqb a.ye b.ye

-- "mode high digit 0, 1, 2 as above, low digit 0 across, 1 down; .. Next page must be FFxx and the area wider than one point
-- along its axis."
unfoldable pub good_slider : Record → SliderFields → Bool
good_slider r f =
    good_mode (digit_mode r.mode) && ltb (r.mode % 16) 2
    && same_area r.area f.again
    && no_next r
    && ltb (first_edge r.mode r.area) (last_edge r.mode r.area)
    && good_end (digit_mode r.mode) f.begin && good_end (digit_mode r.mode) f.end

-- "0E code FE02, FE03 or FE05"; Key: "mode 0 whole word, 1 high byte, 2 low byte; 14 code. .. The rest is ignored."
abbrev pub good_kind : Record → Kind → Bool
good_kind r (Key code) = good_mode r.mode
good_kind r (Step f) = good_step r.mode f
good_kind r (Slider f) = good_slider r f
good_kind r Other = false

-- "0A next page, FFxx for none; ..; 10 FE; .. Page and next page lie below P, the area on the screen .., the word below 0x7000."
unfoldable pub good_record : Setup → Record → Bool
good_record s r =
    ltb r.page s.pages
    && good_area s r.area
    && (no_next r || ltb r.next s.pages)
    && eqb r.fe 0xFE
    && ltb r.word word_count
    && good_kind r r.kind

-- "A field outside what is printed makes the record wrong."
unfoldable pub wrong : Setup → Record → Bool
wrong s r = not (good_record s r)

-- "12: table longer than 128 records or not whole records", "13: a record is wrong", or neither: what `judge` answers
abbrev pub Verdict : Type 0
Verdict = Result Unit TableError

-- "the first wrong one is named": the verdict on what was found among the wrong ones
abbrev pub named_wrong : Found → Verdict
named_wrong None = Ok tt
named_wrong (Some (i, r)) = Err (Wrong i)

-- "13: a record is wrong; the first wrong one is named"
abbrev pub first_wrong : Setup → List Record → Verdict
first_wrong s rs = named_wrong (first_of (wrong s) 0 rs)

-- "12: table longer than 128 records or not whole records": judged on the length alone
abbrev pub not_records : List ℕ → Bool
not_records table = ltb (most_records * record_bytes) (length table) || not (eqb (length table % record_bytes) 0)

-- "judged again by 12 and 13": of the two numbers, 12 is given first
unfoldable pub judged : Setup → List ℕ → Verdict
judged s table = cond (not_records table) (Err NotRecords) (first_wrong s (records_of table))

-- "0: done", "12: table longer than 128 records or not whole records", "13: a record is wrong; ..": the number of each verdict
abbrev pub number_of_verdict : Verdict → ℕ
number_of_verdict (Ok tt) = 0
number_of_verdict (Err NotRecords) = 12
number_of_verdict (Err (Wrong i)) = 13

-- "the first wrong one is named": what is named beside the number
abbrev pub named_by_verdict : Verdict → List ℕ
named_by_verdict (Ok tt) = []
named_by_verdict (Err NotRecords) = []
named_by_verdict (Err (Wrong i)) = i ∷ []

-- "a definition gives this paper's number and values for each of its cases"
unfoldable pub verdict_said : Verdict → Said
verdict_said verdict = says (number_of_verdict verdict) (named_by_verdict verdict)

-- whether there is a first one
abbrev pub is_found : Found → Bool
is_found None = false
is_found (Some (i, r)) = true

-- "the first wrong one is named": its number
abbrev pub number_found : Found → List ℕ
number_found None = []
number_found (Some (i, r)) = i ∷ []

-- the list by which a table is judged: "12: table longer than 128 records or not whole records", "13: a record is wrong; the first wrong one is named"
unfoldable pub table_listed : Setup → List ℕ → List Listed
table_listed s table =
    let first = first_of (wrong s) 0 (records_of table) in
    (says 12 [] when not_records table) ∷ (says 13 (number_found first) when is_found first) ∷ []

-- "The first number in order whose condition holds is given", "0: done" where none does: of a table
abbrev pub table_said : Setup → List ℕ → Said
table_said s table = first_said (table_listed s table) (says 0 [])
