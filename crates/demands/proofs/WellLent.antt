-- What must be lent, and the tests for 14 and 16.
use mathlib.Core.Path.{◌≡◌}
use mathlib.Core.Bool.{true, not, ◌&&◌}
use borrow.Author.Tests.{eq-eqb, eqb-true, le-leb, leb-true, not-true}
use lib.Dec.{eqb, leb}
use lib.ListN.{length}
use Rattle.wire.specs.Addresses.{word_count}
use Rattle.frame.specs.Writer.{least_room}
use Rattle.wire.proofs.Truths.{and_left, and_right}
use Rattle.curves.specs.Area.{curve_words}
use Rattle.watch.specs.Judge.{wrong_list}
use Rattle.commands.specs.Lent.{Lent}
use Rattle.panel.specs.Reporting.{enough, well_lent}
use Rattle.demands.specs.Calls.{WellLent}

pub well_tested : (lent : Lent) → WellLent lent → well_lent lent ≡ true
unfolding enough
well_tested lent well =
    rw (
      eq-eqb (length lent.words) word_count well.words,
      eq-eqb (length lent.curves) curve_words well.curves,
      le-leb least_room (length lent.room) well.room,
      well.watched,
    )

pub tested_well : (lent : Lent) → well_lent lent ≡ true → WellLent lent
unfolding enough
tested_well lent is =
    let words = eqb (length lent.words) word_count in
    let curves = eqb (length lent.curves) curve_words in
    let room = leb least_room (length lent.room) in
    let list = not (wrong_list lent.watched) in
    let lengths = and_left (words && curves && room) list is in
    let both = and_left (words && curves) room lengths in
    record {
      words = eqb-true (length lent.words) word_count (and_left words curves both);
      curves = eqb-true (length lent.curves) curve_words (and_right words curves both);
      room = leb-true least_room (length lent.room) (and_right (words && curves) room lengths);
      watched = not-true (wrong_list lent.watched) (and_right (words && curves && room) list is);
    }
