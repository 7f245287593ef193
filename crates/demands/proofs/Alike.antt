-- Two panels with the same reader, lent as many words and as large a room, read alike: registers, page, catch and the words' values play no part in reading.
use Rattle.std.specs.Prelude.{Option, None, Some}
use Rattle.line.specs.declared.Report.{Report}
use mathlib.Core.Path.{◌≡◌, refl, sym, ap, ◌∙◌}
use mathlib.Core.Bool.{Bool, true, false, cond}
use mathlib.Core.List.{List, [], ◌∷◌, map}
use Prim.Native.Nat.{ℕ}
use lib.ListN.{length, take}
use Rattle.reading.specs.Place as Place
use Rattle.reading.specs.Line as Line
use Rattle.line.specs.declared.Reader.{Reader}
use Rattle.line.specs.declared.Asked.{Asked}
use Rattle.line.specs.declared.Report.TheVariants as line
use Rattle.frame.specs.Frame.{most_payload}
use Rattle.line.specs.State.{padded}
use Rattle.line.specs.Methods.{given_byte, given_mark, given_bytes, asked}
use Rattle.panel.specs.declared.Panel.{Panel}
use Rattle.panel.specs.Inputs.{fed_byte, fed_mark, fed_bytes}
use Rattle.panel.specs.Reporting as Reporting
use Rattle.panel.specs.Reporting.{reporting}
use Rattle.demands.specs.Calls.{Moment, Call, lend, byte, bytes, mark, second, ask, contact, lift, after, report_handed, handed_over, handed_over_all}
use Rattle.demands.specs.Given.{unless_refused, given, given_all}
use Rattle.demands.specs.Demand3.{ReadAlike}
use Rattle.demands.proofs.Answers.{reported_by, refusal_hands_none}
use Rattle.panel.proofs.Lengths.{reported_words_long, reported_area_long, reported_room_long, contacted_words_long, contacted_area_stands, contacted_room_long, reported_list_judged, contacted_list_judged}
use Rattle.watch.specs.Judge.{wrong_list}
use Rattle.commands.specs.Lent.{Lent}
use Rattle.demands.proofs.Reading.{contact_keeps_reader, second_keeps_reader, lift_keeps_reader}

-- what an ask hands over and the reader that it leaves, by the reader alone and whether enough is lent
abbrev handed_from : Option Report → (payload : List ℕ) → List Place.Report
handed_from None payload = []
handed_from (Some (line.BadCheck command)) payload = Place.bad_check command ∷ []
handed_from (Some (line.Accepted command count)) payload = Place.accepted_frame command (take count payload) ∷ []

module _ (panel : Panel) (lent : Lent) where
  abbrev result : Bool → Asked → Reporting.Reporting
  result enough a = reported_by panel lent enough a a.report

  handing_told : (a : Asked) (report : Option Report)
      → (report_handed (Reporting.handing a report panel lent).reported.handed (Reporting.handing a report panel lent).reported.payload ≡ handed_from report a.payload)
      × ((Reporting.handing a report panel lent).reported.panel.reader ≡ a.reader)
  unfolding Reporting.handing Reporting.handing_over report_handed
  handing_told a None = (refl, refl)
  handing_told a (Some (line.BadCheck command)) = (refl, refl)
  handing_told a (Some (line.Accepted command count)) = (refl, refl)

  ask_told : (report_handed (reporting panel lent).reported.handed (reporting panel lent).reported.payload
      ≡ cond (Reporting.well_lent lent) (handed_from (asked panel.reader).report (asked panel.reader).payload) [])
      × ((reporting panel lent).reported.panel.reader ≡ cond (Reporting.well_lent lent) (asked panel.reader).reader panel.reader)
  unfolding reporting report_handed
  ask_told = go (Reporting.well_lent lent)
    where
      a : Asked
      a = asked panel.reader

      go : (b : Bool) → (report_handed (result b a).reported.handed (result b a).reported.payload ≡ cond b (handed_from a.report a.payload) [])
          × ((result b a).reported.panel.reader ≡ cond b a.reader panel.reader)
      go true = handing_told a a.report
      go false = (refusal_hands_none lent (padded most_payload []), refl)

-- what two moments share
record Shared (one other : Moment) : Type 0 where
  reader : one.panel.reader ≡ other.panel.reader
  words : length one.lent.words ≡ length other.lent.words
  curves : length one.lent.curves ≡ length other.lent.curves
  room : length one.lent.room ≡ length other.lent.room
  list : wrong_list one.lent.watched ≡ wrong_list other.lent.watched

module _ (one other : Moment) (same : Shared one other) where
  given_same : (call : Call) → given one call ≡ given other call
  unfolding given fed_byte fed_mark fed_bytes
  given_same (lend lent) = refl
  given_same (byte b) = ap (λ (r : Reader). unless_refused (given_byte r b).answer (Line.byte b)) same.reader
  given_same (bytes bs) = ap (λ (r : Reader). map Line.byte (take (given_bytes r bs).used bs)) same.reader
  given_same mark = ap (λ (r : Reader). unless_refused (given_mark r).answer Line.mark) same.reader
  given_same second = refl
  given_same ask = refl
  given_same (contact c) = refl
  given_same lift = refl

  handed_same : (call : Call) → handed_over one call ≡ handed_over other call
  unfolding handed_over
  handed_same (lend lent) = refl
  handed_same (byte b) = refl
  handed_same (bytes bs) = refl
  handed_same mark = refl
  handed_same second = refl
  handed_same ask =
      rw ((ask_told one.panel one.lent).0, (ask_told other.panel other.lent).0, same.reader, same.words, same.curves, same.room, same.list)
  handed_same (contact c) = refl
  handed_same lift = refl

  shared_after : (call : Call) → Shared (after one call) (after other call)
  unfolding after fed_byte fed_mark fed_bytes
  shared_after (lend lent) = record { reader = same.reader; words = refl; curves = refl; room = refl; list = refl }
  shared_after (byte b) = record { reader = ap (λ (r : Reader). (given_byte r b).reader) same.reader; words = same.words; curves = same.curves; room = same.room; list = same.list }
  shared_after (bytes bs) = record { reader = ap (λ (r : Reader). (given_bytes r bs).reader) same.reader; words = same.words; curves = same.curves; room = same.room; list = same.list }
  shared_after mark = record { reader = ap (λ (r : Reader). (given_mark r).reader) same.reader; words = same.words; curves = same.curves; room = same.room; list = same.list }
  shared_after second =
      record {
        reader = second_keeps_reader one.panel ∙ same.reader ∙ sym (second_keeps_reader other.panel);
        words = same.words;
        curves = same.curves;
        room = same.room;
        list = same.list;
      }
  shared_after ask =
      record {
        reader =
            rw ((ask_told one.panel one.lent).1, (ask_told other.panel other.lent).1, same.reader, same.words, same.curves, same.room, same.list);
        words =
            reported_words_long one.panel one.lent ∙ same.words ∙ sym (reported_words_long other.panel other.lent);
        curves =
            reported_area_long one.panel one.lent ∙ same.curves ∙ sym (reported_area_long other.panel other.lent);
        room = reported_room_long one.panel one.lent ∙ same.room ∙ sym (reported_room_long other.panel other.lent);
        list = reported_list_judged one.panel one.lent ∙ same.list ∙ sym (reported_list_judged other.panel other.lent);
      }
  shared_after (contact c) =
      record {
        reader =
            contact_keeps_reader one.panel c one.lent
            ∙ same.reader
            ∙ sym (contact_keeps_reader other.panel c other.lent);
        words =
            contacted_words_long one.panel c one.lent ∙ same.words ∙ sym (contacted_words_long other.panel c other.lent);
        curves = rw (contacted_area_stands one.panel c one.lent, contacted_area_stands other.panel c other.lent) same.curves;
        room = contacted_room_long one.panel c one.lent ∙ same.room ∙ sym (contacted_room_long other.panel c other.lent);
        list = contacted_list_judged one.panel c one.lent ∙ same.list ∙ sym (contacted_list_judged other.panel c other.lent);
      }
  shared_after lift =
      record {
        reader = lift_keeps_reader one.panel ∙ same.reader ∙ sym (lift_keeps_reader other.panel);
        words = same.words;
        curves = same.curves;
        room = same.room;
        list = same.list;
      }

all_given_same : (one other : Moment) → Shared one other → (calls : List Call) → given_all one calls ≡ given_all other calls
unfolding given_all
all_given_same one other same [] = refl
all_given_same one other same (call ∷ calls) =
    rw (given_same one other same call, all_given_same (after one call) (after other call) (shared_after one other same call) calls)

all_handed_same : (one other : Moment) → Shared one other → (calls : List Call) → handed_over_all one calls ≡ handed_over_all other calls
unfolding handed_over_all
all_handed_same one other same [] = refl
all_handed_same one other same (call ∷ calls) =
    rw (handed_same one other same call, all_handed_same (after one call) (after other call) (shared_after one other same call) calls)

pub read_alike : (one other : Moment) → one.panel.reader ≡ other.panel.reader → length one.lent.words ≡ length other.lent.words
    → length one.lent.curves ≡ length other.lent.curves → length one.lent.room ≡ length other.lent.room
    → wrong_list one.lent.watched ≡ wrong_list other.lent.watched → ReadAlike one other
read_alike one other reader words curves room list =
    let same : Shared one other = record { reader = reader; words = words; curves = curves; room = room; list = list } in
    record { give_same = all_given_same one other same; hand_same = all_handed_same one other same }
