-- What a report writes is short: an acknowledgement has 7 bytes, a reply at most 258.
use Rattle.std.specs.Prelude.{Option, None, Some, Err}
use Rattle.line.specs.declared.Report.{Report}
use mathlib.Core.Path.{◌≡◌, refl, ap}
use mathlib.Core.Bool.{Bool, true, false, cond, ◌&&◌}
use mathlib.Core.List.{List}
use Prim.Native.Nat.{ℕ, ◌≤◌}
use native.Mathlib.Omega.{arith}
use borrow.Author.Tests.{leb-true}
use lib.Dec.{eqb, leb}
use lib.ListN.{length}
use Rattle.wire.specs.Room.{over, lays, laid}
use Rattle.frame.specs.declared.Header.{Header}
use Rattle.frame.specs.Frame.{header_bytes, frame_of, most_data, longest_frame}
use Rattle.frame.specs.Acknowledgement.{acknowledgement}
use Rattle.frame.specs.Writer.{frame_laid, acknowledgement_laid}
use Rattle.frame.proofs.Acknowledgements.{length_acknowledgement}
use Rattle.frame.proofs.Writers.{length_frame_of, length_most, header_short}
use Rattle.line.specs.declared.Report.TheVariants as line
use Rattle.line.specs.declared.Asked.{Asked}
use Rattle.line.specs.Methods.{asked}
use Rattle.touch.specs.declared.Setup.{Setup}
use Rattle.registers.specs.declared.Registers.{Registers}
use Rattle.commands.specs.declared.Fixed.{Fixed}
use Rattle.commands.specs.Outcome.{Outcome}
use Rattle.commands.specs.Lent.{Lent}
use Rattle.commands.specs.Outcome.{is_done}
use Rattle.commands.specs.Effect.{replying, registers_writing, registers_replying, words_writing, words_replying, curves_adding}
use Rattle.commands.specs.Perform.{Performance, performance}
use Rattle.panel.specs.declared.Panel.{Panel}
use Rattle.panel.specs.declared.LentError.TheVariants as lent_error
use Rattle.panel.specs.declared.Reported.{Reported}
use Rattle.panel.specs.State.{header_for, header_of, fixed_for, answering}
use Rattle.panel.specs.Reporting.{enough_lent, well_lent, acknowledged, accepting, reports, Reporting, handing_over, handing, reporting}
use Rattle.telling.specs.Inner.{acknowledgement_bytes, replied_by, acknowledged_by}

laid_at_most : (may : Bool) (bytes room : List ℕ) (n : ℕ) → length bytes ≤ n → (laid may bytes room).count ≤ n
unfolding laid
laid_at_most true bytes room n h = h
laid_at_most false bytes room n h = omega arith

acknowledgement_short : (header : Header) (command : ℕ) (good : Bool) → length (acknowledgement (header_bytes header) command good) ≤ acknowledgement_bytes
acknowledgement_short header command good = omega (arith, length_acknowledgement (header_bytes header) command good, header_short header)

acknowledged_short : (setup : Setup) (command : ℕ) (good : Bool) (room : List ℕ) → (acknowledged setup command good room).count ≤ acknowledgement_bytes
unfolding acknowledged acknowledgement_laid
acknowledged_short setup command good room = go (answering setup)
  where
    go : (b : Bool) → (cond b (acknowledgement_laid (header_of setup) command good room) (lays 0 room)).count ≤ acknowledgement_bytes
    go true =
        laid_at_most (leb (length (acknowledgement (header_of setup) command good)) (length room)) (acknowledgement (header_of setup) command good) room acknowledgement_bytes
        (acknowledgement_short (header_for setup) command good)
    go false = omega arith

frame_at_most : (checking : Bool) (header : Header) (command : ℕ) (payload room : List ℕ) → (frame_laid checking (header_bytes header) command payload room).count ≤ longest_frame
unfolding frame_laid laid
frame_at_most checking header command payload room = go (leb (length payload) (most_data checking)) refl
  where
    go : (b : Bool) → leb (length payload) (most_data checking) ≡ b
        → (cond (b && leb (length (frame_of checking (header_bytes header) command payload)) (length room))
        (lays (length (frame_of checking (header_bytes header) command payload)) (over (frame_of checking (header_bytes header) command payload) room)) (lays 0 room)).count
        ≤ longest_frame
    go true is =
        laid_at_most (leb (length (frame_of checking (header_bytes header) command payload)) (length room)) (frame_of checking (header_bytes header) command payload) room longest_frame
        (omega (arith, length_frame_of checking (header_bytes header) command payload, header_short header, leb-true (length payload) (most_data checking) is, length_most checking))
    go false is = omega arith

reply_at_most : (fixed : Fixed) (o : Outcome) (command : ℕ) (payload room : List ℕ) → (replying fixed o command payload room).performed.replied ≤ longest_frame
unfolding replying
reply_at_most fixed o command payload room = go (is_done o)
  where
    go : (b : Bool) → (cond b (frame_laid fixed.checking (header_bytes fixed.header) command payload room) (lays 0 room)).count ≤ longest_frame
    go true = frame_at_most fixed.checking fixed.header command payload room
    go false = omega arith

performance_at_most : (fixed : Fixed) (registers : Registers) (command : ℕ) (content : List ℕ) (lent : Lent)
    → (performance fixed registers command content lent).performed.replied ≤ longest_frame
unfolding performance registers_writing registers_replying words_writing words_replying curves_adding
performance_at_most fixed registers command content lent =
    chosen (eqb command 0x80) _ _ (omega arith)
    (chosen (eqb command 0x81) _ _ (reply_at_most fixed _ 0x81 _ lent.room)
    (chosen (eqb command 0x82) _ _ (omega arith)
    (chosen (eqb command 0x83) _ _ (reply_at_most fixed _ 0x83 _ lent.room) (chosen (eqb command 0x84) _ _ (omega arith) (omega arith)))))
  where
    chosen : (b : Bool) (p q : Performance) → p.performed.replied ≤ longest_frame → q.performed.replied ≤ longest_frame → (cond b p q).performed.replied ≤ longest_frame
    chosen true p q hp hq = hp
    chosen false p q hp hq = hq

-- an ask that is refused, with 14 or with 16, writes nothing
refused_acknowledgement : (enough : Bool) → acknowledged_by (cond enough (Err lent_error.WrongList) (Err lent_error.NotLent)) ≤ acknowledgement_bytes
unfolding acknowledged_by
refused_acknowledgement true = omega arith
refused_acknowledgement false = omega arith

refused_reply : (enough : Bool) → replied_by (cond enough (Err lent_error.WrongList) (Err lent_error.NotLent)) ≤ longest_frame
unfolding replied_by
refused_reply true = omega arith
refused_reply false = omega arith

module _ (panel : Panel) (lent : Lent) where
  handed_acknowledgement : (a : Asked) (report : Option Report) → acknowledged_by (handing a report panel lent).reported.handed ≤ acknowledgement_bytes
  unfolding handing handing_over accepting acknowledged_by
  handed_acknowledgement a None = omega arith
  handed_acknowledgement a (Some (line.BadCheck command)) = acknowledged_short panel.setup command false lent.room
  handed_acknowledgement a (Some (line.Accepted command count)) = acknowledged_short panel.setup command true lent.room

  handed_reply : (a : Asked) (report : Option Report) → replied_by (handing a report panel lent).reported.handed ≤ longest_frame
  unfolding handing handing_over accepting replied_by
  handed_reply a None = omega arith
  handed_reply a (Some (line.BadCheck command)) = omega arith
  handed_reply a (Some (line.Accepted command count)) = performance_at_most (fixed_for panel.setup) panel.registers command _ _

  reported_acknowledgement : acknowledged_by (reporting panel lent).reported.handed ≤ acknowledgement_bytes
  unfolding reporting acknowledged_by
  reported_acknowledgement = chosen (well_lent lent) _ _ (handed_acknowledgement (asked panel.reader) (asked panel.reader).report)
      (refused_acknowledgement (enough_lent lent))
    where
      chosen : (b : Bool) (p q : Reporting) → acknowledged_by p.reported.handed ≤ acknowledgement_bytes → acknowledged_by q.reported.handed ≤ acknowledgement_bytes
          → acknowledged_by (cond b p q).reported.handed ≤ acknowledgement_bytes
      chosen true p q hp hq = hp
      chosen false p q hp hq = hq

  reported_reply : replied_by (reporting panel lent).reported.handed ≤ longest_frame
  unfolding reporting replied_by
  reported_reply = chosen (well_lent lent) _ _ (handed_reply (asked panel.reader) (asked panel.reader).report)
      (refused_reply (enough_lent lent))
    where
      chosen : (b : Bool) (p q : Reporting) → replied_by p.reported.handed ≤ longest_frame → replied_by q.reported.handed ≤ longest_frame
          → replied_by (cond b p q).reported.handed ≤ longest_frame
      chosen true p q hp hq = hp
      chosen false p q hp hq = hq

module _ (panel : Panel) (lent : Lent) where
  module _ (r : Reported) (lent' : Lent) (is : reports r lent' ≡ reporting panel lent) where
    pub acknowledgement_brief : acknowledged_by r.handed ≤ acknowledgement_bytes
    acknowledgement_brief = rw (← ap (λ (x : Reporting). x.reported.handed) is) at (reported_acknowledgement panel lent)

    pub reply_brief : replied_by r.handed ≤ longest_frame
    reply_brief = rw (← ap (λ (x : Reporting). x.reported.handed) is) at (reported_reply panel lent)
