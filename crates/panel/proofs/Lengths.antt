-- No call changes how many words are lent, how large the reply room is, or whether the watch list is refused.
use Rattle.std.specs.Prelude.{None, Some}
use mathlib.Core.Path.{◌≡◌, refl, sym, ap, ◌∙◌}
use mathlib.Core.Bool.{Bool, true, false, cond, ◌&&◌}
use mathlib.Core.List.{List, ◌++◌}
use Prim.Native.Nat.{ℕ, ◌+◌, ◌≤◌}
use native.Mathlib.Omega.{arith}
use borrow.Author.Tests.{leb-true}
use lib.Dec.{eqb, leb}
use lib.ListN.{length, take, drop, length-append, take-append-drop}
use Rattle.wire.specs.Room.{lays, laid, laid_at}
use Rattle.wire.specs.ByteOrder.{word_at}
use Rattle.wire.proofs.Over.{length_over}
use Rattle.wire.proofs.LaidAt.{length_laid_at}
use Rattle.frame.specs.Frame.{header_bytes, frame_of, most_data}
use Rattle.frame.specs.Acknowledgement.{acknowledgement}
use Rattle.frame.specs.Writer.{frame_laid, acknowledgement_laid}
use Rattle.registers.specs.declared.Registers.{Registers}
use Rattle.registers.specs.Touched.{is_down, page_of, with_status, with_place}
use Rattle.words.specs.Words.{words_of, words_written}
use Rattle.words.proofs.OneWord.{length_word_set}
use Rattle.touch.specs.declared.Setup.{Setup}
use Rattle.touch.specs.Table.{Found}
use Rattle.touch.specs.Find.{found}
use Rattle.contact.specs.Contact.{Catch}
use Rattle.contact.specs.declared.Pad.{Pad}
use Rattle.contact.specs.Contact.{acting, pressed, dragging, held_down, touched}
use Rattle.curves.specs.declared.Counts.{Counts}
use Rattle.curves.proofs.Lengths.{length_added}
use Rattle.watch.specs.Watched.{Watched}
use Rattle.watch.specs.Judge.{wrong_list}
use Rattle.watch.specs.Noting.{noted}
use Rattle.watch.specs.Sending.{sending}
use Rattle.watch.proofs.Judged.{judged_alike}
use Rattle.watch.proofs.Noted.{length_noted}
use Rattle.watch.proofs.Sent.{length_sending}
use Rattle.commands.specs.Outcome.{Outcome}
use Rattle.commands.specs.declared.Fixed.{Fixed}
use Rattle.commands.specs.Lent.{Lent, with_room}
use Rattle.commands.specs.Outcome.{is_done}
use Rattle.commands.specs.Effect.{words_writing, replying, registers_replying, words_replying}
use Rattle.commands.specs.Perform.{Performance, performance}
use Rattle.panel.specs.declared.Panel.{Panel}
use Rattle.panel.specs.State.{header_of, fixed_for, answering, pad_of}
use Rattle.panel.specs.Reporting.{acknowledged, accepting, handing_over, drawing, noting, handing, reporting}
use Rattle.panel.specs.Watching.{unasked, telling}
use Rattle.panel.specs.Contacts.{Contact, contacting}
use Rattle.panel.proofs.Watchings.{unasked_short}
use Rattle.panel.proofs.Touches.{room_large}
use Rattle.panel.proofs.Ways.{touched_by, contact_ways, report_ways}
use Rattle.wire.proofs.Truths.{and_right}
use Rattle.line.specs.Methods.{asked}

-- a run that is laid where it fits
laid_long : (run room : List ℕ) (may : Bool) → (may ≡ true → length run ≤ length room) → length (laid may run room).room ≡ length room
unfolding laid
laid_long run room true fits = length_over run room (fits refl)
laid_long run room false fits = refl

frame_long : (checking : Bool) (header : List ℕ) (command : ℕ) (payload room : List ℕ) → length (frame_laid checking header command payload room).room ≡ length room
unfolding frame_laid
frame_long checking header command payload room =
    let frame = frame_of checking header command payload in
    let short = leb (length payload) (most_data checking) in
    laid_long frame room (short && leb (length frame) (length room))
    (λ may. leb-true (length frame) (length room) (and_right short (leb (length frame) (length room)) may))

pub answer_long : (setup : Setup) (command : ℕ) (good : Bool) (room : List ℕ) → length (acknowledged setup command good room).room ≡ length room
unfolding acknowledged acknowledgement_laid
answer_long setup command good room = go (answering setup)
  where
    frame : List ℕ
    frame = acknowledgement (header_of setup) command good

    go : (b : Bool) → length (cond b (laid (leb (length frame) (length room)) frame room) (lays 0 room)).room ≡ length room
    go true = laid_long frame room (leb (length frame) (length room)) (λ may. leb-true (length frame) (length room) may)
    go false = refl

reply_long : (fixed : Fixed) (o : Outcome) (command : ℕ) (payload room : List ℕ) → length (replying fixed o command payload room).room ≡ length room
unfolding replying
reply_long fixed o command payload room = go (is_done o)
  where
    go : (b : Bool) → length (cond b (frame_laid fixed.checking (header_bytes fixed.header) command payload room) (lays 0 room)).room ≡ length room
    go true = frame_long fixed.checking (header_bytes fixed.header) command payload room
    go false = refl

written_long : (words : List ℕ) (address : ℕ) (bs : List ℕ) → length (words_written words address bs) ≡ length words
unfolding words_written
written_long words address bs = go (leb (address + length (words_of bs)) (length words)) refl
  where
    go : (b : Bool) → leb (address + length (words_of bs)) (length words) ≡ b
        → length (cond b (laid_at address (words_of bs) words) words) ≡ length words
    go true fits = length_laid_at words (words_of bs) address (leb-true (address + length (words_of bs)) (length words) fits)
    go false fits = refl

store_long : (words content : List ℕ) → length (words_writing words content).words ≡ length words
unfolding words_writing
store_long words content = go (is_done (words_writing words content).performed.outcome)
  where
    go : (b : Bool) → length (cond b (words_written words (word_at content 0) (drop 2 content)) words) ≡ length words
    go true = written_long words (word_at content 0) (drop 2 content)
    go false = refl

-- one of six ways
of_six : (f : Performance → ℕ) (r : ℕ) (a b c d e : Bool) (v w x y z u : Performance) → f v ≡ r → f w ≡ r → f x ≡ r → f y ≡ r → f z ≡ r → f u ≡ r
    → f (cond a v (cond b w (cond c x (cond d y (cond e z u))))) ≡ r
of_six f r true b c d e v w x y z u i j k l m n = i
of_six f r false true c d e v w x y z u i j k l m n = j
of_six f r false false true d e v w x y z u i j k l m n = k
of_six f r false false false true e v w x y z u i j k l m n = l
of_six f r false false false false true v w x y z u i j k l m n = m
of_six f r false false false false false v w x y z u i j k l m n = n

module _ (fixed : Fixed) (registers : Registers) (command : ℕ) (content : List ℕ) (lent : Lent) where
  pub performed_words_long : length (performance fixed registers command content lent).lent.words ≡ length lent.words
  unfolding performance
  performed_words_long =
      of_six (λ (p : Performance). length p.lent.words) (length lent.words) (eqb command 0x80) (eqb command 0x81) (eqb command 0x82) (eqb command 0x83)
      (eqb command 0x84) _ _ _ _ _ _ refl refl (store_long lent.words content) refl refl refl

  performed_room_long : length (performance fixed registers command content lent).lent.room ≡ length lent.room
  unfolding performance registers_replying words_replying
  performed_room_long =
      of_six (λ (p : Performance). length p.lent.room) (length lent.room) (eqb command 0x80) (eqb command 0x81) (eqb command 0x82) (eqb command 0x83)
      (eqb command 0x84) _ _ _ _ _ _ refl (reply_long fixed _ 0x81 _ lent.room) refl (reply_long fixed _ 0x83 _ lent.room) refl refl

parts_long : (n : ℕ) (front later : List ℕ) → length later ≡ length (drop n front) → length (take n front ++ later) ≡ length front
parts_long n front later same =
    length-append (take n front) later
    ∙ ap (λ (k : ℕ). length (take n front) + k) same
    ∙ sym (length-append (take n front) (drop n front))
    ∙ ap length (take-append-drop n front)

module _ (panel : Panel) (lent : Lent) where
  pub reported_words_long : length (reporting panel lent).lent.words ≡ length lent.words
  unfolding handing handing_over accepting
  reported_words_long =
      report_ways panel lent (λ r. length r.lent.words ≡ length lent.words) (λ h payload. refl) (λ command is. refl)
      (λ good command count is.
      let answer = acknowledged panel.setup command true lent.room in
      performed_words_long (fixed_for panel.setup) panel.registers command (take count (asked panel.reader).payload)
      (with_room lent (drop answer.count answer.room)))

  pub reported_room_long : length (reporting panel lent).lent.room ≡ length lent.room
  unfolding handing handing_over accepting
  reported_room_long =
      report_ways panel lent (λ r. length r.lent.room ≡ length lent.room) (λ h payload. refl)
      (λ command is. answer_long panel.setup command false lent.room)
      (λ good command count is.
      let answer = acknowledged panel.setup command true lent.room in
      let part = with_room lent (drop answer.count answer.room) in
      let content = take count (asked panel.reader).payload in
      parts_long answer.count answer.room (performance (fixed_for panel.setup) panel.registers command content part).lent.room
      (performed_room_long (fixed_for panel.setup) panel.registers command content part)
      ∙ answer_long panel.setup command true lent.room)

-- what a report leaves of the curve area
drawn_long : (writes adds : Bool) (counts : Counts) (content area : List ℕ) → length (drawing writes adds counts content area).area ≡ length area
drawn_long writes true counts content area = length_added content counts area
drawn_long true false counts content area = refl
drawn_long false false counts content area = refl

pub reported_area_long : (panel : Panel) (lent : Lent) → length (reporting panel lent).lent.curves ≡ length lent.curves
unfolding handing handing_over
reported_area_long panel lent =
    report_ways panel lent (λ r. length r.lent.curves ≡ length lent.curves) (λ h payload. refl) (λ command is. refl)
    (λ good command count is.
    let content = take count (asked panel.reader).payload in
    let done = (accepting panel.setup panel.registers command content lent).effected.performed in
    drawn_long done.writes done.adds panel.counts content lent.curves)

-- what a report notes: as many values, of the same entries
pub noting_judged : (notes : Bool) (content words : List ℕ) (w : Watched) → wrong_list (noting notes content words w) ≡ wrong_list w
noting_judged true content words w =
    judged_alike w (noted words w (word_at content 0) (length (words_of (drop 2 content)))) (length_noted words w (word_at content 0) (length (words_of (drop 2 content))))
noting_judged false content words w = refl

pub reported_list_judged : (panel : Panel) (lent : Lent) → wrong_list (reporting panel lent).lent.watched ≡ wrong_list lent.watched
unfolding handing handing_over
reported_list_judged panel lent =
    report_ways panel lent (λ r. wrong_list r.lent.watched ≡ wrong_list lent.watched) (λ h payload. refl) (λ command is. refl)
    (λ good command count is.
    let content = take count (asked panel.reader).payload in
    let done = accepting panel.setup panel.registers command content lent in
    noting_judged done.effected.performed.notes content done.lent.words lent.watched)

-- a contact stores in one word at most
dragged_long : (setup : Setup) (catch : Catch) (words : List ℕ) (x y : ℕ) → length (dragging setup catch words x y) ≡ length words
unfolding dragging
dragged_long setup None words x y = refl
dragged_long setup (Some r) words x y = length_word_set words r.word _

acted_long : (setup : Setup) (f : Found) (registers : Registers) (catch : Catch) (words : List ℕ) (x y : ℕ)
    → length (acting setup f registers catch words x y).words ≡ length words
unfolding acting
acted_long setup None registers catch words x y = refl
acted_long setup (Some (i, r)) registers catch words x y = length_word_set words r.word _

touched_long : (setup : Setup) (pad : Pad) (table words : List ℕ) (x y : ℕ) → length (touched setup pad table words x y).words ≡ length words
unfolding touched held_down pressed
touched_long setup pad table words x y = go (is_down pad.registers)
  where
    go : (b : Bool) → length (cond b (held_down setup pad words x y) (pressed setup pad table words x y)).words ≡ length words
    go true = dragged_long setup pad.catch words x y
    go false = acted_long setup (found table (page_of pad.registers) x y) (with_place (with_status pad.registers 0x01) x y) pad.catch words x y

module _ (panel : Panel) (c : Contact) (lent : Lent) where
  pub contacted_words_long : length (contacting panel c lent).lent.words ≡ length lent.words
  unfolding telling
  contacted_words_long =
      contact_ways panel c lent (λ r. length r.lent.words ≡ length lent.words) (λ answer. refl)
      (λ passed. touched_long panel.setup (pad_of panel) c.table lent.words c.x c.y)

  pub contacted_area_stands : (contacting panel c lent).lent.curves ≡ lent.curves
  unfolding telling
  contacted_area_stands = contact_ways panel c lent (λ r. r.lent.curves ≡ lent.curves) (λ answer. refl) (λ passed. refl)

  pub contacted_room_long : length (contacting panel c lent).lent.room ≡ length lent.room
  unfolding telling
  contacted_room_long =
      contact_ways panel c lent (λ r. length r.lent.room ≡ length lent.room) (λ answer. refl)
      (λ passed.
      let words = (touched_by panel c lent).words in
      let large = room_large (length lent.words) (length lent.room) false (sym passed.well_lent_lem) refl in
      let due = (sending words lent.watched).due in
      length_over (unasked panel.setup words due) lent.room (omega (arith, unasked_short panel.setup words due)))

  pub contacted_list_judged : wrong_list (contacting panel c lent).lent.watched ≡ wrong_list lent.watched
  unfolding telling
  contacted_list_judged =
      contact_ways panel c lent (λ r. wrong_list r.lent.watched ≡ wrong_list lent.watched) (λ answer. refl)
      (λ passed.
      let words = (touched_by panel c lent).words in
      judged_alike lent.watched (sending words lent.watched).values (length_sending words lent.watched))
