-- The number of each call against the printed lists of specs/Demand1.
use Rattle.std.specs.Prelude.{Ok, Err}
use mathlib.Core.Path.{◌≡◌, refl, ◌∙◌}
use mathlib.Core.Bool.{Bool, true, false, cond, not, ◌||◌}
use mathlib.Core.List.{List, [], ◌∷◌}
use Prim.Native.Nat.{ℕ, suc, ◌+◌}
use native.Mathlib.Omega.{arith}
use borrow.Author.Tests.{eqb-true, eqb-false, eq-eqb, ne_eqb}
use lib.Dec.{eqb, ltb}
use lib.ListN.{length}
use Rattle.wire.specs.Numbers.{first_said}
use Rattle.wire.specs.Bytes.{Bytes}
use Rattle.wire.specs.Room.{over}
use Rattle.frame.specs.Frame.{frame_of, most_data}
use Rattle.frame.specs.declared.WriteError.TheVariants.{DataTooLong, RoomTooSmall}
use Rattle.frame.specs.Writer as Writer
use Rattle.frame.specs.Writer.{least_room, answers, writing}
use Rattle.line.specs.declared.Reader.{Reader}
use Rattle.line.specs.declared.Gave.{Gave}
use Rattle.line.specs.declared.Waiting.TheVariants as line_answer
use Rattle.line.specs.Methods as Line
use Rattle.line.specs.Methods.{busy, given_byte, given_mark, given_bytes, gave, plus, gives}
use Rattle.registers.specs.Touched.{is_down}
use Rattle.registers.specs.Clocked.{second_passed}
use Rattle.contact.specs.Contact.{lifted}
use Rattle.panel.specs.declared.Panel.{Panel}
use Rattle.panel.specs.declared.Fed.{Fed}
use Rattle.panel.specs.declared.LiftError.TheVariants as lift_error
use Rattle.panel.specs.Numbers.{lift_number}
use Rattle.panel.specs.Inputs.{fed_byte, fed_mark, fed_second, fed_bytes}
use Rattle.panel.specs.State.{pad_of, with_pad, with_registers}
use Rattle.panel.specs.Contacts.{lifting}
use Rattle.panel.specs.Sound.{Sound}
use Rattle.panel.specs.Reachable.{Reachable, by_byte}
use Rattle.panel.proofs.Ways.{lifts}
use Rattle.panel.proofs.Invariant.{reachable_sound}
use Rattle.demands.specs.Calls.{Moment, Call, lend, byte, bytes, mark, second, ask, contact, lift, number_given, Typed}
use Rattle.demands.specs.Demand1.{first_number, one_comes_while_waiting, room_too_small, printed, printed_writer}
use Rattle.demands.proofs.Waits.{busy_waits}
use Rattle.demands.proofs.AskNumbers.{ask_number}
use Rattle.demands.proofs.TableNumbers.{contact_number_lem}

-- a byte, a mark: "byte or mark 1"
fed_number : (waits : Bool) (r s : Reader)
    → Line.number_of_answer (cond waits (gives (Err line_answer.ReportWaits) r) (gives (Ok tt) s)).answer ≡ cond waits 1 0
unfolding Line.number_of_answer
fed_number true r s = refl
fed_number false r s = refl

pub byte_number : (now : Moment) → Sound now.panel → (b : ℕ) → number_given now (byte b) ≡ first_number (printed now (byte b))
unfolding number_given printed fed_byte given_byte first_said
byte_number now sound b = rw (← busy_waits now.panel sound) (fed_number (busy now.panel.reader) now.panel.reader _)

pub mark_number : (now : Moment) → Sound now.panel → number_given now mark ≡ first_number (printed now mark)
unfolding number_given printed fed_mark given_mark first_said
mark_number now sound = rw (← busy_waits now.panel sound) (fed_number (busy now.panel.reader) now.panel.reader _)

-- 02, §6: "1 for a second while a report waits"
pub second_number : (now : Moment) → Sound now.panel → number_given now second ≡ first_number (printed now second)
unfolding number_given printed fed_second first_said Line.number_of_answer
second_number now sound = rw (← busy_waits now.panel sound) (go (busy now.panel.reader))
  where
    go : (waits : Bool) → Line.number_of_answer (cond {A = Fed} waits (record { answer = Err line_answer.ReportWaits; panel = now.panel })
        (record { answer = Ok tt; panel = with_registers now.panel (second_passed now.panel.registers) })).answer ≡ cond waits 1 0
    go true = refl
    go false = refl

-- bytes one after the other: all are taken, or one comes while a report waits
pub one_more : (used n : ℕ) → eqb (1 + used) (suc n) ≡ eqb used n
one_more used n = go (eqb used n) refl
  where
    go : (b : Bool) → eqb used n ≡ b → eqb (1 + used) (suc n) ≡ b
    go true is = let same = eqb-true used n is in eq-eqb (1 + used) (suc n) (omega arith)
    go false is = let other = eqb-false used n is in ne_eqb (1 + used) (suc n) (λ e. other (omega arith))

bytes_used : (panel : Panel) → Reachable panel → (bs : List ℕ) → Bytes bs
    → eqb (given_bytes panel.reader bs).used (length bs) ≡ not (one_comes_while_waiting panel bs)
unfolding given_bytes one_comes_while_waiting fed_byte
bytes_used panel reached [] are = refl
bytes_used panel reached (b ∷ bs) are =
    rw (← busy_waits panel (reachable_sound panel reached))
    (go (busy panel.reader) (bytes_used (fed_byte panel b).panel (by_byte panel b (are 0) reached) bs (λ i. are (suc i))))
  where
    next : Gave
    next = given_bytes (given_byte panel.reader b).reader bs

    go : (w : Bool) → eqb (given_bytes (fed_byte panel b).panel.reader bs).used (length bs) ≡ not (one_comes_while_waiting (fed_byte panel b).panel bs)
        → eqb (cond w (gave 0 panel.reader) (plus 1 next)).used (suc (length bs)) ≡ not (w || one_comes_while_waiting (fed_byte panel b).panel bs)
    go true ih = ne_eqb 0 (suc (length bs)) (λ e. omega arith)
    go false ih = one_more next.used (length bs) ∙ ih

pub bytes_number : (now : Moment) → Reachable now.panel → (bs : List ℕ) → Bytes bs → number_given now (bytes bs) ≡ first_number (printed now (bytes bs))
unfolding number_given printed fed_bytes first_said
bytes_number now reached bs are = rw (bytes_used now.panel reached bs are) (go (one_comes_while_waiting now.panel bs))
  where
    go : (b : Bool) → ◌≡◌ {A = ℕ} (cond (not b) 0 1) (cond b 1 0)
    go true = refl
    go false = refl

-- a lift: "lift 1, 10"
pub lift_number_lem : (now : Moment) → Sound now.panel → number_given now lift ≡ first_number (printed now lift)
unfolding number_given printed lifting lift_number first_said
lift_number_lem now sound = rw (← busy_waits now.panel sound) (go (busy now.panel.reader) (not (is_down now.panel.registers)))
  where
    panel : Panel
    panel = now.panel

    go : (a b : Bool)
        → lift_number (cond a (lifts (Err lift_error.Waits) panel) (cond b (lifts (Err lift_error.IsUp) panel) (lifts (Ok tt) (with_pad panel (lifted (pad_of panel)))))).answer
        ≡ cond a 1 (cond b 10 0)
    go true b = refl
    go false true = refl
    go false false = refl

-- each call, at a panel that is reached
pub call_as_printed : (now : Moment) → Reachable now.panel → (call : Call) → Typed call → number_given now call ≡ first_number (printed now call)
unfolding number_given printed first_said Typed
call_as_printed now reached (lend lent) typed = refl
call_as_printed now reached (byte b) typed = byte_number now (reachable_sound now.panel reached) b
call_as_printed now reached (bytes bs) typed = bytes_number now reached bs typed
call_as_printed now reached mark typed = mark_number now (reachable_sound now.panel reached)
call_as_printed now reached second typed = second_number now (reachable_sound now.panel reached)
call_as_printed now reached ask typed = ask_number now (reachable_sound now.panel reached)
call_as_printed now reached (contact c) typed = contact_number_lem now (reachable_sound now.panel reached) c
call_as_printed now reached lift typed = lift_number_lem now (reachable_sound now.panel reached)

-- frame writer: "it refuses with 14, then 3"
pub writer_as_printed : (checking : Bool) (header : List ℕ) (command : ℕ) (payload room : List ℕ)
    → Writer.number_of_written (writing checking header command payload room).answer ≡ first_number (printed_writer checking payload room)
unfolding writing Writer.number_of_written printed_writer room_too_small first_said
writer_as_printed checking header command payload room = go (ltb (length room) least_room) (ltb (most_data checking) (length payload))
  where
    frame : List ℕ
    frame = frame_of checking header command payload

    go : (a b : Bool)
        → Writer.number_of_written (cond a (answers (Err RoomTooSmall) room) (cond b (answers (Err DataTooLong) room) (answers (Ok (length frame)) (over frame room)))).answer
        ≡ cond a 14 (cond b 3 0)
    go true b = refl
    go false true = refl
    go false false = refl
