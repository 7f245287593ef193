-- Demand 1, theorem by theorem. `Arises now`: any calls with any inputs have led to this moment from any start.
use Rattle.std.specs.Prelude.{Err}
use mathlib.Core.Path.{◌≡◌, sym, ◌∙◌}
use mathlib.Core.Bool.{Bool, false}
use mathlib.Core.List.{List}
use Prim.Native.Nat.{ℕ, ◌<◌}
use Rattle.frame.specs.Writer as Writer
use Rattle.frame.specs.Writer.{writing}
use Rattle.watch.specs.Watched.{Watched}
use Rattle.watch.specs.Judge.{wrong_list}
use Rattle.commands.specs.Lent.{Lent}
use Rattle.touch.specs.declared.Setup.{Setup}
use Rattle.panel.specs.declared.StartError.TheVariants as start_error
use Rattle.panel.specs.declared.ContactError.TheVariants as contact_error
use Rattle.panel.specs.Numbers.{start_number}
use Rattle.panel.specs.Start.{started, no_panel}
use Rattle.panel.specs.Contacts.{contacting, Contact}
use Rattle.panel.specs.Sound.{Sound}
use Rattle.panel.proofs.Invariant.{reachable_sound}
use Rattle.panel.proofs.Refusals.{refused_start_gives_none}
use Rattle.demands.specs.Calls.{Moment, Call, begun, number_given, Typed, Arises}
use Rattle.demands.specs.Demand1.{first_number, GivenUnder, printed, printed_start, printed_writer, NamesFirstWrong, RefusalLeaves}
use Rattle.demands.specs.NoPanel.{Inert}
use Rattle.demands.proofs.Calls.{arises_reachable}
use Rattle.demands.specs.Done.{Exactly, DoneExactly}
use Rattle.demands.specs.Entries.{GoodList}
use Rattle.demands.proofs.GoodLists.{sixteen_exactly}
use Rattle.demands.proofs.Done.{done_exactly, printed_above, start_above, writer_above}
use Rattle.demands.proofs.Numbers as Numbers
use Rattle.demands.proofs.TableNumbers as TableNumbers
use Rattle.demands.proofs.FirstNumber as FirstNumber
use Rattle.demands.proofs.Refusals.{call_refused}
use Rattle.demands.proofs.WriterRefused.{refused_writer_room}
use Rattle.demands.proofs.NoPanel.{no_panel_inert}

-- "No sequence of line bytes, quiet marks, contacts, lifts, tables or lent buffers can put the panel into an undefined act or an unending one.": the
-- checker takes no function that it has not proved to be safe and to end on every input. What every panel keeps besides, whatever the sequence:
pub always_sound : (now : Moment) → Arises now → Sound now.panel
always_sound now arises = reachable_sound now.panel (arises_reachable now arises)

-- "Every call takes any input and answers as document 01 lists": the first number in the printed order whose printed condition holds
pub answers_as_listed : (now : Moment) → Arises now → (call : Call) → Typed call → number_given now call ≡ first_number (printed now call)
answers_as_listed now arises call fits = Numbers.call_as_printed now (arises_reachable now arises) call fits

-- "start 11, 12, 13"; frame writer: "it refuses with 14, then 3"
pub start_answers_as_listed : (setup : Setup) (table : List ℕ) → start_number (started setup table).answer ≡ first_number (printed_start setup table)
start_answers_as_listed = TableNumbers.start_as_printed

pub writer_answers_as_listed : (checking : Bool) (header : List ℕ) (command : ℕ) (payload room : List ℕ)
    → Writer.number_of_written (writing checking header command payload room).answer ≡ first_number (printed_writer checking payload room)
writer_answers_as_listed = Numbers.writer_as_printed

-- ".. each number exactly under its printed condition and order": a number is given only where its condition holds and none before it does, so that it is
-- one of those printed for the call, and it is given wherever that is so
module _ (now : Moment) (arises : Arises now) (call : Call) (fits : Typed call) (n : ℕ) where
  pub given_only_as_printed : 0 < n → number_given now call ≡ n → GivenUnder (printed now call) n
  given_only_as_printed above is =
      let same : first_number (printed now call) ≡ n = sym (answers_as_listed now arises call fits) ∙ is in
      rw same at (FirstNumber.first_given (printed now call) (rw same above))

  pub given_wherever_printed : GivenUnder (printed now call) n → number_given now call ≡ n
  given_wherever_printed under = answers_as_listed now arises call fits ∙ FirstNumber.given_is_first (printed now call) n under

-- "0: done": given exactly where no condition of the list holds, of every call, of a start and of the frame writer
pub done_exactly_where_none_holds : (now : Moment) → Arises now → (call : Call) → Typed call → DoneExactly (number_given now call) (printed now call)
done_exactly_where_none_holds now arises call fits =
    done_exactly (number_given now call) (printed now call) (printed_above now call) (answers_as_listed now arises call fits)

pub start_done_exactly_where_none_holds : (setup : Setup) (table : List ℕ)
    → DoneExactly (start_number (started setup table).answer) (printed_start setup table)
start_done_exactly_where_none_holds setup table =
    done_exactly (start_number (started setup table).answer) (printed_start setup table) (start_above setup table) (start_answers_as_listed setup table)

pub writer_done_exactly_where_none_holds : (checking : Bool) (header : List ℕ) (command : ℕ) (payload room : List ℕ)
    → DoneExactly (Writer.number_of_written (writing checking header command payload room).answer) (printed_writer checking payload room)
writer_done_exactly_where_none_holds checking header command payload room =
    done_exactly (Writer.number_of_written (writing checking header command payload room).answer) (printed_writer checking payload room)
    (writer_above checking payload room) (writer_answers_as_listed checking header command payload room)

-- 13: "the first wrong one is named"
pub contact_names_first_wrong : (now : Moment) (c : Contact) (i : ℕ)
    → (contacting now.panel c now.lent).contacted.answer ≡ Err (contact_error.WrongRecord i)
    → NamesFirstWrong now.panel.setup c.table i
contact_names_first_wrong = TableNumbers.contact_names_first_wrong

pub start_names_first_wrong : (setup : Setup) (table : List ℕ) (i : ℕ) → (started setup table).answer ≡ Err (start_error.WrongRecord i) → NamesFirstWrong setup table i
start_names_first_wrong = TableNumbers.start_names_first_wrong

-- 16: "two entries in use share a word or one in use has an address not below 0x7000, or the list is longer than 16": a list is let pass exactly where it is a good one
pub list_passes_exactly_where_good : (w : Watched) → Exactly (wrong_list w ≡ false) (GoodList w)
list_passes_exactly_where_good = sixteen_exactly

-- "A refused command is still handed over and acknowledged as printed; beyond that a refusal leaves the panel, the variable words and the reply room as
-- they stood."
pub refusal_leaves_all_else : (now : Moment) → Arises now → (call : Call) → Typed call → 0 < number_given now call → RefusalLeaves now call
refusal_leaves_all_else now arises call fits = call_refused now (arises_reachable now arises) call fits

-- "A refused start gives no panel."
pub refused_start_gives_no_panel : (setup : Setup) (table : List ℕ) → 0 < start_number (started setup table).answer → (started setup table).panel ≡ no_panel
refused_start_gives_no_panel = refused_start_gives_none

-- and what stands in its place is inert, whatever is lent and called
pub refused_start_is_inert : (setup : Setup) (table : List ℕ) → 0 < start_number (started setup table).answer
    → (lent : Lent) (calls : List Call) → Inert (begun setup table lent) calls
refused_start_is_inert setup table above lent calls = rw (refused_start_gives_none setup table above) (no_panel_inert lent calls)

-- frame writer: "it refuses with 14, then 3", and "a refusal changes nothing": the room is left as it was lent
pub refused_writer_leaves_its_room : (checking : Bool) (header : List ℕ) (command : ℕ) (payload room : List ℕ)
    → 0 < Writer.number_of_written (writing checking header command payload room).answer → (writing checking header command payload room).room ≡ room
refused_writer_leaves_its_room = refused_writer_room
