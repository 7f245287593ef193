-- The words and registers that calls name: every other one stays, over one call and over a sequence.
use Rattle.std.specs.Prelude.{Some, Ok, Err}
use mathlib.Core.Path.{◌≡◌, refl, ap, ◌∙◌}
use mathlib.Core.Logic.{◌⊎◌, inl, inr, ⊎_elim}
use mathlib.Core.Bool.{Bool, true, false}
use mathlib.Core.List.{List, [], ◌∷◌}
use Prim.Native.Nat.{ℕ, ◌+◌, ◌≤◌, ◌<◌}
use borrow.Author.Tests.{eqb-true, eqb-false, leb-true, leb-false}
use lib.Dec.{eqb, leb}
use lib.ListN.{length, take, drop}
use Rattle.wire.proofs.Truths.{never}
use Rattle.wire.specs.ByteOrder.{byte_at, word_at}
use Rattle.wire.specs.Addresses.{register_count}
use Rattle.reading.specs.Place.{accepted_frame}
use Rattle.line.specs.declared.Report.TheVariants as line
use Rattle.line.specs.Methods.{number_of_answer, asked}
use Rattle.registers.specs.Table.{register_at}
use Rattle.words.specs.Words.{word_at_address, words_of}
use Rattle.commands.specs.Outcome.{Outcome, outcome, is_done}
use Rattle.commands.specs.Outcome as Outcome
use Rattle.commands.proofs.Named as Command
use Rattle.commands.proofs.Performance.{performs_outcome}
use Rattle.contact.specs.Contact as Contact
use Rattle.contact.proofs.Named as Touch
use Rattle.panel.specs.declared.Panel.{Panel}
use Rattle.panel.specs.Numbers.{report_number, contact_number, lift_number}
use Rattle.panel.specs.State.{pad_of, panel_register, fixed_for}
use Rattle.panel.specs.Inputs.{fed_byte, fed_mark, fed_second, fed_bytes}
use Rattle.panel.specs.Reporting.{acknowledged, accepting, Reporting, handing, reporting, handing_over}
use Rattle.panel.specs.Watching.{telling}
use Rattle.panel.specs.Contacts.{contacting, lifting, Contact}
use Rattle.panel.specs.Reachable.{Reachable}
use Rattle.panel.proofs.Named.{second_only_clock}
use Rattle.panel.proofs.Ways.{contact_ways, lift_ways, second_ways, report_ways}
use Rattle.panel.proofs.Invariant.{always_256_registers}
use Rattle.demands.specs.Calls.{Moment, Call, lend, byte, bytes, mark, second, ask, contact, lift, after, after_all, number_given, report_handed, handed_over, AllTyped}
use Rattle.demands.specs.Demand2.{NamesWord, by_store, by_acting, by_dragging, by_lending, NamesRegister, by_write, by_status, by_place, by_page, by_second, by_lifting, SomeCall, here, later}
use Rattle.demands.proofs.Calls.{call_reached}
use Rattle.demands.proofs.TouchedRegisters as Registers
use Rattle.commands.specs.Lent.{Lent, with_room}
use Rattle.demands.proofs.TouchedRegisters.{Touches, touched_register}

-- what is done has number 0
done_is_0 : (o : Outcome) → is_done o ≡ true → Outcome.number_of_outcome o ≡ 0
unfolding Outcome.number_of_outcome
done_is_0 (Ok tt) done = refl
done_is_0 (Err why) done = never (cc)

-- an ask that hands over this command with this data, and is done
record Handing (command : ℕ) (content : List ℕ) (r : Reporting) : Type 0 where
  handed : report_handed r.reported.handed r.reported.payload ≡ accepted_frame command content ∷ []
  done : report_number r.reported.handed ≡ 0

module _ (panel : Panel) (lent : Lent) (command count : ℕ) where
  abbrev content : List ℕ
  content = take count (asked panel.reader).payload

  abbrev frame_handed : Reporting
  frame_handed = handing (asked panel.reader) (Some (line.Accepted command count)) panel lent

  frame_done : (known : ℕ) → command ≡ known → is_done (outcome (fixed_for panel.setup) (length lent.words) known content) ≡ true
      → Handing known content frame_handed
  unfolding handing handing_over accepting report_handed report_number
  frame_done known is done =
      let setup = panel.setup in
      let answer = acknowledged setup command true lent.room in
      record {
        handed = ap (λ (c : ℕ). accepted_frame c content ∷ []) is;
        done =
            ap Outcome.number_of_outcome
            (performs_outcome (fixed_for setup) panel.registers command content (with_room lent (drop answer.count answer.room)))
            ∙ ap (λ (c : ℕ). Outcome.number_of_outcome (outcome (fixed_for setup) (length lent.words) c content)) is
            ∙ done_is_0 (outcome (fixed_for setup) (length lent.words) known content) done;
      }

-- a word over an ask
record StoredWord (k : ℕ) (r : Reporting) : Type 0 where
  content : List ℕ
  handing : Handing 0x82 content r
  from : word_at content 0 ≤ k
  below : k < word_at content 0 + length (words_of (drop 2 content))

asked_word : (panel : Panel) (lent : Lent) (k : ℕ)
    → (word_at_address (reporting panel lent).lent.words k ≡ word_at_address lent.words k) ⊎ StoredWord k (reporting panel lent)
unfolding handing handing_over accepting outcome
asked_word panel lent k =
    report_ways panel lent (λ r. (word_at_address r.lent.words k ≡ word_at_address lent.words k) ⊎ StoredWord k r) (λ h payload. inl refl) (λ command is. inl refl)
    (λ good command count is.
    let setup = panel.setup in
    let answer = acknowledged setup command true lent.room in
    let content = take count (asked panel.reader).payload in
    ⊎_elim inl
    (λ named. inr (record {
      content = content;
      handing = frame_done panel lent command count 0x82 named.writes named.done;
      from = named.from;
      below = named.below;
    }))
    (Command.word_named (fixed_for setup) panel.registers content (with_room lent (drop answer.count answer.room)) command k))

-- a word over a contact
contacted_word : (now : Moment) (c : Contact) (k : ℕ)
    → (word_at_address (contacting now.panel c now.lent).lent.words k ≡ word_at_address now.lent.words k) ⊎ NamesWord now k (contact c)
unfolding number_given contact_number telling
contacted_word now c k =
    ⊎_elim inl (λ named. inr (by_touch named.0 named.1))
    (contact_ways now.panel c now.lent
    (λ r. (word_at_address r.lent.words k ≡ word_at_address now.lent.words k)
    ⊎ ((contact_number r.contacted.answer ≡ 0) × Touch.NamesWord (pad_of now.panel) c.table c.x c.y k))
    (λ answer. inl refl)
    (λ passed. ⊎_elim inl (λ named. inr (refl, named)) (Touch.word_named now.panel.setup (pad_of now.panel) c.table now.lent.words c.x c.y k)))
  where
    by_touch : contact_number (contacting now.panel c now.lent).contacted.answer ≡ 0 → Touch.NamesWord (pad_of now.panel) c.table c.x c.y k
        → NamesWord now k (contact c)
    by_touch done (Touch.acts i r up is word) = by_acting c i r done up is word
    by_touch done (Touch.drags r down is word) = by_dragging c r done down is word

-- a word over words lent anew
lent_word : (now : Moment) (lent : Lent) (k : ℕ)
    → (word_at_address lent.words k ≡ word_at_address now.lent.words k) ⊎ NamesWord now k (lend lent)
lent_word now lent k = go (eqb (word_at_address lent.words k) (word_at_address now.lent.words k)) refl
  where
    go : (b : Bool) → eqb (word_at_address lent.words k) (word_at_address now.lent.words k) ≡ b
        → (word_at_address lent.words k ≡ word_at_address now.lent.words k) ⊎ NamesWord now k (lend lent)
    go true is = inl (eqb-true (word_at_address lent.words k) (word_at_address now.lent.words k) is)
    go false is = inr (by_lending lent (eqb-false (word_at_address lent.words k) (word_at_address now.lent.words k) is))

-- a word over any call: it stays, or the call names it
pub call_names_word : (now : Moment) (call : Call) (k : ℕ)
    → (word_at_address (after now call).lent.words k ≡ word_at_address now.lent.words k) ⊎ NamesWord now k call
unfolding after number_given handed_over
call_names_word now (lend lent) k = lent_word now lent k
call_names_word now (byte b) k = inl refl
call_names_word now (bytes bs) k = inl refl
call_names_word now mark k = inl refl
call_names_word now second k = inl refl
call_names_word now ask k =
    ⊎_elim inl
    (λ stored. inr (by_store stored.content stored.handing.handed stored.handing.done stored.from stored.below))
    (asked_word now.panel now.lent k)
call_names_word now (contact c) k = contacted_word now c k
call_names_word now lift k = inl refl

-- a word over any sequence of calls: it stays, or some call of the sequence names it
pub word_stays_or_is_named : (now : Moment) (calls : List Call) (k : ℕ)
    → (word_at_address (after_all now calls).lent.words k ≡ word_at_address now.lent.words k) ⊎ SomeCall (λ then call. NamesWord then k call) now calls
unfolding after_all
word_stays_or_is_named now [] k = inl refl
word_stays_or_is_named now (call ∷ calls) k =
    ⊎_elim
    (λ same. ⊎_elim (λ before. inl (same ∙ before)) (λ named. inr (here now call calls named)) (call_names_word now call k))
    (λ named. inr (later now call calls named))
    (word_stays_or_is_named (after now call) calls k)

-- a register over an ask
record WrittenRegister (address : ℕ) (r : Reporting) : Type 0 where
  content : List ℕ
  handing : Handing 0x80 content r
  from : byte_at content 0 ≤ address
  below : address < byte_at content 0 + length (drop 1 content)

asked_register : (panel : Panel) → length panel.registers.bytes ≡ register_count → (lent : Lent) (address : ℕ)
    → (panel_register (reporting panel lent).reported.panel address ≡ panel_register panel address) ⊎ WrittenRegister address (reporting panel lent)
unfolding handing handing_over accepting outcome
asked_register panel whole lent address =
    report_ways panel lent (λ r. (panel_register r.reported.panel address ≡ panel_register panel address) ⊎ WrittenRegister address r)
    (λ h payload. inl refl) (λ command is. inl refl)
    (λ good command count is.
    let setup = panel.setup in
    let answer = acknowledged setup command true lent.room in
    let content = take count (asked panel.reader).payload in
    ⊎_elim inl
    (λ named. inr (record {
      content = content;
      handing = frame_done panel lent command count 0x80 named.writes named.done;
      from = named.from;
      below = named.below;
    }))
    (Command.register_named (fixed_for setup) panel.registers content (with_room lent (drop answer.count answer.room)) command whole address))

-- a register over a contact
contacted_register : (now : Moment) → length now.panel.registers.bytes ≡ register_count → (c : Contact) (address : ℕ)
    → (panel_register (contacting now.panel c now.lent).contacted.panel address ≡ panel_register now.panel address)
    ⊎ NamesRegister now address (contact c)
unfolding number_given contact_number
contacted_register now whole c address =
    ⊎_elim inl (λ named. inr (by_touch named.0 named.1))
    (contact_ways now.panel c now.lent
    (λ r. (panel_register r.contacted.panel address ≡ panel_register now.panel address)
    ⊎ ((contact_number r.contacted.answer ≡ 0) × Touches (pad_of now.panel) c.table c.x c.y address))
    (λ answer. inl refl)
    (λ passed. ⊎_elim inl (λ named. inr (refl, named)) (touched_register (pad_of now.panel) whole c.table c.x c.y address now.panel.setup now.lent.words)))
  where
    by_touch : contact_number (contacting now.panel c now.lent).contacted.answer ≡ 0 → Touches (pad_of now.panel) c.table c.x c.y address
        → NamesRegister now address (contact c)
    by_touch done (Registers.status is) = by_status c done is
    by_touch done (Registers.place flag is) = by_place c done flag is
    by_touch done (Registers.page i r up is next at) = by_page c i r done up is next at

-- a register over a lift
lifted_register : (now : Moment) → length now.panel.registers.bytes ≡ register_count → (address : ℕ)
    → (panel_register (lifting now.panel).panel address ≡ panel_register now.panel address) ⊎ NamesRegister now address lift
unfolding number_given lift_number
lifted_register now whole address =
    ⊎_elim inl (λ named. inr (by_lifting named.0 named.1))
    (lift_ways now.panel
    (λ l. (panel_register l.panel address ≡ panel_register now.panel address) ⊎ ((lift_number l.answer ≡ 0) × (address ≡ 0x06)))
    (inl refl) (inl refl) (status_or_stays (eqb address 0x06) refl))
  where
    status_or_stays : (b : Bool) → eqb address 0x06 ≡ b
        → (register_at (Contact.lifted (pad_of now.panel)).registers address ≡ panel_register now.panel address) ⊎ (◌≡◌ {A = ℕ} 0 0 × (address ≡ 0x06))
    status_or_stays true is = inr (refl, eqb-true address 0x06 is)
    status_or_stays false is = inl (Touch.lift_only_status (pad_of now.panel) whole address (eqb-false address 0x06 is))

-- a register over a second
second_register : (now : Moment) → length now.panel.registers.bytes ≡ register_count → (address : ℕ)
    → (panel_register (fed_second now.panel).panel address ≡ panel_register now.panel address) ⊎ NamesRegister now address second
unfolding number_given number_of_answer
second_register now whole address = go (leb 0x20 address) refl (leb address 0x26) refl
  where
    go : (a : Bool) → leb 0x20 address ≡ a → (b : Bool) → leb address 0x26 ≡ b
        → (panel_register (fed_second now.panel).panel address ≡ panel_register now.panel address) ⊎ NamesRegister now address second
    go true s true t =
        ⊎_elim inl (λ done. inr (by_second done (leb-true 0x20 address s) (leb-true address 0x26 t)))
        (second_ways now.panel (λ f. (panel_register f.panel address ≡ panel_register now.panel address) ⊎ (number_of_answer f.answer ≡ 0)) (inl refl)
        (λ quiet. inr refl))
    go true s false t = inl (second_only_clock now.panel whole address (inr (leb-false address 0x26 t)))
    go false s b t = inl (second_only_clock now.panel whole address (inl (leb-false 0x20 address s)))

-- a register over any call: it stays, or the call names it
pub call_names_register : (now : Moment) → length now.panel.registers.bytes ≡ register_count → (call : Call) (address : ℕ)
    → (panel_register (after now call).panel address ≡ panel_register now.panel address) ⊎ NamesRegister now address call
unfolding after number_given handed_over fed_byte fed_mark fed_bytes
call_names_register now whole (lend lent) address = inl refl
call_names_register now whole (byte b) address = inl refl
call_names_register now whole (bytes bs) address = inl refl
call_names_register now whole mark address = inl refl
call_names_register now whole second address = second_register now whole address
call_names_register now whole ask address =
    ⊎_elim inl
    (λ stored. inr (by_write stored.content stored.handing.handed stored.handing.done stored.from stored.below))
    (asked_register now.panel whole now.lent address)
call_names_register now whole (contact c) address = contacted_register now whole c address
call_names_register now whole lift address = lifted_register now whole address

-- a register over any sequence of calls, from a panel that is reached: it stays, or some call of the sequence names it
pub register_stays_or_is_named : (now : Moment) → Reachable now.panel → (calls : List Call) → AllTyped calls → (address : ℕ)
    → (panel_register (after_all now calls).panel address ≡ panel_register now.panel address) ⊎ SomeCall (λ then call. NamesRegister then address call) now calls
unfolding after_all AllTyped
register_stays_or_is_named now reached [] typed address = inl refl
register_stays_or_is_named now reached (call ∷ calls) typed address =
    ⊎_elim
    (λ same.
    ⊎_elim (λ before. inl (same ∙ before)) (λ named. inr (here now call calls named))
    (call_names_register now (always_256_registers now.panel reached) call address))
    (λ named. inr (later now call calls named))
    (register_stays_or_is_named (after now call) (call_reached now call typed.0 reached) calls typed.1 address)
