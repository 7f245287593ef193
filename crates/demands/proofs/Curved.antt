-- What calls do to the channels' counts and to the curve area: every count and every word stays that no call names.
use mathlib.Core.Path.{◌≡◌, refl, ap, ◌∙◌}
use mathlib.Core.Logic.{◌⊎◌, inl, inr, ⊎_elim}
use mathlib.Core.Bool.{Bool, true, false, cond}
use mathlib.Core.List.{List, [], ◌∷◌}
use Prim.Native.Nat.{ℕ, ◌≤◌, ◌<◌}
use native.Mathlib.Omega.{arith}
use borrow.Author.Tests.{eq-eqb, ne_eqb, eqb-true, eqb-false, ltb-true, ltb-false}
use lib.Dec.{eqb, ltb}
use lib.ListN.{drop}
use Rattle.wire.specs.ByteOrder.{byte_at}
use Rattle.reading.specs.Place.{bad_check, accepted_frame}
use Rattle.registers.specs.Run.{clear_value}
use Rattle.curves.specs.declared.Counts.{Counts}
use Rattle.curves.specs.Area.{channel_count, channel_words, count_of}
use Rattle.curves.specs.Rounds.{named, mode_of}
use Rattle.curves.specs.Adding.{added}
use Rattle.curves.specs.Clearing.{cleared, clears}
use Rattle.curves.proofs.ByHistory.{count_left}
use Rattle.curves.proofs.OtherWords.{words_stay, count_stays}
use Rattle.commands.specs.Effect.{counts_left}
use Rattle.panel.specs.State.{panel_count}
use Rattle.panel.specs.Sound.{Sound}
use Rattle.panel.specs.Inputs.{fed_byte, fed_mark, fed_second, fed_bytes}
use Rattle.panel.specs.Contacts.{Contact, contacting, lifting}
use Rattle.panel.specs.Reachable.{Reachable}
use Rattle.panel.proofs.Lengths.{contacted_area_stands}
use Rattle.panel.proofs.Ways.{contact_ways, lift_ways, second_ways}
use Rattle.panel.proofs.Invariant.{reachable_sound}
use Rattle.demands.specs.Calls.{Moment, Call, lend, byte, bytes, mark, second, ask, contact, lift, after, after_all, number_given, handed_over, AllTyped}
use Rattle.demands.specs.Demand2.{leaving, after_write, after_read, after_store, after_fetch, after_add, after_bad_check, after_command, AskLeaves, hands_nothing, hands_bad_check, refuses_command, does_command, curve_word_at, NamesCurveWord, by_adding, by_exchange, NamesCount, by_numbers, by_clear, SomeCall, here, later}
use Rattle.demands.specs.History.{recorded, recorded_by, history_by}
use Rattle.demands.specs.Reports.{read_behind}
use Rattle.demands.proofs.Asking.{by_command_lem, one_of_five, as_command, asking_leaves}
use Rattle.demands.proofs.Calls.{call_reached}
use Rattle.demands.proofs.FrameAsked.{handed_asks}

-- what an ask does to the curves: nothing, and no history goes on; or a write of registers or numbers for curves is handed over and done
pub data Curving (now : Moment) : Type 0 where
  stays : (after now ask).panel.counts ≡ now.panel.counts → (after now ask).lent.curves ≡ now.lent.curves
      → ((n : ℕ) (history : List ℕ) → history_by n now ask history ≡ history) → Curving now
  clearing : (content : List ℕ) → handed_over now ask ≡ accepted_frame 0x80 content ∷ [] → number_given now ask ≡ 0
      → (after now ask).panel.counts ≡ cleared (clear_value (byte_at content 0) (drop 1 content)) now.panel.counts
      → (after now ask).lent.curves ≡ now.lent.curves → Curving now
  adding : (content : List ℕ) → handed_over now ask ≡ accepted_frame 0x84 content ∷ [] → number_given now ask ≡ 0
      → (after now ask).panel.counts ≡ (added now.panel.counts content now.lent.curves).counts
      → (after now ask).lent.curves ≡ (added now.panel.counts content now.lent.curves).area → Curving now

-- by what asking leaves
stays_by : (now then : Moment) → after now ask ≡ then → then.panel.counts ≡ now.panel.counts → then.lent.curves ≡ now.lent.curves
    → ((n : ℕ) (history : List ℕ) → history_by n now ask history ≡ history) → Curving now
stays_by now then is counts area quiet = stays (ap (λ (m : Moment). m.panel.counts) is ∙ counts) (ap (λ (m : Moment). m.lent.curves) is ∙ area) quiet

-- a history over a frame that is done, over a refusal, and where no frame is handed over
pub history_done : (now : Moment) (command : ℕ) (content : List ℕ) → handed_over now ask ≡ accepted_frame command content ∷ [] → number_given now ask ≡ 0
    → (n : ℕ) (history : List ℕ) → history_by n now ask history ≡ recorded n command content history
unfolding history_by recorded_by
history_done now command content hands done n history = rw (eq-eqb (number_given now ask) 0 done, hands)

history_refused : (now : Moment) (call : Call) → 0 < number_given now call → (n : ℕ) (history : List ℕ) → history_by n now call history ≡ history
unfolding history_by
history_refused now call above n history =
    let not-0 : number_given now call ≡ 0 → ⊥ = λ zero. omega arith in
    rw (ne_eqb (number_given now call) 0 not-0)

same_either : (b : Bool) (history : List ℕ) → cond b history history ≡ history
same_either true history = refl
same_either false history = refl

pub history_nothing : (now : Moment) (call : Call) → handed_over now call ≡ [] → (n : ℕ) (history : List ℕ) → history_by n now call history ≡ history
unfolding history_by recorded_by
history_nothing now call hands n history = rw hands (same_either (eqb (number_given now call) 0) history)

history_bad : (now : Moment) (command : ℕ) → handed_over now ask ≡ bad_check command ∷ [] → (n : ℕ) (history : List ℕ) → history_by n now ask history ≡ history
unfolding history_by recorded_by
history_bad now command hands n history = rw hands (same_either (eqb (number_given now ask) 0) history)

other_recorded : (n command : ℕ) (content history : List ℕ) → (command ≡ 0x84 → ⊥) → (command ≡ 0x80 → ⊥) → recorded n command content history ≡ history
unfolding recorded
other_recorded n command content history not-84 not-80 = rw (ne_eqb command 0x84 not-84, ne_eqb command 0x80 not-80)

module _ (now : Moment) (command : ℕ) (content : List ℕ) (hands : handed_over now ask ≡ accepted_frame command content ∷ []) (done : number_given now ask ≡ 0) where
  quiet : (command ≡ 0x84 → ⊥) → (command ≡ 0x80 → ⊥) → (n : ℕ) (history : List ℕ) → history_by n now ask history ≡ history
  quiet not-84 not-80 n history = history_done now command content hands done n history ∙ other_recorded n command content history not-84 not-80

  command_curves : 0x80 ≤ command → command ≤ 0x84 → after now ask ≡ after_command now command content → Curving now
  unfolding after_write after_read after_store after_fetch after_add leaving counts_left
  command_curves from to =
      by_command_lem (λ then. after now ask ≡ then → Curving now) now command content (one_of_five command from to)
      (λ at is. clearing content (as_command now command content hands 0x80 at) done (ap (λ (m : Moment). m.panel.counts) is) (ap (λ (m : Moment). m.lent.curves) is))
      (λ at is. stays_by now (after_read now content) is refl refl (quiet (λ other. omega (arith, at, other)) (λ other. omega (arith, at, other))))
      (λ at is. stays_by now (after_store now content) is refl refl (quiet (λ other. omega (arith, at, other)) (λ other. omega (arith, at, other))))
      (λ at is. stays_by now (after_fetch now content) is refl refl (quiet (λ other. omega (arith, at, other)) (λ other. omega (arith, at, other))))
      (λ at is. adding content (as_command now command content hands 0x84 at) done (ap (λ (m : Moment). m.panel.counts) is) (ap (λ (m : Moment). m.lent.curves) is))

pub ask_curves : (now : Moment) → Reachable now.panel → Curving now
ask_curves now reached = go (asking_leaves now reached)
  where
    go : AskLeaves now → Curving now
    go (hands_nothing hands number is) = stays_by now now is refl refl (history_nothing now ask hands)
    go (hands_bad_check command hands number is) =
        stays_by now (after_bad_check now command) is (unfold after_bad_check read_behind in refl) (unfold after_bad_check in refl) (history_bad now command hands)
    go (refuses_command command content hands least most is) =
        stays_by now (leaving now command now.panel.registers now.panel.catch now.panel.counts now.lent []) is (unfold leaving in refl)
        (unfold leaving in refl) (history_refused now ask (omega arith))
    go (does_command command content hands done from to is) = command_curves now command content hands done from to is

-- a count over any call: it stays, or the call names it
pub lifted_counts : (now : Moment) → (lifting now.panel).panel.counts ≡ now.panel.counts
lifted_counts now = lift_ways now.panel (λ l. l.panel.counts ≡ now.panel.counts) refl refl refl

pub second_counts : (now : Moment) → (fed_second now.panel).panel.counts ≡ now.panel.counts
second_counts now = second_ways now.panel (λ f. f.panel.counts ≡ now.panel.counts) refl (λ quiet. refl)

pub contacted_counts : (now : Moment) (c : Contact) → (contacting now.panel c now.lent).contacted.panel.counts ≡ now.panel.counts
contacted_counts now c = contact_ways now.panel c now.lent (λ r. r.contacted.panel.counts ≡ now.panel.counts) (λ answer. refl) (λ good. refl)

module _ (now : Moment) (reached : Reachable now.panel) (n : ℕ) (inside : n < channel_count) where
  abbrev sound : Sound now.panel
  sound = reachable_sound now.panel reached

  -- a count over an ask
  asked_count : Curving now → (panel_count (after now ask).panel n ≡ panel_count now.panel n) ⊎ NamesCount now n ask
  asked_count (stays counts area quiet) = inl (ap (λ (c : Counts). count_of c n) counts)
  asked_count (clearing content hands done counts area) = go (clears value n) refl
    where
      value : ℕ
      value = clear_value (byte_at content 0) (drop 1 content)

      go : (b : Bool) → clears value n ≡ b → (panel_count (after now ask).panel n ≡ panel_count now.panel n) ⊎ NamesCount now n ask
      go true is = inr (by_clear content hands done is)
      go false is = inl (ap (λ (c : Counts). count_of c n) counts ∙ count_left value now.panel.counts now.lent.curves n is)
  asked_count (adding content hands done counts area) = go (named (mode_of content) n) refl
    where
      go : (b : Bool) → named (mode_of content) n ≡ b → (panel_count (after now ask).panel n ≡ panel_count now.panel n) ⊎ NamesCount now n ask
      go true is = inr (by_numbers content hands done is)
      go false is =
          inl (ap (λ (c : Counts). count_of c n) counts
          ∙ count_stays now.panel.counts content now.lent.curves (handed_asks now 0x84 content hands).well.curves sound.channels n inside is)

  -- a word of the area over an ask
  asked_curve_word : (i : ℕ) → i < channel_words → Curving now
      → (curve_word_at (after now ask).lent.curves n i ≡ curve_word_at now.lent.curves n i) ⊎ NamesCurveWord now n i ask
  asked_curve_word i few (stays counts area quiet) = inl (ap (λ (l : List ℕ). curve_word_at l n i) area)
  asked_curve_word i few (clearing content hands done counts area) = inl (ap (λ (l : List ℕ). curve_word_at l n i) area)
  asked_curve_word i few (adding content hands done counts area) =
      go (named (mode_of content) n) refl (ltb i (panel_count (after now ask).panel n)) refl
    where
      word_stays : (named (mode_of content) n ≡ false) ⊎ (count_of (added now.panel.counts content now.lent.curves).counts n ≤ i)
          → curve_word_at (after now ask).lent.curves n i ≡ curve_word_at now.lent.curves n i
      word_stays past =
          ap (λ (l : List ℕ). curve_word_at l n i) area
          ∙ words_stay now.panel.counts content now.lent.curves (handed_asks now 0x84 content hands).well.curves sound.channels n inside i few past

      go : (b : Bool) → named (mode_of content) n ≡ b → (c : Bool) → ltb i (panel_count (after now ask).panel n) ≡ c
          → (curve_word_at (after now ask).lent.curves n i ≡ curve_word_at now.lent.curves n i) ⊎ NamesCurveWord now n i ask
      go false is c below = inl (word_stays (inl is))
      go true is true below = inr (by_adding content hands done is (ltb-true i (panel_count (after now ask).panel n) below))
      go true is false past =
          let same : panel_count (after now ask).panel n ≡ count_of (added now.panel.counts content now.lent.curves).counts n =
          ap (λ (c : Counts). count_of c n) counts in
          let beyond : panel_count (after now ask).panel n ≤ i = ltb-false i (panel_count (after now ask).panel n) past in
          inl (word_stays (inr (omega arith)))

  pub call_names_count : (call : Call) → (panel_count (after now call).panel n ≡ panel_count now.panel n) ⊎ NamesCount now n call
  unfolding after fed_byte fed_mark fed_bytes
  call_names_count (lend lent) = inl refl
  call_names_count (byte b) = inl refl
  call_names_count (bytes bs) = inl refl
  call_names_count mark = inl refl
  call_names_count second = inl (ap (λ (k : Counts). count_of k n) (second_counts now))
  call_names_count ask = asked_count (ask_curves now reached)
  call_names_count (contact c) = inl (ap (λ (k : Counts). count_of k n) (contacted_counts now c))
  call_names_count lift = inl (ap (λ (k : Counts). count_of k n) (lifted_counts now))

  pub call_names_curve_word : (i : ℕ) → i < channel_words → (call : Call)
      → (curve_word_at (after now call).lent.curves n i ≡ curve_word_at now.lent.curves n i) ⊎ NamesCurveWord now n i call
  unfolding after
  call_names_curve_word i few (lend lent) = go (eqb (curve_word_at lent.curves n i) (curve_word_at now.lent.curves n i)) refl
    where
      go : (b : Bool) → eqb (curve_word_at lent.curves n i) (curve_word_at now.lent.curves n i) ≡ b
          → (curve_word_at lent.curves n i ≡ curve_word_at now.lent.curves n i) ⊎ NamesCurveWord now n i (lend lent)
      go true is = inl (eqb-true (curve_word_at lent.curves n i) (curve_word_at now.lent.curves n i) is)
      go false is = inr (by_exchange lent (eqb-false (curve_word_at lent.curves n i) (curve_word_at now.lent.curves n i) is))
  call_names_curve_word i few (byte b) = inl refl
  call_names_curve_word i few (bytes bs) = inl refl
  call_names_curve_word i few mark = inl refl
  call_names_curve_word i few second = inl refl
  call_names_curve_word i few ask = asked_curve_word i few (ask_curves now reached)
  call_names_curve_word i few (contact c) = inl (ap (λ (l : List ℕ). curve_word_at l n i) (contacted_area_stands now.panel c now.lent))
  call_names_curve_word i few lift = inl refl

-- over any sequence of calls, from a panel that is reached
pub count_stays_or_is_named : (now : Moment) → Reachable now.panel → (calls : List Call) → AllTyped calls → (n : ℕ) → n < channel_count
    → (panel_count (after_all now calls).panel n ≡ panel_count now.panel n) ⊎ SomeCall (λ then call. NamesCount then n call) now calls
unfolding after_all AllTyped
count_stays_or_is_named now reached [] typed n inside = inl refl
count_stays_or_is_named now reached (call ∷ calls) typed n inside =
    ⊎_elim
    (λ same. ⊎_elim (λ before. inl (same ∙ before)) (λ names. inr (here now call calls names)) (call_names_count now reached n inside call))
    (λ names. inr (later now call calls names))
    (count_stays_or_is_named (after now call) (call_reached now call typed.0 reached) calls typed.1 n inside)

pub curve_word_stays_or_is_named : (now : Moment) → Reachable now.panel → (calls : List Call) → AllTyped calls → (n : ℕ) → n < channel_count
    → (i : ℕ) → i < channel_words
    → (curve_word_at (after_all now calls).lent.curves n i ≡ curve_word_at now.lent.curves n i) ⊎ SomeCall (λ then call. NamesCurveWord then n i call) now calls
unfolding after_all AllTyped
curve_word_stays_or_is_named now reached [] typed n inside i few = inl refl
curve_word_stays_or_is_named now reached (call ∷ calls) typed n inside i few =
    ⊎_elim
    (λ same. ⊎_elim (λ before. inl (same ∙ before)) (λ names. inr (here now call calls names)) (call_names_curve_word now reached n inside i few call))
    (λ names. inr (later now call calls names))
    (curve_word_stays_or_is_named (after now call) (call_reached now call typed.0 reached) calls typed.1 n inside i few)
