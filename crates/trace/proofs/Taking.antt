-- Laws of a byte of the input: what it comes to, and what that leaves.
use mathlib.Core.Path.{◌≡◌, refl, sym, ap, ◌∙◌}
use mathlib.Core.Bool.{Bool, true, false, cond, not, ◌&&◌}
use mathlib.Core.List.{List, []}
use Prim.Native.Nat.{ℕ, ◌+◌, ◌≤◌, ◌<◌}
use native.Mathlib.Omega.{arith}
use borrow.Author.Tests.{ne_eqb, le-leb, lt-leb}
use lib.Dec.{eqb, leb}
use lib.ListN.{length, set}
use Rattle.wire.specs.ByteOrder.{byte_at}
use Rattle.wire.specs.Room.{over, Laid, lays}
use Rattle.wire.proofs.Over.{over_nil}
use Rattle.touch.specs.declared.Setup.{Setup}
use Rattle.items.specs.declared.Kind.{Kind}
use Rattle.items.specs.declared.Kind.TheVariants as kinds
use Rattle.items.specs.KindBytes.{number_of}
use Rattle.items.proofs.KindBytes.{one_kind}
use Rattle.text.specs.declared.Line.TheVariants as line
use Rattle.text.specs.Text.{line_text}
use Rattle.telling.specs.Memory.{Memory, remembering}
use Rattle.telling.specs.Inner.{prints}
use Rattle.trace.specs.declared.Trace.{Trace}
use Rattle.trace.specs.declared.TracePrinted.{TracePrinted}
use Rattle.trace.specs.declared.Comes.{Comes}
use Rattle.trace.specs.declared.Comes.TheVariants.{Quiet, Wrong, Met, Happens}
use Rattle.trace.specs.declared.Judged.{Judged}
use Rattle.trace.specs.Inner.{byte_printing, leaves_byte, quietly, judges, quiet_judged, whole_judged, growing, byte_judged}
use Rattle.items.specs.Items.{no_item, body_length, setup_in}
use Rattle.items.specs.Stages.{is_over, may_come}
use Rattle.items.specs.Records.{record_counted}
use Rattle.trace.specs.State.{Shown, shows, gathering, idle, with_setup, with_records, stopped, holds, fails}
use Rattle.trace.specs.Lines.{wrong_text}
use Rattle.trace.specs.Events.{record_put, event_done, item_done, grown, took_byte, met_record}

-- ---- What a byte comes to

pub setup_ready : (trace : Trace) (item : List ℕ) (setup : Setup) → setup ≡ setup_in item → with_setup trace setup ≡ with_setup trace (setup_in item)
setup_ready trace item setup is = ap (with_setup trace) is

pub item_ended : (trace next : Trace) (nothing : List ℕ) → nothing ≡ no_item → next ≡ gathering trace nothing 0 → next ≡ idle trace
item_ended trace next nothing is-nothing is_next = is_next ∙ ap (λ (l : List ℕ). gathering trace l 0) is-nothing

-- a byte that prints nothing
pub quiet_judged_lem : (trace : Trace) → judges Quiet trace ≡ quiet_judged trace
quiet_judged_lem trace = refl

module _ (trace : Trace) (item : List ℕ) (k : ℕ) (is-k : k ≡ byte_at item 0) where
  module _ (kind : Kind) (number : number_of kind ≡ k) where
    pub setup_whole : (next : Trace) (j : Judged) → kind ≡ kinds.Setup → next ≡ with_setup trace (setup_in item) → j ≡ quiet_judged next → j ≡ whole_judged trace item
    unfolding whole_judged
    setup_whole next j is is_next is-j = rw (← (rw is at number) ∙ is-k) (is-j ∙ ap quiet_judged is_next)

    pub record_whole : kind ≡ kinds.Record → judges (Met item) trace ≡ whole_judged trace item
    unfolding whole_judged
    record_whole is = rw (← (rw is at number) ∙ is-k)

  event_judged : (byte_at item 0 ≡ 0 → ⊥) → (byte_at item 0 ≡ 5 → ⊥) → judges (Happens item) trace ≡ whole_judged trace item
  unfolding whole_judged
  event_judged not-0 not-5 = rw (ne_eqb (byte_at item 0) 0 not-0, ne_eqb (byte_at item 0) 5 not-5)

  -- no kind at all goes as an event does
  pub other_whole : (j : Judged) → 6 < k → j ≡ judges (Happens item) trace → j ≡ whole_judged trace item
  other_whole j unknown is-j = is-j ∙ event_judged (λ z. absurd (omega arith)) (λ z. absurd (omega arith))

  pub event_whole : (kind : Kind) (j : Judged) → number_of kind ≡ k → (kind ≡ kinds.Setup → ⊥) → (kind ≡ kinds.Record → ⊥) → j ≡ judges (Happens item) trace
      → j ≡ whole_judged trace item
  event_whole kind j number not-setup not-record is-j =
      is-j ∙ event_judged (λ z. not-setup (one_kind kind kinds.Setup (number ∙ is-k ∙ z))) (λ z. not-record (one_kind kind kinds.Record (number ∙ is-k ∙ z)))

module _ (trace : Trace) (item : List ℕ) (k n : ℕ) (is-k : k ≡ byte_at item 0) (is-n : n ≡ body_length k) (next : Trace) (j : Judged) where
  is_long : n ≡ body_length (byte_at item 0)
  is_long = is-n ∙ ap body_length is-k

  pub item_whole : n ≤ trace.have → next ≡ idle trace → j ≡ whole_judged next item → j ≡ growing trace item
  unfolding growing
  item_whole whole is_next is-j =
      let so : leb (body_length (byte_at item 0)) trace.have ≡ true = le-leb (body_length (byte_at item 0)) trace.have (omega (arith, is_long)) in
      rw so (is-j ∙ ap (λ (t : Trace). whole_judged t item) is_next)

  pub item_grows : trace.have < n → next ≡ gathering trace item (trace.have + 1) → j ≡ quiet_judged next → j ≡ growing trace item
  unfolding growing
  item_grows more is_next is-j =
      let so : leb (body_length (byte_at item 0)) trace.have ≡ false = lt-leb (body_length (byte_at item 0)) trace.have (omega (arith, is_long)) in
      rw so (is-j ∙ ap quiet_judged is_next)

module _ (trace : Trace) (b : ℕ) (o : Bool) (is-o : o ≡ is_over trace.stage) where
  pub over_quiet : (j : Judged) → o ≡ true → j ≡ quiet_judged trace → j ≡ byte_judged trace b
  unfolding byte_judged
  over_quiet j is is-j = rw (sym is-o ∙ is) is-j

  module _ (going : o ≡ false) (m : Bool) (is_m : m ≡ may_come trace.stage b) where
    pub kind_wrong : (eqb trace.have 0 && not m) ≡ true → judges Wrong trace ≡ byte_judged trace b
    unfolding byte_judged
    kind_wrong is =
        let so : (eqb trace.have 0 && not (may_come trace.stage b)) ≡ true = rw is_m at is in
        rw (sym is-o ∙ going, so)

    pub kind_right : (item : List ℕ) (j : Judged) → (eqb trace.have 0 && not m) ≡ false → item ≡ set trace.item trace.have b → j ≡ growing trace item → j ≡ byte_judged trace b
    unfolding byte_judged
    kind_right item j is is-item is-j =
        let so : (eqb trace.have 0 && not (may_come trace.stage b)) ≡ false = rw is_m at is in
        rw (sym is-o ∙ going, so) (is-j ∙ ap (growing trace) is-item)

-- ---- What that leaves

pub record_counted_lem : (trace : Trace) (records : ℕ) → records ≡ record_counted trace.records
    → record { trace = with_records trace records; count = 0 } ≡ quietly (with_records trace (record_counted trace.records))
record_counted_lem trace records is = ap (λ (n : ℕ). quietly (with_records trace n)) is

quiet_left : (table : List ℕ) (memory : Memory) (room : List ℕ) (done : TracePrinted) (next : Trace) (table' : List ℕ) → done ≡ quietly next → table ≡ table'
    → leaves_byte done table memory room ≡ byte_printing (shows (holds next table' memory) []) room
quiet_left table memory room done next table' is is-table =
    ap (λ (d : TracePrinted). leaves_byte d table memory room) is
    ∙ ap (λ (t : List ℕ). leaves_byte (quietly next) t memory room) is-table
    ∙ ap (λ (l : List ℕ). leaves_byte (quietly next) table' memory l) (sym (over_nil room))

module _ (table : List ℕ) (memory : Memory) where
  unfoldable comes_to : Comes → Trace → Shown
  comes_to Quiet next = shows (holds next table memory) []
  comes_to Wrong next = fails (holds next table memory) wrong_text
  comes_to (Met item) next = shows (met_record (holds next table memory) item) []
  comes_to (Happens item) next = event_done (holds next table memory) item

  abbrev judged_to : Judged → Shown
  judged_to j = comes_to j.comes j.trace

  either : (b : Bool) (i j : Judged) (s t : Shown) → s ≡ judged_to i → t ≡ judged_to j → cond b s t ≡ judged_to (cond b i j)
  either true i j s t is-s is-t = is-s
  either false i j s t is-s is-t = is-t

  record_or_event : (b : Bool) (next : Trace) (item : List ℕ) → cond b (comes_to (Met item) next) (comes_to (Happens item) next) ≡ comes_to (cond b (Met item) (Happens item)) next
  record_or_event true next item = refl
  record_or_event false next item = refl

  took_judged : (trace : Trace) (b : ℕ) → took_byte (holds trace table memory) b ≡ judged_to (byte_judged trace b)
  unfolding took_byte grown item_done byte_judged growing whole_judged comes_to
  took_judged trace b =
      let item = set trace.item trace.have b in
      let whole = either (eqb (byte_at item 0) 0) _ _ _ _ refl (record_or_event (eqb (byte_at item 0) 5) (idle trace) item) in
      let grows = either (leb (body_length (byte_at item 0)) trace.have) _ _ _ _ whole refl in
      either (is_over trace.stage) _ _ _ _ refl (either (eqb trace.have 0 && not (may_come trace.stage b)) _ _ _ _ refl grows)

  module _ (trace : Trace) (room : List ℕ) (b : ℕ) (j : Judged) (is-j : j ≡ byte_judged trace b) where
    so : (c : Comes) → j.comes ≡ c → byte_printing (comes_to c j.trace) room ≡ byte_printing (took_byte (holds trace table memory) b) room
    so c is =
        ap (λ (s : Shown). byte_printing s room)
        (ap (λ (d : Comes). comes_to d j.trace) (sym is) ∙ ap (λ (k : Judged). judged_to k) is-j ∙ sym (took_judged trace b))

    pub quiet_taken : j.comes ≡ Quiet → leaves_byte (quietly j.trace) table memory room ≡ byte_printing (took_byte (holds trace table memory) b) room
    unfolding comes_to
    quiet_taken is = quiet_left table memory room (quietly j.trace) j.trace table refl refl ∙ so Quiet is

    module _ (done : TracePrinted) (left : List ℕ) where
      pub wrong_taken : j.comes ≡ Wrong → done.trace ≡ stopped j.trace → lays done.count left ≡ prints (line_text (line.Failed 15)) room
          → leaves_byte done table memory left ≡ byte_printing (took_byte (holds trace table memory) b) room
      unfolding comes_to wrong_text
      wrong_taken is is-trace e =
          ap (λ (l : Laid). leaves_byte (record { trace = done.trace; count = l.count }) table memory l.room) e
          ∙ ap (λ (t : Trace). leaves_byte (record { trace = t; count = length (line_text (line.Failed 15)) }) table memory (over (line_text (line.Failed 15)) room)) is-trace
          ∙ so Wrong is

    pub record_taken : (item : List ℕ) (done : TracePrinted) (table' : List ℕ) → j.comes ≡ Met item → done ≡ quietly (with_records j.trace (record_counted j.trace.records))
        → table' ≡ record_put j.trace.records item table
        → leaves_byte done table' memory room ≡ byte_printing (took_byte (holds trace table memory) b) room
    unfolding comes_to
    record_taken item done table' is is_done_lem is-table =
        quiet_left table' memory room done (with_records j.trace (record_counted j.trace.records)) (record_put j.trace.records item table) is_done_lem is-table
        ∙ so (Met item) is

-- an event, whatever the curve area holds
module _ (table words room : List ℕ) (trace : Trace) (b : ℕ) (j : Judged) (is-j : j ≡ byte_judged trace b) where
  pub event_taken : (item : List ℕ) (done : TracePrinted) (words' left : List ℕ) → j.comes ≡ Happens item
      → ((curves : List ℕ) → leaves_byte done table (remembering words' curves) left
      ≡ byte_printing (event_done (holds j.trace table (remembering words curves)) item) room)
      → (curves : List ℕ) → leaves_byte done table (remembering words' curves) left ≡ byte_printing (took_byte (holds trace table (remembering words curves)) b) room
  unfolding comes_to
  event_taken item done words' left is e curves = e curves ∙ so table (remembering words curves) trace room b j is-j (Happens item) is
