-- Laws of the sum over a reading: bytes that are given and reports that are handed over lead nearer to it.
use Rattle.std.proofs.Common.{◌≡◌, ℕ, suc, ◌+◌, ◌-◌, ◌*◌, ◌^◌, ◌<◌, ◌≤◌, min, Bool, true, false, cond, List, [], ◌∷◌, ◌++◌, map, length, get_or, take, drop, sym, refl, ap, ◌∙◌, subst, add-zero, zero-add, arith, length-drop, take-append-drop, drop_of_length-le, length-take, drop-cons, drop-drop}
use native.Mathlib.Nat.{mod-mod}
use lib.Seq.{drop-append-le}
use Rattle.wire.specs.Bytes.{Bytes}
use Rattle.frame.specs.declared.Header.{Header}
use Rattle.frame.specs.Frame.{content_of, longest_frame, most_payload}
use Rattle.reading.specs.Place.{Rules, Report, Seen, pass, wait, bad, accepted, look, report_of}
use Rattle.reading.specs.Line.{byte, line_reports}
use Rattle.reading.specs.Moves.{Kept, fresh, waiting, with_byte, handed, after_report}
use Rattle.reading.specs.Run.{closing, with_input, read_on}
use Rattle.reading.proofs.Stable.{true_is_not_false}
use Rattle.reading.proofs.ByteLists.{bytes_drop, bytes_take}
use Rattle.reading.proofs.Lines.{open_line}
use Rattle.reading.proofs.Moves.{input_settled, input_onward, report_settled, report_onward, report_shorter}
use Rattle.reading.proofs.Settling.{Settled, fresh_settled, quiet_no_report}
use Rattle.place.specs.Looks.{rules_of}
use Rattle.line.specs.declared.Line.{Line}
use Rattle.line.specs.declared.Reader.{Reader}
use Rattle.line.specs.declared.Given.{Given}
use Rattle.line.specs.declared.Gave.{Gave}
use Rattle.line.specs.declared.Asked.{Asked}
use Rattle.line.specs.State.{rules_for, padded, reader_of}
use Rattle.line.specs.Methods.{busy, gave, plus, given_byte, given_bytes, asked}
use Rattle.line.specs.Reached.{Reached, report_as, payload_as}
use Rattle.line.proofs.Carried.{waiting_is, byte_carried, ask_carried, reached_new, reached_byte, reached_report}
use Rattle.line_bench.specs.Sum.{weight_of, sum_of, wrapped, bench_sum}
use Rattle.line_bench.specs.Inner.{weight_told}

-- ---- Sums

sum_append : (these later : List Report) → sum_of (these ++ later) ≡ sum_of these + sum_of later
unfolding sum_of
sum_append [] later = sym (zero-add (sum_of later))
sum_append (report ∷ these) later =
    let rest : sum_of (these ++ later) ≡ sum_of these + sum_of later = sum_append these later in
    omega arith

-- a sum that wraps on the way wraps to the same
pub wraps_later : (sum w : ℕ) (later : ℕ) → wrapped (wrapped (sum + wrapped w) + later) ≡ wrapped (sum + (w + later))
wraps_later sum w later = omega arith

first_padded : (content : List ℕ) → get_or (padded most_payload content) 0 0 ≡ get_or content 0 0
unfolding padded
first_padded [] = refl
first_padded (x ∷ content) = refl

-- what is handed over adds what its report does
told_weighs : (rules : Rules) (seen : Seen) → weight_told (report_as (report_of rules seen)) (get_or (payload_as (report_of rules seen)) 0 0) ≡ sum_of (report_of rules seen)
unfolding report_of report_as payload_as weight_told weight_of sum_of
told_weighs rules pass = refl
told_weighs rules wait = refl
told_weighs rules (bad body) = sym (add-zero _)
told_weighs rules (accepted body) =
    let content = drop 1 (content_of rules.checking body) in
    ap (λ (first : ℕ). 65536 + get_or body 0 0 + length content + first) (first_padded content) ∙ sym (add-zero _)

-- ---- On the way through the input

-- a reader that keeps what a reading keeps
pub record Standing (line : Line) (kept : Kept) (reader : Reader) : Type 0 where
  pub reached : Reached line kept
  pub settled : Settled (rules_for line) kept
  pub is : reader ≡ reader_of line kept

-- bytes that it is given, until one is refused: what is read from before them is read from behind those that were taken
pub record Took (line : Line) (kept : Kept) (bs : List ℕ) (given : Gave) : Type 0 where
  pub next : Kept
  pub stands : Standing line next given.reader
  pub within : given.used ≤ length bs
  pub some : waiting (rules_for line) kept ≡ false → 0 < length bs → 0 < given.used
  pub reads : (more : List ℕ) → read_on (rules_for line) kept (map byte (bs ++ more)) ≡ read_on (rules_for line) next (map byte (drop given.used bs ++ more))

took : (line : Line) (kept : Kept) (bs : List ℕ) → Standing line kept (reader_of line kept) → Bytes bs → Took line kept bs (given_bytes (reader_of line kept) bs)
unfolding given_bytes with_input
took line kept [] stands are =
    record { next = kept; stands = stands; within = omega arith; some = λ quiet some. some; reads = λ more. refl }
took line kept (b ∷ bs) stands are =
    go (waiting rules kept) refl
    (λ quiet. took line next bs
    (record { reached = reached_byte line kept b stands.reached quiet (are 0); settled = input_settled rules kept (byte b); is = refl })
    (λ i. are (suc i)))
  where
    rules : Rules
    rules = rules_for line

    next : Kept
    next = with_byte rules kept b

    go : (w : Bool) → waiting rules kept ≡ w → (waiting rules kept ≡ false → Took line next bs (given_bytes (reader_of line next) bs))
        → Took line kept (b ∷ bs) (cond (busy (reader_of line kept)) (gave 0 (reader_of line kept)) (plus 1 (given_bytes (given_byte (reader_of line kept) b).reader bs)))
    go true waits later = rw (waiting_is line kept stands.reached, waits)
        (record { next = kept; stands = stands; within = omega arith; some = λ quiet long. true_is_not_false (sym waits ∙ quiet); reads = λ more. refl })
    go false quiet later =
        let rest = later quiet in
        let one_more : 1 + (given_bytes (reader_of line next) bs).used ≡ suc (given_bytes (reader_of line next) bs).used = omega arith in
        rw (waiting_is line kept stands.reached, byte_carried line kept b stands.reached, quiet, one_more)
        (record {
          next = rest.next;
          stands = rest.stands;
          within = omega (arith, rest.within);
          some = λ is long. omega arith;
          reads = λ more. (input_onward rules kept (byte b) (stands.settled.is_open quiet)).reads (map byte (bs ++ more)) ∙ rest.reads more;
        })

abbrev line_of : Header → Bool → Line
line_of header checking = record { header = header; checking = checking }

-- what is left to be read of the input, and what has been added up, make up the whole sum
pub record Summing (header : Header) (checking : Bool) (input : List ℕ) (reader : Reader) (sum i : ℕ) : Type 0 where
  pub kept : Kept
  pub stands : Standing (line_of header checking) kept reader
  pub are_bytes : Bytes input
  pub inside : i ≤ length input
  pub fits : wrapped sum ≡ sum
  pub left : wrapped (sum + sum_of (read_on (rules_of header checking) kept (map byte (drop i input)))) ≡ bench_sum header checking input

-- how many turns there can be still: each byte is given once, and leaves no more than the longest frame to be asked for
abbrev pub turns_left : List ℕ → Reader → ℕ → ℕ
turns_left input reader i = (length input - i) * (longest_frame + 1) + reader.len

pub summing_new : (header : Header) (checking : Bool) (input : List ℕ) (reader : Reader) → Bytes input → reader ≡ reader_of (line_of header checking) fresh
    → Summing header checking input reader 0 0
unfolding bench_sum read_on closing line_reports
summing_new header checking input reader are is =
    record {
      kept = fresh;
      stands = record { reached = reached_new (line_of header checking); settled = fresh_settled (rules_of header checking); is = is };
      are_bytes = are;
      inside = omega arith;
      fits = refl;
      left = ap (λ (these : List Report). wrapped (0 + sum_of these)) (open_line (rules_of header checking) input) ∙ ap (λ (n : ℕ). wrapped n) (zero-add _);
    }

module _ (header : Header) (checking : Bool) (input : List ℕ) (reader : Reader) (sum i : ℕ) (so_far : Summing header checking input reader sum i)
    (w : Bool) (is-w : w ≡ busy reader) where
  abbrev line : Line
  line = line_of header checking

  abbrev kept : Kept
  kept = so_far.kept

  abbrev stands : Standing line kept reader
  stands = so_far.stands

  is_waiting : waiting (rules_for line) kept ≡ w
  is_waiting = sym (is-w ∙ ap (λ (r : Reader). busy r) stands.is ∙ waiting_is line kept stands.reached)

  len_is : reader.len ≡ length kept.bytes
  len_is = ap (λ (r : Reader). r.len) stands.is

  -- a report is asked for
  module _ (a : Asked) (is-a : a ≡ asked reader) where
    answer : a ≡ record { report = report_as (handed (rules_for line) kept); payload = payload_as (handed (rules_for line) kept); reader = reader_of line (after_report (rules_for line) kept) }
    answer = is-a ∙ ap (λ (r : Reader). asked r) stands.is ∙ ask_carried line kept stands.reached.few

    pub summing_asked : (v s : ℕ) → v ≡ wrapped (weight_told a.report (get_or a.payload 0 0)) → s ≡ wrapped (sum + v) → Summing header checking input a.reader s i
    unfolding handed
    summing_asked v s is-v is-s =
        let rules = rules_for line in
        let more = map byte (drop i input) in
        let weighs : weight_told a.report (get_or a.payload 0 0) ≡ sum_of (handed rules kept) =
        ap (λ (x : Asked). weight_told x.report (get_or x.payload 0 0)) answer ∙ told_weighs rules (look rules kept.closed kept.bytes) in
        let after = read_on rules (after_report rules kept) more in
        let reads : sum_of (read_on rules kept more) ≡ sum_of (handed rules kept) + sum_of after =
        ap sum_of ((report_onward rules kept).reads more) ∙ sum_append (handed rules kept) after in
        record {
          kept = after_report rules kept;
          stands = record {
            reached = reached_report line kept stands.reached;
            settled = report_settled rules kept stands.settled;
            is = ap (λ (x : Asked). x.reader) answer;
          };
          are_bytes = so_far.are_bytes;
          inside = so_far.inside;
          fits = ap (λ (n : ℕ). wrapped n) is-s ∙ mod-mod (sum + v) (2 ^ 64) ∙ sym is-s;
          left = ap (λ (n : ℕ). wrapped (n + sum_of after)) (is-s ∙ ap (λ (n : ℕ). wrapped (sum + n)) (is-v ∙ ap (λ (n : ℕ). wrapped n) weighs))
              ∙ wraps_later sum (sum_of (handed rules kept)) (sum_of after)
              ∙ ap (λ (n : ℕ). wrapped (sum + n)) (sym reads)
              ∙ so_far.left;
        }

    pub fewer_turns_asked : w ≡ true → turns_left input a.reader i < turns_left input reader i
    fewer_turns_asked waits =
        let next : a.reader.len ≡ length (after_report (rules_for line) kept).bytes = ap (λ (x : Asked). x.reader.len) answer in
        omega (arith, len_is, next, report_shorter (rules_for line) kept (is_waiting ∙ waits))

  -- where nothing waits and no byte is left
  pub summed : w ≡ false → length input - i ≡ 0 → sum ≡ bench_sum header checking input
  unfolding sum_of
  summed quiet none =
      let past : length input ≤ i = omega arith in
      let over : drop i input ≡ [] = drop_of_length-le input past in
      let nothing : read_on (rules_for line) kept (map byte (drop i input)) ≡ [] =
      ap (λ (bs : List ℕ). read_on (rules_for line) kept (map byte bs)) over ∙ quiet_no_report (rules_for line) kept stands.settled (is_waiting ∙ quiet) in
      sym so_far.fits ∙ ap (λ (n : ℕ). wrapped n) (sym (add-zero sum)) ∙ ap (λ (these : List Report). wrapped (sum + sum_of these)) (sym nothing) ∙ so_far.left

  -- up to k of the bytes left are given
  module _ (given : Gave) (k : ℕ) (is-given : given ≡ given_bytes reader (take k (drop i input))) where
    abbrev part : List ℕ
    part = take k (drop i input)

    there : Standing line kept (reader_of line kept)
    there = record { reached = stands.reached; settled = stands.settled; is = refl }

    gone : Took line kept part given
    gone =
        subst (λ (g : Gave). Took line kept part g) (sym (is-given ∙ ap (λ (r : Reader). given_bytes r part) stands.is))
        (took line kept part there (bytes_take k (drop i input) (bytes_drop i input so_far.are_bytes)))

    part_long : length part ≤ length input - i
    part_long = simp (length-take, length-drop) (omega arith)

    pub summing_given : Summing header checking input given.reader sum (i + given.used)
    summing_given =
        let rules = rules_for line in
        let rest = drop k (drop i input) in
        let whole : part ++ rest ≡ drop i input = take-append-drop k (drop i input) in
        let behind : drop given.used part ++ rest ≡ drop (i + given.used) input =
        sym (drop-append-le given.used part rest gone.within) ∙ ap (drop given.used) whole ∙ drop-drop given.used i input in
        let reads : read_on rules kept (map byte (drop i input)) ≡ read_on rules gone.next (map byte (drop (i + given.used) input)) =
        ap (λ (bs : List ℕ). read_on rules kept (map byte bs)) (sym whole)
        ∙ gone.reads rest
        ∙ ap (λ (bs : List ℕ). read_on rules gone.next (map byte bs)) behind in
        record {
          kept = gone.next;
          stands = gone.stands;
          are_bytes = so_far.are_bytes;
          inside = omega (arith, gone.within, part_long, so_far.inside);
          fits = so_far.fits;
          left = ap (λ (these : List Report). wrapped (sum + sum_of these)) (sym reads) ∙ so_far.left;
        }

    pub given_inside : i + given.used ≤ length input
    given_inside = summing_given.inside

    pub fewer_turns_given : w ≡ false → 0 < k → (length input - i ≡ 0 → ⊥) → turns_left input given.reader (i + given.used) < turns_left input reader i
    fewer_turns_given quiet some more =
        let long : 0 < length part = simp (length-take, length-drop) (omega arith) in
        let next : given.reader.len ≡ length gone.next.bytes = ap (λ (r : Reader). r.len) gone.stands.is in
        omega (arith, next, gone.stands.reached.few, gone.within, part_long, gone.some (is_waiting ∙ quiet) long)

  -- a chunk of them is given
  pub fewer_turns_chunk : (given : Gave) (chunk n : ℕ) → n ≡ min chunk (length input - i) → given ≡ given_bytes reader (take (i + n - i) (drop i input)) → w ≡ false
      → (chunk ≡ 0 → ⊥) → (length input - i ≡ 0 → ⊥) → turns_left input given.reader (i + given.used) < turns_left input reader i
  fewer_turns_chunk given chunk n is-n is-given quiet some more = fewer_turns_given given (i + n - i) is-given quiet (omega arith) more

  -- one byte is given
  module _ (given : Given) (is-given : given ≡ given_byte reader (get_or input i 0)) (quiet : w ≡ false) (more : length input - i ≡ 0 → ⊥) where
    one_given : gave 1 given.reader ≡ given_bytes reader (take 1 (drop i input))
    unfolding given_bytes
    one_given =
        let inside : i < length input = omega (arith, so_far.inside) in
        rw (drop-cons input i 0 inside, sym is-w ∙ quiet, is-given)

    pub summing_one : Summing header checking input given.reader sum (i + 1)
    summing_one = summing_given (gave 1 given.reader) 1 one_given

    pub fewer_turns_one : turns_left input given.reader (i + 1) < turns_left input reader i
    fewer_turns_one = fewer_turns_given (gave 1 given.reader) 1 one_given quiet (omega arith) more
