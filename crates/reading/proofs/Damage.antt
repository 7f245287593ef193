-- Demand 3 over one stretch: damage that begins no good frame costs none of those behind it.
use mathlib.Core.Path.{◌≡◌, refl, sym, ap, ◌∙◌}
use mathlib.Core.Bool.{Bool, true, false, not, ◌&&◌}
use mathlib.Core.List.{List, [], ◌∷◌, ◌++◌, map, append_assoc, append-nil}
use Prim.Native.Nat.{ℕ, zero, suc, ◌+◌, ◌≤◌, ◌<◌}
use native.Mathlib.Omega.{arith}
use lib.ListN.{length, get_or, take, drop, length-append, length-drop, take-append-drop}
use lib.Seq.{take-append-le, drop-append-le, take-append_seam}
use Rattle.wire.specs.Bytes.{Bytes}
use Rattle.frame.specs.Frame.{longest_with}
use Rattle.reading.specs.Place.{Rules, Seen, pass, wait, bad, accepted, Report, bad_check, accepted_frame, look, report_of, gone_by, is_wait}
use Rattle.reading.specs.Stretch.{reports, held_of}
use Rattle.reading.specs.Demand3.{Good, GoodFrames, none, next, joined, Cut, BeginsNone, one_less_than_longest, accepted_of, report_of_frame}
use Rattle.reading.proofs.Stable.{stable, true_is_not_false}
use Rattle.reading.proofs.Waiting.{closed_goes_on, long_goes_on}
use Rattle.reading.proofs.Accepting.{good_accepted, accepted_begun, accepted_good}
use Rattle.reading.proofs.Course.{GoesOn, reports_nil, reports_stays, held_stays, place_goes_on, stays_here, goes_further}
use Rattle.reading.proofs.ReadBack.{body_of, good_goes_on}

-- the frames accepted, of two lists of reports one behind the other
pub accepted_append : (these later : List Report) → accepted_of (these ++ later) ≡ accepted_of these ++ accepted_of later
unfolding accepted_of
accepted_append [] later = refl
accepted_append (bad_check command ∷ these) later = accepted_append these later
accepted_append (accepted_frame command content ∷ these) later =
    ap (λ (l : List Report). accepted_frame command content ∷ l) (accepted_append these later)

-- the report of a good frame is that of its command and data
pub good_report : (rules : Rules) (frame : List ℕ) (good : Good rules frame) → report_of rules (accepted good.body) ≡ report_of_frame rules frame ∷ []
unfolding report_of report_of_frame
good_report rules frame good = rw (body_of rules.checking rules.header frame good)

-- good frames are reported one after the other, and reading goes on right behind the last
pub joined_goes_on : (rules : Rules) (closed : Bool) (frames : List (List ℕ)) (ys : List ℕ) → GoodFrames rules frames
    → GoesOn rules closed (joined frames ++ ys) (map (report_of_frame rules) frames) ys
unfolding joined
joined_goes_on rules closed [] ys none = stays_here rules closed ys
joined_goes_on rules closed (frame ∷ frames) ys (next good later) =
    let first : GoesOn rules closed (frame ++ (joined frames ++ ys)) (report_of_frame rules frame ∷ []) (joined frames ++ ys) =
    rw (good_report rules frame good) at (good_goes_on rules closed frame (joined frames ++ ys) good) in
    rw (append_assoc frame (joined frames) ys) (goes_further rules closed first (joined_goes_on rules closed frames ys later))

accepted_frames : (rules : Rules) (frames : List (List ℕ)) → accepted_of (map (report_of_frame rules) frames) ≡ map (report_of_frame rules) frames
unfolding accepted_of report_of_frame
accepted_frames rules [] = refl
accepted_frames rules (frame ∷ frames) = ap (λ (l : List Report). report_of_frame rules frame ∷ l) (accepted_frames rules frames)

-- a frame that has not come whole waits
pub cut_waits : (rules : Rules) (tail : List ℕ) → Cut rules tail → is_wait (look rules false tail) ≡ true
cut_waits rules tail cut = go (is_wait (look rules false tail)) refl
  where
    go : (b : Bool) → is_wait (look rules false tail) ≡ b → b ≡ true
    go true waits = refl
    go false decided =
        let good = cut.good in
        let body = good.body in
        let whole : tail ++ cut.rest ≡ rules.header ++ (length body ∷ body) = sym cut.parts ∙ good.whole in
        let seen : look rules false tail ≡ accepted body =
        sym (stable rules false tail cut.rest decided)
        ∙ ap (look rules false) (sym cut.parts ∙ sym (append-nil cut.frame))
        ∙ good_accepted rules false cut.frame [] good in
        let begun = accepted_begun rules false tail body seen in
        let long : length tail + length cut.rest ≡ length rules.header + suc (length body) = simp length-append at (ap length whole) in
        let inside : length tail ≡ length rules.header + suc (length body + length begun.rest) = ap length begun.parts ∙ simp length-append in
        absurd (omega (arith, cut.missing))

-- the premise as a test that computes: no place of the damage is accepted
unfoldable pub is_accepted : Seen → Bool
is_accepted pass = false
is_accepted wait = false
is_accepted (bad body) = false
is_accepted (accepted body) = true

-- none of the places of the damage is, whatever has come behind it
unfoldable pub none_accepted : Rules → List ℕ → List ℕ → Bool
none_accepted rules [] come = true
none_accepted rules (x ∷ damage) come = not (is_accepted (look rules true (x ∷ (damage ++ come)))) && none_accepted rules damage come

both : (a b : Bool) → (not a && b) ≡ true → (a ≡ false) × (b ≡ true)
both true b t = true_is_not_false (sym t)
both false b t = (refl, t)

pub tested_begins_none : (rules : Rules) (damage come : List ℕ) → none_accepted rules damage come ≡ true → BeginsNone rules damage come
unfolding none_accepted is_accepted
tested_begins_none rules [] come tested p inside frame rest is good = absurd (omega arith)
tested_begins_none rules (x ∷ damage) come tested zero inside frame rest is good =
    let here = (both (is_accepted (look rules true (x ∷ (damage ++ come)))) (none_accepted rules damage come) tested).0 in
    true_is_not_false (sym (ap is_accepted (ap (look rules true) is ∙ good_accepted rules true frame rest good)) ∙ here)
tested_begins_none rules (x ∷ damage) come tested (suc p) inside frame rest is good =
    let later = (both (is_accepted (look rules true (x ∷ (damage ++ come)))) (none_accepted rules damage come) tested).1 in
    tested_begins_none rules damage come later p (omega arith) frame rest is good

-- a good frame is no longer than the longest
pub good_length : (rules : Rules) (frame : List ℕ) → Good rules frame → length frame ≤ longest_with rules.header
good_length rules frame good =
    let long : length frame ≡ length rules.header + suc (length good.body) = ap length good.whole ∙ simp length-append in
    omega (arith, good.most)

prefix_of : (frame rest xs more : List ℕ) → xs ++ more ≡ frame ++ rest → length frame ≤ length xs → xs ≡ frame ++ drop (length frame) xs
prefix_of frame rest xs more is long =
    let n = length frame in
    let front : take n xs ≡ frame = sym (take-append-le n xs more long) ∙ ap (take n) is ∙ take-append_seam frame rest in
    sym (take-append-drop n xs) ∙ ap (λ (l : List ℕ). l ++ drop n xs) front

-- the premise is settled once so many bytes have come: what comes later begins no good frame in the damage
pub begins_none_later : (rules : Rules) (damage come more : List ℕ) → one_less_than_longest rules.header ≤ length come → BeginsNone rules damage come
    → BeginsNone rules damage (come ++ more)
begins_none_later rules damage come more enough begins_none p inside frame rest is good =
    let whole = damage ++ come in
    let here : p ≤ length whole = simp length-append (omega arith) in
    let parted : drop p whole ++ more ≡ frame ++ rest = sym (drop-append-le p whole more here) ∙ ap (drop p) (append_assoc damage come more) ∙ is in
    let long : length frame ≤ length (drop p whole) = simp (length-drop, length-append) (omega (arith, good_length rules frame good)) in
    begins_none p inside frame (drop (length frame) (drop p whole)) (prefix_of frame rest (drop p whole) more parted long) good

-- where so many bytes have come, no place before them waits
abbrev pub Decided : Rules → Bool → List ℕ → Type 0
Decided rules closed come = (xs : List ℕ) → Bytes xs → length come < length xs → is_wait (look rules closed xs) ≡ false

-- reading xs goes on at ys, with these frames accepted on the way
abbrev pub Accepts : Rules → Bool → List ℕ → List (List ℕ) → List ℕ → Type 0
Accepts rules closed xs frames ys = (these : List Report) × GoesOn rules closed xs these ys × (accepted_of these ≡ map (report_of_frame rules) frames)

module _ (rules : Rules) (closed : Bool) (come : List ℕ) (decided : Decided rules closed come) where
  -- a place that is decided and begins no good frame: "go to p+1", and no frame accepted
  past_one : (x : ℕ) (xs : List ℕ) (seen : Seen) → look rules closed (x ∷ xs) ≡ seen → is_wait seen ≡ false
      → ((body : List ℕ) → seen ≡ accepted body → ⊥) → Accepts rules closed (x ∷ xs) [] xs
  unfolding is_wait report_of gone_by accepted_of
  past_one x xs pass is decided not = ([], place_goes_on rules closed (x ∷ xs) pass is decided, refl)
  past_one x xs wait is decided not = true_is_not_false decided
  past_one x xs (bad body) is decided not = (bad_check (get_or body 0 0) ∷ [], place_goes_on rules closed (x ∷ xs) (bad body) is decided, refl)
  past_one x xs (accepted body) is decided not = absurd (not body refl)

  -- reading goes through the damage place by place and arrives at the first byte behind it
  pub past_damage : (damage : List ℕ) → Bytes (damage ++ come) → BeginsNone rules damage come → Accepts rules closed (damage ++ come) [] come
  unfolding accepted_of
  past_damage [] are begins_none = ([], stays_here rules closed come, refl)
  past_damage (x ∷ damage) are begins_none =
      let seen = look rules closed (x ∷ (damage ++ come)) in
      let long : length come < length (x ∷ (damage ++ come)) = simp length-append (omega arith) in
      let here = past_one x (damage ++ come) seen refl (decided (x ∷ (damage ++ come)) are long) not_good in
      let later = past_damage damage (λ i. are (suc i)) (λ p inside. begins_none (suc p) (omega arith)) in
      (here.0 ++ later.0, goes_further rules closed here.1 later.1, accepted_append here.0 later.0 ∙ rw here.2 later.2)
    where
      not_good : (body : List ℕ) → look rules closed (x ∷ (damage ++ come)) ≡ accepted body → ⊥
      not_good body is =
          let good = accepted_good rules closed (x ∷ (damage ++ come)) body are is in
          begins_none 0 (omega arith) (rules.header ++ (length body ∷ body)) good.1 good.2 good.0

-- good frames behind the damage, all of them, in order, and then what stands behind the last
behind_damage : (rules : Rules) (closed : Bool) (damage : List ℕ) (frames : List (List ℕ)) (tail : List ℕ) → GoodFrames rules frames
    → Decided rules closed (joined frames ++ tail) → Bytes (damage ++ (joined frames ++ tail)) → BeginsNone rules damage (joined frames ++ tail)
    → Accepts rules closed (damage ++ (joined frames ++ tail)) frames tail
behind_damage rules closed damage frames tail good decided are begins_none =
    let past = past_damage rules closed (joined frames ++ tail) decided damage are begins_none in
    let reported = map (report_of_frame rules) frames in (
      past.0 ++ reported,
      goes_further rules closed past.1 (joined_goes_on rules closed frames tail good),
      accepted_append past.0 reported ∙ rw past.2 (accepted_frames rules frames),
    )

-- where nothing is reported any more
all_accepted : (rules : Rules) (closed : Bool) (xs : List ℕ) (frames : List (List ℕ)) (tail : List ℕ) → reports rules closed tail ≡ []
    → Accepts rules closed xs frames tail → accepted_of (reports rules closed xs) ≡ map (report_of_frame rules) frames
all_accepted rules closed xs frames tail no_more found =
    ap accepted_of (found.1.reported ∙ ap (λ (l : List Report). found.0 ++ l) no_more ∙ append-nil found.0) ∙ found.2

-- "once 257 bytes have followed the damage on a line still open .. the frames accepted are exactly those good frames that had come whole, in order",
-- for a header of any length, with checking on or off
module _ (rules : Rules) (damage : List ℕ) (frames : List (List ℕ)) (tail : List ℕ) (good : GoodFrames rules frames) (cut : Cut rules tail)
    (are : Bytes (damage ++ (joined frames ++ tail))) (enough : one_less_than_longest rules.header ≤ length (joined frames ++ tail))
    (begins_none : BeginsNone rules damage (joined frames ++ tail)) where
  behind_open : Accepts rules false (damage ++ (joined frames ++ tail)) frames tail
  behind_open = behind_damage rules false damage frames tail good (λ xs b long. long_goes_on rules false xs b (omega arith)) are begins_none

  pub open_accepts : accepted_of (reports rules false (damage ++ (joined frames ++ tail))) ≡ map (report_of_frame rules) frames
  open_accepts =
      all_accepted rules false (damage ++ (joined frames ++ tail)) frames tail (reports_stays rules false tail (cut_waits rules tail cut)) behind_open

  -- and what has come of the last frame is held
  pub open_holds : held_of rules (damage ++ (joined frames ++ tail)) ≡ tail
  unfolding held_of
  open_holds = behind_open.1.left ∙ held_stays rules false tail (cut_waits rules tail cut)

-- ".. or a quiet mark has come right behind a whole good frame": no length is needed
pub closed_accepts : (rules : Rules) (damage : List ℕ) (frames : List (List ℕ)) → GoodFrames rules frames
    → Bytes (damage ++ joined frames) → BeginsNone rules damage (joined frames)
    → accepted_of (reports rules true (damage ++ joined frames)) ≡ map (report_of_frame rules) frames
closed_accepts rules damage frames good are begins_none =
    let ends : joined frames ++ [] ≡ joined frames = append-nil (joined frames) in
    all_accepted rules true (damage ++ joined frames) frames [] (reports_nil rules true)
    (rw ends at (behind_damage rules true damage frames [] good (λ xs b long. closed_goes_on rules xs) (rw ends are) (rw ends begins_none)))
