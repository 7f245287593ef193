-- 01, "Frame": "a frame has 3 + L bytes, at most 258": less than the longest frame is held while nothing waits, and never more than it is kept.
use mathlib.Core.Path.{◌≡◌, refl}
use mathlib.Core.Bool.{Bool, true, false, cond}
use mathlib.Core.List.{List, [], ◌∷◌, ◌++◌}
use Prim.Native.Nat.{ℕ, suc, ◌≤◌, ◌<◌}
use native.Mathlib.Omega.{arith}
use lib.ListN.{length, drop, length-append, length-drop}
use Rattle.wire.specs.Bytes.{Bytes}
use Rattle.frame.specs.Frame.{longest_frame, longest_with}
use Rattle.reading.specs.Place.{Rules, look, gone_by}
use Rattle.reading.specs.Line.{byte, mark}
use Rattle.reading.specs.Moves.{Kept, fresh, passes, settled, waiting, with_byte, with_mark, after_report}
use Rattle.reading.specs.Run.{Event, offer, ask, giving, with_input, run, offered}
use Rattle.reading.specs.Demand3.{one_less_than_longest}
use Rattle.reading.proofs.ByteLists.{bytes_nil, bytes_cons, bytes_append, bytes_drop}
use Rattle.reading.proofs.Waiting.{waits_short}
use Rattle.reading.proofs.Settling.{Settled, fresh_settled, settled_settled, settled_shorter}
use Rattle.reading.proofs.Moves.{report_settles, nothing_changes}

-- while no report waits: one byte less than the longest frame has
pub quiet_bound : (rules : Rules) (kept : Kept) → Settled rules kept → Bytes kept.bytes → waiting rules kept ≡ false
    → length kept.bytes ≤ one_less_than_longest rules.header
quiet_bound rules kept now are quiet = waits_short rules kept.bytes are (now.first_waits quiet)

-- in every state that is reached
record Small (rules : Rules) (kept : Kept) : Type 0 where
  now : Settled rules kept
  are : Bytes kept.bytes
  few : length kept.bytes ≤ longest_with rules.header

small_settled : (rules : Rules) (closed : Bool) (xs : List ℕ) → Bytes xs → length xs ≤ longest_with rules.header → Small rules (settled rules closed xs)
small_settled rules closed xs are few =
    record {
      now = settled_settled rules closed xs;
      are = unfold settled in bytes_drop (passes rules closed xs) xs are;
      few = omega (arith, settled_shorter rules closed xs);
    }

small_byte : (rules : Rules) (kept : Kept) (b : ℕ) → Small rules kept → waiting rules kept ≡ false → b < 256 → Small rules (with_input rules kept (byte b))
unfolding with_input with_byte
small_byte rules kept b small quiet is =
    let bound = quiet_bound rules kept small.now small.are quiet in
    small_settled rules false (kept.bytes ++ (b ∷ [])) (bytes_append kept.bytes (b ∷ []) small.are (bytes_cons b [] is bytes_nil)) (simp length-append (omega arith))

small_mark : (rules : Rules) (kept : Kept) → Small rules kept → Small rules (with_input rules kept mark)
unfolding with_input with_mark
small_mark rules kept small = small_settled rules true kept.bytes small.are small.few

small_report : (rules : Rules) (kept : Kept) → Small rules kept → Small rules (after_report rules kept)
small_report rules kept small = go (waiting rules kept) refl
  where
    go : (b : Bool) → waiting rules kept ≡ b → Small rules (after_report rules kept)
    go false quiet = rw (nothing_changes rules kept quiet) small
    go true waits =
        let gone = suc (gone_by rules (look rules kept.closed kept.bytes)) in
        rw (report_settles rules kept waits)
        (small_settled rules kept.closed (drop gone kept.bytes) (bytes_drop gone kept.bytes small.are) (simp length-drop (omega (arith, small.few))))

small_run : (rules : Rules) (kept : Kept) (events : List Event) → Small rules kept → Bytes (offered events) → Small rules (run rules kept events).kept
unfolding run offered
small_run rules kept [] small are = small
small_run rules kept (ask ∷ events) small are = small_run rules (after_report rules kept) events (small_report rules kept small) are
small_run rules kept (offer mark ∷ events) small are =
    go (waiting rules kept) (small_run rules kept events small are) (small_run rules (with_input rules kept mark) events (small_mark rules kept small) are)
  where
    go : (b : Bool) → Small rules (run rules kept events).kept → Small rules (run rules (with_input rules kept mark) events).kept
        → Small rules (cond b (run rules kept events) (giving mark (run rules (with_input rules kept mark) events))).kept
    go true refused taken = refused
    go false refused taken = taken
small_run rules kept (offer (byte b) ∷ events) small are =
    let rest : Bytes (offered events) = λ i. are (suc i) in
    go (waiting rules kept) refl (small_run rules kept events small rest) (λ next. small_run rules (with_input rules kept (byte b)) events next rest)
  where
    go : (w : Bool) → waiting rules kept ≡ w → Small rules (run rules kept events).kept
        → (Small rules (with_input rules kept (byte b)) → Small rules (run rules (with_input rules kept (byte b)) events).kept)
        → Small rules (cond w (run rules kept events) (giving (byte b) (run rules (with_input rules kept (byte b)) events))).kept
    go true waits refused taken = refused
    go false quiet refused taken = taken (small_byte rules kept b small quiet (are 0))

module _ (rules : Rules) (events : List Event) (are : Bytes (offered events)) where
  reached : Small rules (run rules fresh events).kept
  reached = small_run rules fresh events (record { now = fresh_settled rules; are = bytes_nil; few = omega arith }) are

  -- at most one byte less than the longest frame has is held
  pub held_bound : waiting rules (run rules fresh events).kept ≡ false → length (run rules fresh events).kept.bytes ≤ one_less_than_longest rules.header
  held_bound quiet = quiet_bound rules (run rules fresh events).kept reached.now reached.are quiet

  -- and in every state no more than the longest frame has
  pub kept_bound : length (run rules fresh events).kept.bytes ≤ longest_with rules.header
  kept_bound = reached.few

-- two header bytes: 257 and 258
module _ (h1 h2 : ℕ) (checking : Bool) (events : List Event) (are : Bytes (offered events)) where
  -- two header bytes, and the checking choice
  abbrev two : Rules
  two = record { header = h1 ∷ h2 ∷ []; checking = checking }

  pub held_257 : waiting two (run two fresh events).kept ≡ false → length (run two fresh events).kept.bytes ≤ 257
  held_257 quiet = held_bound two events are quiet

  pub kept_258 : length (run two fresh events).kept.bytes ≤ longest_frame
  kept_258 = kept_bound two events are
