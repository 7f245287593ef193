-- What is given is bytes, and so is the data of every frame that is handed over.
use mathlib.Core.Path.{◌≡◌, refl, sym, ap, ◌∙◌}
use mathlib.Core.Bool.{Bool}
use mathlib.Core.List.{List, [], ◌∷◌, ◌++◌}
use Prim.Native.Nat.{ℕ, suc, ◌-◌}
use native.Mathlib.Omega.{arith}
use lib.ListN.{length, get_or, drop, replicate}
use Rattle.wire.specs.Bytes.{Bytes}
use Rattle.frame.specs.Frame.{check_length, content_of, most_payload}
use Rattle.reading.specs.Place.{Rules, Seen, pass, wait, bad, accepted, accepted_frame, look, report_of}
use Rattle.reading.specs.Moves.{Kept, handed}
use Rattle.reading.proofs.Accepting.{accepted_begun}
use Rattle.line.specs.State.{padded, kept_of}
use Rattle.line.specs.Methods.{asked}
use Rattle.line.specs.Reached.{payload_as}
use Rattle.wire.proofs.Truths.{never}
use Rattle.panel.specs.declared.Panel.{Panel}
use Rattle.panel.specs.Sound.{Sound}
use Rattle.panel.specs.Reachable.{Reachable}
use Rattle.panel.proofs.Invariant.{reachable_sound}
use Rattle.demands.specs.Calls.{Moment, ask, handed_over}
use Rattle.demands.specs.Reports.{rules_of, waiting_report}
use Rattle.demands.proofs.Waits.{kept_same, asked_payload, sound_ask_hands}
use Rattle.wire.proofs.Below.{byte_some, below_front, below_behind, below_take, below_drop, below_append, below_zeros}
use Rattle.demands.proofs.FrameAsked.{handed_asks}

-- of the bytes that are kept, the data of the frame at the front
data_bytes : (rules : Rules) (closed : Bool) (xs body : List ℕ) → Bytes xs → look rules closed xs ≡ accepted body
    → Bytes (drop 1 (content_of rules.checking body))
unfolding content_of
data_bytes rules closed xs body are is =
    let begun = accepted_begun rules closed xs body is in
    let all : Bytes (rules.header ++ (length body ∷ (body ++ begun.rest))) = λ i. rw (← begun.parts) (are i) in
    let behind = below_behind 256 byte_some rules.header (length body ∷ (body ++ begun.rest)) all in
    let whole : Bytes body = below_front 256 byte_some body begun.rest (λ i. behind (suc i)) in
    below_drop 256 byte_some 1 (content_of rules.checking body) (below_take 256 byte_some (length body - check_length rules.checking) body whole)

padded_bytes : (xs : List ℕ) → Bytes xs → Bytes (padded most_payload xs)
unfolding padded
padded_bytes xs are = below_append 256 byte_some xs (replicate (most_payload - length xs) 0) are (below_zeros 256 byte_some (most_payload - length xs))

no_bytes : Bytes []
no_bytes i = omega arith

module _ (panel : Panel) (sound : Sound panel) where
  abbrev rules : Rules
  rules = rules_of panel

  abbrev kept : Kept
  kept = kept_of panel.reader

  kept_bytes : Bytes kept.bytes
  kept_bytes i =
      let same = ap (λ (k : Kept). get_or k.bytes i 0) (kept_same panel sound) in
      omega (arith, sound.reads.reached.are_bytes i)

  -- what stands beside a report
  pub payload_bytes : Bytes (asked panel.reader).payload
  unfolding waiting_report handed payload_as report_of
  payload_bytes i = rw (asked_payload panel sound) (go (look rules kept.closed kept.bytes) refl i)
    where
      go : (seen : Seen) → look rules kept.closed kept.bytes ≡ seen → Bytes (payload_as (report_of rules seen))
      go pass is = padded_bytes [] no_bytes
      go wait is = padded_bytes [] no_bytes
      go (bad body) is = padded_bytes [] no_bytes
      go (accepted body) is =
          padded_bytes (drop 1 (content_of rules.checking body)) (data_bytes rules kept.closed kept.bytes body kept_bytes is)

  told_bytes : (command : ℕ) (content : List ℕ) → waiting_report panel ≡ accepted_frame command content ∷ [] → Bytes content
  unfolding waiting_report handed report_of
  told_bytes command content = go (look rules kept.closed kept.bytes) refl
    where
      go : (seen : Seen) → look rules kept.closed kept.bytes ≡ seen → report_of rules seen ≡ accepted_frame command content ∷ [] → Bytes content
      go pass is told = never (cc)
      go wait is told = never (cc)
      go (bad body) is told = never (cc)
      go (accepted body) is told =
          let same : drop 1 (content_of rules.checking body) ≡ content = cc in
          λ i. rw (← same) (data_bytes rules kept.closed kept.bytes body kept_bytes is i)

-- the data of an accepted frame that is handed over
pub content_bytes : (now : Moment) → Reachable now.panel → (command : ℕ) (content : List ℕ) → handed_over now ask ≡ accepted_frame command content ∷ [] → Bytes content
content_bytes now reached command content hands =
    let sound = reachable_sound now.panel reached in
    let asks = handed_asks now command content hands in
    told_bytes now.panel sound command content (sym (sound_ask_hands now sound asks.well) ∙ hands)
