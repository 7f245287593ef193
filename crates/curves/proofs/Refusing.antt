-- Laws of the tests before numbers are added, one for each way they answer.
use mathlib.Core.Path.{◌≡◌, sym, ◌∙◌}
use mathlib.Core.Bool.{Bool, true, false}
use mathlib.Core.List.{List, [], ◌∷◌}
use Prim.Native.Nat.{ℕ, ◌-◌, ◌≤◌}
use native.Mathlib.Omega.{arith}
use borrow.Author.Tests.{eq-eqb, ne_eqb}
use lib.ListN.{length, take, drop}
use Rattle.wire.specs.ByteOrder.{byte_at}
use Rattle.wire.proofs.Parts.{part_whole}
use Rattle.wire.proofs.Truths.{never}
use Rattle.curves.specs.declared.Counts.{Counts}
use Rattle.curves.specs.Area.{channel_count, curve_words, draws}
use Rattle.curves.specs.Adding.{added_from, added}
use Rattle.curves.specs.Rounds.{place_of, wrong_rounds}

-- the tests before numbers are added
pub has_mode : (content : List ℕ) → wrong_rounds content ≡ false → 1 ≤ length content
unfolding wrong_rounds place_of
has_mode [] good = never (cc)
has_mode (mode ∷ bytes) good = omega arith

in_two : (content : List ℕ) (mode : ℕ) → 1 ≤ length content → mode ≡ byte_at content 0 → mode ∷ take (length content - 1) (drop 1 content) ≡ content
in_two [] mode some is = absurd (omega arith)
in_two (first ∷ bytes) mode some is = rw (is, part_whole (first ∷ bytes) 1)

module _ (content : List ℕ) (wrong : Bool) (is_wrong : wrong ≡ wrong_rounds content) where
  pub begun : wrong ≡ false → 1 ≤ length content
  begun good = has_mode content (sym is_wrong ∙ good)

  module _ (counts : Counts) (area : List ℕ) where
    pub refused : wrong ≡ true → draws counts area ≡ added counts content area
    unfolding added
    refused bad = rw (sym is_wrong ∙ bad)

    pub wrong_area : wrong ≡ false → (length area ≡ curve_words → ⊥) → draws counts area ≡ added counts content area
    unfolding added
    wrong_area good other = rw (sym is_wrong ∙ good, ne_eqb (length area) curve_words other)

    pub all_added : (next : Counts) (left : List ℕ) (mode : ℕ) → wrong ≡ false → length area ≡ curve_words → mode ≡ byte_at content 0
        → draws next left ≡ added_from (mode ∷ take (length content - 1) (drop 1 content)) 0 channel_count (draws counts area)
        → draws next left ≡ added counts content area
    unfolding added
    all_added next left mode good whole is-mode e =
        rw (sym is_wrong ∙ good, eq-eqb (length area) curve_words whole) (rw (in_two content mode (begun good) is-mode) at e)
