-- 01, "Contact and lift": which registers a touch sets, and that no other changes.
use mathlib.Core.Path.{◌≡◌, refl, ◌∙◌}
use mathlib.Core.Logic.{◌⊎◌, ◌≢◌, ⊎_elim}
use mathlib.Core.Bool.{Bool, true, false, cond}
use mathlib.Core.List.{List, ◌++◌}
use Prim.Native.Nat.{ℕ, ◌+◌, ◌≤◌, ◌<◌}
use native.Mathlib.Omega.{arith}
use lib.Dec.{eqb}
use lib.ListN.{length, get_or, set, length-set}
use lib.Seq.{get_or-set_same, get_or-set_other}
use Rattle.wire.specs.ByteOrder.{high_byte, low_byte, high_first}
use Rattle.wire.specs.Room.{laid_at}
use Rattle.wire.proofs.LaidAt.{laid_inside, laid_before, laid_behind, length_laid_at}
use Rattle.registers.specs.declared.Registers.{Registers}
use Rattle.registers.specs.Table.{holding, register_at}
use Rattle.registers.specs.Touched.{page_of, with_page, is_down, with_status, with_place}

module _ (registers : Registers) (whole : length registers.bytes ≡ 256) where
  -- "06 touch status"
  pub length_with_status : (status : ℕ) → length (with_status registers status).bytes ≡ 256
  unfolding with_status
  length_with_status status = length-set registers.bytes 0x06 status ∙ whole

  pub status_now : (status : ℕ) → register_at (with_status registers status) 0x06 ≡ status
  unfolding with_status register_at
  status_now status = get_or-set_same registers.bytes 0x06 status 0 (omega arith)

  pub status_only : (status address : ℕ) → address ≢ 0x06 → register_at (with_status registers status) address ≡ register_at registers address
  unfolding with_status register_at
  status_only status address other = get_or-set_other registers.bytes 0x06 address status 0 other

  -- "03-04 page"
  pub length_with_page : (page : ℕ) → length (with_page registers page).bytes ≡ 256
  unfolding with_page
  length_with_page page = length_laid_at registers.bytes (high_first page) 0x03 (omega arith) ∙ whole

  pub page_now : (page : ℕ) → page_of (with_page registers page) ≡ page
  unfolding with_page page_of register_at
  page_now page =
      let high : get_or (laid_at 0x03 (high_first page) registers.bytes) 0x03 0 ≡ high_byte page =
      laid_inside registers.bytes (high_first page) 0x03 (omega arith) 0 (omega arith) in
      let low : get_or (laid_at 0x03 (high_first page) registers.bytes) 0x04 0 ≡ low_byte page =
      laid_inside registers.bytes (high_first page) 0x03 (omega arith) 1 (omega arith) in
      rw (high, low) (omega arith)

  pub page_only : (page address : ℕ) → (address < 0x03) ⊎ (0x05 ≤ address) → register_at (with_page registers page) address ≡ register_at registers address
  unfolding with_page register_at
  page_only page address outside =
      ⊎_elim (laid_before registers.bytes (high_first page) 0x03 (omega arith) address)
      (laid_behind registers.bytes (high_first page) 0x03 (omega arith) address) outside

  -- "05 touch flag", "07-0A touch X, Y"
  module _ (x y : ℕ) where
    abbrev flagged : List ℕ
    flagged = set registers.bytes 0x05 0x5A

    abbrev place : List ℕ
    place = high_first x ++ high_first y

    room : 0x07 + length place ≤ length flagged
    room = rw (length-set registers.bytes 0x05 0x5A) (omega arith)

    pub length_with_place : length (with_place registers x y).bytes ≡ 256
    unfolding with_place
    length_with_place = go (eqb (register_at registers 0x05) 0x5A)
      where
        go : (b : Bool) → length (cond b registers (holding (laid_at 0x07 place flagged))).bytes ≡ 256
        go true = whole
        go false = length_laid_at flagged place 0x07 room ∙ length-set registers.bytes 0x05 0x5A ∙ whole

    pub place_only : (address : ℕ) → address ≢ 0x05 → (address < 0x07) ⊎ (0x0B ≤ address)
        → register_at (with_place registers x y) address ≡ register_at registers address
    unfolding with_place register_at
    place_only address other outside = go (eqb (get_or registers.bytes 0x05 0) 0x5A)
      where
        go : (b : Bool) → get_or (cond b registers (holding (laid_at 0x07 place flagged))).bytes address 0 ≡ get_or registers.bytes address 0
        go true = refl
        go false =
            ⊎_elim (laid_before flagged place 0x07 room address) (laid_behind flagged place 0x07 room address) outside
            ∙ get_or-set_other registers.bytes 0x05 address 0x5A 0 other

-- the page is its two registers
pub same_page : (a b : Registers) → register_at a 0x03 ≡ register_at b 0x03 → register_at a 0x04 ≡ register_at b 0x04 → page_of a ≡ page_of b
unfolding page_of
same_page a b high low = rw (high, low)

-- whether the panel is touched is its status
pub same_status : (a b : Registers) → register_at a 0x06 ≡ register_at b 0x06 → is_down a ≡ is_down b
unfolding is_down
same_status a b same = rw same
