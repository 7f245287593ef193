-- The registers that a contact which is done changes: the status; flag and place where the flag isn't 5A; the page where a next page is shown.
use Rattle.std.specs.Prelude.{None, Some}
use mathlib.Core.Path.{◌≡◌, refl, sym, ap, ◌∙◌}
use mathlib.Core.Logic.{◌⊎◌, ◌≢◌, inl, inr, ⊎_elim}
use mathlib.Core.Bool.{Bool, true, false, cond}
use mathlib.Core.List.{List}
use Prim.Native.Nat.{ℕ, ◌≤◌, ◌<◌}
use native.Mathlib.Omega.{arith}
use borrow.Author.Tests.{eqb-true, eqb-false, ltb-true, ltb-false}
use lib.Dec.{eqb, ltb}
use lib.ListN.{length}
use Rattle.wire.specs.Addresses.{register_count}
use Rattle.registers.specs.declared.Registers.{Registers}
use Rattle.registers.specs.Table.{register_at}
use Rattle.registers.specs.Touched.{page_of, with_page, is_down, with_status, with_place}
use Rattle.registers.proofs.Touched.{length_with_status, status_only, page_only, length_with_place, place_only}
use Rattle.registers.proofs.Touching.{place_stays}
use Rattle.touch.specs.declared.Record.{Record}
use Rattle.touch.specs.Table.{Found}
use Rattle.touch.specs.Record.{no_next}
use Rattle.touch.specs.Find.{found}
use Rattle.contact.specs.Contact.{Catch, showing, catching, acting, pressed, touched}
use Rattle.contact.specs.declared.Pad.{Pad}
use Rattle.contact.specs.Contact as Contact
use Rattle.touch.specs.declared.Setup.{Setup}

pub data Touches (pad : Pad) (table : List ℕ) (x y address : ℕ) : Type 0 where
  status : address ≡ 0x06 → Touches pad table x y address
  place : register_at pad.registers 0x05 ≢ 0x5A → (address ≡ 0x05) ⊎ ((0x07 ≤ address) × (address < 0x0B)) → Touches pad table x y address
  page : (i : ℕ) (r : Record) → is_down pad.registers ≡ false → found table (page_of pad.registers) x y ≡ Some (i, r) → no_next r ≡ false
      → (address ≡ 0x03) ⊎ (address ≡ 0x04) → Touches pad table x y address

-- where a register lies
data Lies (address : ℕ) : Type 0 where
  at_page : (address ≡ 0x03) ⊎ (address ≡ 0x04) → Lies address
  at_place : (address ≡ 0x05) ⊎ ((0x07 ≤ address) × (address < 0x0B)) → Lies address
  at_status : address ≡ 0x06 → Lies address
  elsewhere : (address < 0x03) ⊎ (0x0B ≤ address) → Lies address

lies : (address : ℕ) → Lies address
lies address = go (ltb address 0x03) refl (eqb address 0x03) refl (eqb address 0x04) refl (eqb address 0x05) refl (eqb address 0x06) refl (ltb address 0x0B) refl
  where
    go : (a : Bool) → ltb address 0x03 ≡ a → (b : Bool) → eqb address 0x03 ≡ b → (c : Bool) → eqb address 0x04 ≡ c → (d : Bool) → eqb address 0x05 ≡ d
        → (e : Bool) → eqb address 0x06 ≡ e → (f : Bool) → ltb address 0x0B ≡ f → Lies address
    go true is b p c q d r e s f t = elsewhere (inl (ltb-true address 0x03 is))
    go false is true p c q d r e s f t = at_page (inl (eqb-true address 0x03 p))
    go false is false p true q d r e s f t = at_page (inr (eqb-true address 0x04 q))
    go false is false p false q true r e s f t = at_place (inl (eqb-true address 0x05 r))
    go false is false p false q false r true s f t = at_status (eqb-true address 0x06 s)
    go false is false p false q false r false s false t = elsewhere (inr (ltb-false address 0x0B t))
    go false is false p false q false r false s true t =
        let from = ltb-false address 0x03 is in
        let three = eqb-false address 0x03 p in
        let four = eqb-false address 0x04 q in
        let five = eqb-false address 0x05 r in
        let six = eqb-false address 0x06 s in
        let below = ltb-true address 0x0B t in
        at_place (inr (omega arith, below))

-- status, flag and place
module _ (registers : Registers) (whole : length registers.bytes ≡ register_count) (status x y address : ℕ) where
  abbrev marked : Registers
  marked = with_place (with_status registers status) x y

  -- with the flag at 5A nothing but the status is set
  only_status : register_at registers 0x05 ≡ 0x5A → address ≢ 0x06 → register_at marked address ≡ register_at registers address
  only_status flag other =
      let same : register_at (with_status registers status) 0x05 ≡ 0x5A = status_only registers whole status 0x05 (λ e. omega arith) ∙ flag in
      ap (λ (r : Registers). register_at r address) (sym (place_stays (with_status registers status) x y (register_at (with_status registers status) 0x05) refl same))
      ∙ status_only registers whole status address other

  outside_stays : address ≢ 0x05 → (address < 0x07) ⊎ (0x0B ≤ address) → address ≢ 0x06 → register_at marked address ≡ register_at registers address
  outside_stays flag out other =
      place_only (with_status registers status) (length_with_status registers whole status) x y address flag out
      ∙ status_only registers whole status address other

module _ (pad : Pad) (whole : length pad.registers.bytes ≡ register_count) (table : List ℕ) (x y address : ℕ) where
  marked_register : (mark : ℕ) → (register_at (marked pad.registers whole mark x y address) address ≡ register_at pad.registers address) ⊎ Touches pad table x y address
  marked_register mark = go (lies address)
    where
      registers : Registers
      registers = pad.registers

      after : ℕ
      after = register_at (marked registers whole mark x y address) address

      not_status : (address ≡ 0x05) ⊎ ((0x07 ≤ address) × (address < 0x0B)) → address ≢ 0x06
      not_status (inl is) e = omega arith
      not_status (inr is) e = let from = is.0 in omega arith

      in_place : (b : Bool) → eqb (register_at registers 0x05) 0x5A ≡ b → (address ≡ 0x05) ⊎ ((0x07 ≤ address) × (address < 0x0B))
          → (after ≡ register_at registers address) ⊎ Touches pad table x y address
      in_place true is at = inl (only_status registers whole mark x y address (eqb-true (register_at registers 0x05) 0x5A is) (not_status at))
      in_place false is at = inr (place (eqb-false (register_at registers 0x05) 0x5A is) at)

      go : Lies address → (after ≡ register_at registers address) ⊎ Touches pad table x y address
      go (at_page (inl is)) = inl (outside_stays registers whole mark x y address (λ e. omega arith) (inl (omega arith)) (λ e. omega arith))
      go (at_page (inr is)) = inl (outside_stays registers whole mark x y address (λ e. omega arith) (inl (omega arith)) (λ e. omega arith))
      go (at_place at) = in_place (eqb (register_at registers 0x05) 0x5A) refl at
      go (at_status is) = inr (status is)
      go (elsewhere (inl is)) = inl (outside_stays registers whole mark x y address (λ e. omega arith) (inl (omega arith)) (λ e. omega arith))
      go (elsewhere (inr is)) = inl (outside_stays registers whole mark x y address (λ e. omega arith) (inr is) (λ e. omega arith))

  -- "then its next page is shown"
  shown_register : (i : ℕ) (r : Record) → is_down pad.registers ≡ false → found table (page_of pad.registers) x y ≡ Some (i, r) → (registers : Registers)
      → length registers.bytes ≡ register_count → (catch : Catch)
      → (register_at (showing r registers catch).registers address ≡ register_at registers address) ⊎ Touches pad table x y address
  unfolding showing
  shown_register i r up is registers long catch = go (no_next r) refl
    where
      paged : no_next r ≡ false → Lies address
          → (register_at (with_page registers r.next) address ≡ register_at registers address) ⊎ Touches pad table x y address
      paged next (at_page at) = inr (page i r up is next at)
      paged next (at_place (inl at)) = inl (page_only registers long r.next address (inr (omega arith)))
      paged next (at_place (inr at)) = let from = at.0 in inl (page_only registers long r.next address (inr (omega arith)))
      paged next (at_status at) = inl (page_only registers long r.next address (inr (omega arith)))
      paged next (elsewhere (inl at)) = inl (page_only registers long r.next address (inl at))
      paged next (elsewhere (inr at)) = inl (page_only registers long r.next address (inr (omega arith)))

      go : (b : Bool) → no_next r ≡ b
          → (register_at (cond b (Contact.pad_with registers catch) (Contact.pad_with (with_page registers r.next) None)).registers address ≡ register_at registers address)
          ⊎ Touches pad table x y address
      go true next = inl refl
      go false next = paged next (lies address)

  -- a contact that is done: a register stays, or is one of those that the rule names
  pub touched_register : (setup : Setup) (words : List ℕ)
      → (register_at (touched setup pad table words x y).pad.registers address ≡ register_at pad.registers address) ⊎ Touches pad table x y address
  unfolding touched Contact.held_down pressed acting
  touched_register setup words = go (is_down pad.registers) refl
    where
      now : Registers
      now = with_place (with_status pad.registers 0x01) x y

      long : length now.bytes ≡ register_count
      long = length_with_place (with_status pad.registers 0x01) (length_with_status pad.registers whole 0x01) x y

      behind : (f : Found) → found table (page_of pad.registers) x y ≡ f → is_down pad.registers ≡ false
          → (register_at (acting setup f now pad.catch words x y).pad.registers address ≡ register_at now address) ⊎ Touches pad table x y address
      behind None is up = inl refl
      behind (Some (i, r)) is up = shown_register i r up is now long (catching r pad.catch)

      go : (b : Bool) → is_down pad.registers ≡ b
          → (register_at (cond b (Contact.held_down setup pad words x y) (pressed setup pad table words x y)).pad.registers address ≡ register_at pad.registers address)
          ⊎ Touches pad table x y address
      go true down = marked_register 0x03
      go false up =
          ⊎_elim (λ same. ⊎_elim (λ before. inl (same ∙ before)) inr (marked_register 0x01)) inr
          (behind (found table (page_of pad.registers) x y) refl up)
