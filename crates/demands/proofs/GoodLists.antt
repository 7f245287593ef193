-- 16 is given exactly where the list is not a good one.
use mathlib.Core.Path.{◌≡◌, refl}
use mathlib.Core.Bool.{Bool, true, false, not, ◌&&◌}
use Prim.Native.Nat.{ℕ, zero, suc, ◌<◌}
use native.Mathlib.Omega.{arith}
use borrow.Author.Tests.{le-ltb, lt-ltb, eq-eqb, eqb-true}
use lib.Dec.{eqb, ltb}
use lib.ListN.{length}
use Rattle.wire.specs.Addresses.{word_count}
use Rattle.watch.specs.Watched.{Watched, entry_count, address_at, used_at}
use Rattle.watch.specs.Judge.{most_watched, some_below, is_past_end, share, is_wrong_at, wrong_lengths, wrong_list}
use Rattle.watch.proofs.Judged.{good_lengths, good_below, good_apart}
use Rattle.demands.specs.Done.{Exactly}
use Rattle.demands.specs.Entries.{GoodList}

-- a test that no number below n passes
none_below : (test : ℕ → Bool) (n : ℕ) → ((i : ℕ) → i < n → test i ≡ false) → some_below test n ≡ false
unfolding some_below
none_below test zero none = refl
none_below test (suc n) none = rw (none_below test n (λ i below. none i (omega arith)), none n (omega arith))

module _ (w : Watched) (good : GoodList w) where
  not_past : (i : ℕ) → i < entry_count w → is_past_end w.addresses w.uses i ≡ false
  unfolding is_past_end
  not_past i inside = go (used_at w.uses i) refl
    where
      go : (b : Bool) → used_at w.uses i ≡ b → (b && not (ltb (address_at w.addresses i) word_count)) ≡ false
      go true used = rw (lt-ltb (address_at w.addresses i) word_count (good.below i inside used))
      go false unused = refl

  not_shared : (i j : ℕ) → i < entry_count w → j < i → share w.addresses w.uses i j ≡ false
  unfolding share
  not_shared i j inside before =
      go (used_at w.uses i) refl (used_at w.uses j) refl (eqb (address_at w.addresses i) (address_at w.addresses j)) refl
    where
      go : (a : Bool) → used_at w.uses i ≡ a → (b : Bool) → used_at w.uses j ≡ b → (c : Bool)
          → eqb (address_at w.addresses i) (address_at w.addresses j) ≡ c → (a && b && c) ≡ false
      go true used true also true same =
          let one : i ≡ j = good.apart i j inside (omega arith) used also (eqb-true (address_at w.addresses i) (address_at w.addresses j) same) in
          absurd (omega arith)
      go true used true also false other = refl
      go true used false unused c is = refl
      go false unused b also c is = refl

  entry_good : (i : ℕ) → i < entry_count w → is_wrong_at w.addresses w.uses i ≡ false
  unfolding is_wrong_at
  entry_good i inside = rw (not_past i inside, none_below (share w.addresses w.uses i) i (λ j before. not_shared i j inside before))

  good_taken : wrong_list w ≡ false
  unfolding wrong_list wrong_lengths
  good_taken =
      rw (
        le-ltb most_watched (length w.addresses) good.at_most_16,
        eq-eqb (length w.uses) (length w.addresses) good.as_many_uses,
        eq-eqb (length w.values) (length w.addresses) good.as_many_values,
        none_below (is_wrong_at w.addresses w.uses) (entry_count w) entry_good,
      )

pub sixteen_exactly : (w : Watched) → Exactly (wrong_list w ≡ false) (GoodList w)
sixteen_exactly w =
    record {
      only_when = λ taken. record {
        at_most_16 = (good_lengths w taken).0;
        as_many_uses = (good_lengths w taken).1;
        as_many_values = (good_lengths w taken).2;
        below = good_below w taken;
        apart = good_apart w taken;
      };
      wherever = good_taken w;
    }
