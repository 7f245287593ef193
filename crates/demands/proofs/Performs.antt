-- What a command that asking hands over does, with its reply: refused, not known, or one of the five.
use Rattle.std.specs.Prelude.{Err}
use mathlib.Core.Path.{◌≡◌, refl, ap, ◌∙◌}
use mathlib.Core.Bool.{Bool, true, false, cond}
use mathlib.Core.List.{List, [], ◌∷◌}
use Prim.Native.Nat.{ℕ, ◌<◌}
use native.Mathlib.Omega.{arith}
use borrow.Author.Tests.{eqb-true, eqb-false}
use lib.Dec.{eqb}
use lib.ListN.{length, drop}
use Rattle.wire.specs.ByteOrder.{word_at}
use Rattle.words.specs.Words.{words_written}
use Rattle.wire.proofs.Over.{over_nil}
use Rattle.reading.specs.Place.{accepted_frame}
use Rattle.commands.specs.declared.Refusal.TheVariants.{UnknownCommand}
use Rattle.commands.specs.declared.Performed.{Performed}
use Rattle.commands.specs.Effect.{answered}
use Rattle.commands.specs.Lent.{Lent, with_words}
use Rattle.commands.specs.Perform.{performance}
use Rattle.panel.specs.Reachable.{Reachable}
use Rattle.panel.proofs.Invariant.{reachable_sound}
use Rattle.demands.specs.Calls.{Moment, ask, number_given, handed_over}
use Rattle.demands.specs.Demand2.{read_reply, fetch_reply}
use Rattle.demands.specs.Counts.{reply_to}
use Rattle.demands.proofs.FrameAsked.{Asks, handed_asks}
use Rattle.demands.proofs.Access.{part_behind, Does, refused_does, does_write, does_read, does_store, does_fetch, does_add}

-- what a command that asking hands over does, with its reply
pub record Performing (now : Moment) (command : ℕ) (content reply : List ℕ) : Type 0 where
  pub performed : Performed
  pub lent : Lent
  pub replied_is : performed.replied ≡ length reply
  pub does : Does now command content performed lent reply

module _ (now : Moment) (reached : Reachable now.panel) (command : ℕ) (content : List ℕ) (asks : Asks now command content) where
  abbrev part : List ℕ
  part = part_behind now command

  refused_performs : 0 < number_given now ask → Performing now command content []
  refused_performs above =
      record {
        performed = _;
        lent = now.lent;
        replied_is = refl;
        does = refused_does now (reachable_sound now.panel reached) command content asks above;
      }

  unknown_performs : eqb command 0x80 ≡ false → eqb command 0x81 ≡ false → eqb command 0x82 ≡ false → eqb command 0x83 ≡ false → eqb command 0x84 ≡ false
      → Performing now command content []
  unfolding performance
  unknown_performs a b c d e =
      record {
        performed = answered (Err UnknownCommand) 0;
        lent = now.lent;
        replied_is = refl;
        does = rw (a, b, c, d, e, over_nil part);
      }

-- the five that are known, by their numbers
module _ (now : Moment) (reached : Reachable now.panel) (content : List ℕ) (done : number_given now ask ≡ 0) where
  write_performs : Asks now 0x80 content → Performing now 0x80 content []
  write_performs asks = record { performed = _; lent = now.lent; replied_is = refl; does = does_write now reached content done asks }

  read_performs : Asks now 0x81 content → Performing now 0x81 content (read_reply now content)
  read_performs asks = record { performed = _; lent = now.lent; replied_is = refl; does = does_read now reached content done asks }

  store_performs : Asks now 0x82 content → Performing now 0x82 content []
  store_performs asks =
      record {
        performed = _;
        lent = with_words now.lent (words_written now.lent.words (word_at content 0) (drop 2 content));
        replied_is = refl;
        does = does_store now reached content done asks;
      }

  fetch_performs : Asks now 0x83 content → Performing now 0x83 content (fetch_reply now content)
  fetch_performs asks = record { performed = _; lent = now.lent; replied_is = refl; does = does_fetch now reached content done asks }

  add_performs : Asks now 0x84 content → Performing now 0x84 content []
  add_performs asks = record { performed = _; lent = now.lent; replied_is = refl; does = does_add now reached content done asks }

pub command_performs : (now : Moment) → Reachable now.panel → (command : ℕ) (content : List ℕ) → handed_over now ask ≡ accepted_frame command content ∷ []
    → Performing now command content (reply_to now command content)
unfolding reply_to
command_performs now reached command content hands = go (eqb (number_given now ask) 0) refl
  where
    asks : (c : ℕ) → command ≡ c → Asks now c content
    asks c is = handed_asks now c content (hands ∙ ap (λ (k : ℕ). accepted_frame k content ∷ []) is)

    known : number_given now ask ≡ 0 → (b : Bool) → eqb command 0x81 ≡ b → (d : Bool) → eqb command 0x83 ≡ d → (a : Bool) → eqb command 0x80 ≡ a → (c : Bool) → eqb command 0x82 ≡ c
        → (e : Bool) → eqb command 0x84 ≡ e → Performing now command content (cond b (read_reply now content) (cond d (fetch_reply now content) []))
    known done true q d s a p c r e t = let is = eqb-true command 0x81 q in rw is (read_performs now reached content done (asks 0x81 is))
    known done false q true s a p c r e t = let is = eqb-true command 0x83 s in rw is (fetch_performs now reached content done (asks 0x83 is))
    known done false q false s true p c r e t = let is = eqb-true command 0x80 p in rw is (write_performs now reached content done (asks 0x80 is))
    known done false q false s false p true r e t = let is = eqb-true command 0x82 r in rw is (store_performs now reached content done (asks 0x82 is))
    known done false q false s false p false r true t = let is = eqb-true command 0x84 t in rw is (add_performs now reached content done (asks 0x84 is))
    known done false q false s false p false r false t = unknown_performs now reached command content (asks command refl) p q r s t

    go : (n : Bool) → eqb (number_given now ask) 0 ≡ n
        → Performing now command content (cond n (cond (eqb command 0x81) (read_reply now content) (cond (eqb command 0x83) (fetch_reply now content) [])) [])
    go false is = let above = eqb-false (number_given now ask) 0 is in refused_performs now reached command content (asks command refl) (omega arith)
    go true is =
        known (eqb-true (number_given now ask) 0 is) (eqb command 0x81) refl (eqb command 0x83) refl (eqb command 0x80) refl (eqb command 0x82) refl
        (eqb command 0x84) refl
