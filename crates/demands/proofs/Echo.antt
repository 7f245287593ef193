-- Demand 3 where the damage is our own acknowledgements: its premise, from the places inside them, and for header 5A A5 from nothing.
use mathlib.Core.Path.{◌≡◌, ap₂}
use mathlib.Core.Bool.{Bool, true}
use mathlib.Core.List.{List, [], ◌∷◌, ◌++◌}
use Prim.Native.Nat.{ℕ}
use Rattle.wire.specs.Bytes.{Bytes}
use Rattle.reading.specs.Place.{Rules}
use Rattle.reading.specs.Demand3.{joined, BeginsNone, checked}
use Rattle.reading.specs.Echo.{Sent, echo}
use Rattle.reading.proofs.Echo.{echo_checked_inside, printed_echo_begins_none, commands_are_bytes}
use Rattle.demands.specs.Calls.{Moment, Call}
use Rattle.demands.specs.Reports.{rules_of}
use Rattle.demands.specs.Echo.{EchoOnAnOpenLine, EchoBehindAMark, CostsNone, EchoCostsNone, PrintedEchoCostsNone}
use Rattle.demands.proofs.GivenBytes.{came_bytes, came_bytes_closed}
use Rattle.demands.proofs.Demand3.{demand3_open, demand3_closed}

-- header 5A A5 with checking on, and bytes have come
printed_begins_none : (rules : Rules) → rules.header ≡ 0x5A ∷ 0xA5 ∷ [] → rules.checking ≡ true → (sent : List Sent) (come : List ℕ)
    → Bytes (echo rules.header sent ++ come) → BeginsNone rules (echo rules.header sent) come
printed_begins_none rules printed on sent come are =
    let same : rules ≡ checked 0x5A 0xA5 = ap₂ (λ (h : List ℕ) (c : Bool). record { header = h; checking = c }) printed on in
    go rules same are
  where
    go : (rules : Rules) → rules ≡ checked 0x5A 0xA5 → Bytes (echo rules.header sent ++ come) → BeginsNone rules (echo rules.header sent) come
    go rules is are = rw is (printed_echo_begins_none sent (commands_are_bytes sent come (rw is at are)) come)

-- the premise is all that demand 3 has besides
module _ (now : Moment) (calls : List Call) (sent : List Sent) where
  abbrev header : List ℕ
  header = (rules_of now.panel).header

  costs_none_open : (frames : List (List ℕ)) (tail : List ℕ) → EchoOnAnOpenLine now calls sent frames tail
      → BeginsNone (rules_of now.panel) (echo header sent) (joined frames ++ tail) → CostsNone now calls frames
  costs_none_open frames tail e begins_none =
      demand3_open now calls frames (record {
        ready = e.ready;
        typed = e.typed;
        damage = echo header sent;
        tail = tail;
        good = e.good;
        cut = e.cut;
        came = e.came;
        begins_none = begins_none;
        followed = e.followed;
        all_asked = e.all_asked;
      })

  costs_none_closed : (frames : List (List ℕ)) → EchoBehindAMark now calls sent frames
      → BeginsNone (rules_of now.panel) (echo header sent) (joined frames) → CostsNone now calls frames
  costs_none_closed frames e begins_none =
      demand3_closed now calls frames (record {
        ready = e.ready;
        typed = e.typed;
        damage = echo header sent;
        good = e.good;
        came = e.came;
        begins_none = begins_none;
        all_asked = e.all_asked;
      })

pub echo_costs_none : EchoCostsNone
echo_costs_none =
    record {
      open_line = λ now calls sent frames tail e inside.
          costs_none_open now calls sent frames tail e (echo_checked_inside (rules_of now.panel) (joined frames ++ tail) e.ready.checking_on sent inside);
      behind_a_mark = λ now calls sent frames e inside.
          costs_none_closed now calls sent frames e (echo_checked_inside (rules_of now.panel) (joined frames) e.ready.checking_on sent inside);
    }

pub printed_echo_costs_none : PrintedEchoCostsNone
printed_echo_costs_none =
    record {
      open_line = λ now calls sent frames tail e printed.
          costs_none_open now calls sent frames tail e
          (printed_begins_none (rules_of now.panel) printed e.ready.checking_on sent (joined frames ++ tail)
          (came_bytes now calls e.typed (echo (rules_of now.panel).header sent ++ (joined frames ++ tail)) e.came));
      behind_a_mark = λ now calls sent frames e printed.
          costs_none_closed now calls sent frames e
          (printed_begins_none (rules_of now.panel) printed e.ready.checking_on sent (joined frames)
          (came_bytes_closed now calls e.typed (echo (rules_of now.panel).header sent ++ joined frames) e.came));
    }
