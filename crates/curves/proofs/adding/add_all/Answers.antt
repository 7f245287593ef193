-- `curves::adding::add_all` meets its contract.
use mathlib.Core.Path.{refl, sym, ◌∙◌}
use native.Mathlib.Omega.{arith}
use Rattle.std.proofs.Common.{rules}
use Rattle.curves.proofs.Naming.{places_start, place_on, place_stays, place_inside}
use Rattle.curves.proofs.Channels.{named_added, other_added, channel_on, channels_done}
use Rattle.curves.proofs.adding.add_all.Goals as goal
use Rattle.curves.proofs.adding.add_all.Goals.{then-names, else-names}

pub loop-n-init : goal.loop-n-init
loop-n-init c = record { few = search rules; place = search places_start; added = refl }

pub add_channel-counts-requires : goal.add_channel-counts-requires
add_channel-counts-requires c =
    (place_inside _ _ _ _ c.loop-n.invariant.place c.behind-numbers.ensures.size (sym c.names.ensures ∙ c.if-names.true) c.loop-n-test.true, search rules, search rules)

pub loop-n-preserved : goal.loop-n-preserved
loop-n-preserved c =
    let as_behind = c.behind-numbers.ensures in
    elim c.if-names.branch [
      | then-names w ↦
          let is = sym c.names.ensures ∙ w.if-names.true in
          record {
            few = omega arith;
            place = w.place-is ∙ place_on _ _ _ c.loop-n.invariant.place is;
            added =
                channel_on _ _ _ _ _ _ c.loop-n-test.true
                (named_added _ _ _ _ _ c.behind-numbers.result c.loop-n.place as_behind.same_bytes as_behind.size as_behind.rounds c.loop-n.invariant.place is (rw (w.counts-is, w.area-is) w.add_channel-counts.ensures))
                c.loop-n.invariant.added;
          }
      | else-names w ↦
          let is = sym c.names.ensures ∙ w.if-names.false in
          record {
            few = omega arith;
            place = w.place-is ∙ place_stays _ _ _ c.loop-n.invariant.place is;
            added = channel_on _ _ _ _ _ _ c.loop-n-test.true (other_added _ _ _ _ _ is (rw (w.counts-is, w.area-is) refl)) c.loop-n.invariant.added;
          }
    ]

pub returns : goal.returns
returns c = channels_done _ _ _ _ _ c.loop-n-test.false c.loop-n.invariant.added
