-- `line::Reader::give_bytes` meets its contract.
use Rattle.line.proofs.Padding.{zeros_empty}
use Rattle.line.proofs.Handing.{front_room, front_long, front_held, all_given}
use Rattle.line.proofs.Feeding.{nothing_given, none_given, old_few}
use borrow.Author.Rules.{rules}
use Rattle.std.proofs.Common.{◌≡◌, [], length}
use Rattle.frame.specs.Frame.{longest_frame}
use Rattle.line.specs.State.{padded}
use Rattle.line.proofs.Reader.give_bytes.Goals as goal
use Rattle.line.proofs.Reader.give_bytes.Goals.{then-is_waiting-via-then-is_waiting, then-is_waiting-via-else-is_waiting+then-is_empty}

pub put_held-requires : goal.put_held-requires
put_held-requires c = (search rules, search old_few, search (front_room, zeros_empty))

pub feed-fed-requires : goal.feed-fed-requires
feed-fed-requires c = (search old_few, search (rules, front_long, zeros_empty), search (rules, front_held, zeros_empty))

pub returns-then-is_waiting : goal.returns-then-is_waiting
returns-then-is_waiting c =
    elim c.then-is_waiting.branch [
      | then-is_waiting-via-then-is_waiting w ↦ search (rules, nothing_given)
      | then-is_waiting-via-else-is_waiting+then-is_empty w ↦ let none : length c.args.bytes.now ≡ 0 = search rules in search none_given
    ]

pub returns : goal.returns
returns c =
    let some : length c.args.bytes.now ≡ 0 → ⊥ = search rules in
    let zeros : c.zeros-held.result ≡ padded longest_frame [] = search zeros_empty in
    search (rules, all_given)
