-- `clock::showing::has_wrong_digits` meets its contract: its items are the six places.
use Rattle.std.proofs.Common.{rules, ◌∙◌, not}
use Rattle.std.proofs.Math.Bool.{or_assoc, or-false}
use borrow.Author.Tests.{tests}
use Rattle.std.proofs.lemmas.Iterator.{YieldsList-from_slice}
use Rattle.std.proofs.lemmas.Iterator.Search.{any_from_yields_List}
use Rattle.wire.specs.ByteOrder.{byte_at}
use Rattle.clock.specs.Digits.{are_digits}
use Rattle.clock.specs.Shown.{wrong_digits}
use Rattle.clock.proofs.showing.has_wrong_digits.Goals as goal

pub returns : goal.returns
unfolding wrong_digits
returns c =
    any_from_yields_List (λ place. not (are_digits (byte_at c.args.bytes.now place))) _ _ _ c.any.ensures.ran (YieldsList-from_slice _ c.iter.ensures.rest)
    (λ x b q k. search (rules, tests))
    ∙ simp (or_assoc, or-false)
