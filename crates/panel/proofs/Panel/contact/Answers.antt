-- `panel::Panel::contact` meets its contract.
use Rattle.std.proofs.Common.{rules}
use Rattle.watch.specs.Watched.{list_of}
use Rattle.panel.proofs.Said.{contact_said_lem}
use Rattle.panel.proofs.Touches.{refused_first, room_holds, nothing_told, word_told}
use Rattle.panel.proofs.Panel.contact.Goals as goal

pub returns-in-Err : goal.returns-in-Err
returns-in-Err c =
    let both = contact_said_lem _ _ _ _ _ (search refused_first) in record { values_after = both.0; list_after = search rules; answer_value = both.1 }

pub returns-then-is_err : goal.returns-then-is_err
returns-then-is_err c =
    let both = contact_said_lem _ _ _ _ _ (search (nothing_told, c.in_default.not-Err)) in record { values_after = both.0; list_after = search rules; answer_value = both.1 }

pub tell-requires : goal.tell-requires
tell-requires c = search (rules, room_holds, c.in_default.not-Err)

pub returns : goal.returns
returns c =
    let both = contact_said_lem _ _ _ _ _ (search (word_told, c.in_default.not-Err)) in record { values_after = both.0; list_after = search rules; answer_value = both.1 }
