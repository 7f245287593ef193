-- 01: "A refused start gives no panel." What is given to what stands in its place is refused, whatever it is, and all stays as it stood.
use Rattle.std.specs.Prelude.{ℕ, ◌≡◌, cond, List, [], ◌∷◌, eqb, length}
use Rattle.commands.specs.Lent.{Lent}
use Rattle.watch.specs.Judge.{wrong_list}
use Rattle.panel.specs.Reporting.{enough_lent}
use Rattle.panel.specs.Contacts.{touch_not_lent}
use Rattle.demands.specs.Calls.{Moment, Call, lend, byte, bytes, mark, second, ask, contact, lift, after_all, number_given, handed_over_all}
use Rattle.demands.specs.Given.{given_all}

-- what the caller has lent last: no call changes it
unfoldable pub lent_by : Lent → Call → Lent
lent_by lent (lend other) = other
lent_by lent (byte b) = lent
lent_by lent (bytes bs) = lent
lent_by lent mark = lent
lent_by lent second = lent
lent_by lent ask = lent
lent_by lent (contact c) = lent
lent_by lent lift = lent

-- behind a whole list of calls
unfoldable pub lent_last : Lent → List Call → Lent
lent_last lent [] = lent
lent_last lent (call ∷ calls) = lent_last (lent_by lent call) calls

-- "byte or mark 1; .. contact 14, 1, ..; lift 1, ..; asking for a report 14", with 16 "right after 14", and with enough lent "nothing"; 02, §6: "1 for a second while a report waits"
unfoldable pub refused_with : Lent → Call → ℕ
refused_with lent (lend other) = 0
refused_with lent (byte b) = 1
refused_with lent (bytes bs) = cond (eqb 0 (length bs)) 0 1
refused_with lent mark = 1
refused_with lent second = 1
refused_with lent ask = cond (enough_lent lent) (cond (wrong_list lent.watched) 16 0) 14
refused_with lent (contact c) = cond (touch_not_lent (length lent.words) (length lent.room)) 14 (cond (wrong_list lent.watched) 16 1)
refused_with lent lift = 1

-- what any calls leave, take, hand over and are answered
pub record Inert (now : Moment) (calls : List Call) : Type 0 where
  pub stays : after_all now calls ≡ record { panel = now.panel; lent = lent_last now.lent calls }
  pub takes_nothing : given_all now calls ≡ []
  pub hands_nothing : handed_over_all now calls ≡ []
  pub refuses : (call : Call) → number_given (after_all now calls) call ≡ refused_with (lent_last now.lent calls) call
