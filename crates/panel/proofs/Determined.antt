-- One answer fits each public function.
use mathlib.Core.Path.{◌≡◌, sym, ap, ◌∙◌}
use mathlib.Core.List.{List, []}
use Prim.Native.Nat.{ℕ}
use Rattle.wire.specs.OneAnswer.{OneAnswer, OneAnswerLeft}
use Rattle.watch.specs.declared.WatchList.{WatchList}
use Rattle.watch.specs.Watched.{with_sent}
use Rattle.panel.specs.Reporting.{Reporting}
use Rattle.panel.specs.Contacts.{Contacting}
use Rattle.panel.proofs.StartError.number.Reads as start_error_number
use Rattle.panel.proofs.StartError.number.Kinds as start_error_number_kinds
use Rattle.panel.proofs.LentError.number.Reads as lent_error_number
use Rattle.panel.proofs.LentError.number.Kinds as lent_error_number_kinds
use Rattle.panel.proofs.ContactError.number.Reads as contact_error_number
use Rattle.panel.proofs.ContactError.number.Kinds as contact_error_number_kinds
use Rattle.panel.proofs.LiftError.number.Reads as lift_error_number
use Rattle.panel.proofs.LiftError.number.Kinds as lift_error_number_kinds
use Rattle.panel.proofs.Panel.report.Reads as report
use Rattle.panel.proofs.Panel.report.Kinds as report_kinds
use Rattle.panel.proofs.Panel.contact.Reads as contact
use Rattle.panel.proofs.Panel.contact.Kinds as contact_kinds
use Rattle.panel.proofs.Panel.start.Reads as start
use Rattle.panel.proofs.Panel.start.Kinds as start_kinds
use Rattle.panel.proofs.Panel.give_byte.Reads as give_byte
use Rattle.panel.proofs.Panel.give_byte.Kinds as give_byte_kinds
use Rattle.panel.proofs.Panel.give_mark.Reads as give_mark
use Rattle.panel.proofs.Panel.give_mark.Kinds as give_mark_kinds
use Rattle.panel.proofs.Panel.give_second.Reads as give_second
use Rattle.panel.proofs.Panel.give_second.Kinds as give_second_kinds
use Rattle.panel.proofs.Panel.moment.Reads as moment
use Rattle.panel.proofs.Panel.moment.Kinds as moment_kinds
use Rattle.panel.proofs.Panel.give_bytes.Reads as give_bytes
use Rattle.panel.proofs.Panel.give_bytes.Kinds as give_bytes_kinds
use Rattle.panel.proofs.Panel.register.Reads as register
use Rattle.panel.proofs.Panel.register.Kinds as register_kinds
use Rattle.panel.proofs.Panel.page.Reads as page
use Rattle.panel.proofs.Panel.page.Kinds as page_kinds
use Rattle.panel.proofs.Panel.backlight.Reads as backlight
use Rattle.panel.proofs.Panel.backlight.Kinds as backlight_kinds
use Rattle.panel.proofs.Panel.buzzer.Reads as buzzer
use Rattle.panel.proofs.Panel.buzzer.Kinds as buzzer_kinds
use Rattle.panel.proofs.Panel.curve_count.Reads as curve_count
use Rattle.panel.proofs.Panel.curve_count.Kinds as curve_count_kinds
use Rattle.panel.proofs.Panel.lift.Reads as lift
use Rattle.panel.proofs.Panel.lift.Kinds as lift_kinds
use Rattle.panel.proofs.Panel.is_waiting.Reads as is_waiting
use Rattle.panel.proofs.Panel.is_waiting.Kinds as is_waiting_kinds

-- pairs of equals
pair : {A B : Type 0} (a a' : A) (b b' : B) → a ≡ a' → b ≡ b' → ◌≡◌ {A = A × B} (a, b) (a', b')
pair a a' b b' p q = cc

-- lists of which the same is left, but for values that are the same
sent_alike : (list x y : WatchList) → x ≡ with_sent list x.values.now → y ≡ with_sent list y.values.now → x.values.now ≡ y.values.now → x ≡ y
sent_alike list x y p q values = p ∙ ap (λ (v : List ℕ). with_sent list v) values ∙ sym q

-- the words, the curve area, the room and the list with the values last sent are what asking changes
pub report_determined :
    OneAnswerLeft 6 report_kinds.ps report_kinds.r report.Post {B = List ℕ × (List ℕ × (List ℕ × WatchList))}
    (λ κs s. (s.1.0.now, (s.1.1.0.now, (s.1.1.1.0.now, s.1.1.1.1.0.now))))
report_determined κs a x y s t p q =
    let both = p.0 ∙ sym q.0 in (
      ap (λ (d : Reporting). d.reported) both,
      pair _ _ _ _ (ap (λ (d : Reporting). d.lent.words) both)
          (pair _ _ _ _ (ap (λ (d : Reporting). d.lent.curves) both)
          (pair _ _ _ _ (ap (λ (d : Reporting). d.lent.room) both)
          (sent_alike a.1.1.1.1.0.now s.1.1.1.1.0.now t.1.1.1.1.0.now p.1.0 q.1.0 (ap (λ (d : Reporting). d.lent.watched.values) both)))),
    )

-- of a contact the curve area, which it is not lent, may be taken to be empty
pub contact_determined :
    OneAnswerLeft 6 contact_kinds.ps contact_kinds.r contact.Post {B = List ℕ × (List ℕ × WatchList)}
    (λ κs s. (s.1.1.0.now, (s.1.1.1.0.now, s.1.1.1.1.0.now)))
contact_determined κs a x y s t p q =
    let both = p.0 [] ∙ sym (q.0 []) in (
      ap (λ (d : Contacting). d.contacted) both,
      pair _ _ _ _ (ap (λ (d : Contacting). d.lent.words) both)
          (pair _ _ _ _ (ap (λ (d : Contacting). d.lent.room) both)
          (sent_alike a.1.1.1.1.0.now s.1.1.1.1.0.now t.1.1.1.1.0.now p.1.0 q.1.0 (ap (λ (d : Contacting). d.lent.watched.values) both))),
    )

pub curve_count_determined : OneAnswer 0 curve_count_kinds.ps curve_count_kinds.r curve_count.Post
curve_count_determined κs a x y s t p q = p ∙ sym q

pub start_determined : OneAnswer 1 start_kinds.ps start_kinds.r start.Post
start_determined κs a x y s t p q = p.0 ∙ sym q.0

pub give_byte_determined : OneAnswer 0 give_byte_kinds.ps give_byte_kinds.r give_byte.Post
give_byte_determined κs a x y s t p q = p.0 ∙ sym q.0

pub give_mark_determined : OneAnswer 0 give_mark_kinds.ps give_mark_kinds.r give_mark.Post
give_mark_determined κs a x y s t p q = p.0 ∙ sym q.0

pub give_bytes_determined : OneAnswer 1 give_bytes_kinds.ps give_bytes_kinds.r give_bytes.Post
give_bytes_determined κs a x y s t p q = p ∙ sym q

pub give_second_determined : OneAnswer 0 give_second_kinds.ps give_second_kinds.r give_second.Post
give_second_determined κs a x y s t p q = p.0 ∙ sym q.0

pub moment_determined : OneAnswer 0 moment_kinds.ps moment_kinds.r moment.Post
moment_determined κs a x y s t p q = p ∙ sym q

pub register_determined : OneAnswer 0 register_kinds.ps register_kinds.r register.Post
register_determined κs a x y s t p q = p ∙ sym q

pub page_determined : OneAnswer 0 page_kinds.ps page_kinds.r page.Post
page_determined κs a x y s t p q = p ∙ sym q

pub backlight_determined : OneAnswer 0 backlight_kinds.ps backlight_kinds.r backlight.Post
backlight_determined κs a x y s t p q = p ∙ sym q

pub buzzer_determined : OneAnswer 0 buzzer_kinds.ps buzzer_kinds.r buzzer.Post
buzzer_determined κs a x y s t p q = p ∙ sym q

pub lift_determined : OneAnswer 0 lift_kinds.ps lift_kinds.r lift.Post
lift_determined κs a x y s t p q = p.0 ∙ sym q.0

pub is_waiting_determined : OneAnswer 0 is_waiting_kinds.ps is_waiting_kinds.r is_waiting.Post
is_waiting_determined κs a x y s t p q = p ∙ sym q

pub starterror_number_determined : OneAnswer 0 start_error_number_kinds.ps start_error_number_kinds.r start_error_number.Post
starterror_number_determined κs a x y s t p q = p ∙ sym q

pub lenterror_number_determined : OneAnswer 0 lent_error_number_kinds.ps lent_error_number_kinds.r lent_error_number.Post
lenterror_number_determined κs a x y s t p q = p ∙ sym q

pub contacterror_number_determined : OneAnswer 0 contact_error_number_kinds.ps contact_error_number_kinds.r contact_error_number.Post
contacterror_number_determined κs a x y s t p q = p ∙ sym q

pub lifterror_number_determined : OneAnswer 0 lift_error_number_kinds.ps lift_error_number_kinds.r lift_error_number.Post
lifterror_number_determined κs a x y s t p q = p ∙ sym q
