-- 01: "An accepted frame takes effect when its report is handed over": what a command answers, and what is lent as it leaves it.
use Rattle.std.specs.Prelude.{ℕ, cond, List, eqb}
use Rattle.registers.specs.declared.Registers.{Registers}
use Rattle.commands.specs.declared.Fixed.{Fixed}
use Rattle.std.specs.Prelude.{Err}
use Rattle.commands.specs.declared.Refusal.TheVariants.{UnknownCommand}
use Rattle.commands.specs.declared.Performed.{Performed}
use Rattle.commands.specs.Lent.{Lent, with_words, with_room}
use Rattle.commands.specs.Effect.{answered, registers_left, registers_writing, curves_adding, WordsWriting, words_writing, Replying, registers_replying, words_replying}

-- the registers as a command leaves them that has this answer: it says whether they are to be written
abbrev pub registers_by : Performed → Registers → (content : List ℕ) → Registers
registers_by performed registers content = cond performed.writes (registers_left registers content) registers

-- what a command answers, and what is lent as it leaves it
pub record Performance : Type 0 where
  pub performed : Performed
  pub lent : Lent

-- builds one
abbrev pub performs : Performed → Lent → Performance
performs performed lent = record { performed = performed; lent = lent }

-- that of a command which leaves all that is lent but the words
abbrev pub on_words : Lent → WordsWriting → Performance
on_words lent done = performs done.performed (with_words lent done.words)

-- that of a command which leaves all that is lent but the room
abbrev pub on_room : Lent → Replying → Performance
on_room lent done = performs done.performed (with_room lent done.room)

-- "commands 0x80 to 0x83" and 02, §2, "command 0x84", each by its own definition; another is refused, "2 now means not 80 to 84"
unfoldable pub performance : Fixed → Registers → (command : ℕ) → (content : List ℕ) → Lent → Performance
performance fixed registers command content lent =
    cond (eqb command 0x80) (performs (registers_writing fixed.pages content) lent)
    (cond (eqb command 0x81) (on_room lent (registers_replying fixed registers content lent.room))
    (cond (eqb command 0x82) (on_words lent (words_writing lent.words content))
    (cond (eqb command 0x83) (on_room lent (words_replying fixed lent.words content lent.room))
    (cond (eqb command 0x84) (performs (curves_adding content) lent)
    (performs (answered (Err UnknownCommand) 0) lent)))))
