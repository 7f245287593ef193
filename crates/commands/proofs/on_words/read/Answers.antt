-- `commands::on_words::read` meets its contract.
use Rattle.std.proofs.Common.{rules, arith, ◌≡◌}
use Rattle.wire.specs.Room.{lays}
use Rattle.words.specs.Words.{bytes_of, word_run, words_laid}
use Rattle.words.proofs.Carried.{length_bytes_of}
use Rattle.words.proofs.Loops.{length_word_run}
use Rattle.commands.specs.Reply.{words_reply}
use Rattle.commands.proofs.Replies.{words_run}
use Rattle.commands.proofs.Reading.{words_read}
use Rattle.commands.proofs.on_words.read.Goals as goal

pub returns-in-Ok : goal.returns-in-Ok
unfolding words_reply
returns-in-Ok c =
    let words = c.args.words.now in
    let a = c.in-Ok.address.0 in
    let n = c.in-Ok.n in
    let run = bytes_of (word_run words a n) in
    let laid =
    c.reply-replied.ensures 0x83 (words_reply words a n) run (rw (c.high_byte.ensures, c.low_byte.ensures)) (omega (arith, length_bytes_of (word_run words a n), length_word_run words a n c.in-Ok.ensures.fits.0))
    (λ part left count long gave.
    let read : lays count left.now ≡ words_laid words a n part.now = search rules in
    words_run words a n count part.now left.now c.in-Ok.ensures.fits.0 (omega arith) read) in
    words_read c.args.fixed c.args.content.now c.args.room.now _ a n _ _ c.answer.ensures words c.in-Ok.ensures.outcome c.in-Ok.ensures.parts.0
    c.in-Ok.ensures.parts.1 laid
