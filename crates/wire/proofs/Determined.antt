-- One answer fits each public function.
use Prim.Native.Nat.{ℕ}
use mir.Val.{Fits}
use mir.Syntax.{w64}
use Rattle.wire.specs.OneAnswer.{OneAnswer}
use Rattle.wire.proofs.zeros.Reads as zeros
use Rattle.wire.proofs.zeros.Kinds as zeros_kinds
use Rattle.wire.proofs.high_byte.Reads as high_byte
use Rattle.wire.proofs.high_byte.Kinds as high_byte_kinds
use Rattle.wire.proofs.low_byte.Reads as low_byte
use Rattle.wire.proofs.low_byte.Kinds as low_byte_kinds
use Rattle.wire.proofs.word.Reads as word
use Rattle.wire.proofs.word.Kinds as word_kinds
use Rattle.wire.proofs.byte_at.Reads as byte_at
use Rattle.wire.proofs.byte_at.Kinds as byte_at_kinds
use Rattle.wire.proofs.word_at.Reads as word_at
use Rattle.wire.proofs.word_at.Kinds as word_at_kinds

pub high_byte_determined : OneAnswer 0 high_byte_kinds.ps high_byte_kinds.r high_byte.Post
high_byte_determined κs a x y s t p q = cc

pub low_byte_determined : OneAnswer 0 low_byte_kinds.ps low_byte_kinds.r low_byte.Post
low_byte_determined κs a x y s t p q = cc

pub word_determined : OneAnswer 0 word_kinds.ps word_kinds.r word.Post
word_determined κs a x y s t p q = cc

pub byte_at_determined : OneAnswer 1 byte_at_kinds.ps byte_at_kinds.r byte_at.Post
byte_at_determined κs a x y s t p q = cc

pub word_at_determined : OneAnswer 1 word_at_kinds.ps word_at_kinds.r word_at.Post
word_at_determined κs a x y s t p q = cc

pub zeros_determined : (n : ℕ) (fits : Fits w64 n) → OneAnswer 1 (zeros_kinds.ps n fits) (zeros_kinds.r n fits) (zeros.Post n fits)
zeros_determined n fits κs a x y s t p q = cc
