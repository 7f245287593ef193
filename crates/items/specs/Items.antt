-- 01, "The trace program": "one byte of kind, then a body whose length the kind fixes". An item is the kind with its body behind it.
use Rattle.std.specs.Prelude.{ℕ, ◌+◌, cond, List, eqb, replicate}
use Rattle.wire.specs.ByteOrder.{byte_at, word_at}
use Rattle.touch.specs.declared.Setup.{Setup}
use Rattle.touch.specs.Table.{record_bytes}

-- "one byte of kind, then a body whose length the kind fixes": the longest such item is a touch record's
abbrev pub item_bytes : ℕ
item_bytes = record_bytes + 1

-- no item is being gathered
unfoldable pub no_item : List ℕ
no_item = replicate item_bytes 0

-- "00 setup, 9 bytes ..; 01 a line byte; 02 quiet, none; 03 contact X Y, 4; 04 lift, none; 05 touch record, 32." 02, §6: "kind 06 without a body is the second"
unfoldable pub body_length : ℕ → ℕ
body_length kind = cond (eqb kind 0) 9 (cond (eqb kind 1) 1 (cond (eqb kind 3) 4 (cond (eqb kind 5) record_bytes 0)))

-- "setup, 9 bytes in the order above, 16-bit fields high first"
unfoldable pub setup_in : List ℕ → Setup
setup_in item =
    record {
      h1 = byte_at item 1;
      h2 = byte_at item 2;
      flags = byte_at item 3;
      pages = word_at item 4;
      width = word_at item 6;
      height = word_at item 8;
    }
