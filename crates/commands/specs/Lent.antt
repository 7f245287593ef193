-- What the caller lends to a call, and has back as the call leaves it. What is lent besides, one day, is one field more.
use Rattle.std.specs.Prelude.{ℕ, List}
use Rattle.watch.specs.Watched.{Watched}

-- what the caller lends and has back
pub record Lent : Type 0 where
  -- "28,672 variable words, .. lent by the caller as 16-bit numbers"
  pub words : List ℕ
  -- 02, §2: "8,192 lent by the caller", the curve area
  pub curves : List ℕ
  -- "Reply room is at least 265 bytes; bytes past the reported count stay."
  pub room : List ℕ
  -- 02, §4: "The caller lends a list of up to 16 watched words"
  pub watched : Watched

-- builds one
abbrev pub lending : (words curves room : List ℕ) → Watched → Lent
lending words curves room watched = record { words = words; curves = curves; room = room; watched = watched }

-- the same with other words
abbrev pub with_words : Lent → (words : List ℕ) → Lent
with_words lent words = lending words lent.curves lent.room lent.watched

-- the same with another curve area
abbrev pub with_curves : Lent → (curves : List ℕ) → Lent
with_curves lent curves = lending lent.words curves lent.room lent.watched

-- the same with another room
abbrev pub with_room : Lent → (room : List ℕ) → Lent
with_room lent room = lending lent.words lent.curves room lent.watched

-- the same with another watch list
abbrev pub with_watched : Lent → Watched → Lent
with_watched lent watched = lending lent.words lent.curves lent.room watched

-- the same with other words and another room: of what is lent, commands read and write these
abbrev pub with_words_room : Lent → (words room : List ℕ) → Lent
with_words_room lent words room = lending words lent.curves room lent.watched
