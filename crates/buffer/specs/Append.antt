-- A text that is put together aside, of at most 160 bytes.
use Rattle.std.specs.Prelude.{ℕ, List, ◌++◌, take}

-- a text behind another, what has no room dropped
unfoldable pub appended : (text more : List ℕ) → List ℕ
appended text more = take 160 (text ++ more)
