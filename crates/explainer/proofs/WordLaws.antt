-- The words of reasons and ages: put together aside, one behind the other, and how long they are. Assumes nothing.
use Prim.Native.Nat.{ℕ, ◌+◌, ◌≤◌}
use mathlib.Core.Path.{◌≡◌, ◌∙◌}
use mathlib.Core.Bool.{Bool}
use mathlib.Core.List.{List, [], ◌∷◌, ◌++◌}
use native.Mathlib.Omega.{arith}
use lib.ListN.{length, length-append}
use mir.Syntax.{w32}
use mir.Val.{Fits}
use Rattle.part.specs.declared.ChannelId.{ChannelId}
use Rattle.part.specs.declared.ChannelId.TheVariants.{Local, Remote1, Remote2}
use Rattle.part.specs.declared.FanId.{FanId}
use Rattle.part.specs.declared.FanId.TheVariants.{One, Two}
use Rattle.event.specs.declared.Ramp.{Ramp}
use Rattle.event.specs.declared.Reason.{Reason}
use Rattle.rules.specs.Events.{channel_number, fan_number}
use Rattle.decimal.specs.Decimal.{decimal_of}
use Rattle.decimal.proofs.Laws.{word_width}
use Rattle.buffer.specs.Append.{appended}
use Rattle.buffer.proofs.AppendLaws.{append_then, append_alone}
use Rattle.explainer.specs.Words.{direction_word, ramp_words, reason_words, reason_line, age_line, fan_lines}

-- ---- a word and a number

pub numbered_short : (word : List ℕ) (n : ℕ) → Fits w32 n → length (word ++ decimal_of n) ≤ length word + 10
numbered_short word n f = omega (arith, length-append word (decimal_of n), word_width n f)

pub numbered_as : (word : List ℕ) {n m : ℕ} (x : List ℕ) {x1 : List ℕ} → n ≡ m → x1 ≡ appended x (word ++ decimal_of n)
    → x1 ≡ appended x (word ++ decimal_of m)
numbered_as word x q h = rw q at h

channel_fits : (c : ChannelId) → Fits w32 (channel_number c)
channel_fits Local = omega arith
channel_fits Remote1 = omega arith
channel_fits Remote2 = omega arith

pub channel_short : (word : List ℕ) (c : ChannelId) → length (word ++ decimal_of (channel_number c)) ≤ length word + 10
channel_short word c = numbered_short word (channel_number c) (channel_fits c)

-- ---- a ramp, its direction known

abbrev ramp_word : List ℕ
ramp_word = 114 ∷ 97 ∷ 109 ∷ 112 ∷ 32 ∷ []

module _ (r : Ramp) {up : Bool} (is : r.up ≡ up) where
  ramp_is : (ramp_word ++ decimal_of r.left) ++ (direction_word up ++ decimal_of r.target) ≡ ramp_words r
  unfolding ramp_words
  ramp_is = rw is

  pub ramp_appended : (x x1 : List ℕ) {x2 : List ℕ} → x1 ≡ appended x (ramp_word ++ decimal_of r.left)
      → x2 ≡ appended x1 (direction_word up ++ decimal_of r.target) → x2 ≡ appended x (ramp_words r)
  ramp_appended x x1 h1 h2 = rw (← ramp_is) (append_then x x1 (ramp_word ++ decimal_of r.left) (direction_word up ++ decimal_of r.target) h1 h2)

  pub ramp_short : length (ramp_word ++ decimal_of r.left) ≤ 15 → length (direction_word up ++ decimal_of r.target) ≤ 16 → length (ramp_words r) ≤ 31
  ramp_short h k = rw (← ramp_is) (omega (arith, length-append (ramp_word ++ decimal_of r.left) (direction_word up ++ decimal_of r.target)))

-- ---- a reason that is known

module _ {r x : Reason} (is : r ≡ x) where
  pub reason_appended : (t : List ℕ) {t1 : List ℕ} → t1 ≡ appended t (reason_words x) → t1 ≡ appended t (reason_words r)
  reason_appended t h = rw is h

  pub reason_short : length (reason_words x) ≤ 31 → length (reason_words r) ≤ 31
  reason_short h = rw is h

-- ---- the line of a fan

abbrev fan_word : List ℕ
fan_word = 114 ∷ 101 ∷ 97 ∷ 115 ∷ 111 ∷ 110 ∷ []

module _ (f : FanId) (r : Reason) {n : ℕ} (q : n ≡ fan_number f) where
  line_is : (fan_word ++ decimal_of n) ++ ((61 ∷ []) ++ (reason_words r ++ (10 ∷ []))) ≡ reason_line f r
  unfolding reason_line
  line_is = rw q

  pub line_appended : (x x1 x2 x3 : List ℕ) {x4 : List ℕ} → x1 ≡ appended x (fan_word ++ decimal_of n) → x2 ≡ appended x1 (61 ∷ [])
      → x3 ≡ appended x2 (reason_words r) → x4 ≡ appended x3 (10 ∷ []) → x4 ≡ appended x (reason_line f r)
  line_appended x x1 x2 x3 h1 h2 h3 h4 =
      rw (← line_is)
      (append_then x x1 (fan_word ++ decimal_of n) ((61 ∷ []) ++ (reason_words r ++ (10 ∷ []))) h1
      (append_then x1 x2 (61 ∷ []) (reason_words r ++ (10 ∷ [])) h2 (append_then x2 x3 (reason_words r) (10 ∷ []) h3 h4)))

  pub line_short : length (fan_word ++ decimal_of n) ≤ 16 → length (reason_words r) ≤ 31 → length (reason_line f r) ≤ 49
  line_short h k =
      rw (← line_is)
      (omega (arith, length-append (fan_word ++ decimal_of n) ((61 ∷ []) ++ (reason_words r ++ (10 ∷ []))), length-append (reason_words r) (10 ∷ [])))

-- ---- the line of its age

abbrev age_word : List ℕ
age_word = 97 ∷ 103 ∷ 101 ∷ []

module _ (f : FanId) (clocks : ℕ) {n : ℕ} (q : n ≡ fan_number f) where
  age_is : (age_word ++ decimal_of n) ++ (((61 ∷ []) ++ decimal_of clocks) ++ (10 ∷ [])) ≡ age_line f clocks
  unfolding age_line
  age_is = rw q

  pub age_appended : (x x1 x2 : List ℕ) {x3 : List ℕ} → x1 ≡ appended x (age_word ++ decimal_of n) → x2 ≡ appended x1 ((61 ∷ []) ++ decimal_of clocks)
      → x3 ≡ appended x2 (10 ∷ []) → x3 ≡ appended x (age_line f clocks)
  age_appended x x1 x2 h1 h2 h3 =
      rw (← age_is)
      (append_then x x1 (age_word ++ decimal_of n) (((61 ∷ []) ++ decimal_of clocks) ++ (10 ∷ [])) h1
      (append_then x1 x2 ((61 ∷ []) ++ decimal_of clocks) (10 ∷ []) h2 h3))

  pub age_short : length (age_word ++ decimal_of n) ≤ 13 → length ((61 ∷ []) ++ decimal_of clocks) ≤ 11 → length (age_line f clocks) ≤ 25
  age_short h k =
      rw (← age_is)
      (omega (
        arith,
        length-append (age_word ++ decimal_of n) (((61 ∷ []) ++ decimal_of clocks) ++ (10 ∷ [])),
        length-append ((61 ∷ []) ++ decimal_of clocks) (10 ∷ []),
      ))

-- ---- all four lines

module _ (one two : Reason) (m n : ℕ) where
  abbrev reasons : List ℕ
  reasons = reason_line One one ++ reason_line Two two

  abbrev ages : List ℕ
  ages = age_line One m ++ age_line Two n

  pub lines_appended : (x x1 x2 x3 x4 : List ℕ) {text : List ℕ} → x ≡ [] → x1 ≡ appended x (reason_line One one) → x2 ≡ appended x1 (reason_line Two two)
      → x3 ≡ appended x2 (age_line One m) → x4 ≡ appended x3 (age_line Two n) → length (reason_line One one) ≤ 49 → length (reason_line Two two) ≤ 49
      → length (age_line One m) ≤ 25 → length (age_line Two n) ≤ 25 → text ≡ x4 → text ≡ fan_lines one two m n
  unfolding fan_lines
  lines_appended x x1 x2 x3 x4 h0 h1 h2 h3 h4 s1 s2 s3 s4 q =
      q ∙ append_alone (reasons ++ ages)
      (append_then [] x2 reasons ages (append_then [] x1 (reason_line One one) (reason_line Two two) (rw h0 at h1) h2)
      (append_then x2 x3 (age_line One m) (age_line Two n) h3 h4))
      (omega (arith, length-append reasons ages, length-append (reason_line One one) (reason_line Two two), length-append (age_line One m) (age_line Two n)))
