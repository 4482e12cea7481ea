-- The words of the trace text (document 01, "Trace text and report"), as bytes: one table for reader and writer.
use Rattle.std.specs.Prelude.{ℕ, ◌+◌, List, [], ◌∷◌, cond, ltb, length, Option, Some, None}
use Rattle.event.specs.declared.Kind.{Kind}
use Rattle.event.specs.declared.Kind.TheVariants as kind
use Rattle.event.specs.Kinds.{kinds}
use Rattle.line.specs.Line.{same_bytes, line_at, end_at}

-- power, write, point, read, sample, tach, pin, clock, period; alert, diode (T-02, T-05 of document 02)
abbrev pub word_of : Kind → List ℕ
word_of kind.Power = 112 ∷ 111 ∷ 119 ∷ 101 ∷ 114 ∷ []
word_of kind.Write = 119 ∷ 114 ∷ 105 ∷ 116 ∷ 101 ∷ []
word_of kind.Point = 112 ∷ 111 ∷ 105 ∷ 110 ∷ 116 ∷ []
word_of kind.Read = 114 ∷ 101 ∷ 97 ∷ 100 ∷ []
word_of kind.Sample = 115 ∷ 97 ∷ 109 ∷ 112 ∷ 108 ∷ 101 ∷ []
word_of kind.Tach = 116 ∷ 97 ∷ 99 ∷ 104 ∷ []
word_of kind.Pin = 112 ∷ 105 ∷ 110 ∷ []
word_of kind.Clock = 99 ∷ 108 ∷ 111 ∷ 99 ∷ 107 ∷ []
word_of kind.Period = 112 ∷ 101 ∷ 114 ∷ 105 ∷ 111 ∷ 100 ∷ []
word_of kind.Alert = 97 ∷ 108 ∷ 101 ∷ 114 ∷ 116 ∷ []
word_of kind.Diode = 100 ∷ 105 ∷ 111 ∷ 100 ∷ 101 ∷ []

-- kind= and the word
abbrev pub kind_text : Kind → List ℕ
kind_text k = 107 ∷ 105 ∷ 110 ∷ 100 ∷ 61 ∷ word_of k

-- who=, arg=, val=
abbrev pub who_name : List ℕ
who_name = 119 ∷ 104 ∷ 111 ∷ 61 ∷ []

abbrev pub arg_name : List ℕ
arg_name = 97 ∷ 114 ∷ 103 ∷ 61 ∷ []

abbrev pub val_name : List ℕ
val_name = 118 ∷ 97 ∷ 108 ∷ 61 ∷ []

-- the first of a list of kinds that a line names
unfoldable pub kind_in : List Kind → List ℕ → Option Kind
unfolding same_bytes
kind_in [] l = None
kind_in (k ∷ ks) l = cond (same_bytes l (kind_text k)) (Some k) (kind_in ks l)

-- the kind that a line without its newline names
unfoldable pub kind_named : List ℕ → Option Kind
unfolding kind_in
kind_named l = kind_in kinds l

abbrev pub named_by : (next : ℕ) → Option Kind → Option (Kind × ℕ)
named_by next (Some k) = Some (k, next)
named_by next None = None

-- the line at an index as a kind, ended by a newline
unfoldable pub kind_line : List ℕ → ℕ → Option (Kind × ℕ)
unfolding kind_named line_at end_at
kind_line text at = cond (ltb (end_at text at) (length text)) (named_by (end_at text at + 1) (kind_named (line_at text at))) None
