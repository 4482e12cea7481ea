-- Document 01, "Trace text and report": the seven lines of an event, and the endings. Names are bytes.
use Rattle.std.specs.Prelude.{ℕ, List, [], ◌∷◌, ◌++◌, Result}
use Rattle.decimal.specs.Decimal.{decimal_of}
use Rattle.event.specs.Answers.{number_of, data_of, refusal_number}
use Rattle.event.specs.declared.Refusal.{Refusal}
use Rattle.event.specs.declared.Refusal.TheVariants.{Malformed}
use Rattle.event.specs.declared.Shown.{Shown}

-- a name, a number and a newline
unfoldable pub field_text : (name : List ℕ) (v : ℕ) → List ℕ
unfolding decimal_of
field_text name v = name ++ (decimal_of v ++ (10 ∷ []))

-- answer=, alone the whole report of a text that is refused
unfoldable pub answer_text : (number : ℕ) → List ℕ
unfolding field_text
answer_text number = field_text (97 ∷ 110 ∷ 115 ∷ 119 ∷ 101 ∷ 114 ∷ 61 ∷ []) number

-- answer= and data=
unfoldable pub reply_text : Result ℕ Refusal → List ℕ
unfolding answer_text field_text
reply_text a = answer_text (number_of a) ++ field_text (100 ∷ 97 ∷ 116 ∷ 97 ∷ 61 ∷ []) (data_of a)

-- int=, therm=, fault=
unfoldable pub pin_text : Shown → List ℕ
unfolding field_text
pin_text s =
    field_text (105 ∷ 110 ∷ 116 ∷ 61 ∷ []) s.int
    ++ (field_text (116 ∷ 104 ∷ 101 ∷ 114 ∷ 109 ∷ 61 ∷ []) s.therm
    ++ field_text (102 ∷ 97 ∷ 117 ∷ 108 ∷ 116 ∷ 61 ∷ []) s.fault)

-- duty1=, duty2=
unfoldable pub duty_text : Shown → List ℕ
unfolding field_text
duty_text s =
    field_text (100 ∷ 117 ∷ 116 ∷ 121 ∷ 49 ∷ 61 ∷ []) s.duty1
    ++ field_text (100 ∷ 117 ∷ 116 ∷ 121 ∷ 50 ∷ 61 ∷ []) s.duty2

-- the seven lines of an event
unfoldable pub entry_text : Result ℕ Refusal → Shown → List ℕ
unfolding reply_text pin_text duty_text
entry_text answer shown = reply_text answer ++ (pin_text shown ++ duty_text shown)

-- the ending of malformed text: answer=10, and line= the first wrong or missing line
unfoldable pub malformed_text : (line : ℕ) → List ℕ
unfolding answer_text field_text
malformed_text line = answer_text (refusal_number Malformed) ++ field_text (108 ∷ 105 ∷ 110 ∷ 101 ∷ 61 ∷ []) line
